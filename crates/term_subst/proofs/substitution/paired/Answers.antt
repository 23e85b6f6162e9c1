use Rattle.std.proofs.Common.{◌∷◌, ◌++◌, [], get_or, sym, ◌∙◌}
use Rattle.std.proofs.lemmas.Option.{get_or_from_slice_get}
use Rattle.smt_terms.specs.declared.ids.NodeId.{NodeId}
use Rattle.smt_terms.specs.declared.ids.SymId.{SymId}
use Rattle.term_subst.proofs.Paired.{zip-more, zip-all}
use Rattle.term_subst.proofs.substitution.paired.Goals as goal

pub loop-i-preserved : goal.loop-i-preserved
loop-i-preserved c =
    let fs = c.args.params.now in
    let ks = c.args.arguments.now in
    let i = c.loop-i.i in
    let f : SymId = record { 0 = 0 } in
    let k : NodeId = record { 0 = 0 } in
    c.in_ok-push.ensures.items
    ∙ (λ j. c.loop-i.invariant j ++ (sym (get_or_from_slice_get fs i c.get.result f c.get.ensures) j, get_or ks i k) ∷ [])
    ∙ sym (zip-more fs ks i f k c.requires c.loop-i-test.true)

pub returns : goal.returns
returns c = c.loop-i.invariant ∙ zip-all c.args.params.now c.args.arguments.now c.loop-i.i c.loop-i-test.false
