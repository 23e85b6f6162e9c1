use Rattle.std.proofs.Common.{◌≡◌, List, [], ◌∷◌, ◌++◌, ap, ◌∙◌}
use Rattle.std.proofs.lemmas.Result.{on_ok_weaker}
use Rattle.smt_terms.specs.declared.ids.NodeId.{NodeId}
use Rattle.smt_terms.specs.Connectives.{any_of}
use Rattle.term_table.specs.Formulas.{tree, trees_at}
use Rattle.cnf_polarity.proofs.PutFormulas.{puts-one}
use Rattle.cnf_polarity.proofs.defining.any.Goals as goal

pub returns-clause-puts : goal.returns-clause-puts
returns-clause-puts c =
    let t = c.args.table.now in
    let put = c.in_ok-clause.ensures in
    let first : List NodeId = c.args.first ∷ [] in
    let all : c.deref.result.now ≡ c.args.first ∷ c.args.others.now =
    c.deref.ensures.value ∙ c.in_ok-extend_from_slice.ensures.items ∙ ap (λ (ks : List NodeId). ks ++ c.args.others.now) (c.in_ok-push.ensures.items ∙ ap (λ (ks : List NodeId). ks ++ first) c.in_ok-literals.ensures.items) in
    on_ok_weaker c.push-2.result
    (puts-one t c.disjunction.new.table put.grows c.args.asserts.now c.push-2.new.self c.in_ok-clause.clause (any_of (tree t c.args.first ∷ trees_at t c.args.others.now)) c.requires.asserts put.formula
    (put.term ∙ ap (λ (ks : List NodeId). any_of (trees_at t ks)) all))
    c.push-2.ensures.ok
