use Rattle.std.proofs.Common.{◌≡◌, ◌+◌, [], ◌∷◌, length, get_or, Some, option_copied, ap, sym, ◌∙◌, arith, length-append}
use Rattle.smt_terms.specs.declared.ids.NodeId.{NodeId}
use Rattle.term_walk.specs.Places.{result_at}
use Rattle.normal_forms.proofs.KeptResults.{results-push}
use Rattle.normal_forms.proofs.results.results_of.Goals as goal

pub loop-kid-preserved : goal.loop-kid-preserved
loop-kid-preserved c =
    let inv = c.loop-kid.invariant in
    let none_yet : NodeId = record { 0 = 0 } in
    let r : NodeId = c.unwrap-found.result.now in
    let found : result_at c.args.kept.now (get_or c.args.kids.now c.loop-kid.kid-index none_yet).0 ≡ Some r = sym c.get.ensures ∙ ap option_copied c.unwrap-found.ensures in
    record {
      number = ap length c.in_ok-push.ensures.items ∙ length-append c.loop-kid.results.items (r ∷ []) ∙ ap (λ n. n + 1) inv.number;
      each = results-push c.args.kept.now c.args.kids.now c.loop-kid.results.items c.push.new.self.items c.loop-kid.kid-index none_yet r inv.number c.loop-kid-test.true inv.each found c.in_ok-push.ensures.items;
    }

pub returns : goal.returns
returns c =
    let none_left = c.loop-kid-test.false in
    let most = c.loop-kid.auto.kid-index-end in
    let inv = c.loop-kid.invariant in
    record { number = omega (arith, inv.number); each = λ i d lt. inv.each i d (omega arith) }
