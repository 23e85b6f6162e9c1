use Rattle.std.proofs.Common.{◌≡◌, ℕ, true, List, inl, inr, get_or, ap, sym, ◌∙◌, subst, arith}
use Rattle.std.proofs.lemmas.Bool.Decides.{eqb_tells}
use Rattle.smt_terms.specs.declared.ids.NodeId.{NodeId}
use Rattle.std.proofs.lemmas.List.{get_or_default}
use Rattle.smt_terms.specs.Term.{Term}
use Rattle.smt_terms.specs.Val.{bits_bound}
use Rattle.term_table.specs.Formulas.{Formulas, AreNodes}
use Rattle.quantifier_forms.specs.Orders.{IsOrdered}
use Rattle.evaluation.specs.Evaluated.{told_bits}
use Rattle.evaluation.specs.KeptValues.{has_bound}
use Rattle.evaluation.proofs.KeptResults.{stays, is-there, fits-put}
use Rattle.evaluation.proofs.OrderLaws.{among, among-taken}
use Rattle.evaluation.proofs.bounds.bits_bound.Goals as goal

pub bound_of_one-bound-requires-clause-operands : goal.bound_of_one-bound-requires-clause-operands
bound_of_one-bound-requires-clause-operands c k node e =
    let order = subst (λ (ks : List NodeId). IsOrdered c.args.table.now (has_bound c.args.kept.now) c.args.id ks) (sym c.deref-below-items.ensures.value) c.in_ok-order.ensures in
    elim (order.each c.loop-below.below-index (record { 0 = 0 }) k c.loop-below-test.true node e) [
      | inl known ↦ c.loop-below.invariant.stay k known
      | inr before ↦ among-taken (λ j. has_bound c.loop-below.kept j ≡ true) c.deref-below-items.result.now c.loop-below.below-index k (let lt = c.loop-below-test.true in omega arith) c.loop-below.invariant.done before
    ]

pub loop-below-preserved : goal.loop-below-preserved
loop-below-preserved c =
    let t = c.args.table.now in
    let d0 : NodeId = record { 0 = 0 } in
    let items = c.deref-below-items.result.now in
    let below = get_or items c.loop-below.below-index d0 in
    let R : Formulas → Term → ℕ → Type 0 = λ _ u b. b ≡ told_bits (bits_bound u) in
    let puts = c.in_ok-put.ensures.ok in
    let inside = c.loop-below-test.true in
    record {
      keeps = fits-put R t c.loop-below.kept c.put.new.self below c.bound_of_one-bound.result puts (subst (λ (ks : List NodeId). AreNodes t ks) (sym c.deref-below-items.ensures.value) c.in_ok-order.ensures.nodes c.loop-below.below-index d0 inside) c.bound_of_one-bound.ensures c.loop-below.invariant.keeps;
      done = λ i d lt. elim (eqb_tells i c.loop-below.below-index) [
        | inl same ↦ ap (λ k. has_bound c.put.new.self k) (ap (λ j. get_or items j d) same.1 ∙ get_or_default items c.loop-below.below-index d d0 inside) ∙ is-there R t c.loop-below.kept c.put.new.self below c.bound_of_one-bound.result puts
        | inr apart ↦ stays R t c.loop-below.kept c.put.new.self below c.bound_of_one-bound.result puts (get_or items i d) (c.loop-below.invariant.done i d (let a = apart.1 in omega (arith, a)))
      ];
      stay = λ k e. stays R t c.loop-below.kept c.put.new.self below c.bound_of_one-bound.result puts k (c.loop-below.invariant.stay k e);
    }

pub bound_at-requires : goal.bound_at-requires
bound_at-requires c =
    let order = subst (λ (ks : List NodeId). IsOrdered c.args.table.now (has_bound c.args.kept.now) c.args.id ks) (sym c.deref-below-items.ensures.value) c.in_ok-order.ensures in
    elim order.root_too [
      | inl known ↦ c.loop-below.invariant.stay c.args.id known
      | inr there ↦ among (λ j. has_bound c.loop-below.kept j ≡ true) c.deref-below-items.result.now c.args.id (λ i d lt. c.loop-below.invariant.done i d (let past = c.loop-below-test.false in omega arith)) there
    ]
