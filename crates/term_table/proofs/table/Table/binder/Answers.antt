use Rattle.std.proofs.Common.{◌≡◌, ◌+◌, ◌<◌, ◌-◌, length, sym, ap, ◌∙◌, arith, refl, cond, Ok, Err}
use Rattle.std.proofs.lemmas.List.{length-map}
use Rattle.smt_terms.specs.Sorts.{bool}
use Rattle.smt_terms.specs.Equal.{sort_eq}
use Rattle.smt_terms.specs.Rank.{wrong_sort}
use Rattle.smt_values.specs.SortIds.{sort_at}
use Rattle.term_table.specs.Faults.{fault_seen}
use Rattle.term_table.specs.Formulas.{tree_in, trees_at}
use Rattle.term_table.specs.ShapeRank.{kid_sorts}
use Rattle.term_table.proofs.Ranks.{length-kid_sorts, kid_sorts-at}
use Rattle.term_table.proofs.Binding.{from_place, bound_first, bound_next, bound_not, bound_last, bind_at, last_fault, last_fine}
use Rattle.term_table.proofs.table.Table.binder.Goals as goal

pub loop-k-init : goal.loop-k-init
loop-k-init c =
    let terms = length-map c.args.kids.now (tree_in c.args.self.now.trees) in
    bound_first (trees_at c.args.self.now c.args.kids.now) (kid_sorts c.args.self.now c.args.kids.now) (omega (arith, terms))

pub loop-k-preserved : goal.loop-k-preserved
loop-k-preserved c =
    let t = c.args.self.now in
    let ks = c.args.kids.now in
    let k = c.loop-k.k in
    let terms = length-map ks (tree_in t.trees) in
    let sorts = length-kid_sorts t ks in
    let lt : k < length ks = omega arith in
    c.loop-k.invariant
    ∙ bound_next (trees_at t ks) (kid_sorts t ks) k (omega (arith, terms)) (omega (arith, sorts)) (k + 1) refl
    (bind_at t ks k _ c.may_bind.result _ lt c.may_bind.ensures c.if-not-may_bind.false)

pub returns-then-not-may_bind-clause-rank : goal.returns-then-not-may_bind-clause-rank
returns-then-not-may_bind-clause-rank c =
    let t = c.args.self.now in
    let ks = c.args.kids.now in
    let k = c.loop-k.k in
    let terms = length-map ks (tree_in t.trees) in
    let sorts = length-kid_sorts t ks in
    let lt : k < length ks = omega arith in
    sym (c.loop-k.invariant
    ∙ bound_not (trees_at t ks) (kid_sorts t ks) k (omega (arith, terms)) (omega (arith, sorts))
    (bind_at t ks k _ c.may_bind.result _ lt c.may_bind.ensures c.if-not-may_bind.true)
    ∙ ap (λ s. Err (wrong_sort k s bool)) (kid_sorts-at t ks k _ _ lt c.sort_of.ensures.sort))

pub returns-in-Some-clause-rank : goal.returns-in-Some-clause-rank
returns-in-Some-clause-rank c =
    let t = c.args.self.now in
    let ks = c.args.kids.now in
    let k = length ks - 1 in
    let terms = length-map ks (tree_in t.trees) in
    let sorts = length-kid_sorts t ks in
    let lt : k < length ks = omega arith in
    let at_end : c.loop-k.k ≡ k = omega arith in
    let s = sort_at t.sorts c.sort_of-2.result in
    sym (c.loop-k.invariant ∙ ap (from_place (trees_at t ks) (kid_sorts t ks)) at_end
    ∙ bound_last (trees_at t ks) (kid_sorts t ks) k (omega (arith, terms)) (omega (arith, sorts))
    ∙ ap (λ u. cond (sort_eq u bool) (Ok bool) (Err (wrong_sort k u bool))) (kid_sorts-at t ks k _ s lt c.sort_of-2.ensures.sort)
    ∙ last_fault (sort_eq s bool) (wrong_sort k s bool) (fault_seen t.sorts c.in-Some.fault) c.in-Some.ensures.fault)

pub returns-in-None-clause-rank : goal.returns-in-None-clause-rank
returns-in-None-clause-rank c =
    let t = c.args.self.now in
    let ks = c.args.kids.now in
    let k = length ks - 1 in
    let terms = length-map ks (tree_in t.trees) in
    let sorts = length-kid_sorts t ks in
    let lt : k < length ks = omega arith in
    let at_end : c.loop-k.k ≡ k = omega arith in
    let s = sort_at t.sorts c.sort_of-2.result in
    sym (c.loop-k.invariant ∙ ap (from_place (trees_at t ks) (kid_sorts t ks)) at_end
    ∙ bound_last (trees_at t ks) (kid_sorts t ks) k (omega (arith, terms)) (omega (arith, sorts))
    ∙ ap (λ u. cond (sort_eq u bool) (Ok bool) (Err (wrong_sort k u bool))) (kid_sorts-at t ks k _ s lt c.sort_of-2.ensures.sort)
    ∙ last_fine (sort_eq s bool) (wrong_sort k s bool) c.in-None.ensures.fault)
