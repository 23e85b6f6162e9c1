-- Operators over operands as the table gains, and what the simplifier makes of them.
use Rattle.std.proofs.Common.{◌≡◌, ◌<◌, List, [], ◌∷◌, length, All, get_or, Some, None, is_ok, refl, ap, sym, ◌∙◌, subst, arith}
use Rattle.std.proofs.lemmas.List.{get_or-map, length-map}
use Rattle.std.proofs.lemmas.List.Elements.{All-head, All-tail}
use Rattle.std.specs.Prelude.{is_some, unwrap_or}
use Rattle.smt_terms.specs.declared.ids.NodeId.{NodeId}
use Rattle.smt_terms.specs.declared.op.Op.{Op}
use Rattle.smt_terms.specs.Sorts.{Sort, Symbol}
use Rattle.smt_terms.specs.Term.{op, Term, apply, terms}
use Rattle.smt_terms.specs.Rank.{sort_of, sorts_of, with_sort, is_regular, IsWellSorted}
use Rattle.smt_terms.proofs.Keeping.{the_sort}
use Rattle.smt_terms.proofs.Tests.{both_true}
use Rattle.term_table.specs.Formulas.{Formulas, no_tree, tree_in, trees_at, kind, theory, sort_or_bool, sorts_in, kind_rank, kind_term, IsKindOf, is_minus_over, term_over, Makes, IsTable, AreNodes}
use Rattle.term_walk.specs.Walking.{GrowsTo}
use Rattle.simplify.specs.Folding.{folded}
use Rattle.simplify.specs.Reduced.{IsOver}
use Rattle.simplify.specs.Simplify.{law, folded_or_law, red}
use Rattle.simplify.proofs.FoldedConstants.{unfolded-minus}
use Rattle.simplify.proofs.Lists.{list-terms}

-- ---- operands as the table gains

module _ (old new : Formulas) (grows : GrowsTo old new) where
  nodes-grown : (ks : List NodeId) → AreNodes old ks → AreNodes new ks
  nodes-grown ks nodes i d lt =
      let node = nodes i d lt in
      let longer = grows.trees.longer in
      omega (arith, node, longer)

  pub trees-grown : (ks : List NodeId) → AreNodes old ks → trees_at new ks ≡ trees_at old ks
  trees-grown [] nodes = refl
  trees-grown (k ∷ ks) nodes =
      let first = grows.trees.same k.0 no_tree (All-head (λ (j : NodeId). j.0 < length old.trees) k ks nodes) in
      let rest = trees-grown ks (All-tail (λ (j : NodeId). j.0 < length old.trees) k ks nodes) in
      λ i. first i ∷ rest i

  module _ (symbols : new.symbols ≡ old.symbols) (sorts : new.sorts ≡ old.sorts) (p : Op) (ks : List NodeId) where
    pub makes-grown : Makes old p ks → Makes new p ks
    makes-grown m =
        let trees = trees-grown ks m.kids in
        record {
          kids = nodes-grown ks m.kids;
          numbers = subst (λ (fs : List Symbol). IsKindOf fs new.sorts (kind p)) (sym symbols) (subst (λ (ss : List Sort). IsKindOf old.symbols ss (kind p)) (sym sorts) m.numbers);
          ranked = (λ i. is_ok (kind_rank (symbols i) (sorts i) (kind p) (trees i))) ∙ m.ranked;
          minus = ap (is_minus_over p) trees ∙ m.minus;
        }

    pub term-grown : AreNodes old ks → term_over new p (trees_at new ks) ≡ term_over old p (trees_at old ks)
    term-grown nodes =
        let trees = trees-grown ks nodes in
        λ i. kind_term (symbols i) (sorts i) (kind p) (trees i)

-- ---- sorts of operands

pub trees-sorted : (t : Formulas) (ks : List NodeId) → IsTable t → AreNodes t ks → All IsWellSorted (trees_at t ks)
trees-sorted t ks table nodes i d lt =
    let count = length-map ks (tree_in t.trees) in
    let within : i < length ks = omega (arith, count, lt) in
    let zero_node : NodeId = record { 0 = 0 } in
    subst IsWellSorted (sym (get_or-map (tree_in t.trees) ks i zero_node d within)) (table.sorted (get_or ks i zero_node).0 (nodes i zero_node within))

pub sort-there : (u : Term) → IsWellSorted u → (s : Sort) × (sort_of u ≡ Some s)
sort-there u fine = the_sort (sort_of u) (both_true (is_some (sort_of u)) (is_regular u) fine).0

sorts-there : (us : List Term) → All IsWellSorted us → sorts_of (terms us) ≡ Some (sorts_in us)
sorts-there [] fine = refl
sorts-there (u ∷ us) fine =
    let first = sort-there u (All-head IsWellSorted u us fine) in
    let rest = sorts-there us (All-tail IsWellSorted u us fine) in
    (λ i. with_sort (first.1 i) (rest i)) ∙ ap (λ o. Some (sort_or_bool o ∷ sorts_in us)) (sym first.1)

-- ---- what an operator that isn't folded asks for

pub makes-over : (t : Formulas) (p : Op) (ks : List NodeId) → IsTable t → IsOver t p ks → folded p (sorts_in (trees_at t ks)) (trees_at t ks) ≡ None → Makes t p ks
makes-over t p ks table over unfolded = record {
  kids = over.kids;
  numbers = over.numbers;
  ranked = over.ranked;
  minus = unfolded-minus p (trees_at t ks) (sorts_in (trees_at t ks)) (trees-sorted t ks table over.kids) unfolded;
}

-- ---- the term

module _ (p : Op) (us : List Term) (fine : All IsWellSorted us) where
  reduced : red (op p) (terms us) ≡ folded_or_law (folded p (sorts_in us) us) (law p us) (apply (op p) (terms us))
  reduced =
      let sorts = sorts-there us fine in
      λ i. folded_or_law (folded p (unwrap_or (sorts i) []) (list-terms us i)) (law p (list-terms us i)) (apply (op p) (terms us))

  pub reduced-folded : (u : Term) → folded p (sorts_in us) us ≡ Some u → u ≡ red (op p) (terms us)
  reduced-folded u e = sym (reduced ∙ ap (λ o. folded_or_law o (law p us) (apply (op p) (terms us))) e)

  pub reduced-unfolded : folded p (sorts_in us) us ≡ None → red (op p) (terms us) ≡ folded_or_law None (law p us) (apply (op p) (terms us))
  reduced-unfolded e = reduced ∙ ap (λ o. folded_or_law o (law p us) (apply (op p) (terms us))) e

pub theory-term : (t : Formulas) (p : Op) (us : List Term) → kind p ≡ theory p → term_over t p us ≡ apply (op p) (terms us)
theory-term t p us is = ap (λ k. kind_term t.symbols t.sorts k us) is
