-- The parts of a formula, as the subterms of roots.
use Rattle.std.proofs.Common.{◌≡◌, ℕ, ◌-◌, Bool, true, not, List, [], ◌∷◌, ◌++◌, append_assoc, append-nil, length, take, filter, All, Some, refl, ap, sym, ◌∙◌, subst, arith, length-append}
use Rattle.std.proofs.lemmas.List.{length-map, take-map, take_at}
use Rattle.std.proofs.lemmas.List.Elements.{All-nil, All-cons, All-take, filter-append}
use Rattle.smt_terms.specs.declared.ids.NodeId.{NodeId}
use Rattle.smt_terms.specs.Connectives.{all_of}
use Rattle.smt_terms.specs.Groups.{has_term, with_new, where_so}
use Rattle.smt_terms.specs.Rank.{sort_of}
use Rattle.smt_terms.specs.Sorts.{bool}
use Rattle.smt_terms.specs.Term.{Term, terms, list}
use Rattle.smt_terms.proofs.Tests.{and_true, right_true}
use Rattle.term_table.specs.Formulas.{Formulas, tree_in, trees_at, IsNode, AreNodes}
use Rattle.term_walk.proofs.Members.{has-append, has-one}
use Rattle.term_groups.specs.Parts.{collected, collected_of, AreParts}
use Rattle.bit_blast.specs.Blasted.{is_bits_sort, is_bits, are_bits}
use Rattle.bit_blast.specs.Subterms.{is_open, is_vector_term, AreSubterms}
use Rattle.bit_blast.proofs.SubtermTerms.{is_fault, all-bits, each-bits, roots-constants, roots-no_faults}

-- what a look at the parts of a term for those that are wanted finds
abbrev pub FindsParts : Formulas → List NodeId → Term → Type 0
FindsParts t ks root = (wanted : Term → Bool) → filter wanted (trees_at t ks) ≡ collected is_open wanted root

-- those of one formula
pub one-subterms : (t : Formulas) (ks : List NodeId) (root : Term) → AreNodes t ks → AreParts is_open root (trees_at t ks) → FindsParts t ks root → AreSubterms t (root ∷ []) ks
one-subterms t ks root nodes parts met = record {
  order = record { nodes = nodes; behind = parts.behind };
  among =
      All-cons (λ u. has_term (trees_at t ks) u ≡ true) root []
      (ap (λ us. has_term us root) parts.last ∙ has-append parts.before (root ∷ []) root ∙ right_true (has_term parts.before root) (has_term (root ∷ []) root) (has-one root))
      (All-nil (λ u. has_term (trees_at t ks) u ≡ true));
  bits = λ all. all-bits (trees_at t ks) (met is_fault ∙ sym (append-nil (collected is_open is_fault root)) ∙ roots-no_faults (root ∷ []) all);
  vectors = λ all. met is_vector_term ∙ sym (append-nil (collected is_open is_vector_term root)) ∙ roots-constants (root ∷ []) all;
}

-- ---- those of the `and` of several, without it

list-terms : (ts : List Term) → list (terms ts) ≡ ts
list-terms [] = refl
list-terms (t ∷ ts) = ap (λ us. t ∷ us) (list-terms ts)

module _ (t : Formulas) (ks front : List NodeId) (roots : List Term) (n : ℕ) (nodes : AreNodes t ks) (len : n ≡ length ks) (first : front ≡ take (n - 1) ks) (parts : AreParts is_open (all_of roots) (trees_at t ks)) where
  taken : trees_at t front ≡ take (n - 1) (trees_at t ks)
  taken = ap (trees_at t) first ∙ sym (take-map (tree_in t.trees) (n - 1) ks)

  front-terms : trees_at t front ≡ parts.before
  front-terms =
      let m = length-map ks (tree_in t.trees) in
      let both = ap length parts.last in
      let more = length-append parts.before (all_of roots ∷ []) in
      taken ∙ ap (take (n - 1)) parts.last ∙ take_at parts.before (all_of roots ∷ []) (n - 1) (omega (arith, m, both, more))

  whole-bits : sort_of (all_of roots) ≡ Some bool → All (λ u. is_bits u ≡ true) roots → is_bits (all_of roots) ≡ true
  whole-bits sort all = and_true (is_bits_sort (sort_of (all_of roots))) (are_bits (terms roots)) (ap is_bits_sort sort) (each-bits roots all)

  pub front-subterms : sort_of (all_of roots) ≡ Some bool → FindsParts t ks (all_of roots) → AreSubterms t roots front
  front-subterms sort met = record {
    order = record {
      nodes = subst (AreNodes t) (sym first) (All-take (IsNode t) (n - 1) ks nodes);
      behind = λ us u vs e opened.
          parts.behind us u (vs ++ all_of roots ∷ []) (parts.last ∙ ap (λ bs. bs ++ all_of roots ∷ []) (sym front-terms ∙ e) ∙ append_assoc us (u ∷ vs) (all_of roots ∷ [])) opened;
    };
    among =
        subst (λ us. All (λ u. has_term us u ≡ true) roots) (sym front-terms)
        (subst (All (λ u. has_term parts.before u ≡ true)) (list-terms roots) (parts.behind parts.before (all_of roots) [] parts.last refl));
    bits = λ all.
        subst (All (λ u. is_bits u ≡ true)) (sym taken)
        (All-take (λ u. is_bits u ≡ true) (n - 1) (trees_at t ks)
        (all-bits (trees_at t ks) (met is_fault ∙ (λ i. with_new (roots-no_faults roots all i) (where_so (not (whole-bits sort all i)) (all_of roots ∷ []))))));
    vectors = λ all.
        ap (filter is_vector_term) front-terms
        ∙ sym (append-nil (filter is_vector_term parts.before))
        ∙ sym (filter-append is_vector_term parts.before (all_of roots ∷ []))
        ∙ ap (filter is_vector_term) (sym parts.last)
        ∙ met is_vector_term
        ∙ append-nil (collected_of is_open is_vector_term (terms roots))
        ∙ roots-constants roots all;
  }
