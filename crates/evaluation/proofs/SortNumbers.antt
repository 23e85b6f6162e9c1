-- The sorts that a variable may have, by their numbers.
use Rattle.std.proofs.Common.{◌≡◌, ℕ, ◌+◌, ◌-◌, ◌<◌, ◌≤◌, ◌⊎◌, inl, inr, true, List, length, get_or, Some, ap, sym, ◌∙◌, arith}
use Rattle.std.proofs.lemmas.Bool.Decides.{nat_tests, eqb_tells}
use Rattle.smt_terms.specs.declared.ids.NodeId.{NodeId}
use Rattle.smt_terms.specs.declared.ids.SortId.{SortId}
use Rattle.smt_terms.specs.Rank.{sort_of, is_quantifiable}
use Rattle.smt_terms.specs.Sorts.{Sort, bool, int, bit_vector, array, free_sort}
use Rattle.smt_terms.specs.Term.{symbol, none, constant_of}
use Rattle.smt_terms.proofs.Ranked.{rank-takes}
use Rattle.smt_terms.proofs.Sorted.{applied}
use Rattle.smt_values.specs.SortIds.{sort_numbered, sort_at, IsSortId, IsSortList, is_composed}
use Rattle.smt_values.proofs.SortIds.{basic, sort_basic, sort_placed, placed}
use Rattle.term_table.specs.Formulas.{Formulas, tree, variable_of}
use Rattle.evaluation.specs.Choices.{IsVariable}

not-composed : (s : Sort) → is_composed s ≡ true → is_quantifiable s ≡ true → ⊥
not-composed bool e f = absurd cc
not-composed int e f = absurd cc
not-composed (bit_vector w) e f = absurd cc
not-composed (array i j) e f = absurd cc
not-composed (free_sort n) e f = absurd cc

basic-word : (n : ℕ) → 2 ≤ n → basic n ≡ bit_vector (n - 1)
unfolding basic
basic-word n low = grind (arith, nat_tests)

basic-whole : (n : ℕ) → n ≡ 1 → basic n ≡ int
unfolding basic
basic-whole n e = ap basic e

abbrev pub Numbered : List Sort → ℕ → Type 0
Numbered ss n = ((n ≡ 0) × (sort_numbered ss n ≡ bool)) ⊎ ((2 ≤ n) × (n < 130) × (sort_numbered ss n ≡ bit_vector (n - 1)))

pub numbered-sort : (ss : List Sort) → IsSortList ss → (n : ℕ) → n < 130 + length ss → is_quantifiable (sort_numbered ss n) ≡ true → Numbered ss n
numbered-sort ss table n within e = elim (placed n) [
  | inl low ↦ elim (eqb_tells n 0) [
    | inl same ↦ inl (same.1, ap (sort_numbered ss) same.1)
    | inr apart ↦ elim (eqb_tells n 1) [
      | inl one ↦ (let no : is_quantifiable int ≡ true = ap is_quantifiable (sym (sort_basic ss n low ∙ basic-whole n one.1)) ∙ e in absurd cc)
      | inr other ↦ (let a = apart.1 in let b = other.1 in let high : 2 ≤ n = omega arith in inr (high, low, sort_basic ss n low ∙ basic-word n high))
    ]
  ]
  | inr far ↦
      let same : sort_numbered ss n ≡ get_or ss far.0 bool = ap (sort_numbered ss) far.1 ∙ sort_placed ss far.0 in
      let place = far.1 in
      absurd (not-composed (get_or ss far.0 bool) (table.composed far.0 (omega (arith, place))) (ap is_quantifiable (sym same) ∙ e))
]

-- the sort of a variable's node is that of the variable
pub variable-sort : (t : Formulas) (k : NodeId) → IsVariable t k → (s : Sort) → sort_of (tree t k) ≡ Some s → s ≡ (variable_of (tree t k)).sort
variable-sort t k v s e =
    let ranked = applied (symbol (constant_of (variable_of (tree t k)))) none s (ap sort_of (sym v.constant_is) ∙ e) in
    (rank-takes (symbol (constant_of (variable_of (tree t k)))) ranked.sorts s ranked.rank).1

pub variable-number : (t : Formulas) (k : NodeId) → IsSortList t.sorts → IsVariable t k → (n : SortId) → IsSortId t.sorts n → sort_of (tree t k) ≡ Some (sort_at t.sorts n) → Numbered t.sorts n.0
variable-number t k table v n within e = numbered-sort t.sorts table n.0 within (ap is_quantifiable (variable-sort t k v (sort_at t.sorts n) e) ∙ v.bindable)
