-- The sort of a node by its number: in a table each sort has one number.
use Rattle.std.proofs.Common.{◌≡◌, ◌==◌, true, inl, inr, List, Some, ap, sym, ◌∙◌, true≢false}
use Rattle.std.proofs.lemmas.Bool.Decides.{eqb_tells}
use Rattle.smt_terms.specs.declared.ids.SortId.{SortId}
use Rattle.smt_terms.specs.Equal.{sort_eq}
use Rattle.smt_terms.specs.Rank.{sort_of}
use Rattle.smt_terms.specs.Sorts.{Sort}
use Rattle.smt_terms.specs.Term.{Term}
use Rattle.smt_terms.proofs.Equal.{Decides-sort_eq}
use Rattle.smt_terms.proofs.Tests.{alike_from}
use Rattle.smt_values.specs.SortIds.{sort_at, IsSortId, IsSortList}
use Rattle.smt_values.proofs.SortIds.{sort_one}
use Rattle.script_terms.specs.Read.{is_of_sort, has_sort}

module _ (ss : List Sort) (sorts : IsSortList ss) (j k : SortId) (j_within : IsSortId ss j) (k_within : IsSortId ss k) where
  same_number : sort_eq (sort_at ss j) (sort_at ss k) ≡ true → (j.0 == k.0) ≡ true
  same_number same = let number : j.0 ≡ k.0 = sort_one ss sorts j.0 k.0 j_within k_within ((Decides-sort_eq (sort_at ss j) (sort_at ss k)).0 same) in elim (eqb_tells j.0 k.0) [ inl equal ↦ equal.0 | inr differs ↦ absurd (differs.1 number) ]

  same_sort : (j.0 == k.0) ≡ true → sort_eq (sort_at ss j) (sort_at ss k) ≡ true
  same_sort same = elim (eqb_tells j.0 k.0) [
    | inl equal ↦ (Decides-sort_eq (sort_at ss j) (sort_at ss k)).1 (ap (λ n. sort_at ss (record { 0 = n })) equal.1)
    | inr differs ↦ absurd (true≢false (sym same ∙ differs.0))
  ]

  pub sorts_alike : (j.0 == k.0) ≡ sort_eq (sort_at ss j) (sort_at ss k)
  sorts_alike = alike_from (j.0 == k.0) (sort_eq (sort_at ss j) (sort_at ss k)) same_sort same_number

  pub node_sort : (t : Term) → sort_of t ≡ Some (sort_at ss j) → (j.0 == k.0) ≡ has_sort (sort_at ss k) t
  node_sort t is = sorts_alike ∙ ap (is_of_sort (sort_at ss k)) (sym is)
