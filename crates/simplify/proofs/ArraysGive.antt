-- The laws of `select` and `store` keep values.
use Rattle.std.proofs.Common.{◌≡◌, cond, ◌&&◌, inl, inr, sym, subst}
use Rattle.smt_terms.specs.declared.op.Op.{Op}
use Rattle.smt_terms.specs.declared.op.Op.TheVariants.{Store}
use Rattle.smt_terms.specs.Term.{op, const_array, Term, apply, none, ◌⨾◌}
use Rattle.smt_terms.specs.ArrayTerms.{selected, stored}
use Rattle.smt_terms.specs.Constants.{are_different_constants}
use Rattle.smt_terms.specs.Equal.{op_eq, term_eq}
use Rattle.smt_terms.specs.Keeps.{Keeps}
use Rattle.smt_terms.specs.Rank.{IsWellSorted}
use Rattle.smt_terms.proofs.Equal.{Decides-op_eq}
use Rattle.smt_terms.proofs.Keeping.{keeps_itself}
use Rattle.smt_terms.proofs.StoredTerms.{keeps_constant, stored_term, keeps_element, before_fine, keeps_before}
use Rattle.smt_terms.proofs.Tests.{true_or_false}
use Rattle.simplify.specs.Arrays.{selection}

at_store : (b i v j r : Term) → (IsWellSorted (selected b j) → Keeps (selected b j) r) → IsWellSorted (selected (stored b i v) j) → Keeps (selected (stored b i v) j) (cond (term_eq i j) v (cond (are_different_constants i j) r (selected (stored b i v) j)))
at_store b i v j r below fine =
    let g = stored_term b i v j fine in
    elim (true_or_false (term_eq i j)) [
      | inl equal ↦ subst (λ c. Keeps (selected (stored b i v) j) (cond c v (cond (are_different_constants i j) r (selected (stored b i v) j)))) (sym equal) (keeps_element b i v j g equal)
      | inr other ↦ subst (λ c. Keeps (selected (stored b i v) j) (cond c v (cond (are_different_constants i j) r (selected (stored b i v) j)))) (sym other) (elim (true_or_false (are_different_constants i j)) [
        | inl apart ↦ subst (λ c. Keeps (selected (stored b i v) j) (cond c r (selected (stored b i v) j))) (sym apart) (keeps_before b i v j g r (below (before_fine b i v j g)) apart)
        | inr either ↦ subst (λ c. Keeps (selected (stored b i v) j) (cond c r (selected (stored b i v) j))) (sym either) (keeps_itself (selected (stored b i v) j) fine)
      ])
    ]

three : (o : Op) (b i v j r : Term) → (IsWellSorted (selected b j) → Keeps (selected b j) r) → IsWellSorted (selected (apply (op o) (b ⨾ i ⨾ v ⨾ none)) j) → Keeps (selected (apply (op o) (b ⨾ i ⨾ v ⨾ none)) j) (cond (op_eq o Store && term_eq i j) v (cond (op_eq o Store && are_different_constants i j) r (selected (apply (op o) (b ⨾ i ⨾ v ⨾ none)) j)))
three o b i v j r below fine = elim (true_or_false (op_eq o Store)) [
  | inl store ↦
      let one : o ≡ Store = (Decides-op_eq o Store).0 store in
      subst (λ c. Keeps (selected (apply (op o) (b ⨾ i ⨾ v ⨾ none)) j) (cond (c && term_eq i j) v (cond (c && are_different_constants i j) r (selected (apply (op o) (b ⨾ i ⨾ v ⨾ none)) j)))) (sym store)
      (subst (λ p. Keeps (selected (apply (op p) (b ⨾ i ⨾ v ⨾ none)) j) (cond (term_eq i j) v (cond (are_different_constants i j) r (selected (apply (op p) (b ⨾ i ⨾ v ⨾ none)) j)))) (sym one)
      (at_store b i v j r below (subst (λ p. IsWellSorted (selected (apply (op p) (b ⨾ i ⨾ v ⨾ none)) j)) one fine)))
  | inr other ↦
      subst (λ c. Keeps (selected (apply (op o) (b ⨾ i ⨾ v ⨾ none)) j) (cond (c && term_eq i j) v (cond (c && are_different_constants i j) r (selected (apply (op o) (b ⨾ i ⨾ v ⨾ none)) j)))) (sym other)
      (keeps_itself (selected (apply (op o) (b ⨾ i ⨾ v ⨾ none)) j) fine)
]

pub selection_keeps : (a j : Term) → IsWellSorted (selected a j) → Keeps (selected a j) (selection a j)
selection_keeps (apply (const_array s) (v ⨾ none)) j fine = keeps_constant s v j fine
selection_keeps (apply (op o) (b ⨾ i ⨾ v ⨾ none)) j fine = three o b i v j (selection b j) (selection_keeps b j) fine
selection_keeps a j fine = keeps_itself (selected a j) fine
