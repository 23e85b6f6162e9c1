-- A listing goes by the operands of a term.
use Rattle.std.proofs.Common.{◌≡◌, Bool, true, false, cond, ◌||◌, List, [], ◌∷◌, ◌++◌, map, refl, ap, sym, ◌∙◌}
use Rattle.smt_terms.specs.Groups.{has_term}
use Rattle.smt_terms.specs.Sorts.{Variable}
use Rattle.smt_terms.specs.Term.{Term, apply, quantified, Terms, none, ◌⨾◌, list, variable}
use Rattle.smt_terms.proofs.Tests.{left_true, right_true, or_false}
use Rattle.term_table.specs.Formulas.{operands}
use Rattle.quantifier_forms.specs.Listing.{behind, listed_variables, listed, listed_each}

module _ (skips opens : Term → Bool) where
  abbrev pub listed_list : List Term → List Term → List Term
  listed_list [] ts = ts
  listed_list (u ∷ us) ts = listed_list us (listed skips opens u ts)

  each-list : (us : Terms) (ts : List Term) → listed_each skips opens us ts ≡ listed_list (list us) ts
  each-list none ts = refl
  each-list (u ⨾ us) ts = each-list us (listed skips opens u ts)

  variables-list : (xs : List Variable) (us ts : List Term) → listed_list (map variable xs ++ us) ts ≡ listed_list us (listed_variables skips opens xs ts)
  variables-list [] us ts = refl
  variables-list (x ∷ xs) us ts = variables-list xs us (behind skips opens ts ts (variable x))

  pub listed-operands : (t : Term) (ts : List Term) → listed skips opens t ts ≡ behind skips opens ts (listed_list (operands t) ts) t
  listed-operands (apply h us) ts = ap (λ below. behind skips opens ts below (apply h us)) (each-list us ts)
  listed-operands (quantified q xs body) ts = ap (λ below. behind skips opens ts below (quantified q xs body)) (sym (variables-list xs (body ∷ []) ts))

  pub listed-before : (t : Term) (ts : List Term) → (skips t || has_term ts t) ≡ true → listed skips opens t ts ≡ ts
  listed-before t ts e = listed-operands t ts ∙ ap (λ b. cond b ts (cond (opens t) (listed_list (operands t) ts) ts ++ t ∷ [])) e

  pub listed-skipped : (t : Term) (ts : List Term) → skips t ≡ true → listed skips opens t ts ≡ ts
  listed-skipped t ts e = listed-before t ts (left_true (skips t) (has_term ts t) e)

  pub listed-there : (t : Term) (ts : List Term) → has_term ts t ≡ true → listed skips opens t ts ≡ ts
  listed-there t ts e = listed-before t ts (right_true (skips t) (has_term ts t) e)

  pub listed-new : (t : Term) (ts : List Term) → skips t ≡ false → has_term ts t ≡ false → listed skips opens t ts ≡ cond (opens t) (listed_list (operands t) ts) ts ++ t ∷ []
  listed-new t ts e f = listed-operands t ts ∙ ap (λ b. cond b ts (cond (opens t) (listed_list (operands t) ts) ts ++ t ∷ [])) (or_false (skips t) (has_term ts t) e f)
