-- Further constants of applications change nothing in a term whose applications have constants already.
use Rattle.std.proofs.Common.{◌≡◌, Bool, true, false, cond, ◌||◌, inl, inr, [], ◌∷◌, ◌++◌, All, Some, None, refl, ap, ◌∙◌}
use Rattle.smt_terms.specs.Equal.{term_eq}
use Rattle.smt_terms.specs.Groups.{Named, has_term, constant_for, constant_or, with_constants, with_constants_each}
use Rattle.smt_terms.specs.Shapes.{is_application}
use Rattle.smt_terms.specs.Term.{Head, Term, apply, quantified, Terms, none, ◌⨾◌}
use Rattle.smt_terms.proofs.Tests.{both_false, true_or_false, contrary}
use Rattle.term_groups.specs.Grouping.{terms_of}
use Rattle.ackermann.specs.Ackermann.{applications, applications_of}
use Rattle.ackermann.proofs.ReplacedUses.{itself-among, closed-operands, closed-first, closed-others}
use Rattle.ackermann.proofs.UseLists.{HasAll, has-All}
use Rattle.ackermann.proofs.UseParts.{IsUse}

for-known : (ns ms : Named) (t : Term) → has_term (terms_of ns) t ≡ true → constant_for (ns ++ ms) t ≡ constant_for ns t
for-known [] ms t known = absurd cc
for-known (n ∷ ns) ms t known = go (term_eq n.1 t) known (for-known ns ms t)
  where
    go : (b : Bool) → (b || has_term (terms_of ns) t) ≡ true → (has_term (terms_of ns) t ≡ true → constant_for (ns ++ ms) t ≡ constant_for ns t) → cond b (Some n.0) (constant_for (ns ++ ms) t) ≡ cond b (Some n.0) (constant_for ns t)
    go true e behind = refl
    go false e behind = behind e

none-there : (ms : Named) (t : Term) → has_term (terms_of ms) t ≡ false → constant_for ms t ≡ None
none-there [] t out = refl
none-there (m ∷ ms) t out =
    let parts = both_false (term_eq m.1 t) (has_term (terms_of ms) t) out in
    ap (λ b. cond b (Some m.0) (constant_for ms t)) parts.0 ∙ none-there ms t parts.1

for-other : (ns ms : Named) (t : Term) → has_term (terms_of ms) t ≡ false → constant_for (ns ++ ms) t ≡ constant_for ns t
for-other [] ms t out = none-there ms t out
for-other (n ∷ ns) ms t out = ap (λ o. cond (term_eq n.1 t) (Some n.0) o) (for-other ns ms t out)

module _ (ns ms : Named) (uses : All IsUse (terms_of ms)) where
  same_constant : (h : Head) (ts : Terms) → HasAll (terms_of ns) (applications (apply h ts)) → constant_for (ns ++ ms) (apply h ts) ≡ constant_for ns (apply h ts)
  same_constant h ts closed = elim (true_or_false (is_application h ts)) [
    | inl there ↦ for-known ns ms (apply h ts) (closed (apply h ts) (itself-among h ts there))
    | inr other ↦ for-other ns ms (apply h ts) (elim (true_or_false (has_term (terms_of ms) (apply h ts))) [
      | inl among ↦ contrary (is_application h ts) (has-All IsUse (terms_of ms) (apply h ts) uses among) other
      | inr out ↦ out
    ])
  ]

  mutual
    pub more-constants : (t : Term) → HasAll (terms_of ns) (applications t) → with_constants (ns ++ ms) t ≡ with_constants ns t
    more-constants (apply h ts) closed =
        let constant = same_constant h ts closed in
        let operands = more-constants_each ts (closed-operands ns h ts closed) in
        λ i. constant_or (constant i) (apply h (operands i))
    more-constants (quantified q xs body) closed = refl

    pub more-constants_each : (ts : Terms) → HasAll (terms_of ns) (applications_of ts) → with_constants_each (ns ++ ms) ts ≡ with_constants_each ns ts
    more-constants_each none closed = refl
    more-constants_each (t ⨾ ts) closed =
        let first = more-constants t (closed-first ns t ts closed) in
        let others = more-constants_each ts (closed-others ns t ts closed) in
        λ i. first i ⨾ others i
