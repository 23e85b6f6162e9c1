-- And-inverter form has its shape: `and` and `not` alone, and no `not` over a `not`.
use Rattle.std.proofs.Common.{◌≡◌, ℕ, zero, suc, Bool, true, false, not, ◌&&◌, List, [], ◌∷◌, map, refl, ap, sym, ◌∙◌, subst}
use Rattle.std.specs.Prelude.{⊤}
use Rattle.std.specs.List.{list_all}
use Rattle.smt_terms.specs.declared.op.Op.TheVariants.{Truth, And, Not}
use Rattle.smt_terms.specs.Rank.{is_sort, has_sorts, is_minus, is_minus_of, is_regular, are_regular}
use Rattle.smt_terms.specs.Term.{Head, op, Term, apply, quantified, Terms, none, ◌⨾◌, list, terms}
use Rattle.smt_terms.specs.Connectives.{Kind, truth_value, negation, conjunction, disjunction, exclusive, implication, equivalence, difference, conditional, atom, operator_kind, kind_of, truth_term, negated, all_of, both, opposite, nth}
use Rattle.smt_terms.specs.Shapes.{is_negation_kind, is_negation, aig_node, is_aig, are_aig}
use Rattle.smt_terms.proofs.Tests.{both_true, and_true, not_true}
use Rattle.normal_forms.proofs.Inherited.{All, nth-inherits}
use Rattle.normal_forms.proofs.NnfShape.{regular-over}
use Rattle.normal_forms.specs.Aig.{same_sides, aig_distinct, inverted, aig, aig_each}

-- of the shape; and a `not` has one operand
record InForm (t : Term) : Type 0 where
  form : is_aig t ≡ true
  single : is_negation t ≡ true → (p : Term) × (t ≡ negated p)

abbrev AllInForm : List Term → Type 0
AllInForm [] = ⊤
AllInForm (t ∷ ts) = InForm t × AllInForm ts

plain : (t : Term) → is_aig t ≡ true → is_negation t ≡ false → InForm t
plain t form other = record { form = form; single = λ e. absurd cc }

truth-form : (b : Bool) → InForm (truth_term b)
unfolding operator_kind
truth-form b = plain (truth_term b) refl refl

nth-form : (ts : List Term) (i : ℕ) → AllInForm ts → InForm (nth ts i)
nth-form [] i all = truth-form false
nth-form (t ∷ ts) zero all = all.0
nth-form (t ∷ ts) (suc i) all = nth-form ts i all.1

forms-all : (ts : List Term) → AllInForm ts → are_aig (terms ts) ≡ true
forms-all [] all = refl
forms-all (t ∷ ts) all = and_true (is_aig t) (are_aig (terms ts)) all.0.form (forms-all ts all.1)

all-form : (ts : List Term) → AllInForm ts → InForm (all_of ts)
unfolding operator_kind
all-form ts all = plain (all_of ts) (forms-all ts all) refl

both-form : (s t : Term) → InForm s → InForm t → InForm (both s t)
both-form s t a b = all-form (s ∷ t ∷ []) (a, (b, tt))

-- what stands below a `not` in this shape is in it and is no `not`
below-not : (p : Term) → is_aig (negated p) ≡ true → InForm p
unfolding operator_kind
below-not p form =
    let parts = both_true (not (is_negation p)) (is_aig p && true) form in
    plain p (both_true (is_aig p) true parts.1).0 (not_true (is_negation p) parts.0)

negated-form : (t : Term) → InForm t → is_negation t ≡ false → InForm (negated t)
unfolding operator_kind
negated-form t a other = record {
  form = and_true (not (is_negation t)) (is_aig t && true) (ap not other) (and_true (is_aig t) true a.form refl);
  single = λ e. (t, refl);
}

opposite-other : (t : Term) → is_negation t ≡ false → opposite t ≡ negated t
unfolding operator_kind
opposite-other (apply (op Not) (p ⨾ none)) other = absurd cc
opposite-other t other = refl

opposite-form : (t : Term) → InForm t → InForm (opposite t)
opposite-form t a = go (is_negation t) refl
  where
    go : (b : Bool) → is_negation t ≡ b → InForm (opposite t)
    go true e =
        let found = a.single e in
        subst (λ u. InForm (opposite u)) (sym found.1) (below-not found.0 (ap is_aig (sym found.1) ∙ a.form))
    go false e = subst InForm (sym (opposite-other t e)) (negated-form t a e)

opposites : (ts : List Term) → AllInForm ts → AllInForm (map opposite ts)
opposites [] all = tt
opposites (t ∷ ts) all = (opposite-form t all.0, opposites ts all.1)

sides-form : (rs : List Term) → AllInForm rs → InForm (same_sides rs)
sides-form rs a =
    both-form (opposite (both (nth rs 0) (opposite (nth rs 1)))) (opposite (both (opposite (nth rs 0)) (nth rs 1)))
    (opposite-form (both (nth rs 0) (opposite (nth rs 1))) (both-form (nth rs 0) (opposite (nth rs 1)) (nth-form rs 0 a) (opposite-form (nth rs 1) (nth-form rs 1 a))))
    (opposite-form (both (opposite (nth rs 0)) (nth rs 1)) (both-form (opposite (nth rs 0)) (nth rs 1) (opposite-form (nth rs 0) (nth-form rs 0 a)) (nth-form rs 1 a)))

distinct-form : (rs : List Term) → AllInForm rs → InForm (aig_distinct rs)
distinct-form [] a = opposite-form (same_sides []) (sides-form [] a)
distinct-form (r ∷ []) a = opposite-form (same_sides (r ∷ [])) (sides-form (r ∷ []) a)
distinct-form (r ∷ s ∷ []) a = opposite-form (same_sides (r ∷ s ∷ [])) (sides-form (r ∷ s ∷ []) a)
distinct-form (r ∷ s ∷ t ∷ rs) a = truth-form false

-- a formula of a kind that stays as it is
stays : (h : Head) (ts : Terms) (k : Kind) → kind_of h ts ≡ k → aig_node k (list ts) (are_aig ts) ≡ true → is_negation_kind k ≡ false → InForm (apply h ts)
stays h ts k e form other = plain (apply h ts) (ap (λ j. aig_node j (list ts) (are_aig ts)) e ∙ form) (ap is_negation_kind e ∙ other)

form-of : (h : Head) (ts : Terms) (rs : List Term) → AllInForm rs → (k : Kind) → kind_of h ts ≡ k → InForm (inverted k (apply h ts) rs)
form-of h ts rs a (truth_value b) e = stays h ts (truth_value b) e refl refl
form-of h ts rs a atom e = stays h ts atom e refl refl
form-of h ts rs a negation e = opposite-form (nth rs 0) (nth-form rs 0 a)
form-of h ts rs a conjunction e = all-form rs a
form-of h ts rs a disjunction e = opposite-form (all_of (map opposite rs)) (all-form (map opposite rs) (opposites rs a))
form-of h ts rs a implication e = opposite-form (both (nth rs 0) (opposite (nth rs 1))) (both-form (nth rs 0) (opposite (nth rs 1)) (nth-form rs 0 a) (opposite-form (nth rs 1) (nth-form rs 1 a)))
form-of h ts rs a exclusive e = opposite-form (same_sides rs) (sides-form rs a)
form-of h ts rs a equivalence e = sides-form rs a
form-of h ts rs a difference e = distinct-form rs a
form-of h ts rs a conditional e =
    both-form (opposite (both (nth rs 0) (opposite (nth rs 1)))) (opposite (both (opposite (nth rs 0)) (opposite (nth rs 2))))
    (opposite-form (both (nth rs 0) (opposite (nth rs 1))) (both-form (nth rs 0) (opposite (nth rs 1)) (nth-form rs 0 a) (opposite-form (nth rs 1) (nth-form rs 1 a))))
    (opposite-form (both (opposite (nth rs 0)) (opposite (nth rs 2))) (both-form (opposite (nth rs 0)) (opposite (nth rs 2)) (opposite-form (nth rs 0) (nth-form rs 0 a)) (opposite-form (nth rs 2) (nth-form rs 2 a))))

mutual
  in-form : (t : Term) → InForm (aig t)
  in-form (apply h ts) = form-of h ts (aig_each ts) (all-in-form ts) (kind_of h ts) refl
  in-form (quantified q xs body) = plain (quantified q xs (aig body)) (in-form body).form refl

  all-in-form : (ts : Terms) → AllInForm (aig_each ts)
  all-in-form none = tt
  all-in-form (t ⨾ ts) = (in-form t, all-in-form ts)

pub aig-form : (t : Term) → is_aig (aig t) ≡ true
aig-form t = (in-form t).form

-- ---- regular terms

abbrev Regular : Term → Type 0
Regular t = is_regular t ≡ true

all-regular : (ts : List Term) → All Regular ts → are_regular (terms ts) ≡ true
all-regular [] all = refl
all-regular (t ∷ ts) all = and_true (is_regular t) (are_regular (terms ts)) all.0 (all-regular ts all.1)

truth-regular : (b : Bool) → Regular (truth_term b)
unfolding is_minus
truth-regular b = regular-over (Truth b) none refl refl

and-regular : (ts : List Term) → All Regular ts → Regular (all_of ts)
unfolding is_minus
and-regular ts all = regular-over And (terms ts) refl (all-regular ts all)

both-regular : (s t : Term) → Regular s → Regular t → Regular (both s t)
both-regular s t a b = and-regular (s ∷ t ∷ []) (a, (b, tt))

negated-regular : (t : Term) → Regular t → Regular (negated t)
unfolding is_minus
negated-regular t a = regular-over Not (t ⨾ none) refl (all-regular (t ∷ []) (a, tt))

below-regular : (t : Term) → Regular (negated t) → Regular t
below-regular t a = (both_true (is_regular t) true (both_true (not (is_minus_of (op Not) (t ⨾ none))) (is_regular t && true) a).1).0

opposite-added : (t : Term) → Regular t → opposite t ≡ negated t → Regular (opposite t)
opposite-added t a e = ap is_regular e ∙ negated-regular t a

opposite-regular : (t : Term) → Regular t → Regular (opposite t)
opposite-regular (apply (op Not) (t ⨾ none)) a = below-regular t a
opposite-regular t a = opposite-added t a refl

opposites-regular : (ts : List Term) → All Regular ts → All Regular (map opposite ts)
opposites-regular [] all = tt
opposites-regular (t ∷ ts) all = (opposite-regular t all.0, opposites-regular ts all.1)

place : (ts : List Term) (i : ℕ) → All Regular ts → Regular (nth ts i)
place = nth-inherits Regular (truth-regular false)

sides-regular : (rs : List Term) → All Regular rs → Regular (same_sides rs)
sides-regular rs a =
    both-regular (opposite (both (nth rs 0) (opposite (nth rs 1)))) (opposite (both (opposite (nth rs 0)) (nth rs 1)))
    (opposite-regular (both (nth rs 0) (opposite (nth rs 1))) (both-regular (nth rs 0) (opposite (nth rs 1)) (place rs 0 a) (opposite-regular (nth rs 1) (place rs 1 a))))
    (opposite-regular (both (opposite (nth rs 0)) (nth rs 1)) (both-regular (opposite (nth rs 0)) (nth rs 1) (opposite-regular (nth rs 0) (place rs 0 a)) (place rs 1 a)))

distinct-regular : (rs : List Term) → All Regular rs → Regular (aig_distinct rs)
distinct-regular [] a = opposite-regular (same_sides []) (sides-regular [] a)
distinct-regular (r ∷ []) a = opposite-regular (same_sides (r ∷ [])) (sides-regular (r ∷ []) a)
distinct-regular (r ∷ s ∷ []) a = opposite-regular (same_sides (r ∷ s ∷ [])) (sides-regular (r ∷ s ∷ []) a)
distinct-regular (r ∷ s ∷ t ∷ rs) a = truth-regular false

regular-of : (x : Term) (rs : List Term) → Regular x → All Regular rs → (k : Kind) → Regular (inverted k x rs)
regular-of x rs given a (truth_value b) = given
regular-of x rs given a atom = given
regular-of x rs given a negation = opposite-regular (nth rs 0) (place rs 0 a)
regular-of x rs given a conjunction = and-regular rs a
regular-of x rs given a disjunction = opposite-regular (all_of (map opposite rs)) (and-regular (map opposite rs) (opposites-regular rs a))
regular-of x rs given a implication = opposite-regular (both (nth rs 0) (opposite (nth rs 1))) (both-regular (nth rs 0) (opposite (nth rs 1)) (place rs 0 a) (opposite-regular (nth rs 1) (place rs 1 a)))
regular-of x rs given a exclusive = opposite-regular (same_sides rs) (sides-regular rs a)
regular-of x rs given a equivalence = sides-regular rs a
regular-of x rs given a difference = distinct-regular rs a
regular-of x rs given a conditional =
    both-regular (opposite (both (nth rs 0) (opposite (nth rs 1)))) (opposite (both (opposite (nth rs 0)) (opposite (nth rs 2))))
    (opposite-regular (both (nth rs 0) (opposite (nth rs 1))) (both-regular (nth rs 0) (opposite (nth rs 1)) (place rs 0 a) (opposite-regular (nth rs 1) (place rs 1 a))))
    (opposite-regular (both (opposite (nth rs 0)) (opposite (nth rs 2))) (both-regular (opposite (nth rs 0)) (opposite (nth rs 2)) (opposite-regular (nth rs 0) (place rs 0 a)) (opposite-regular (nth rs 2) (place rs 2 a))))

mutual
  pub aig-regular : (t : Term) → is_regular t ≡ true → is_regular (aig t) ≡ true
  aig-regular (apply h ts) given =
      regular-of (apply h ts) (aig_each ts) given (aigs-regular ts (both_true (not (is_minus_of h ts)) (are_regular ts) (both_true (has_sorts h) (not (is_minus_of h ts) && are_regular ts) given).1).1) (kind_of h ts)
  aig-regular (quantified q xs body) given =
      let parts = both_true (list_all (λ x. is_sort x.sort) xs) (is_regular body) given in
      and_true (list_all (λ x. is_sort x.sort) xs) (is_regular (aig body)) parts.0 (aig-regular body parts.1)

  aigs-regular : (ts : Terms) → are_regular ts ≡ true → All Regular (aig_each ts)
  aigs-regular none given = tt
  aigs-regular (t ⨾ ts) given =
      let parts = both_true (is_regular t) (are_regular ts) given in
      (aig-regular t parts.0, aigs-regular ts parts.1)
