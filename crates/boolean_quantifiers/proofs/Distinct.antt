-- A listing has each term once, and names no others than its root.
use Rattle.std.proofs.Common.{◌≡◌, ℕ, suc, ◌+◌, ◌<◌, ◌≤◌, ◌⊎◌, inl, inr, Bool, true, false, cond, List, [], ◌∷◌, ◌++◌, length, map, get_or, take, refl, ap, sym, ◌∙◌, subst, arith, length-append}
use Rattle.std.proofs.Math.ListN.{get_or-append}
use Rattle.std.proofs.Math.Seq.{get_or-append_seam, take-append_seam}
use Rattle.std.proofs.lemmas.Bool.Decides.{eqb_tells}
use Rattle.std.proofs.lemmas.List.{take-append-le}
use Rattle.smt_terms.specs.Equal.{name_eq, term_eq}
use Rattle.smt_terms.specs.Free.{name_among, names_of, head_symbols}
use Rattle.smt_terms.specs.Groups.{has_term}
use Rattle.smt_terms.specs.Sorts.{Name, Variable}
use Rattle.smt_terms.specs.SubstLaws.{names_within, names_within_each}
use Rattle.smt_terms.specs.Term.{Term, apply, quantified, Terms, none, ◌⨾◌, variable}
use Rattle.smt_terms.proofs.Equal.{Decides-term_eq}
use Rattle.smt_terms.proofs.Tests.{either_true, left_true, right_true}
use Rattle.term_table.specs.Formulas.{no_tree}
use Rattle.term_walk.proofs.Members.{has-append}
use Rattle.normal_forms.proofs.Inside.{in-left, in-right}
use Rattle.quantifier_forms.specs.Listing.{behind, listed_variables, listed, listed_each}
use Rattle.boolean_quantifiers.proofs.SelfSteps.{nothing, everything}

-- ---- what stands below a term weighs less, and has no other names

abbrev mutual
  weight : Term → ℕ
  weight (apply h ts) = suc (weights ts)
  weight (quantified q xs body) = suc (suc (weight body))

  weights : Terms → ℕ
  weights none = 0
  weights (t ⨾ ts) = weight t + weights ts

abbrev Named : Term → List Name → Type 0
Named u ns = (n : Name) → name_among (names_within u) n ≡ true → name_among ns n ≡ true

-- a term of at most this weight and of these names
record IsBelow (most : ℕ) (ns : List Name) (u : Term) : Type 0 where
  weight : weight u ≤ most
  names : Named u ns

below-wider : (a b : ℕ) (ms ns : List Name) (u : Term) → a ≤ b → ((n : Name) → name_among ms n ≡ true → name_among ns n ≡ true) → IsBelow a ms u → IsBelow b ns u
below-wider a b ms ns u le wide h = let w = h.weight in record { weight = omega arith; names = λ n e. wide n (h.names n e) }

abbrev Gains : List Term → List Term → ℕ → List Name → Type 0
Gains ts us most ns = (u : Term) → has_term us u ≡ true → (has_term ts u ≡ true) ⊎ IsBelow most ns u

gains-wider : (ts us : List Term) (a b : ℕ) (ms ns : List Name) → a ≤ b → ((n : Name) → name_among ms n ≡ true → name_among ns n ≡ true) → Gains ts us a ms → Gains ts us b ns
gains-wider ts us a b ms ns le wide g u e = elim (g u e) [ inl before ↦ inl before | inr h ↦ inr (below-wider a b ms ns u le wide h) ]

gains-on : (ts us vs : List Term) (most : ℕ) (ns : List Name) → Gains ts us most ns → Gains us vs most ns → Gains ts vs most ns
gains-on ts us vs most ns f g u e = elim (g u e) [ inl before ↦ f u before | inr h ↦ inr h ]

gains-last : (ts us : List Term) (t : Term) (most : ℕ) (ns : List Name) → IsBelow most ns t → Gains ts us most ns → Gains ts (us ++ t ∷ []) most ns
gains-last ts us t most ns h g u e = elim (either_true (has_term us u) (has_term (t ∷ []) u) (sym (has-append us (t ∷ []) u) ∙ e)) [
  | inl before ↦ g u before
  | inr last ↦ elim (either_true (term_eq t u) false last) [ inl same ↦ inr (subst (IsBelow most ns) ((Decides-term_eq t u).0 same) h) | inr never ↦ absurd cc ]
]

-- ---- each term once

abbrev pub Distinct : List Term → Type 0
Distinct ts = (i : ℕ) → i < length ts → has_term (take i ts) (get_or ts i no_tree) ≡ false

distinct-last : (ts : List Term) (t : Term) → has_term ts t ≡ false → Distinct ts → Distinct (ts ++ t ∷ [])
distinct-last ts t new distinct i lt = elim (eqb_tells i (length ts)) [
  | inl same ↦
      (λ j. has_term ((ap (λ k. take k (ts ++ t ∷ [])) same.1 ∙ take-append_seam ts (t ∷ [])) j) ((ap (λ k. get_or (ts ++ t ∷ []) k no_tree) same.1 ∙ get_or-append_seam ts t [] no_tree) j)) ∙ new
  | inr apart ↦
      let inside : i < length ts = (let n = length-append ts (t ∷ []) in let a = apart.1 in omega (arith, n)) in
      (λ j. has_term (take-append-le i ts (t ∷ []) (omega arith) j) (get_or-append ts (t ∷ []) no_tree i inside j)) ∙ distinct i inside
]

-- ---- a listing

record Lists (ts us : List Term) (most : ℕ) (ns : List Name) : Type 0 where
  gains : Gains ts us most ns
  distinct : Distinct ts → Distinct us

lists-itself : (ts : List Term) (most : ℕ) (ns : List Name) → Lists ts ts most ns
lists-itself ts most ns = record { gains = λ u e. inl e; distinct = λ d. d }

lists-on : (ts us vs : List Term) (most : ℕ) (ns : List Name) → Lists ts us most ns → Lists us vs most ns → Lists ts vs most ns
lists-on ts us vs most ns f g = record { gains = gains-on ts us vs most ns f.gains g.gains; distinct = λ d. g.distinct (f.distinct d) }

lists-wider : (ts us : List Term) (a b : ℕ) (ms ns : List Name) → a ≤ b → ((n : Name) → name_among ms n ≡ true → name_among ns n ≡ true) → Lists ts us a ms → Lists ts us b ns
lists-wider ts us a b ms ns le wide h = record { gains = gains-wider ts us a b ms ns le wide h.gains; distinct = h.distinct }

-- a term behind what is listed below it, which weighs less
behind-lists : (ts below : List Term) (t : Term) (less : ℕ) → suc less ≤ weight t → Lists ts below less (names_within t) → Lists ts (behind nothing everything ts below t) (weight t) (names_within t)
behind-lists ts below t less le h = by (has_term ts t) refl
  where
    itself : IsBelow (weight t) (names_within t) t
    itself = record { weight = omega arith; names = λ n e. e }

    by : (b : Bool) → has_term ts t ≡ b → Lists ts (cond b ts (below ++ t ∷ [])) (weight t) (names_within t)
    by true e = lists-itself ts (weight t) (names_within t)
    by false e = record {
      gains = gains-last ts below t (weight t) (names_within t) itself (gains-wider ts below less (weight t) (names_within t) (names_within t) (omega arith) (λ n f. f) h.gains);
      distinct = λ d. distinct-last below t (apart (has_term below t) refl) (h.distinct d);
    }
      where
        apart : (c : Bool) → has_term below t ≡ c → c ≡ false
        apart false f = refl
        apart true f = elim (h.gains t f) [
          | inl before ↦ absurd cc
          | inr lighter ↦ (let w = lighter.weight in absurd (omega arith))
        ]

variables-list : (xs : List Variable) (ts : List Term) → Lists ts (listed_variables nothing everything xs ts) 1 (map (λ x. x.name) xs)
variables-list [] ts = lists-itself ts 1 []
variables-list (x ∷ xs) ts =
    let one = behind-lists ts ts (variable x) 0 (omega arith) (lists-itself ts 0 (names_within (variable x))) in
    lists-on ts (behind nothing everything ts ts (variable x)) (listed_variables nothing everything (x ∷ xs) ts) 1 (map (λ y. y.name) (x ∷ xs))
    (lists-wider ts (behind nothing everything ts ts (variable x)) 1 1 (names_within (variable x)) (map (λ y. y.name) (x ∷ xs)) (omega arith) (λ n e. first n (either_true (name_eq x.name n) false e)) one)
    (lists-wider (behind nothing everything ts ts (variable x)) (listed_variables nothing everything (x ∷ xs) ts) 1 1 (map (λ y. y.name) xs) (map (λ y. y.name) (x ∷ xs)) (omega arith) (λ n e. right_true (name_eq x.name n) (name_among (map (λ y. y.name) xs) n) e) (variables-list xs (behind nothing everything ts ts (variable x))))
  where
    first : (n : Name) → (name_eq x.name n ≡ true) ⊎ (false ≡ true) → name_among (map (λ y. y.name) (x ∷ xs)) n ≡ true
    first n (inl e) = left_true (name_eq x.name n) (name_among (map (λ y. y.name) xs) n) e
    first n (inr e) = absurd cc

some-weight : (t : Term) → 1 ≤ weight t
some-weight (apply h ts) = omega arith
some-weight (quantified q xs body) = omega arith

mutual
  listed-lists : (t : Term) (ts : List Term) → Lists ts (listed nothing everything t ts) (weight t) (names_within t)
  listed-lists (apply h us) ts =
      behind-lists ts (listed_each nothing everything us ts) (apply h us) (weights us) (omega arith)
      (lists-wider ts (listed_each nothing everything us ts) (weights us) (weights us) (names_within_each us) (names_within (apply h us)) (omega arith) (in-right (names_of (head_symbols h)) (names_within_each us)) (each-lists us ts))
  listed-lists (quantified q xs body) ts =
      let names = variables-list xs ts in
      let inner = listed-lists body (listed_variables nothing everything xs ts) in
      let some = some-weight body in
      behind-lists ts (listed nothing everything body (listed_variables nothing everything xs ts)) (quantified q xs body) (suc (weight body)) (omega arith)
      (lists-on ts (listed_variables nothing everything xs ts) (listed nothing everything body (listed_variables nothing everything xs ts)) (suc (weight body)) (names_within (quantified q xs body))
      (lists-wider ts (listed_variables nothing everything xs ts) 1 (suc (weight body)) (map (λ x. x.name) xs) (names_within (quantified q xs body)) (omega arith) (in-left (map (λ x. x.name) xs) (names_within body)) names)
      (lists-wider (listed_variables nothing everything xs ts) (listed nothing everything body (listed_variables nothing everything xs ts)) (weight body) (suc (weight body)) (names_within body) (names_within (quantified q xs body)) (omega arith) (in-right (map (λ x. x.name) xs) (names_within body)) inner))

  each-lists : (us : Terms) (ts : List Term) → Lists ts (listed_each nothing everything us ts) (weights us) (names_within_each us)
  each-lists none ts = lists-itself ts 0 []
  each-lists (u ⨾ us) ts =
      lists-on ts (listed nothing everything u ts) (listed_each nothing everything us (listed nothing everything u ts)) (weight u + weights us) (names_within_each (u ⨾ us))
      (lists-wider ts (listed nothing everything u ts) (weight u) (weight u + weights us) (names_within u) (names_within_each (u ⨾ us)) (omega arith) (in-left (names_within u) (names_within_each us)) (listed-lists u ts))
      (lists-wider (listed nothing everything u ts) (listed_each nothing everything us (listed nothing everything u ts)) (weights us) (weight u + weights us) (names_within_each us) (names_within_each (u ⨾ us)) (omega arith) (in-right (names_within u) (names_within_each us)) (each-lists us (listed nothing everything u ts)))

pub listed-distinct : (t : Term) → Distinct (listed (λ _. false) (λ _. true) t [])
listed-distinct t = (listed-lists t []).distinct (λ i lt. absurd (omega arith))

pub listed-names : (t u : Term) → has_term (listed (λ _. false) (λ _. true) t []) u ≡ true → (n : Name) → name_among (names_within u) n ≡ true → name_among (names_within t) n ≡ true
listed-names t u e = elim ((listed-lists t []).gains u e) [ inl never ↦ absurd cc | inr h ↦ h.names ]
