-- The polarities that the parts of a formula are given, those of the root first and then by each connective, are those in which
-- they occur; and all that a part is given comes from those that stand behind it.
use Rattle.std.proofs.Common.{◌≡◌, inl, inr, ℕ, suc, Bool, true, false, not, ◌&&◌, ◌||◌, List, [], ◌∷◌, ◌++◌, append_assoc, All, refl, ap, sym, ◌∙◌, subst}
use Rattle.std.proofs.lemmas.List.Elements.{All-head, All-tail, All-weaker}
use Rattle.smt_terms.specs.Connectives.{Kind, is_connective, kind_of}
use Rattle.smt_terms.specs.Equal.{term_eq}
use Rattle.smt_terms.specs.Groups.{has_term}
use Rattle.smt_terms.specs.Term.{Term, apply, quantified, Terms, none, ◌⨾◌, list}
use Rattle.smt_terms.proofs.Equal.{Decides-term_eq}
use Rattle.smt_terms.proofs.Tests.{both_true, and_true, either_true, left_true, right_true, alike_from, contrary}
use Rattle.term_walk.proofs.Members.{has-append}
use Rattle.term_groups.specs.Parts.{operands_of, collected, AreParts}
use Rattle.cnf_polarity.specs.declared.polarities.Polarities.{Polarities}
use Rattle.cnf_polarity.specs.Cnf.{Occurrence, Turn, keeps, exchanges, takes_both, turn, turned, within, occurrences, occurrences_of, occurs}
use Rattle.cnf_polarity.specs.Marks.{has_sign, turned_polarities, passes, passes_on}
use Rattle.cnf_polarity.specs.Shapes.{has_connective}
use Rattle.cnf_polarity.proofs.Occurrences.{AreAmong, first-among, second-among, operands-among}
use Rattle.cnf_polarity.proofs.OccurrenceSteps.{occurs-append, occurs-itself, one-or-more, within-true, among-itself, among-through, handed-on, EitherOccurs, part-occurs}
use Rattle.cnf_polarity.proofs.TermLists.{term_itself}

-- ---- terms of lists

has-in-front : (us vs : List Term) (x : Term) → has_term us x ≡ true → has_term (us ++ vs) x ≡ true
has-in-front us vs x e = has-append us vs x ∙ left_true (has_term us x) (has_term vs x) e

pub has-between : (us : List Term) (x : Term) (vs : List Term) → has_term (us ++ x ∷ vs) x ≡ true
has-between us x vs = has-append us (x ∷ vs) x ∙ right_true (has_term us x) (has_term (x ∷ vs) x) (left_true (term_eq x x) (has_term vs x) (term_itself x))

pub record StandsIn (ts : List Term) (t : Term) : Type 0 where
  pub before : List Term
  pub behind : List Term
  pub whole : ts ≡ before ++ t ∷ behind

pub stands-in : (ts : List Term) (t : Term) → has_term ts t ≡ true → StandsIn ts t
stands-in [] t e = absurd cc
stands-in (u ∷ ts) t e = elim (either_true (term_eq u t) (has_term ts t) e) [
  | inl here ↦ record { before = []; behind = ts; whole = ap (λ x. x ∷ ts) ((Decides-term_eq u t).0 here) }
  | inr more ↦ let rest = stands-in ts t more in record { before = u ∷ rest.before; behind = rest.behind; whole = ap (λ xs. u ∷ xs) rest.whole }
]

rest : List Term → List Term
rest [] = []
rest (v ∷ vs) = vs

first : Term → List Term → Term
first d [] = d
first d (v ∷ vs) = v

no-more : (cs : List Term) (y : Term) (bs : List Term) → [] ≡ cs ++ y ∷ bs → ⊥
no-more [] y bs e = absurd cc
no-more (c ∷ cs) y bs e = absurd cc

-- what stands before a term of a list stands before the last
front-has : (us : List Term) (t : Term) (cs : List Term) (y : Term) (bs : List Term) → us ++ t ∷ [] ≡ cs ++ y ∷ bs → (x : Term) → has_term cs x ≡ true → has_term us x ≡ true
unfolding rest first
front-has us t [] y bs e x has = absurd cc
front-has [] t (c ∷ cs) y bs e x has = absurd (no-more cs y bs (ap rest e))
front-has (u ∷ us) t (c ∷ cs) y bs e x has = elim (either_true (term_eq c x) (has_term cs x) has) [
  | inl here ↦ left_true (term_eq u x) (has_term us x) (ap (λ v. term_eq v x) (ap (first t) e) ∙ here)
  | inr more ↦ right_true (term_eq u x) (has_term us x) (front-has us t cs y bs (ap rest e) x more)
]

-- ---- operands

passes-operand : (k : Kind) (i : ℕ) (p : Polarities) (s : Bool) (u : Term) (ts : List Term) → passes k i p s u ts ≡ true → has_term ts u ≡ true
passes-operand k i p s u [] e = absurd cc
passes-operand k i p s u (t ∷ ts) e = elim (either_true (has_sign s (turned_polarities (turn k i) p) && term_eq t u) (passes k (suc i) p s u ts) e) [
  | inl here ↦ left_true (term_eq t u) (has_term ts u) (both_true (has_sign s (turned_polarities (turn k i) p)) (term_eq t u) here).1
  | inr later ↦ right_true (term_eq t u) (has_term ts u) (passes-operand k (suc i) p s u ts later)
]

-- what gets something is an operand
passed-operand : (p : Polarities) (s : Bool) (u t : Term) → passes_on p s u t ≡ true → (has_connective t ≡ true) × (has_term (operands_of t) u ≡ true)
passed-operand p s u (apply h ts) e =
    let parts = both_true (is_connective (kind_of h ts)) (passes (kind_of h ts) 0 p s u (list ts)) e in
    (parts.0, passes-operand (kind_of h ts) 0 p s u (list ts) parts.1)
passed-operand p s u (quantified q xs body) e = absurd cc

pub all-has : (P : Term → Type 0) (us : List Term) (u : Term) → All P us → has_term us u ≡ true → P u
all-has P [] u all e = absurd cc
all-has P (v ∷ us) u all e = elim (either_true (term_eq v u) (has_term us u) e) [
  | inl here ↦ subst P ((Decides-term_eq v u).0 here) (All-head P v us all)
  | inr more ↦ all-has P us u (All-tail P v us all) more
]

-- ---- what is given

abbrev pub polarities_in : List Occurrence → Term → Polarities
polarities_in os u = record { positive = occurs true u os; negative = occurs false u os }

pub sign-in : (os : List Occurrence) (s : Bool) (u : Term) → has_sign s (polarities_in os u) ≡ occurs s u os
sign-in os true u = refl
sign-in os false u = refl

module _ (root : Term) where
  abbrev there : List Occurrence
  there = occurrences true root

  -- by the root, and by each of these terms in the polarities in which it occurs
  abbrev pub given : List Term → Bool → Term → Bool
  given [] s u = s && term_eq root u
  given (t ∷ ts) s u = given ts s u || passes_on (polarities_in there t) s u t

  given-occurs : (ts : List Term) → ((t : Term) → has_term ts t ≡ true → EitherOccurs t there) → (s : Bool) (u : Term) → given ts s u ≡ true → occurs s u there ≡ true
  given-occurs [] some s u e =
      let parts = both_true s (term_eq root u) e in
      subst (λ x. occurs x u there ≡ true) (sym parts.0) (subst (λ x. occurs true x there ≡ true) ((Decides-term_eq root u).0 parts.1) (occurs-itself true root))
  given-occurs (t ∷ ts) some s u e = elim (either_true (given ts s u) (passes_on (polarities_in there t) s u t) e) [
    | inl earlier ↦ given-occurs ts (λ x has. some x (right_true (term_eq t x) (has_term ts x) has)) s u earlier
    | inr here ↦
        handed-on there (polarities_in there t) (some t (left_true (term_eq t t) (has_term ts t) (term_itself t))) t s u
        (λ q has. among-through root true q t (sym (sign-in there q t) ∙ has)) here
  ]

  given-by : (ts : List Term) (t : Term) (s : Bool) (u : Term) → has_term ts t ≡ true → passes_on (polarities_in there t) s u t ≡ true → given ts s u ≡ true
  given-by [] t s u has e = absurd cc
  given-by (v ∷ ts) t s u has e = elim (either_true (term_eq v t) (has_term ts t) has) [
    | inl here ↦ right_true (given ts s u) (passes_on (polarities_in there v) s u v) (subst (λ x. passes_on (polarities_in there x) s u x ≡ true) (sym ((Decides-term_eq v t).0 here)) e)
    | inr more ↦ left_true (given ts s u) (passes_on (polarities_in there v) s u v) (given-by ts t s u more e)
  ]

  given-root : (ts : List Term) → given ts true root ≡ true
  given-root [] = term_itself root
  given-root (t ∷ ts) = left_true (given ts true root) (passes_on (polarities_in there t) true root t) (given-root ts)

  -- ---- all that occurs is given, where the operands of each connective are there

  module _ (ts : List Term) (closed : (t : Term) → has_term ts t ≡ true → has_connective t ≡ true → All (λ u. has_term ts u ≡ true) (operands_of t)) where
    abbrev AreGiven : List Occurrence → Type 0
    AreGiven os = (s : Bool) (u : Term) → occurs s u os ≡ true → given ts s u ≡ true

    turned-given : (t : Term) → ((x : Bool) → AreAmong (occurrences x t) there → given ts x t ≡ true → AreGiven (occurrences x t)) → (r : Turn) (q : Bool) (p : Polarities) → has_sign q p ≡ true
        → ((x : Bool) → has_sign x (turned_polarities r p) ≡ true → given ts x t ≡ true) → AreAmong (turned r q (λ x. occurrences x t)) there → AreGiven (turned r q (λ x. occurrences x t))
    turned-given t each keeps q p has marks among s u e = each q among (marks q has) s u e
    turned-given t each exchanges q p has marks among s u e = each (not q) among (marks (not q) (other q has)) s u e
      where
        other : (x : Bool) → has_sign x p ≡ true → has_sign (not x) (turned_polarities exchanges p) ≡ true
        other true e = e
        other false e = e
    turned-given t each takes_both q p has marks among s u e =
        elim (either_true (occurs s u (occurrences true t)) (occurs s u (occurrences false t)) (sym (occurs-append s u (occurrences true t) (occurrences false t)) ∙ e)) [
          | inl here ↦ each true (first-among (occurrences true t) (occurrences false t) there among) (marks true refl) s u here
          | inr later ↦ each false (second-among (occurrences true t) (occurrences false t) there among) (marks false refl) s u later
        ]

    mutual
      all-given : (t : Term) (q : Bool) → has_term ts t ≡ true → AreAmong (occurrences q t) there → given ts q t ≡ true → AreGiven (occurrences q t)
      all-given (apply h us) q in_it among here s u e =
          let os = occurrences_of (kind_of h us) 0 q us in
          elim (one-or-more q s (apply h us) u (within (is_connective (kind_of h us)) os) e) [
            | inl same ↦ subst (λ x. given ts x u ≡ true) same.0 (subst (λ x. given ts q x ≡ true) same.1 here)
            | inr below ↦
                let inside = within-true s u (is_connective (kind_of h us)) os below in
                let p = polarities_in there (apply h us) in
                each-given us (kind_of h us) 0 q p (sign-in there q (apply h us) ∙ among q (apply h us) (occurs-itself q (apply h us)))
                (λ x v passed. given-by ts (apply h us) x v in_it (and_true (is_connective (kind_of h us)) (passes (kind_of h us) 0 p x v (list us)) inside.0 passed))
                (closed (apply h us) in_it inside.0) (operands-among q h us there inside.0 among) s u inside.1
          ]
      all-given (quantified r xs body) q in_it among here s u e = elim (one-or-more q s (quantified r xs body) u [] e) [
        | inl same ↦ subst (λ x. given ts x u ≡ true) same.0 (subst (λ x. given ts q x ≡ true) same.1 here)
        | inr below ↦ absurd cc
      ]

      each-given : (us : Terms) (k : Kind) (i : ℕ) (q : Bool) (p : Polarities) → has_sign q p ≡ true → ((x : Bool) (v : Term) → passes k i p x v (list us) ≡ true → given ts x v ≡ true)
          → All (λ u. has_term ts u ≡ true) (list us) → AreAmong (occurrences_of k i q us) there → AreGiven (occurrences_of k i q us)
      each-given none k i q p has marks in_it among s u e = absurd cc
      each-given (t ⨾ us) k i q p has marks in_it among s u e =
          let here = turned (turn k i) q (λ x. occurrences x t) in
          let later = occurrences_of k (suc i) q us in
          elim (either_true (occurs s u here) (occurs s u later) (sym (occurs-append s u here later) ∙ e)) [
            | inl first ↦
                turned-given t (λ x am gi. all-given t x (All-head (λ v. has_term ts v ≡ true) t (list us) in_it) am gi) (turn k i) q p has
                (λ x turned_has. marks x t (left_true (has_sign x (turned_polarities (turn k i) p) && term_eq t t) (passes k (suc i) p x t (list us)) (and_true (has_sign x (turned_polarities (turn k i) p)) (term_eq t t) turned_has (term_itself t))))
                (first-among here later there among) s u first
            | inr others ↦
                each-given us k (suc i) q p has
                (λ x v passed. marks x v (right_true (has_sign x (turned_polarities (turn k i) p) && term_eq t v) (passes k (suc i) p x v (list us)) passed))
                (All-tail (λ v. has_term ts v ≡ true) t (list us) in_it) (second-among here later there among) s u others
          ]

  -- ---- the parts in their order

  module _ (ts : List Term) (parts : AreParts has_connective root ts) (reached : ts ≡ collected has_connective (λ _. true) root) where
    pub closed-parts : (t : Term) → has_term ts t ≡ true → has_connective t ≡ true → All (λ u. has_term ts u ≡ true) (operands_of t)
    closed-parts t has c =
        let at = stands-in ts t has in
        All-weaker (λ u. has_term at.before u ≡ true) (λ u. has_term ts u ≡ true)
        (λ u e. subst (λ xs. has_term xs u ≡ true) (sym at.whole) (has-in-front at.before (t ∷ at.behind) u e))
        (operands_of t) (parts.behind at.before t at.behind at.whole c)

    pub given-is : (s : Bool) (u : Term) → given ts s u ≡ occurs s u there
    given-is s u =
        alike_from (given ts s u) (occurs s u there)
        (given-occurs ts (λ t has. part-occurs root true t (subst (λ xs. has_term xs t ≡ true) reached has)) s u)
        (all-given ts closed-parts root true (subst (λ xs. has_term xs root ≡ true) (sym parts.last) (has-between parts.before root [])) (among-itself there) (given-root ts) s u)

    -- nothing is given by those before
    unpassed : (us vs : List Term) (s : Bool) (u : Term) → ((x : Term) → has_term us x ≡ true → passes_on (polarities_in there x) s u x ≡ false) → given (us ++ vs) s u ≡ given vs s u
    unpassed [] vs s u nothing = refl
    unpassed (x ∷ us) vs s u nothing =
        ap (λ b. given (us ++ vs) s u || b) (nothing x (left_true (term_eq x x) (has_term us x) (term_itself x)))
        ∙ or_none (given (us ++ vs) s u)
        ∙ unpassed us vs s u (λ y has. nothing y (right_true (term_eq x y) (has_term us y) has))
      where
        or_none : (a : Bool) → (a || false) ≡ a
        or_none true = refl
        or_none false = refl

    not-before : (us : List Term) (t : Term) (vs : List Term) → ts ≡ us ++ t ∷ vs → (s : Bool) (x : Term) → has_term (us ++ t ∷ []) x ≡ true → passes_on (polarities_in there x) s t x ≡ false
    not-before us t vs whole s x has = by (passes_on (polarities_in there x) s t x) refl
      where
        by : (b : Bool) → passes_on (polarities_in there x) s t x ≡ b → b ≡ false
        by false e = refl
        by true e =
            let at = stands-in (us ++ t ∷ []) x has in
            let operand = passed-operand (polarities_in there x) s t x e in
            let stands : ts ≡ at.before ++ x ∷ (at.behind ++ vs) = whole ∙ sym (append_assoc us (t ∷ []) vs) ∙ ap (λ w. w ++ vs) at.whole ∙ append_assoc at.before (x ∷ at.behind) vs in
            let before : has_term at.before t ≡ true = all-has (λ u. has_term at.before u ≡ true) (operands_of x) t (parts.behind at.before x (at.behind ++ vs) stands operand.0) operand.1 in
            contrary (has_term us t) (front-has us t at.before x at.behind at.whole t before) (parts.once us t vs whole)

    -- so all that a part is given comes from those behind
    pub given-behind : (us : List Term) (t : Term) (vs : List Term) → ts ≡ us ++ t ∷ vs → (s : Bool) → given vs s t ≡ occurs s t there
    given-behind us t vs whole s =
        sym (unpassed (us ++ t ∷ []) vs s t (not-before us t vs whole s))
        ∙ ap (λ xs. given xs s t) (append_assoc us (t ∷ []) vs ∙ sym whole)
        ∙ given-is s t
