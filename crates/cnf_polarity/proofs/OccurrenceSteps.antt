-- Occurrences in a formula, step by step: each connective that occurs hands its polarities to its operands.
use Rattle.std.proofs.Common.{◌≡◌, ◌⊎◌, inl, inr, ℕ, suc, Bool, true, false, not, cond, ◌&&◌, ◌||◌, List, [], ◌∷◌, ◌++◌, refl, sym, ◌∙◌, subst}
use Rattle.std.proofs.lemmas.List.Folds.{list_any-append}
use Rattle.smt_terms.specs.Connectives.{Kind, is_connective, kind_of}
use Rattle.smt_terms.specs.Equal.{term_eq}
use Rattle.smt_terms.specs.Groups.{has_term}
use Rattle.smt_terms.specs.Term.{Term, apply, quantified, Terms, none, ◌⨾◌, list}
use Rattle.smt_terms.proofs.Equal.{Decides-term_eq}
use Rattle.smt_terms.proofs.Tests.{both_true, and_true, either_true, left_true, right_true}
use Rattle.term_walk.proofs.Members.{is-one}
use Rattle.term_groups.specs.Parts.{collected, collected_of}
use Rattle.cnf_polarity.specs.declared.polarities.Polarities.{Polarities}
use Rattle.cnf_polarity.specs.Cnf.{Occurrence, Turn, keeps, exchanges, takes_both, turn, turned, within, occurrences, occurrences_of, is_sign, occurs}
use Rattle.cnf_polarity.specs.Marks.{has_sign, turned_polarities, passes, passes_on}
use Rattle.cnf_polarity.specs.Shapes.{has_connective}
use Rattle.cnf_polarity.proofs.Occurrences.{AreAmong, first-among, second-among, operands-among}
use Rattle.cnf_polarity.proofs.TermLists.{term_itself, has_term-with_new}

-- ---- occurrences of two lists

pub occurs-append : (p : Bool) (u : Term) (os qs : List Occurrence) → occurs p u (os ++ qs) ≡ (occurs p u os || occurs p u qs)
occurs-append p u os qs = list_any-append (λ o. is_sign p o.1 && term_eq o.0 u) os qs

pub among-itself : (os : List Occurrence) → AreAmong os os
among-itself os p u e = e

pub among-first : (ps os qs : List Occurrence) → AreAmong ps os → AreAmong ps (os ++ qs)
among-first ps os qs among p u e = occurs-append p u os qs ∙ left_true (occurs p u os) (occurs p u qs) (among p u e)

pub among-second : (ps os qs : List Occurrence) → AreAmong ps qs → AreAmong ps (os ++ qs)
among-second ps os qs among p u e = occurs-append p u os qs ∙ right_true (occurs p u os) (occurs p u qs) (among p u e)

pub among-behind : (ps : List Occurrence) (o : Occurrence) (os : List Occurrence) → AreAmong ps os → AreAmong ps (o ∷ os)
among-behind ps o os among p u e = right_true (is_sign p o.1 && term_eq o.0 u) (occurs p u os) (among p u e)

pub sign-itself : (p : Bool) → is_sign p p ≡ true
sign-itself true = refl
sign-itself false = refl

pub sign-same : (p q : Bool) → is_sign p q ≡ true → q ≡ p
sign-same true q e = e
sign-same false true e = absurd cc
sign-same false false e = refl

pub not-not : (p : Bool) → not (not p) ≡ p
not-not true = refl
not-not false = refl

-- ---- a formula occurs where its occurrences are

occurs-first : (p : Bool) (u : Term) (os : List Occurrence) → occurs p u ((u, p) ∷ os) ≡ true
occurs-first p u os = left_true (is_sign p p && term_eq u u) (occurs p u os) (and_true (is_sign p p) (term_eq u u) (sign-itself p) (term_itself u))

pub occurs-itself : (p : Bool) (u : Term) → occurs p u (occurrences p u) ≡ true
occurs-itself p (apply h ts) = occurs-first p (apply h ts) (within (is_connective (kind_of h ts)) (occurrences_of (kind_of h ts) 0 p ts))
occurs-itself p (quantified q xs body) = occurs-first p (quantified q xs body) []

pub occurs-among : (p : Bool) (u : Term) (os : List Occurrence) → AreAmong (occurrences p u) os → occurs p u os ≡ true
occurs-among p u os among = among p u (occurs-itself p u)

-- ---- the occurrences of what occurs are there, too

-- an occurrence in a list with this one first is it, or is in the rest
pub one-or-more : (p q : Bool) (t u : Term) (os : List Occurrence) → occurs q u ((t, p) ∷ os) ≡ true → ((p ≡ q) × (t ≡ u)) ⊎ (occurs q u os ≡ true)
one-or-more p q t u os e = elim (either_true (is_sign q p && term_eq t u) (occurs q u os) e) [
  | inl here ↦ let parts = both_true (is_sign q p) (term_eq t u) here in inl (sign-same q p parts.0, (Decides-term_eq t u).0 parts.1)
  | inr more ↦ inr more
]

pub within-true : (q : Bool) (u : Term) (b : Bool) (os : List Occurrence) → occurs q u (within b os) ≡ true → (b ≡ true) × (occurs q u os ≡ true)
within-true q u true os e = (refl, e)
within-true q u false os e = absurd cc

-- what holds of the occurrences of a term in each polarity
abbrev Through : Term → Type 0
Through t = (p q : Bool) (u : Term) → occurs q u (occurrences p t) ≡ true → AreAmong (occurrences q u) (occurrences p t)

turned-through : (t : Term) → Through t → (r : Turn) (p q : Bool) (u : Term) → occurs q u (turned r p (λ s. occurrences s t)) ≡ true → AreAmong (occurrences q u) (turned r p (λ s. occurrences s t))
turned-through t through keeps p q u e = through p q u e
turned-through t through exchanges p q u e = through (not p) q u e
turned-through t through takes_both p q u e = elim (either_true (occurs q u (occurrences true t)) (occurs q u (occurrences false t)) (sym (occurs-append q u (occurrences true t) (occurrences false t)) ∙ e)) [
  | inl here ↦ among-first (occurrences q u) (occurrences true t) (occurrences false t) (through true q u here)
  | inr later ↦ among-second (occurrences q u) (occurrences true t) (occurrences false t) (through false q u later)
]

mutual
  pub among-through : (t : Term) (p q : Bool) (u : Term) → occurs q u (occurrences p t) ≡ true → AreAmong (occurrences q u) (occurrences p t)
  among-through (apply h ts) p q u e = elim (one-or-more p q (apply h ts) u (within (is_connective (kind_of h ts)) (occurrences_of (kind_of h ts) 0 p ts)) e) [
    | inl here ↦ subst (λ x. AreAmong (occurrences q x) (occurrences p (apply h ts))) here.1 (subst (λ x. AreAmong (occurrences x (apply h ts)) (occurrences p (apply h ts))) here.0 (among-itself (occurrences p (apply h ts))))
    | inr below ↦
        let inside = within-true q u (is_connective (kind_of h ts)) (occurrences_of (kind_of h ts) 0 p ts) below in
        among-behind (occurrences q u) (apply h ts, p) (within (is_connective (kind_of h ts)) (occurrences_of (kind_of h ts) 0 p ts))
        (subst (λ b. AreAmong (occurrences q u) (within b (occurrences_of (kind_of h ts) 0 p ts))) (sym inside.0) (each-through ts (kind_of h ts) 0 p q u inside.1))
  ]
  among-through (quantified r xs body) p q u e = elim (one-or-more p q (quantified r xs body) u [] e) [
    | inl here ↦ subst (λ x. AreAmong (occurrences q x) (occurrences p (quantified r xs body))) here.1 (subst (λ x. AreAmong (occurrences x (quantified r xs body)) (occurrences p (quantified r xs body))) here.0 (among-itself (occurrences p (quantified r xs body))))
    | inr below ↦ absurd cc
  ]

  each-through : (ts : Terms) (k : Kind) (i : ℕ) (p q : Bool) (u : Term) → occurs q u (occurrences_of k i p ts) ≡ true → AreAmong (occurrences q u) (occurrences_of k i p ts)
  each-through none k i p q u e = absurd cc
  each-through (t ⨾ ts) k i p q u e = elim (either_true (occurs q u (turned (turn k i) p (λ r. occurrences r t))) (occurs q u (occurrences_of k (suc i) p ts)) (sym (occurs-append q u (turned (turn k i) p (λ r. occurrences r t)) (occurrences_of k (suc i) p ts)) ∙ e)) [
    | inl here ↦ among-first (occurrences q u) (turned (turn k i) p (λ r. occurrences r t)) (occurrences_of k (suc i) p ts) (turned-through t (λ p' q' u' e'. among-through t p' q' u' e') (turn k i) p q u here)
    | inr later ↦ among-second (occurrences q u) (turned (turn k i) p (λ r. occurrences r t)) (occurrences_of k (suc i) p ts) (each-through ts k (suc i) p q u later)
  ]

-- ---- what a connective passes on occurs

-- not of the other sign
exchanged-sign : (s : Bool) (p : Polarities) → has_sign s (turned_polarities exchanges p) ≡ has_sign (not s) p
exchanged-sign true p = refl
exchanged-sign false p = refl

module _ (os : List Occurrence) (p : Polarities) where
  -- where the polarities are those of the connective, its operands' occurrences are there
  abbrev pub AreHanded : Kind → ℕ → Terms → Type 0
  AreHanded k i ts = (q : Bool) → has_sign q p ≡ true → AreAmong (occurrences_of k i q ts) os

  here-occurs : (s : Bool) (t : Term) (r : Turn) → ((q : Bool) → has_sign q p ≡ true → AreAmong (turned r q (λ x. occurrences x t)) os) → (has_sign true p ≡ true) ⊎ (has_sign false p ≡ true)
      → has_sign s (turned_polarities r p) ≡ true → occurs s t os ≡ true
  here-occurs s t keeps handed some e = occurs-among s t os (handed s e)
  here-occurs s t exchanges handed some e =
      occurs-among s t os (subst (λ x. AreAmong (occurrences x t) os) (not-not s) (handed (not s) (sym (exchanged-sign s p) ∙ e)))
  here-occurs s t takes_both handed some e = by s (elim some [ inl has ↦ handed true has | inr has ↦ handed false has ])
    where
      by : (x : Bool) → AreAmong (occurrences true t ++ occurrences false t) os → occurs x t os ≡ true
      by true both = occurs-among true t os (first-among (occurrences true t) (occurrences false t) os both)
      by false both = occurs-among false t os (second-among (occurrences true t) (occurrences false t) os both)

  pub passed-occurs : (some : (has_sign true p ≡ true) ⊎ (has_sign false p ≡ true)) (k : Kind) (i : ℕ) (ts : Terms) (s : Bool) (u : Term) → AreHanded k i ts → passes k i p s u (list ts) ≡ true → occurs s u os ≡ true
  passed-occurs some k i none s u handed e = absurd cc
  passed-occurs some k i (t ⨾ ts) s u handed e = elim (either_true (has_sign s (turned_polarities (turn k i) p) && term_eq t u) (passes k (suc i) p s u (list ts)) e) [
    | inl here ↦
        let parts = both_true (has_sign s (turned_polarities (turn k i) p)) (term_eq t u) here in
        subst (λ x. occurs s x os ≡ true) ((Decides-term_eq t u).0 parts.1)
        (here-occurs s t (turn k i) (λ q has. first-among (turned (turn k i) q (λ x. occurrences x t)) (occurrences_of k (suc i) q ts) os (handed q has)) some parts.0)
    | inr later ↦ passed-occurs some k (suc i) ts s u (λ q has. second-among (turned (turn k i) q (λ x. occurrences x t)) (occurrences_of k (suc i) q ts) os (handed q has)) later
  ]

  pub handed-on : (some : (has_sign true p ≡ true) ⊎ (has_sign false p ≡ true)) (t : Term) (s : Bool) (u : Term) → ((q : Bool) → has_sign q p ≡ true → AreAmong (occurrences q t) os) → passes_on p s u t ≡ true → occurs s u os ≡ true
  handed-on some (apply h ts) s u there e =
      let parts = both_true (is_connective (kind_of h ts)) (passes (kind_of h ts) 0 p s u (list ts)) e in
      passed-occurs some (kind_of h ts) 0 ts s u (λ q has. operands-among q h ts os parts.0 (there q has)) parts.1
  handed-on some (quantified r xs body) s u there e = absurd cc

-- ---- each part occurs

abbrev pub EitherOccurs : Term → List Occurrence → Type 0
EitherOccurs u os = (occurs true u os ≡ true) ⊎ (occurs false u os ≡ true)

either-among : (u : Term) (ps os : List Occurrence) → AreAmong ps os → EitherOccurs u ps → EitherOccurs u os
either-among u ps os among e = elim e [ inl p ↦ inl (among true u p) | inr n ↦ inr (among false u n) ]

either-itself : (p : Bool) (u : Term) → EitherOccurs u (occurrences p u)
either-itself true u = inl (occurs-itself true u)
either-itself false u = inr (occurs-itself false u)

turned-occurs : (t u : Term) → ((p : Bool) → EitherOccurs u (occurrences p t)) → (r : Turn) (p : Bool) → EitherOccurs u (turned r p (λ s. occurrences s t))
turned-occurs t u each keeps p = each p
turned-occurs t u each exchanges p = each (not p)
turned-occurs t u each takes_both p =
    either-among u (occurrences true t) (occurrences true t ++ occurrences false t) (among-first (occurrences true t) (occurrences true t) (occurrences false t) (among-itself (occurrences true t))) (each true)

opened : (b : Bool) (us : List Term) (u : Term) → has_term (cond b us []) u ≡ true → (b ≡ true) × (has_term us u ≡ true)
opened true us u e = (refl, e)
opened false us u e = absurd cc

mutual
  pub part-occurs : (t : Term) (p : Bool) (u : Term) → has_term (collected has_connective (λ _. true) t) u ≡ true → EitherOccurs u (occurrences p t)
  part-occurs (apply h ts) p u e =
      let below = cond (is_connective (kind_of h ts)) (collected_of has_connective (λ _. true) ts) [] in
      elim (either_true (has_term below u) (has_term (apply h ts ∷ []) u) (sym (has_term-with_new below (apply h ts ∷ []) u) ∙ e)) [
        | inl there ↦
            let inside = opened (is_connective (kind_of h ts)) (collected_of has_connective (λ _. true) ts) u there in
            let os = occurrences_of (kind_of h ts) 0 p ts in
            either-among u os (occurrences p (apply h ts))
            (among-behind os (apply h ts, p) (within (is_connective (kind_of h ts)) os) (subst (λ b. AreAmong os (within b os)) (sym inside.0) (among-itself os)))
            (each-part-occurs ts (kind_of h ts) 0 p u inside.1)
        | inr here ↦ subst (λ x. EitherOccurs x (occurrences p (apply h ts))) (is-one (apply h ts) u here) (either-itself p (apply h ts))
      ]
  part-occurs (quantified q xs body) p u e = subst (λ x. EitherOccurs x (occurrences p (quantified q xs body))) (is-one (quantified q xs body) u e) (either-itself p (quantified q xs body))

  each-part-occurs : (ts : Terms) (k : Kind) (i : ℕ) (p : Bool) (u : Term) → has_term (collected_of has_connective (λ _. true) ts) u ≡ true → EitherOccurs u (occurrences_of k i p ts)
  each-part-occurs none k i p u e = absurd cc
  each-part-occurs (t ⨾ ts) k i p u e =
      let first = collected has_connective (λ _. true) t in
      let others = collected_of has_connective (λ _. true) ts in
      let here = turned (turn k i) p (λ s. occurrences s t) in
      let later = occurrences_of k (suc i) p ts in
      elim (either_true (has_term first u) (has_term others u) (sym (has_term-with_new first others u) ∙ e)) [
        | inl there ↦ either-among u here (here ++ later) (among-first here here later (among-itself here)) (turned-occurs t u (λ q. part-occurs t q u there) (turn k i) p)
        | inr there ↦ either-among u later (here ++ later) (among-second later here later (among-itself later)) (each-part-occurs ts k (suc i) p u there)
      ]
