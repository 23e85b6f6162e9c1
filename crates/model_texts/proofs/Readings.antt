-- What stays true of the elements that are known while parts of a text are read.
use Rattle.std.proofs.Common.{◌≡◌, ◌∙◌, sym, ap, subst, refl, ℕ, Bool, true, false, if◌then◌else◌, List, Result, Ok, Err}
use Rattle.smt_terms.specs.Sorts.{Name}
use Rattle.model_texts.specs.Refusals.{Cause, Refused}
use Rattle.model_texts.specs.Reading.{Element, with_element, Reading, continued, ◌>>=◌, gives, refuses, beside, by_rule, meets}

pub same_answer : {A E : Type 0} (p q : A) → ◌≡◌ {A = Result A E} (Ok p) (Ok q) → p ≡ q
same_answer p q h = cc

pub no_answer : {A E : Type 0} (e : E) (q : A) → Err e ≡ Ok q → ⊥
no_answer e q h = absurd cc

-- a fact that is known of the elements behind a part, where it was before
abbrev pub Keeps : (List Element → Type 0) → {A : Type 0} → Reading A → Type 0
Keeps P {A = A} r = (es fs : List Element) (a : A) → r es ≡ Ok (a, fs) → P es → P fs

module _ (P : List Element → Type 0) where
  pub keeps_gives : {A : Type 0} (a : A) → Keeps P (gives a)
  keeps_gives a es fs b h p = subst P (ap (λ q. q.1) (same_answer (a, es) (b, fs) h)) p

  pub keeps_refuses : {A : Type 0} (cause : Cause) (place : ℕ) → Keeps P {A = A} (refuses cause place)
  keeps_refuses cause place es fs b h p = absurd (no_answer (record { cause = cause; place = place }) (b, fs) h)

  pub keeps_rule : {A : Type 0} (r : Result A Refused) → Keeps P (by_rule r)
  keeps_rule (Ok a) es fs b h p = subst P (ap (λ q. q.1) (same_answer (a, es) (b, fs) h)) p
  keeps_rule (Err e) es fs b h p = absurd (no_answer e (b, fs) h)

  pub keeps_if : {A : Type 0} (b : Bool) (r q : Reading A) → Keeps P r → Keeps P q → Keeps P (if b then r else q)
  keeps_if true r q first second = first
  keeps_if false r q first second = second

  continued_keeps : {A B : Type 0} (next : A → Reading B) (o : Result (A × List Element) Refused) (fs : List Element) (b : B) → ((a : A) → Keeps P (next a))
      → ((p : A × List Element) → o ≡ Ok p → P p.1) → continued next o ≡ Ok (b, fs) → P fs
  continued_keeps next (Ok p) fs b rest first h = rest p.0 p.1 fs b h (first p refl)
  continued_keeps next (Err e) fs b rest first h = absurd (no_answer e (b, fs) h)

  pub keeps_then : {A B : Type 0} (r : Reading A) (next : A → Reading B) → Keeps P r → ((a : A) → Keeps P (next a)) → Keeps P (r >>= next)
  keeps_then r next first rest es fs b h p = continued_keeps next (r es) fs b rest (λ q e. first es q.1 q.0 e p) h

-- a part that is read in two steps was read in both
both_read : {A B : Type 0} (next : A → Reading B) (o : Result (A × List Element) Refused) (b : B) (gs : List Element) → continued next o ≡ Ok (b, gs)
    → (a : A) × ((fs : List Element) × ((o ≡ Ok (a, fs)) × (next a fs ≡ Ok (b, gs))))
both_read next (Ok p) b gs h = (p.0, (p.1, (refl, h)))
both_read next (Err e) b gs h = absurd (no_answer e (b, gs) h)

pub in_steps : {A B : Type 0} (r : Reading A) (next : A → Reading B) (es : List Element) (b : B) (gs : List Element) → (r >>= next) es ≡ Ok (b, gs)
    → (a : A) × ((fs : List Element) × ((r es ≡ Ok (a, fs)) × (next a fs ≡ Ok (b, gs))))
in_steps r next es b gs h = both_read next (r es) b gs h
