-- What is known where a test gave something.
use Rattle.std.proofs.Common.{◌≡◌, refl, Bool, true, false, ℕ, Result, Ok, Err, Option, Some, None}
use Rattle.script_terms.specs.declared.causes.Cause.{Cause}
use Rattle.script_terms.specs.Refusals.{Refused, and_then, unless, mapped, given}

pub and_then_ok : {A B E : Type 0} (k : A → Result B E) (r : Result A E) (b : B) → and_then k r ≡ Ok b → (a : A) × (r ≡ Ok a) × (k a ≡ Ok b)
and_then_ok k (Ok a) b h = (a, refl, h)
and_then_ok k (Err e) b h = absurd (cc)

pub mapped_ok : {A B E : Type 0} (f : A → B) (r : Result A E) (b : B) → mapped f r ≡ Ok b → (a : A) × (r ≡ Ok a) × (f a ≡ b)
mapped_ok f (Ok a) b h = (a, refl, cc)
mapped_ok f (Err e) b h = absurd (cc)

pub unless_ok : {A : Type 0} (test : Bool) (cause : Cause) (place : ℕ) (r : Result A Refused) (a : A) → unless test cause place r ≡ Ok a → r ≡ Ok a
unless_ok true cause place r a h = absurd (cc)
unless_ok false cause place r a h = h

pub given_ok : {A : Type 0} (cause : Cause) (place : ℕ) (o : Option A) (a : A) → given cause place o ≡ Ok a → o ≡ Some a
given_ok cause place (Some b) a h = cc
given_ok cause place None a h = absurd (cc)

pub ok_same : {A E : Type 0} (a b : A) (r : Result A E) → r ≡ Ok a → r ≡ Ok b → a ≡ b
ok_same a b r h k = cc
