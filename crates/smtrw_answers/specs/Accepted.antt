-- A text that doesn't end the run is accepted: what is known where there is no end.
use Rattle.std.specs.Prelude.{◌≡◌, ℕ, Bool, true, false, nat_lt, if◌then◌else◌, List, length, Option, Some, None, option_map}
use Rattle.std.proofs.Common.{refl}
use Rattle.script_read.specs.Script.{fault}
use Rattle.smtrw_answers.specs.declared.status.Status.TheVariants.{Refused}
use Rattle.smtrw_answers.specs.Endings.{longest_text, refusal_of, too_long, script_end}

pub nothing_mapped : {A B : Type 0} (f : A → B) (o : Option A) → option_map f o ≡ None → o ≡ None
nothing_mapped f None is = refl
nothing_mapped f (Some a) is = absurd cc

pub nothing_first : {A : Type 0} (b : Bool) (a : A) (o : Option A) → (if b then Some a else o) ≡ None → o ≡ None
nothing_first true a o is = absurd cc
nothing_first false a o is = is

pub accepted_text : (b : List ℕ) → script_end b ≡ None → fault b ≡ None
accepted_text b is = nothing_mapped refusal_of (fault b) (nothing_first (nat_lt longest_text (length b)) (Refused too_long) (option_map refusal_of (fault b)) is)
