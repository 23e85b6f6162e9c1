-- What the reader's calls answer: what a definition gives, or its refusal, or want of memory.
use Rattle.std.specs.Prelude.{◌≡◌, Result, Ok, Err}
use Rattle.script_terms.specs.declared.faults.Fault.{Fault}
use Rattle.script_terms.specs.declared.faults.ReadFault.{ReadFault}
use Rattle.script_terms.specs.declared.faults.ReadFault.TheVariants.{Refused as RefusedFor, Memory}
use Rattle.script_terms.specs.Refusals.{Refused}

abbrev pub refused_seen : Fault → Refused
refused_seen e = record { cause = e.cause; place = e.place }

-- the definition has this refusal, or memory ran out
abbrev pub Refuses : {B : Type 0} → Result B Refused → ReadFault → Type 0
Refuses r (RefusedFor e) = r ≡ Err (refused_seen e)
Refuses r Memory = Unit {0}

-- the answer is the definition's, whose values the code's stand for
abbrev pub Follows : {A B : Type 0} → Result B Refused → (A → B) → Result A ReadFault → Type 0
Follows r value (Ok a) = r ≡ Ok (value a)
Follows r value (Err e) = Refuses r e

-- the same of a call that takes no memory
abbrev pub Agrees : {A B : Type 0} → Result B Refused → (A → B) → Result A Fault → Type 0
Agrees r value (Ok a) = r ≡ Ok (value a)
Agrees r value (Err e) = r ≡ Err (refused_seen e)
