-- Refusals as the code holds them.
use Rattle.std.proofs.Common.{◌≡◌, ℕ, Err, sym, Result, subst}
use Rattle.script_terms.specs.declared.causes.Cause.{Cause}
use Rattle.script_terms.specs.declared.faults.Fault.{Fault}
use Rattle.script_terms.specs.Refusals.{at, Refused}
use Rattle.script_terms.specs.Replies.{refused_seen, Refuses}
use Rattle.script_terms.specs.declared.faults.ReadFault.{ReadFault}
use Rattle.script_terms.specs.declared.faults.ReadFault.TheVariants.{Refused as RefusedFor}

pub refused_at : {A : Type 0} (e : Fault) (cause : Cause) (place : ℕ) → e.cause ≡ cause → e.place ≡ place → at {A = A} cause place ≡ Err (refused_seen e)
refused_at e cause place cause_is place_is = λ i. Err (record { cause = sym cause_is i; place = sym place_is i })

pub refuses_as : {B : Type 0} (r : Result B Refused) (f : ReadFault) (e : Fault) → f ≡ RefusedFor e → r ≡ Err (refused_seen e) → Refuses r f
refuses_as r f e is refused = subst (Refuses r) (sym is) refused
