use Rattle.std.proofs.Common.{◌≡◌, ◌≤◌, ◌^◌, drop}
use Rattle.std.specs.Str.Parse.{digits_value, digits_value_after}
use Rattle.script_terms.specs.Places.{capped}
use Rattle.script_terms.proofs.places.capped_value.Given as goal

abbrev pub invariant-loop-digit : goal.invariant-loop-digit
invariant-loop-digit l = (capped (digits_value_after 10 l.value (drop l.digit-index l.digits)) ≡ capped (digits_value 10 l.digits)) × (l.value ≤ 2 ^ 127)
