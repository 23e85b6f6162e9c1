use Rattle.std.proofs.Common.{◌≡◌, ◌+◌, ◌*◌, ◌^◌, ◌≤◌, take}
use Rattle.std.specs.Str.Parse.{digits_value}
use Rattle.script_terms.proofs.numbers.short_number.Given as goal

-- digits count as at most 36, so the number is below 4 * 16 ^ i - 2 after i of them
abbrev pub invariant-loop-digit : goal.invariant-loop-digit
invariant-loop-digit l = (l.number ≡ digits_value l.radix (take l.digit-index l.digits)) × (l.number + 3 ≤ 4 * 16 ^ l.digit-index)
