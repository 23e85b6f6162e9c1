use Rattle.std.proofs.Common.{◌≡◌, ◌*◌, ◌/◌, ◌-◌, ◌^◌, ◌++◌, [], ◌+◌, ◌≤◌}
use Rattle.std.specs.Prelude.{vec_len, vec_capacity}
use Rattle.term_table.specs.WrittenForms.{last_digits}
use Rattle.term_table.proofs.text.push_digits.Given as goal

-- the highest digits are written
abbrev pub invariant-loop-k : goal.invariant-loop-k
invariant-loop-k l = record {
  text : l.out.items ≡ l.initial.out.items ++ last_digits (2 ^ l.size) l.k (l.bits / 2 ^ (l.size * (l.count - l.k))) [];
  room : vec_len l.initial.out + l.count ≤ vec_capacity l.initial.out → vec_len l.out + (l.count - l.k) ≤ vec_capacity l.out;
}
