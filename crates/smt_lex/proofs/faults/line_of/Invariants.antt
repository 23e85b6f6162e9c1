use Rattle.std.proofs.Common.{◌≡◌, ◌+◌, ◌≤◌, eqb, take}
use Rattle.std.specs.Prelude.{count_by}
use Rattle.smt_lex.proofs.faults.line_of.Given as goal

abbrev pub invariant-loop-byte : goal.invariant-loop-byte
invariant-loop-byte l = record { bound : l.line ≤ l.byte-index + 1; counted : l.line ≡ count_by (λ b. eqb b 10) (take l.byte-index l.byte-items) + 1 }
