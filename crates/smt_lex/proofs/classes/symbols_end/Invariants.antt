use Rattle.std.proofs.Common.{◌≡◌, ◌+◌, ◌-◌, ◌≤◌, length, drop}
use Rattle.smt_lex.specs.Lexicon.{is_symbol_byte, length_while}
use Rattle.smt_lex.proofs.classes.symbols_end.Given as goal

abbrev pub invariant-loop-at : goal.invariant-loop-at
invariant-loop-at l = record {
  after : l.from ≤ l.at;
  within : l.at ≤ length l.bytes;
  so_far : l.from + length_while is_symbol_byte (drop l.from l.bytes) ≡ l.at + length_while is_symbol_byte (drop l.at l.bytes);
}

abbrev pub decreases-loop-at : goal.decreases-loop-at
decreases-loop-at l = length l.bytes - l.at
