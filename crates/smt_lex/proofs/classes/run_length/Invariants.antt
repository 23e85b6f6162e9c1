use Rattle.std.proofs.Common.{◌≡◌, ◌+◌, drop}
use Rattle.smt_lex.specs.Lexicon.{is_run_byte, length_while}
use Rattle.smt_lex.proofs.classes.run_length.Given as goal

abbrev pub invariant-loop-i : goal.invariant-loop-i
invariant-loop-i l = length_while is_run_byte l.text ≡ l.i + length_while is_run_byte (drop l.i l.text)
