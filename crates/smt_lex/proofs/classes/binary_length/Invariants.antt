use Rattle.std.proofs.Common.{◌≡◌, ◌+◌, drop}
use Rattle.smt_lex.specs.Lexicon.{is_binary_digit, length_while}
use Rattle.smt_lex.proofs.classes.binary_length.Given as goal

abbrev pub invariant-loop-i : goal.invariant-loop-i
invariant-loop-i l = length_while is_binary_digit l.text ≡ l.i + length_while is_binary_digit (drop l.i l.text)
