use Rattle.std.proofs.Common.{◌≡◌, ◌+◌, drop}
use Rattle.std.specs.Char.{is_ascii_hexdigit}
use Rattle.smt_lex.specs.Lexicon.{length_while}
use Rattle.smt_lex.proofs.classes.hexadecimal_length.Given as goal

abbrev pub invariant-loop-i : goal.invariant-loop-i
invariant-loop-i l = length_while is_ascii_hexdigit l.text ≡ l.i + length_while is_ascii_hexdigit (drop l.i l.text)
