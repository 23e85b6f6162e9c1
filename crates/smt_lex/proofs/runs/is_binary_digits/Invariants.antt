use Rattle.std.proofs.Common.{◌≡◌, drop}
use Rattle.std.specs.List.{list_all}
use Rattle.smt_lex.specs.Lexicon.{is_binary_digit}
use Rattle.smt_lex.proofs.runs.is_binary_digits.Given as goal

abbrev pub invariant-loop-byte : goal.invariant-loop-byte
invariant-loop-byte l = list_all is_binary_digit l.text ≡ list_all is_binary_digit (drop l.byte-index l.text)
