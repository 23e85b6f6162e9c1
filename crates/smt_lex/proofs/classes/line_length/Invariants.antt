use Rattle.std.proofs.Common.{◌≡◌, ◌+◌, drop, not}
use Rattle.smt_lex.specs.Lexicon.{is_line_end, length_while}
use Rattle.smt_lex.proofs.classes.line_length.Given as goal

abbrev pub invariant-loop-i : goal.invariant-loop-i
invariant-loop-i l = length_while (λ b. not (is_line_end b)) l.text ≡ l.i + length_while (λ b. not (is_line_end b)) (drop l.i l.text)
