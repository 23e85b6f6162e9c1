use Rattle.std.proofs.Common.{◌≡◌, ◌+◌, drop, not, eqb}
use Rattle.smt_lex.specs.Lexicon.{length_while}
use Rattle.smt_lex.proofs.classes.length_until.Given as goal

abbrev pub invariant-loop-i : goal.invariant-loop-i
invariant-loop-i l = length_while (λ b. not (eqb b l.stop)) l.text ≡ l.i + length_while (λ b. not (eqb b l.stop)) (drop l.i l.text)
