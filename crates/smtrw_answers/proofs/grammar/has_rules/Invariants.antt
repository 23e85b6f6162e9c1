use Rattle.std.proofs.Common.{◌≡◌, false, take}
use Rattle.std.specs.List.{list_any}
use Rattle.smtrw_answers.specs.Words.{is_rules}
use Rattle.smtrw_answers.proofs.grammar.has_rules.Given as goal

abbrev pub invariant-loop-i : goal.invariant-loop-i
invariant-loop-i l = list_any is_rules (take l.i l.passes) ≡ false
