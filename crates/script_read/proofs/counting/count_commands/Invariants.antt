use Rattle.std.proofs.Common.{◌≡◌, ◌+◌, ◌-◌, ◌≤◌, length}
use Rattle.smt_lex.specs.Forms.{list}
use Rattle.script_terms.specs.Places.{forms_from}
use Rattle.script_read.proofs.counting.count_commands.Given as goal

abbrev pub invariant-loop-at : goal.invariant-loop-at
invariant-loop-at l = record {
  place : l.at ≤ length l.forest.tokens;
  few : l.count ≤ l.at;
  counted : l.count + length (list (forms_from l.forest.tokens l.at)) ≡ length (list (forms_from l.forest.tokens 0));
}

abbrev pub decreases-loop-at : goal.decreases-loop-at
decreases-loop-at l = length l.forest.tokens - l.at
