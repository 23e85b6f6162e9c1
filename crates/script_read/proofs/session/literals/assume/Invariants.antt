use Rattle.std.proofs.Common.{◌≡◌, ◌-◌, ◌≤◌, ◌++◌, length}
use Rattle.term_table.specs.Formulas.{trees_at, AreNodes}
use Rattle.term_walk.specs.Walking.{GrowsTo}
use Rattle.script_terms.specs.Places.{forms_from}
use Rattle.script_terms.specs.Refusals.{mapped}
use Rattle.script_read.specs.Script.{Standing, live_of, literals_in}
use Rattle.script_read.specs.Steps.{StandsAt}
use Rattle.script_read.proofs.session.literals.assume.Given as goal

abbrev pub invariant-loop-table : goal.invariant-loop-table
invariant-loop-table l = record {
  within : l.at ≤ length l.forest.tokens;
  grows : GrowsTo l.fn.table l.table;
  nodes : AreNodes l.table l.literals;
  read : (s : Standing) → StandsAt l.fn.table l.fn.session s → literals_in (live_of s) (forms_from l.forest.tokens l.fn.i) ≡ mapped (λ us. trees_at l.table l.literals ++ us) (literals_in (live_of s) (forms_from l.forest.tokens l.at));
}

abbrev pub decreases-loop-table : goal.decreases-loop-table
decreases-loop-table l = length l.forest.tokens - l.at
