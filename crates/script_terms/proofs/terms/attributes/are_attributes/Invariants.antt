use Rattle.std.proofs.Common.{◌≡◌, ◌≤◌, ◌-◌, length}
use Rattle.script_terms.specs.Openings.{attributes_from}
use Rattle.script_terms.specs.Parts.{are_attributes}
use Rattle.script_terms.specs.Places.{forms_from}
use Rattle.script_terms.proofs.terms.attributes.are_attributes.Given as goal

abbrev pub invariant-loop-keyword : goal.invariant-loop-keyword
invariant-loop-keyword l = record {
  place : l.i ≤ length l.forest.tokens;
  rest : are_attributes (forms_from l.forest.tokens l.first) ≡ attributes_from l.may_be_value (forms_from l.forest.tokens l.i);
}

abbrev pub decreases-loop-keyword : goal.decreases-loop-keyword
decreases-loop-keyword l = length l.forest.tokens - l.i
