use Rattle.std.proofs.Common.{◌≡◌, ◌≤◌, count_by}
use Rattle.script_terms.specs.Scope.{popped}
use Rattle.script_terms.specs.Known.{is_mark}
use Rattle.script_terms.proofs.levels.Leveled.close.Given as goal

abbrev pub invariant-loop-left : goal.invariant-loop-left
invariant-loop-left g l = record {
  popped : popped is_mark l.fn.keeps l.left l.self ≡ popped is_mark l.fn.keeps l.fn.n l.fn.self;
  within : l.left ≤ count_by is_mark l.self;
}

abbrev pub decreases-loop-left : goal.decreases-loop-left
decreases-loop-left g l = l.left
