use Rattle.std.proofs.Common.{◌≡◌, ◌++◌, length, take, All}
use Rattle.term_groups.specs.Seen.{named_at}
use Rattle.term_table.specs.Formulas.{trees_at, AreNodes}
use Rattle.term_walk.specs.Walking.{GrowsTo}
use Rattle.ackermann.specs.Ackermann.{pairs}
use Rattle.ackermann.specs.LiveUses.{named_uses, IsUseIn, IsSettled}
use Rattle.ackermann.specs.Replacing.{all_named}
use Rattle.ackermann.proofs.entering.enter_all.Given as goal

abbrev pub invariant-loop-i : goal.invariant-loop-i
invariant-loop-i l = record {
  grows : GrowsTo l.fn.table l.table;
  symbols : l.table.symbols ≡ l.fn.table.symbols;
  kept : take (length l.fn.uses) l.uses ≡ l.fn.uses;
  named : named_uses l.table l.uses ≡ named_uses l.fn.table l.fn.uses ++ take l.i (named_at l.fn.table l.constants.symbols);
  each : All (IsUseIn l.table) l.uses;
  settled : All (IsSettled l.table (all_named l.fn.table l.fn.uses l.constants)) l.uses;
  nodes : AreNodes l.table l.asserts;
  terms : trees_at l.table l.asserts ≡ pairs (all_named l.fn.table l.fn.uses l.constants) (named_uses l.fn.table l.fn.uses) (take l.i (named_at l.fn.table l.constants.symbols));
}
