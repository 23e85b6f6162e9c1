use Rattle.std.proofs.Common.{◌≡◌, length, map}
use Rattle.term_walk.specs.Walking.{GrowsTo, Fits}
use Rattle.rule_book.specs.RuledNodes.{IsRuled}
use Rattle.script_read.specs.CommandLists.{commands_of, AreCommandsOf}
use Rattle.passes.proofs.RuledCommands.{RewrittenTo}
use Rattle.passes.proofs.running.ask_rules.Given as goal

abbrev pub invariant-loop-i : goal.invariant-loop-i
invariant-loop-i g l = record {
  count : length l.script.commands ≡ length l.fn.script.commands;
  numbers : AreCommandsOf l.table l.script.commands;
  rewritten : RewrittenTo (map (λ r. r.name.now) l.book.rules.items) l.i (commands_of l.fn.table l.fn.script.commands) (commands_of l.table l.script.commands);
  fits : Fits (IsRuled (map (λ r. r.name.now) l.book.rules.items)) l.table l.kept;
  symbols : l.table.symbols ≡ l.fn.table.symbols;
  grows : GrowsTo l.fn.table l.table;
}
