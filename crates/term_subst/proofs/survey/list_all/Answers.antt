use Rattle.std.proofs.Common.{◌∙◌}
use Rattle.term_subst.proofs.SymbolLists.{list-step}
use Rattle.term_subst.proofs.survey.list_all.Goals as goal

pub loop-symbol-preserved : goal.loop-symbol-preserved
loop-symbol-preserved c = record {
  names = list-step c.args.table.now c.loop-symbol.listed.keys c.list.new.listed.keys c.args.symbols.now c.loop-symbol.symbol-index (record { 0 = 0 }) c.loop-symbol-test.true c.requires.once c.in_ok-list.ensures.names ∙ c.loop-symbol.invariant.names;
  symbols = c.in_ok-list.ensures.symbols;
}
