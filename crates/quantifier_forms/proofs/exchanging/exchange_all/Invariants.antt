use Rattle.std.proofs.Common.{◌≡◌}
use Rattle.term_walk.specs.Walking.{GrowsTo}
use Rattle.quantifier_forms.specs.Exchanging.{AreExchanged}
use Rattle.quantifier_forms.specs.Reaching.{AreBare}
use Rattle.quantifier_forms.proofs.Exchanged.{AreSettled}
use Rattle.quantifier_forms.proofs.exchanging.exchange_all.Given as goal

abbrev pub invariant-loop-id : goal.invariant-loop-id
invariant-loop-id l = record {
  grows : GrowsTo l.fn.table l.table;
  symbols : l.table.symbols ≡ l.fn.table.symbols;
  bare : AreBare l.table l.bare.keys;
  exchanged : AreExchanged l.table l.exchange l.memo;
  settled : AreSettled l.table l.exchange l.memo l.order l.id-index;
}
