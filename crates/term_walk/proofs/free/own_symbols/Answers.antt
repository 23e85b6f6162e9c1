use Rattle.std.proofs.Common.{◌∙◌, arith}
use Rattle.term_walk.proofs.FreeScan.{own-step, own-all}
use Rattle.term_walk.proofs.free.own_symbols.Goals as goal

pub loop-id-preserved : goal.loop-id-preserved
loop-id-preserved c = record {
  names = own-step c.args.table.now c.loop-id.listed.keys c.list_own.new.listed.keys c.args.ids.now c.loop-id.id-index (record { 0 = 0 }) c.loop-id-test.true c.loop-id.invariant.names c.in_ok-list_own.ensures.names;
  symbols = c.in_ok-list_own.ensures.symbols;
}

pub returns-clause-names : goal.returns-clause-names
returns-clause-names c f = let past = c.loop-id-test.false in c.loop-id.invariant.names f ∙ own-all c.args.table.now c.args.ids.now c.loop-id.id-index f (omega arith)
