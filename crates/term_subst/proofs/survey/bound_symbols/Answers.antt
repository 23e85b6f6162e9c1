use Rattle.smt_terms.specs.declared.ids.NodeId.{NodeId}
use Rattle.term_table.specs.Formulas.{symbol_at}
use Rattle.term_subst.proofs.Renamed.{variable-at}
use Rattle.term_subst.proofs.Surveyed.{bound-more}
use Rattle.term_subst.proofs.survey.bound_symbols.Goals as goal

pub symbol_of-requires-clause-variable : goal.symbol_of-requires-clause-variable
symbol_of-requires-clause-variable c = variable-at c.args.table.now c.args.variables.now c.loop-variable.variable-index (record { 0 = 0 }) c.loop-variable-test.true c.requires

pub loop-variable-preserved : goal.loop-variable-preserved
loop-variable-preserved c =
    let t = c.args.table.now in
    let d : NodeId = record { 0 = 0 } in record {
      names =
          bound-more t c.args.variables.now c.loop-variable.variable-index d c.loop-variable.bound.keys c.list.new.listed.keys (symbol_at t c.symbol_of.result) c.loop-variable-test.true c.loop-variable.invariant.names c.in_ok-list.ensures.names
          c.symbol_of.ensures.symbol;
      symbols = c.in_ok-list.ensures.symbols;
    }
