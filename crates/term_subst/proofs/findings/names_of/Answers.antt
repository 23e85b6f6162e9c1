use Rattle.smt_terms.specs.declared.ids.SymId.{SymId}
use Rattle.term_subst.proofs.NamesFound.{names-more}
use Rattle.term_subst.proofs.findings.names_of.Goals as goal

pub loop-symbol-preserved : goal.loop-symbol-preserved
loop-symbol-preserved c =
    let d : SymId = record { 0 = 0 } in
    names-more c.args.table.now c.args.symbols.now c.loop-symbol.symbol-index d c.loop-symbol.names c.add.new.self c.symbol_name.result.now c.loop-symbol-test.true c.loop-symbol.invariant c.in_ok-add.ensures.ok c.symbol_name.ensures.name
