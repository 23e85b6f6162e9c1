use Rattle.std.proofs.Common.{◌∙◌, ap, arith, filter, not}
use Rattle.std.proofs.lemmas.List.{take_all}
use Rattle.smt_terms.specs.Free.{is_among}
use Rattle.term_walk.specs.FreeLists.{named}
use Rattle.term_subst.proofs.SymbolLists.{unbound-step}
use Rattle.term_subst.proofs.survey.unbound.Goals as goal

pub loop-symbol-preserved : goal.loop-symbol-preserved
loop-symbol-preserved c = record {
  names = unbound-step c.args.table.now c.args.bound.now.keys c.loop-symbol.free.items c.keep_unbound.new.free.items c.args.symbols.now c.loop-symbol.symbol-index (record { 0 = 0 }) c.loop-symbol-test.true c.loop-symbol.invariant.names c.in_ok-keep_unbound.ensures.names;
  symbols = c.in_ok-keep_unbound.ensures.symbols;
}

pub returns-clause-names : goal.returns-clause-names
returns-clause-names c =
    let past = c.loop-symbol-test.false in
    c.loop-symbol.invariant.names ∙ ap (λ fs. filter (λ f. not (is_among (named c.args.table.now c.args.bound.now.keys) f)) (named c.args.table.now fs)) (take_all c.loop-symbol.symbol-index c.args.symbols.now (omega arith))
