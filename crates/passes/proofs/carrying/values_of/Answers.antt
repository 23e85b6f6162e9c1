use Rattle.std.proofs.Common.{get_or}
use Rattle.std.proofs.lemmas.Option.{slice_get-get_or}
use Rattle.std.proofs.lemmas.Result.{err_from_is_err_and}
use Rattle.passes.specs.declared.searching.LiveSymbol.{LiveSymbol}
use Rattle.passes.proofs.LiveStages.{narrow_term}
use Rattle.passes.proofs.carrying.values_of.Goals as goal

pub value-requires-clause-narrow : goal.value-requires-clause-narrow
value-requires-clause-narrow c =
    let given = c.args.given.now in
    let i = c.loop-one.one-index in
    let d : LiveSymbol = record { assertion = 0; symbol = record { 0 = 0 }; term = record { 0 = 0 } } in
    narrow_term c.args.table.now given i (get_or given i d) (slice_get-get_or given i d c.loop-one-test.true) c.requires.narrow

pub returns-in_err-value : goal.returns-in_err-value
returns-in_err-value c = let p = err_from_is_err_and c.from_residual.result c.from_residual.ensures.1 in rw (p.1, p.2) tt
