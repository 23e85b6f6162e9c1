use Rattle.smt_terms.specs.declared.ids.SymId.{SymId}
use Rattle.dimacs_link.proofs.Numbering.{one_more}
use Rattle.dimacs_link.proofs.numbers.Numbers.of.Goals as goal

pub loop-place-preserved : goal.loop-place-preserved
loop-place-preserved c =
    let d : SymId = record { 0 = 0 } in
    one_more c.args.table.now c.know_table.ensures c.args.constants.now c.requires c.loop-place.place d c.loop-place.numbers c.set.new.self c.loop-place-test.true c.in_ok-set.ensures c.loop-place.invariant
