use Rattle.std.proofs.Common.{arith}
use Rattle.smt_terms.specs.declared.ids.NodeId.{NodeId}
use Rattle.cnf_polarity.proofs.NotedPolarities.{noted-root, noted-more, noted-all}
use Rattle.cnf_polarity.proofs.polarities.all_occurrences.Goals as goal

pub loop-place-init : goal.loop-place-init
loop-place-init c = record {
  within = omega arith;
  noted = noted-root c.args.table.now c.know_table.ensures c.args.root c.new.result.entries c.add.new.self _ c.args.order.now c.new.ensures.empty (omega arith) c.requires.root c.in_ok-add.ensures;
}

pub loop-place-preserved : goal.loop-place-preserved
loop-place-preserved c =
    let d : NodeId = record { 0 = 0 } in
    let within = c.loop-place.invariant.within in
    let some = c.loop-place-test.true in
    record {
      within = omega arith;
      noted =
          noted-more c.args.table.now c.args.root c.args.order.now c.requires.parts c.requires.reached c.loop-place.place _ d c.loop-place.occurrences c.pass_on.new.occurrences
          (omega arith) (omega arith) (c.requires.nodes _ d (omega arith)) c.loop-place.invariant.noted c.in_ok-pass_on.ensures;
    }

pub returns : goal.returns
returns c = noted-all c.args.table.now c.args.root c.args.order.now c.requires.parts c.requires.reached c.loop-place.place c.loop-place.occurrences (let done = c.loop-place-test.false in omega arith) c.loop-place.invariant.noted
