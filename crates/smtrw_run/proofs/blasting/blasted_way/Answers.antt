use Rattle.smtrw_answers.specs.Endings.{blasting_end}
use Rattle.smtrw_answers.specs.Faults.{status_of_blasting}
use Rattle.smtrw_run.specs.Carrying.{EndsOnTheWay}
use Rattle.smtrw_run.proofs.BlastedWays.{blasted_way_is, blasting_refused, passing_on_the_way}
use Rattle.smtrw_run.proofs.CarriedModels.{if_refused}
use Rattle.smtrw_run.proofs.Passages.{script_last}
use Rattle.smtrw_run.proofs.blasting.blasted_way.Goals as goal

pub returns-in_err-passage-clause-ends : goal.returns-in_err-passage-clause-ends
returns-in_err-passage-clause-ends g c =
    let b = c.args.forest.now.bytes in
    let ps = c.args.passes.now in
    let k = c.args.check in
    let status = c.in_err-passage.field-0.0 in
    if_refused _ (EndsOnTheWay b k (blasting_end b ps k)) status c.from_residual.ensures.1 (passing_on_the_way b ps k status c.in_err-passage.ensures.ends)

pub blast_check-requires-clause-last : goal.blast_check-requires-clause-last
blast_check-requires-clause-last g c = script_last c.args.forest.now.bytes c.args.passes.now c.args.check _ c.in_ok-passage.passage c.in_ok-passage.ensures.passage c.requires.rules

pub returns-in_err-blasting-clause-ends : goal.returns-in_err-blasting-clause-ends
returns-in_err-blasting-clause-ends g c =
    let b = c.args.forest.now.bytes in
    let ps = c.args.passes.now in
    let k = c.args.check in
    let fault = c.in_err-blasting.field-0.0 in
    if_refused _ (EndsOnTheWay b k (blasting_end b ps k)) (status_of_blasting fault) c.from_residual-in_err-blasting.ensures.1
    (blasting_refused b ps k _ c.in_ok-passage.passage c.in_ok-passage.ensures.passage c.requires.rules fault c.in_err-blasting.ensures.fault)

pub returns-clause-way : goal.returns-clause-way
returns-clause-way g c =
    blasted_way_is c.args.forest.now.bytes c.args.passes.now c.args.check _ c.in_ok-passage.passage c.in_ok-passage.ensures.passage c.requires.rules c.blast_check.new.table c.in_ok-blasting.blasting c.in_ok-blasting.ensures.grows c.in_ok-blasting.ensures.blasting
    c.blasting_keeps_its_promise.ensures c.scripts_are_blasted.ensures c.blasted_bits_are_live.ensures c.printable_signatures_are_proper.ensures
