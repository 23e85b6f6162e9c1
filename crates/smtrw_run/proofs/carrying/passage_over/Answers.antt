use Rattle.std.proofs.Common.{List, arith}
use Rattle.smt_terms.specs.Fresh.{Supply}
use Rattle.smt_terms.specs.Term.{Term}
use Rattle.script_read.specs.CommandLists.{commands_of}
use Rattle.script_read.specs.Commands.{Command}
use Rattle.pass_laws.specs.Laws.{IsReady}
use Rattle.smtrw_answers.specs.declared.status.Status.TheVariants.{OutOfMemory}
use Rattle.smtrw_answers.specs.Endings.{passes_end}
use Rattle.smtrw_answers.specs.Faults.{status_of_passing}
use Rattle.smtrw_run.specs.declared.carrying.Way.{Way}
use Rattle.smtrw_run.specs.Carrying.{EndsOnTheWay}
use Rattle.smtrw_run.proofs.CarriedModels.{if_refused}
use Rattle.smtrw_run.proofs.Commanded.{checks_are}
use Rattle.smtrw_run.proofs.Ways.{carried_from, leads_over, led_from, refused_way, same_checks, script_on_the_way, way_is}
use Rattle.smtrw_run.proofs.carrying.passage_over.Goals as goal

pub run_passes-requires-clause-ready : goal.run_passes-requires-clause-ready
run_passes-requires-clause-ready g c =
    let b = c.args.forest.now.bytes in
    let read : List (Command Term) × Supply = (commands_of c.read_with_check.new.table c.in_ok-begun.begun.script.commands, c.in_ok-begun.begun.fresh) in
    let reads = c.in_ok-begun.ensures.begun.reads in
    let ready : IsReady read.0 read.1 = record { printable = c.reading_gives_a_printable_script.ensures b read reads; names = c.names_left_are_new.ensures b read reads } in
    ready

pub returns-in_err-begun-clause-ends : goal.returns-in_err-begun-clause-ends
returns-in_err-begun-clause-ends g c =
    let b = c.args.forest.now.bytes in
    let ps = c.args.passes.now in
    let k = c.args.check in
    let status = c.in_err-begun.field-0.0 in
    if_refused _ (EndsOnTheWay b k (passes_end b ps)) status c.from_residual.ensures.1 (script_on_the_way b k (passes_end b ps) status c.in_err-begun.ensures.ends)

pub returns-in_err-script-clause-ends : goal.returns-in_err-script-clause-ends
returns-in_err-script-clause-ends g c =
    let b = c.args.forest.now.bytes in
    let ps = c.args.passes.now in
    let k = c.args.check in
    let fault = c.in_err-script.field-0.0 in
    let begun = c.in_ok-begun.ensures.begun in
    let read : List (Command Term) × Supply = (commands_of c.read_with_check.new.table c.in_ok-begun.begun.script.commands, c.in_ok-begun.begun.fresh) in
    let last = begun.last in
    let checks = checks_are c.read_with_check.new.table c.in_ok-begun.begun.script.commands in
    if_refused _ (EndsOnTheWay b k (passes_end b ps)) (status_of_passing fault) c.from_residual-in_err-script.ensures.1
    (refused_way b ps k read begun.reads c.requires.short (omega (arith, last, checks)) fault c.in_err-script.ensures.refused)

pub signature_at-requires-clause-last : goal.signature_at-requires-clause-last
signature_at-requires-clause-last g c =
    let old = c.read_with_check.new.table in
    let new = c.run_passes.new.table in
    let before = checks_are old c.in_ok-begun.begun.script.commands in
    let behind = checks_are new c.in_ok-script.script.commands in
    let same = same_checks (commands_of old c.in_ok-begun.begun.script.commands) (commands_of new c.in_ok-script.script.commands) c.in_ok-script.ensures.carried.models.kinds in
    let last = c.in_ok-begun.ensures.begun.last in
    omega (arith, before, behind, same, last)

pub returns-in_err-behind-clause-ends : goal.returns-in_err-behind-clause-ends
returns-in_err-behind-clause-ends g c = if_refused _ (EndsOnTheWay c.args.forest.now.bytes c.args.check (passes_end c.args.forest.now.bytes c.args.passes.now)) OutOfMemory c.from_residual-in_err-behind.ensures.1 tt

pub returns-clause-passage : goal.returns-clause-passage
returns-clause-passage g c =
    let b = c.args.forest.now.bytes in
    let ps = c.args.passes.now in
    let k = c.args.check in
    let old = c.read_with_check.new.table in
    let new = c.run_passes.new.table in
    let begun = c.in_ok-begun.ensures.begun in
    let cs = commands_of old c.in_ok-begun.begun.script.commands in
    let s = c.in_ok-begun.begun.fresh in
    let ds = commands_of new c.in_ok-script.script.commands in
    let r = c.run_passes.new.fresh in
    let ready : IsReady cs s = record { printable = c.reading_gives_a_printable_script.ensures b (cs, s) begun.reads; names = c.names_left_are_new.ensures b (cs, s) begun.reads } in
    let order = c.know_passes.ensures in
    let carried = c.in_ok-script.ensures.carried in
    let led = c.signatures_stay_led.ensures ps cs s _ ds r k ready order c.in_ok-script.ensures.leads in
    let law = c.printable_signatures_are_proper.ensures in
    let way : Way = record { table = new; plan = c.in_ok-script.plan; before = c.in_ok-begun.begun.before; behind = c.in_ok-behind.behind } in
    let grows = c.in_ok-script.ensures.grows in
    let last = checks_are old c.in_ok-begun.begun.script.commands in
    let few = begun.last in
    let is_way = way_is b ps k cs ds s r ready carried led law old way grows begun.reads c.requires.short c.in_ok-script.ensures.refused
    (leads_over b ps k cs ds s r ready carried led law old way grows c.requires.first (omega (arith, last, few)) order begun.live begun.before c.in_ok-behind.ensures.numbers c.in_ok-behind.ensures.signature c.in_ok-script.ensures.over c.in_ok-script.ensures.plan) in
    record {
      way = is_way;
      numbers = c.in_ok-script.ensures.numbers;
      leads = led_from b (cs, s) begun.reads ps _ ds r c.in_ok-script.ensures.leads;
      carried = carried_from b (cs, s) begun.reads ps ds r carried;
      kept = c.in_ok-script.ensures.kept;
    }
