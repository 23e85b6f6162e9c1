use Rattle.std.proofs.Common.{◌∙◌, [], ap, refl, map}
use Rattle.std.proofs.lemmas.List.Elements.{All-cons, All-nil}
use Rattle.script_read.specs.CommandLists.{commands_of}
use Rattle.pass_laws.specs.declared.names.Pass.TheVariants.{Ite, Cnf}
use Rattle.pass_laws.specs.Passed.{refused_by}
use Rattle.passes.specs.Plans.{IsStageOver}
use Rattle.passes.specs.Removing.{IsStageKept}
use Rattle.passes.proofs.OnePass.{led_by_removal, led_in_groups}
use Rattle.passes.proofs.PlannedLists.{stage_kept, stage_told, stage_over, stage_removed}
use Rattle.passes.proofs.Rewritable.{ready_rewritable}
use Rattle.passes.proofs.running.run_pass.Goals as goal

pub group_each-requires-clause-ready : goal.group_each-requires-clause-ready
group_each-requires-clause-ready g c = ready_rewritable (commands_of c.args.table.now c.args.script.now.commands) c.args.fresh.now c.requires.ready

pub group_each-requires-in-Cnf-clause-ready : goal.group_each-requires-in-Cnf-clause-ready
group_each-requires-in-Cnf-clause-ready g c = ready_rewritable (commands_of c.args.table.now c.args.script.now.commands) c.args.fresh.now c.requires.ready

pub returns-in_ok-stage-in-Ite : goal.returns-in_ok-stage-in-Ite
returns-in_ok-stage-in-Ite g c =
    let e = c.in_ok-stage-in-Ite.ensures in
    let cs = commands_of c.args.table.now c.args.script.now.commands in
    let s = c.args.fresh.now in
    let u = c.group_each.new.table in
    let st = c.in_ok-stage-in-Ite.stage in
    let led =
    led_in_groups c.args.pass cs s (map (λ r. r.name.now) c.args.book.now.rules.items) c.requires.ready c.groups_carry_models.ensures
    Ite c.in-Ite.is refl (commands_of u c.group_each.new.script.commands) c.group_each.new.fresh e.commands e.left in
    record {
      numbers = e.numbers;
      leads = led.leads;
      carried = led.carried;
      refused = ap (λ q. refused_by q cs) c.in-Ite.is;
      stage = stage_told u c.args.pass cs s Ite c.in-Ite.is refl st e.stage e.uses;
      over = stage_over u c.args.pass cs s c.drawn_symbols_have_sorts.ensures c.requires.ready Ite c.in-Ite.is refl st e.stage e.uses;
      kept = stage_kept u c.args.pass cs s st e.uses;
      later = e.later;
      drawn = e.drawn;
      grows = e.grows;
    }

pub returns-in_ok-stage-in-Cnf : goal.returns-in_ok-stage-in-Cnf
returns-in_ok-stage-in-Cnf g c =
    let e = c.in_ok-stage-in-Cnf.ensures in
    let cs = commands_of c.args.table.now c.args.script.now.commands in
    let s = c.args.fresh.now in
    let u = c.group_each-in-Cnf.new.table in
    let st = c.in_ok-stage-in-Cnf.stage in
    let led =
    led_in_groups c.args.pass cs s (map (λ r. r.name.now) c.args.book.now.rules.items) c.requires.ready c.groups_carry_models.ensures
    Cnf c.in-Cnf.is refl (commands_of u c.group_each-in-Cnf.new.script.commands) c.group_each-in-Cnf.new.fresh e.commands e.left in
    record {
      numbers = e.numbers;
      leads = led.leads;
      carried = led.carried;
      refused = ap (λ q. refused_by q cs) c.in-Cnf.is;
      stage = stage_told u c.args.pass cs s Cnf c.in-Cnf.is refl st e.stage e.uses;
      over = stage_over u c.args.pass cs s c.drawn_symbols_have_sorts.ensures c.requires.ready Cnf c.in-Cnf.is refl st e.stage e.uses;
      kept = stage_kept u c.args.pass cs s st e.uses;
      later = e.later;
      drawn = e.drawn;
      grows = e.grows;
    }

pub returns-in_ok-stage-in-Ackermann : goal.returns-in_ok-stage-in-Ackermann
returns-in_ok-stage-in-Ackermann g c =
    let e = c.in_ok-stage-in-Ackermann.ensures in
    let cs = commands_of c.args.table.now c.args.script.now.commands in
    let s = c.args.fresh.now in
    let u = c.remove_each.new.table in
    let st = c.in_ok-stage-in-Ackermann.stage in
    let led =
    led_by_removal c.args.pass cs s (map (λ r. r.name.now) c.args.book.now.rules.items) c.requires.ready c.removals_carry_models.ensures
    c.in-Ackermann.is e.refused (commands_of u c.remove_each.new.script.commands) c.remove_each.new.fresh e.commands e.left in
    record {
      numbers = e.numbers;
      leads = led.leads;
      carried = led.carried;
      refused = ap (λ q. refused_by q cs) c.in-Ackermann.is ∙ e.refused;
      stage = stage_removed u c.args.pass cs s c.in-Ackermann.is st e.stage;
      over = All-cons (IsStageOver u) st [] e.over (All-nil (IsStageOver u));
      kept = All-cons (IsStageKept u) st [] e.kept (All-nil (IsStageKept u));
      later = e.later;
      drawn = e.drawn;
      grows = e.grows;
    }
