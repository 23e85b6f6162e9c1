use Rattle.std.proofs.Common.{map}
use Rattle.std.proofs.lemmas.Result.{on_ok_weaker}
use Rattle.normal_forms.specs.Prenex.{prenex}
use Rattle.normal_forms.specs.Quantifiers.{selfsub}
use Rattle.script_read.specs.CommandLists.{commands_of}
use Rattle.pass_laws.specs.declared.names.Pass.TheVariants.{Simplify, Nnf, Aig, Prenex, Reads, Shannon, SelfSub}
use Rattle.pass_laws.specs.Behind.{simplified_form, nnf_form, aig_form, reads_form, shannon_form}
use Rattle.pass_laws.proofs.InForm.{is_simplified_form, is_nnf_form, is_aig_form, is_prenex_form, is_reads_form, is_shannon_form, is_selfsub_form}
use Rattle.passes.proofs.OnePass.{both_ok, led_in_form, led_by_rules}
use Rattle.passes.proofs.Rewritable.{ready_rewritable}
use Rattle.passes.proofs.running.run_rewriter.Goals as goal

pub simplify_each-requires-clause-ready : goal.simplify_each-requires-clause-ready
simplify_each-requires-clause-ready g c = ready_rewritable (commands_of c.args.table.now c.args.script.now.commands) c.args.fresh.now c.requires.ready

pub returns-in-Simplify : goal.returns-in-Simplify
returns-in-Simplify g c =
    let e = c.simplify_each.ensures in
    let led = both_ok c.simplify_each.result
    (led_in_form c.args.pass (commands_of c.args.table.now c.args.script.now.commands) c.args.fresh.now (map (λ r. r.name.now) c.args.book.now.rules.items) c.requires.ready
    c.passes_keep_commands.ensures.pass c.equivalents_have_one_model.ensures c.passes_leave_models.ensures
    Simplify simplified_form c.in-Simplify.is is_simplified_form (commands_of c.simplify_each.new.table c.simplify_each.new.script.commands) c.simplify_each.new.fresh) e.commands e.left in
    record {
      numbers = e.numbers;
      leads = on_ok_weaker c.simplify_each.result (λ l. l.leads) led;
      carried = on_ok_weaker c.simplify_each.result (λ l. l.carried) led;
      later = e.later;
      drawn = e.drawn;
      grows = e.grows;
    }

pub negate-requires-clause-ready : goal.negate-requires-clause-ready
negate-requires-clause-ready g c = ready_rewritable (commands_of c.args.table.now c.args.script.now.commands) c.args.fresh.now c.requires.ready

pub returns-in-Nnf : goal.returns-in-Nnf
returns-in-Nnf g c =
    let e = c.negate.ensures in
    let led = both_ok c.negate.result
    (led_in_form c.args.pass (commands_of c.args.table.now c.args.script.now.commands) c.args.fresh.now (map (λ r. r.name.now) c.args.book.now.rules.items) c.requires.ready
    c.passes_keep_commands.ensures.pass c.equivalents_have_one_model.ensures c.passes_leave_models.ensures
    Nnf nnf_form c.in-Nnf.is is_nnf_form (commands_of c.negate.new.table c.negate.new.script.commands) c.negate.new.fresh) e.commands e.left in
    record {
      numbers = e.numbers;
      leads = on_ok_weaker c.negate.result (λ l. l.leads) led;
      carried = on_ok_weaker c.negate.result (λ l. l.carried) led;
      later = e.later;
      drawn = e.drawn;
      grows = e.grows;
    }

pub invert-requires-clause-ready : goal.invert-requires-clause-ready
invert-requires-clause-ready g c = ready_rewritable (commands_of c.args.table.now c.args.script.now.commands) c.args.fresh.now c.requires.ready

pub returns-in-Aig : goal.returns-in-Aig
returns-in-Aig g c =
    let e = c.invert.ensures in
    let led = both_ok c.invert.result
    (led_in_form c.args.pass (commands_of c.args.table.now c.args.script.now.commands) c.args.fresh.now (map (λ r. r.name.now) c.args.book.now.rules.items) c.requires.ready
    c.passes_keep_commands.ensures.pass c.equivalents_have_one_model.ensures c.passes_leave_models.ensures
    Aig aig_form c.in-Aig.is is_aig_form (commands_of c.invert.new.table c.invert.new.script.commands) c.invert.new.fresh) e.commands e.left in
    record {
      numbers = e.numbers;
      leads = on_ok_weaker c.invert.result (λ l. l.leads) led;
      carried = on_ok_weaker c.invert.result (λ l. l.carried) led;
      later = e.later;
      drawn = e.drawn;
      grows = e.grows;
    }

pub rewrite_each-requires-clause-ready : goal.rewrite_each-requires-clause-ready
rewrite_each-requires-clause-ready g c = ready_rewritable (commands_of c.args.table.now c.args.script.now.commands) c.args.fresh.now c.requires.ready

pub returns-in-Prenex : goal.returns-in-Prenex
returns-in-Prenex g c =
    let e = c.rewrite_each.ensures in
    let led = both_ok c.rewrite_each.result
    (led_in_form c.args.pass (commands_of c.args.table.now c.args.script.now.commands) c.args.fresh.now (map (λ r. r.name.now) c.args.book.now.rules.items) c.requires.ready
    c.passes_keep_commands.ensures.pass c.equivalents_have_one_model.ensures c.passes_leave_models.ensures
    Prenex prenex c.in-Prenex.is is_prenex_form (commands_of c.rewrite_each.new.table c.rewrite_each.new.script.commands) c.rewrite_each.new.fresh) e.commands e.left in
    record {
      numbers = e.numbers;
      leads = on_ok_weaker c.rewrite_each.result (λ l. l.leads) led;
      carried = on_ok_weaker c.rewrite_each.result (λ l. l.carried) led;
      later = e.later;
      drawn = e.drawn;
      grows = e.grows;
    }

pub tell_reads-requires-clause-ready : goal.tell_reads-requires-clause-ready
tell_reads-requires-clause-ready g c = ready_rewritable (commands_of c.args.table.now c.args.script.now.commands) c.args.fresh.now c.requires.ready

pub returns-in-Reads : goal.returns-in-Reads
returns-in-Reads g c =
    let e = c.tell_reads.ensures in
    let led = both_ok c.tell_reads.result
    (led_in_form c.args.pass (commands_of c.args.table.now c.args.script.now.commands) c.args.fresh.now (map (λ r. r.name.now) c.args.book.now.rules.items) c.requires.ready
    c.passes_keep_commands.ensures.pass c.equivalents_have_one_model.ensures c.passes_leave_models.ensures
    Reads reads_form c.in-Reads.is is_reads_form (commands_of c.tell_reads.new.table c.tell_reads.new.script.commands) c.tell_reads.new.fresh) e.commands e.left in
    record {
      numbers = e.numbers;
      leads = on_ok_weaker c.tell_reads.result (λ l. l.leads) led;
      carried = on_ok_weaker c.tell_reads.result (λ l. l.carried) led;
      later = e.later;
      drawn = e.drawn;
      grows = e.grows;
    }

pub rewrite_each-requires-in-Shannon-clause-ready : goal.rewrite_each-requires-in-Shannon-clause-ready
rewrite_each-requires-in-Shannon-clause-ready g c = ready_rewritable (commands_of c.args.table.now c.args.script.now.commands) c.args.fresh.now c.requires.ready

pub returns-in-Shannon : goal.returns-in-Shannon
returns-in-Shannon g c =
    let e = c.rewrite_each-in-Shannon.ensures in
    let led = both_ok c.rewrite_each-in-Shannon.result
    (led_in_form c.args.pass (commands_of c.args.table.now c.args.script.now.commands) c.args.fresh.now (map (λ r. r.name.now) c.args.book.now.rules.items) c.requires.ready
    c.passes_keep_commands.ensures.pass c.equivalents_have_one_model.ensures c.passes_leave_models.ensures
    Shannon shannon_form c.in-Shannon.is is_shannon_form (commands_of c.rewrite_each-in-Shannon.new.table c.rewrite_each-in-Shannon.new.script.commands) c.rewrite_each-in-Shannon.new.fresh) e.commands e.left in
    record {
      numbers = e.numbers;
      leads = on_ok_weaker c.rewrite_each-in-Shannon.result (λ l. l.leads) led;
      carried = on_ok_weaker c.rewrite_each-in-Shannon.result (λ l. l.carried) led;
      later = e.later;
      drawn = e.drawn;
      grows = e.grows;
    }

pub rewrite_each-requires-in-SelfSub-clause-ready : goal.rewrite_each-requires-in-SelfSub-clause-ready
rewrite_each-requires-in-SelfSub-clause-ready g c = ready_rewritable (commands_of c.args.table.now c.args.script.now.commands) c.args.fresh.now c.requires.ready

pub returns-in-SelfSub : goal.returns-in-SelfSub
returns-in-SelfSub g c =
    let e = c.rewrite_each-in-SelfSub.ensures in
    let led = both_ok c.rewrite_each-in-SelfSub.result
    (led_in_form c.args.pass (commands_of c.args.table.now c.args.script.now.commands) c.args.fresh.now (map (λ r. r.name.now) c.args.book.now.rules.items) c.requires.ready
    c.passes_keep_commands.ensures.pass c.equivalents_have_one_model.ensures c.passes_leave_models.ensures
    SelfSub selfsub c.in-SelfSub.is is_selfsub_form (commands_of c.rewrite_each-in-SelfSub.new.table c.rewrite_each-in-SelfSub.new.script.commands) c.rewrite_each-in-SelfSub.new.fresh) e.commands e.left in
    record {
      numbers = e.numbers;
      leads = on_ok_weaker c.rewrite_each-in-SelfSub.result (λ l. l.leads) led;
      carried = on_ok_weaker c.rewrite_each-in-SelfSub.result (λ l. l.carried) led;
      later = e.later;
      drawn = e.drawn;
      grows = e.grows;
    }

pub returns-in-Rules-clause-leads : goal.returns-in-Rules-clause-leads
returns-in-Rules-clause-leads g c =
    on_ok_weaker c.ask_rules.result
    (λ rewrites. (led_by_rules c.args.pass (commands_of c.args.table.now c.args.script.now.commands) c.args.fresh.now (map (λ r. r.name.now) c.args.book.now.rules.items) c.requires.ready
    c.rules_keep_commands.ensures c.equivalents_have_one_model.ensures c.passes_leave_models.ensures
    c.in-Rules.is (commands_of c.ask_rules.new.table c.ask_rules.new.script.commands) rewrites).leads)
    c.ask_rules.ensures.rewrites

pub returns-in-Rules-clause-carried : goal.returns-in-Rules-clause-carried
returns-in-Rules-clause-carried g c =
    on_ok_weaker c.ask_rules.result
    (λ rewrites. (led_by_rules c.args.pass (commands_of c.args.table.now c.args.script.now.commands) c.args.fresh.now (map (λ r. r.name.now) c.args.book.now.rules.items) c.requires.ready
    c.rules_keep_commands.ensures c.equivalents_have_one_model.ensures c.passes_leave_models.ensures
    c.in-Rules.is (commands_of c.ask_rules.new.table c.ask_rules.new.script.commands) rewrites).carried)
    c.ask_rules.ensures.rewrites
