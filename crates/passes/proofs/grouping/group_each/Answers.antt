use Rattle.std.proofs.Common.{◌≡◌, ◌∙◌, ◌+◌, ◌++◌, ap, refl, sym, subst, length, arith, option_to_list, append-nil}
use Rattle.std.proofs.lemmas.List.{length-map, length-set, take_all}
use Rattle.std.proofs.lemmas.List.Elements.{All-nil}
use Rattle.term_walk.proofs.Visits.{table-grows}
use Rattle.term_subst.proofs.Gaining.{none-gained, gained-both}
use Rattle.script_read.specs.CommandLists.{command_of, commands_of, IsCommandOf, AreCommandsOf}
use Rattle.script_read.specs.declared.scripts.Command.TheVariants.{Exit}
use Rattle.script_terms.proofs.Grown.{grown_self, later_self, later_on}
use Rattle.pass_laws.specs.Groups.{groups_from}
use Rattle.passes.specs.Plans.{Tells}
use Rattle.passes.proofs.GroupingSteps.{SameFrom, found_alike, same_behind}
use Rattle.passes.proofs.GroupingWalk.{IsGrouped, none_grouped, all_grouped, command_there, rewritable_there, grouped_there, there}
use Rattle.passes.proofs.PlannedSteps.{tells_none, tells_more}
use Rattle.passes.proofs.grouping.group_each.Goals as goal
use Rattle.passes.proofs.grouping.group_each.Goals.{in-Some+in_ok-push, in_default}

pub loop-i-init : goal.loop-i-init
loop-i-init g c =
    let t = c.args.table.now in
    let s = c.args.fresh.now in
    let cs = commands_of t c.args.script.now.commands in
    let none = sym c.new-commands.ensures in
    record {
      count = refl;
      rest = λ k from. refl;
      numbers = subst (AreCommandsOf t) none (All-nil (IsCommandOf t));
      made = subst (λ ks. IsGrouped g.G.Grouper.making cs s 0 (commands_of t ks) s) none (none_grouped g.G.Grouper.making cs s);
      told = rw c.new-steps.ensures.items (tells_none g.G.Grouper.making t cs s);
      later = later_self s;
      drawn = none-gained s t.symbols t.symbols refl;
      grows = grown_self t;
    }

pub regroup-requires-clause-command : goal.regroup-requires-clause-command
regroup-requires-clause-command g c =
    let l = c.loop-i in
    let found = found_alike l.script.commands c.args.script.now.commands l.i c.take-command.result l.invariant.rest c.take-command.ensures.taken in
    command_there c.args.table.now c.args.script.now.commands c.requires.numbers l.table l.invariant.grows l.i c.take-command.result found

pub regroup-requires-clause-ready : goal.regroup-requires-clause-ready
regroup-requires-clause-ready g c =
    let l = c.loop-i in
    let found = found_alike l.script.commands c.args.script.now.commands l.i c.take-command.result l.invariant.rest c.take-command.ensures.taken in
    rewritable_there c.args.table.now c.args.script.now.commands c.requires.numbers l.table l.invariant.grows l.i c.take-command.result found c.args.fresh.now l.fresh c.requires.ready l.invariant.later

pub loop-i-preserved : goal.loop-i-preserved
loop-i-preserved g c =
    let l = c.loop-i in
    let e = c.in_ok-step.ensures in
    let cs = commands_of c.args.table.now c.args.script.now.commands in
    let d = c.take-command.result in
    let found = found_alike l.script.commands c.args.script.now.commands l.i d l.invariant.rest c.take-command.ensures.taken in
    let more = option_to_list c.in_ok-step.field-0 in
    let all : c.match-branch-2.steps.items ≡ l.steps.items ++ more =
    elim c.match-branch-2.branch [
      | in-Some+in_ok-push w ↦ rw (w.steps-is, w.in-Some.is) w.in_ok-push.ensures.items
      | in_default w ↦ rw (w.steps-is, w.in_default.is) (sym (append-nil l.steps.items))
    ] in
    record {
      count = ap length c.take-command.ensures.left ∙ length-set l.script.commands l.i Exit ∙ l.invariant.count;
      rest = subst (λ ks. SameFrom (l.i + 1) ks c.args.script.now.commands) (sym c.take-command.ensures.left) (same_behind l.script.commands c.args.script.now.commands l.i Exit l.invariant.rest);
      numbers = e.numbers;
      made = grouped_there c.args.table.now c.args.script.now.commands c.requires.numbers l.table l.invariant.grows l.i d found c.args.fresh.now l.fresh g.G.Grouper.making (commands_of l.table l.commands) (commands_of c.regroup.new.table c.regroup.new.commands) c.regroup.new.fresh l.invariant.made e.commands e.left;
      told = tells_more g.G.Grouper.making l.table c.regroup.new.table e.grows cs c.args.fresh.now l.fresh l.i (command_of l.table d) (there c.args.table.now c.args.script.now.commands c.requires.numbers l.table l.invariant.grows l.i d found)
          l.invariant.made.names l.steps.items more c.match-branch-2.steps.items all l.invariant.told e.step;
      later = later_on c.args.fresh.now l.fresh c.regroup.new.fresh l.invariant.later e.later;
      drawn = gained-both l.fresh c.regroup.new.fresh c.args.table.now.symbols l.table.symbols c.regroup.new.table.symbols e.later e.grows.symbols l.invariant.drawn e.drawn;
      grows = table-grows c.args.table.now l.table c.regroup.new.table l.invariant.grows e.grows;
    }

pub returns-clause-commands : goal.returns-clause-commands
returns-clause-commands g c =
    let l = c.loop-i in
    let cs = commands_of c.args.table.now c.args.script.now.commands in
    let n = length-map c.args.script.now.commands (command_of c.args.table.now) in
    let r = all_grouped g.G.Grouper.making cs c.args.fresh.now l.i (commands_of l.table l.commands) l.fresh (omega (arith, n, c.loop-i-test.false, c.len-i-end.ensures)) l.invariant.made in
    r.0

pub returns-clause-left : goal.returns-clause-left
returns-clause-left g c =
    let l = c.loop-i in
    let cs = commands_of c.args.table.now c.args.script.now.commands in
    let n = length-map c.args.script.now.commands (command_of c.args.table.now) in
    let r = all_grouped g.G.Grouper.making cs c.args.fresh.now l.i (commands_of l.table l.commands) l.fresh (omega (arith, n, c.loop-i-test.false, c.len-i-end.ensures)) l.invariant.made in
    r.1

pub returns-clause-stage : goal.returns-clause-stage
returns-clause-stage g c =
    let l = c.loop-i in
    let cs = commands_of c.args.table.now c.args.script.now.commands in
    let n = length-map c.args.script.now.commands (command_of c.args.table.now) in
    subst (λ es. Tells l.table l.steps.items (groups_from g.G.Grouper.making es c.args.fresh.now).0) (take_all l.i cs (omega (arith, n, c.loop-i-test.false, c.len-i-end.ensures))) l.invariant.told
