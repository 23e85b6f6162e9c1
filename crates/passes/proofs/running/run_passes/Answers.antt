use Rattle.std.proofs.Common.{◌≡◌, ◌∙◌, ◌++◌, ap, refl, map, subst, sym, append-nil, option_to_list, All, arith}
use Rattle.std.proofs.lemmas.List.{take_all}
use Rattle.std.proofs.lemmas.Result.{err_from_is_err_and}
use Rattle.std.proofs.lemmas.List.Elements.{All-nil, All-append}
use Rattle.term_walk.proofs.Visits.{table-grows}
use Rattle.term_subst.proofs.Gaining.{none-gained, gained-both}
use Rattle.script_read.specs.CommandLists.{commands_of}
use Rattle.script_terms.proofs.Grown.{grown_self, later_self, later_on}
use Rattle.pass_laws.specs.Passed.{refused_assertion}
use Rattle.passes.specs.Plans.{HasStages, IsStageOver}
use Rattle.passes.specs.Removing.{IsStageKept}
use Rattle.pass_laws.proofs.ModelsStay.{passes_leave}
use Rattle.passes.proofs.PassAfterPass.{behind_none, behind_one, all_lead, all_carried}
use Rattle.passes.proofs.PlannedLists.{kept_within, stages_within, stages_then, same_checks}
use Rattle.passes.proofs.RefusedLists.{handed-on, none-refused, now-refused}
use Rattle.passes.proofs.running.run_passes.Goals as goal
use Rattle.passes.proofs.running.run_passes.Goals.{in-Some+in_ok-push, in_default}

pub loop-i-init : goal.loop-i-init
loop-i-init g c = record {
  numbers = c.requires.numbers;
  behind = behind_none c.args.passes.now (commands_of c.args.table.now c.args.script.commands) c.args.fresh.now (map (λ r. r.name.now) c.args.book.now.rules.items) c.requires.ready;
  planned = c.new-stages.ensures.items;
  taken = refl;
  kept = rw c.new-stages.ensures.items (All-nil (IsStageKept c.args.table.now));
  over = rw c.new-stages.ensures.items (All-nil (IsStageOver c.args.table.now));
  later = later_self c.args.fresh.now;
  drawn = none-gained c.args.fresh.now c.args.table.now.symbols c.args.table.now.symbols refl;
  grows = grown_self c.args.table.now;
}

pub loop-i-preserved : goal.loop-i-preserved
loop-i-preserved g c =
    let l = c.loop-i in
    let e = c.in_ok-stage.ensures in
    let ps = c.args.passes.now in
    let cs = commands_of c.args.table.now c.args.script.commands in
    let s = c.args.fresh.now in
    let rules = map (λ r. r.name.now) c.args.book.now.rules.items in
    let ds = commands_of l.table l.script.commands in
    let u = c.run_pass.new.table in
    let more = option_to_list c.in_ok-stage.stage in
    let all : c.match-stage.stages.items ≡ l.stages.items ++ more =
    elim c.match-stage.branch [
      | in-Some+in_ok-push w ↦ rw (w.stages-is, w.in-Some.is) w.in_ok-push.ensures.items
      | in_default w ↦ rw (w.stages-is, w.in_default.is) (sym (append-nil l.stages.items))
    ] in
    record {
      numbers = e.numbers;
      behind =
          behind_one ps cs s rules l.i c.pass.result
          ds (commands_of u c.run_pass.new.script.commands) l.fresh c.run_pass.new.fresh c.pass.ensures l.invariant.behind e.leads
          passes_leave c.len-i-end.ensures.order e.carried;
      planned =
          stages_then ps cs s rules l.i c.pass.result ds l.fresh c.pass.ensures c.len-i-end.ensures.order l.invariant.behind
          l.table u e.grows l.stages.items more c.match-stage.stages.items all l.invariant.kept l.invariant.planned e.stage;
      taken = none-refused ps cs s rules l.i c.pass.result ds l.fresh c.pass.ensures c.len-i-end.ensures.order l.invariant.behind l.invariant.taken e.refused;
      kept = subst (All (IsStageKept u)) (sym all) (All-append (IsStageKept u) l.stages.items more (kept_within l.table u e.grows l.stages.items l.invariant.kept) e.kept);
      over = subst (All (IsStageOver u)) (sym all) (All-append (IsStageOver u) l.stages.items more (stages_within l.table u e.grows l.stages.items l.invariant.over) e.over);
      later = later_on s l.fresh c.run_pass.new.fresh l.invariant.later e.later;
      drawn = gained-both l.fresh c.run_pass.new.fresh c.args.table.now.symbols l.table.symbols u.symbols e.later e.grows.symbols l.invariant.drawn e.drawn;
      grows = table-grows c.args.table.now l.table u l.invariant.grows e.grows;
    }

pub returns-clause-leads : goal.returns-clause-leads
returns-clause-leads g c =
    let l = c.loop-i in
    all_lead c.args.passes.now (commands_of c.args.table.now c.args.script.commands) c.args.fresh.now (map (λ r. r.name.now) c.args.book.now.rules.items) l.i (commands_of l.table l.script.commands) l.fresh
    (let past = c.loop-i-test.false in omega (arith, c.len-i-end.ensures.number)) l.invariant.behind

pub returns-clause-carried : goal.returns-clause-carried
returns-clause-carried g c =
    let l = c.loop-i in
    all_carried c.args.passes.now (commands_of c.args.table.now c.args.script.commands) c.args.fresh.now (map (λ r. r.name.now) c.args.book.now.rules.items) l.i (commands_of l.table l.script.commands) l.fresh
    (let past = c.loop-i-test.false in omega (arith, c.len-i-end.ensures.number)) l.invariant.behind

pub returns-clause-plan : goal.returns-clause-plan
returns-clause-plan g c =
    let l = c.loop-i in
    let cs = commands_of c.args.table.now c.args.script.commands in
    record {
      checks = c.checks-checks.ensures ∙ same_checks c.args.table.now c.args.script.commands;
      stages = subst (λ ps. HasStages l.table l.stages.items ps cs c.args.fresh.now) (take_all l.i c.args.passes.now (let past = c.loop-i-test.false in omega (arith, c.len-i-end.ensures.number))) l.invariant.planned;
    }

pub returns-clause-refused : goal.returns-clause-refused
returns-clause-refused g c =
    let l = c.loop-i in
    ap (λ ps. refused_assertion ps (commands_of c.args.table.now c.args.script.commands) c.args.fresh.now)
    (sym (take_all l.i c.args.passes.now (let past = c.loop-i-test.false in omega (arith, c.len-i-end.ensures.number)))) ∙ l.invariant.taken

pub returns-in_err-stage-clause-refused : goal.returns-in_err-stage-clause-refused
returns-in_err-stage-clause-refused g c =
    let l = c.loop-i in
    let ps = c.args.passes.now in
    let cs = commands_of c.args.table.now c.args.script.commands in
    let s = c.args.fresh.now in
    let p = err_from_is_err_and c.from_residual.result c.from_residual.ensures.1 in
    handed-on c.from_residual.result p.0 c.in_err-stage.field-0.0 (refused_assertion ps cs s) p.1 p.2
    (λ a is.
    now-refused ps cs s (map (λ r. r.name.now) c.args.book.now.rules.items) l.i c.pass.result (commands_of l.table l.script.commands) l.fresh c.pass.ensures c.len-i-end.ensures.order l.invariant.behind
    l.invariant.taken a (c.in_err-stage.ensures.refused a is))

pub returns-in_err-stage-clause-drawn : goal.returns-in_err-stage-clause-drawn
returns-in_err-stage-clause-drawn g c =
    let l = c.loop-i in
    let e = c.in_err-stage.ensures in
    gained-both l.fresh c.run_pass.new.fresh c.args.table.now.symbols l.table.symbols c.run_pass.new.table.symbols e.later e.grows.symbols l.invariant.drawn e.drawn

pub returns-in_err-push-clause-drawn : goal.returns-in_err-push-clause-drawn
returns-in_err-push-clause-drawn g c =
    let l = c.loop-i in
    let e = c.in_ok-stage.ensures in
    gained-both l.fresh c.run_pass.new.fresh c.args.table.now.symbols l.table.symbols c.run_pass.new.table.symbols e.later e.grows.symbols l.invariant.drawn e.drawn
