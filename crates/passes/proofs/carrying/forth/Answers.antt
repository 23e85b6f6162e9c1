use Rattle.std.proofs.Common.{◌≤◌, sym, subst, List, All, Ok, Err}
use Rattle.std.proofs.lemmas.Result.{err_from_is_err_and}
use Rattle.models.specs.ModelView.{model_at}
use Rattle.passes.specs.declared.searching.Live.{Live}
use Rattle.passes.specs.Carrying.{IsCheck}
use Rattle.passes.specs.LiveSymbols.{AreLiveOver}
use Rattle.passes.proofs.CarriedPlans.{CarryLaws}
use Rattle.passes.proofs.StepsBefore.{live_stages_over}
use Rattle.passes.proofs.CarriedWhole.{forth_wide, forth_model}
use Rattle.passes.proofs.carrying.forth.Goals as goal

pub returns-in_err-check_widths : goal.returns-in_err-check_widths
returns-in_err-check_widths c = λ ps cs s is ready order.
    let t = c.args.table.now in
    let laws : CarryLaws = record {
      keep = c.passes_keep_commands.ensures.pass;
      carry = c.groups_carry_models.ensures;
      tell = c.steps_tell_models.ensures;
      carry_removals = c.removals_carry_models.ensures;
      tell_removals = c.removals_tell_models.ensures;
    } in
    let inside = c.in_ok-find_check.ensures in
    let check : IsCheck c.args.check cs = (inside.0, subst (λ n. c.args.check ≤ n) is.checks inside.1) in
    let p = err_from_is_err_and c.from_residual-in_err-check_widths.result c.from_residual-in_err-check_widths.ensures.1 in
    rw (p.1, p.2)
    (forth_wide laws t c.args.plan.now ps cs s is ready c.args.check check (model_at t c.args.model) c.as_slice-stages.result.now c.as_slice-stages.ensures.value c.in_ok-found.found.items c.as_slice-lives.result.now
    c.as_slice-lives.ensures.value (c.in_ok-found.ensures.live t) c.in_err-check_widths.field-0.0 c.in_err-check_widths.ensures)

pub returns-in_err-model : goal.returns-in_err-model
returns-in_err-model c = λ ps cs s is ready order.
    let t = c.args.table.now in
    let laws : CarryLaws = record {
      keep = c.passes_keep_commands.ensures.pass;
      carry = c.groups_carry_models.ensures;
      tell = c.steps_tell_models.ensures;
      carry_removals = c.removals_carry_models.ensures;
      tell_removals = c.removals_tell_models.ensures;
    } in
    let inside = c.in_ok-find_check.ensures in
    let check : IsCheck c.args.check cs = (inside.0, subst (λ n. c.args.check ≤ n) is.checks inside.1) in
    let p = err_from_is_err_and c.from_residual-in_err-model.result c.from_residual-in_err-model.ensures.1 in
    rw (p.1, p.2)
    (forth_model laws t c.args.plan.now ps cs s is ready c.args.check check (model_at t c.args.model) c.as_slice-stages.result.now c.as_slice-stages.ensures.value c.in_ok-found.found.items c.as_slice-lives.result.now
    c.as_slice-lives.ensures.value (c.in_ok-found.ensures.live t) (Err c.in_err-model.field-0.0) c.in_ok-check_widths.ensures c.in_err-model.ensures)

pub returns : goal.returns
returns c = λ ps cs s is ready order.
    let t = c.args.table.now in
    let laws : CarryLaws = record {
      keep = c.passes_keep_commands.ensures.pass;
      carry = c.groups_carry_models.ensures;
      tell = c.steps_tell_models.ensures;
      carry_removals = c.removals_carry_models.ensures;
      tell_removals = c.removals_tell_models.ensures;
    } in
    let inside = c.in_ok-find_check.ensures in
    let check : IsCheck c.args.check cs = (inside.0, subst (λ n. c.args.check ≤ n) is.checks inside.1) in
    forth_model laws t c.args.plan.now ps cs s is ready c.args.check check (model_at t c.args.model) c.as_slice-stages.result.now c.as_slice-stages.ensures.value c.in_ok-found.found.items c.as_slice-lives.result.now
    c.as_slice-lives.ensures.value (c.in_ok-found.ensures.live t) (Ok c.in_ok-model.model) c.in_ok-check_widths.ensures c.in_ok-model.ensures

pub check_widths-requires : goal.check_widths-requires
check_widths-requires c =
    let t = c.args.table.now in
    subst (λ (rs : List Live). All (AreLiveOver t) rs) (sym c.as_slice-lives.ensures.value) (live_stages_over t c.args.plan.now.stages.items c.in_ok-found.found.items (c.in_ok-found.ensures.over t c.requires.plan))
