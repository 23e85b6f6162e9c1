use Rattle.std.proofs.Common.{◌≡◌, ◌++◌, subst, sym, append-nil, option_to_list, All}
use Rattle.std.proofs.lemmas.List.Elements.{All-append}
use Rattle.passes.specs.Plans.{HaveUses}
use Rattle.passes.proofs.OtherCommands.{step-uses}
use Rattle.passes.proofs.removing.keep.Goals as goal
use Rattle.passes.proofs.removing.keep.Goals.{in-Some+in_ok-push, in_default}

pub returns-clause-uses : goal.returns-clause-uses
returns-clause-uses c =
    let t = c.args.table.now in
    let old = c.args.steps.now.items in
    let all : c.match-of.steps.items ≡ old ++ option_to_list c.of.result =
    elim c.match-of.branch [
      | in-Some+in_ok-push w ↦ rw (w.steps-is, w.in-Some.is) w.in_ok-push.ensures.items
      | in_default w ↦ rw (w.steps-is, w.in_default.is) (sym (append-nil old))
    ] in
    λ uses are.
    subst (All (HaveUses t uses)) (sym all)
    (All-append (HaveUses t uses) old (option_to_list c.of.result) are (step-uses t c.args.command uses c.of.result c.of.ensures.steps))
