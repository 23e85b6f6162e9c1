use Rattle.std.proofs.Common.{◌∷◌, ap, ◌∙◌}
use Rattle.term_subst.specs.declared.survey.Scope.{Scope}
use Rattle.term_subst.specs.declared.survey.Task.TheVariants.{Visit}
use Rattle.term_subst.proofs.Surveyed.{survey-starts}
use Rattle.term_subst.proofs.survey.list_free.Goals as goal

pub loop-task-init : goal.loop-task-init
loop-task-init c =
    let s : Scope = record { symbols = c.new.result; nodes = c.new-2.result } in record {
      lists = c.requires.lists;
      surveys =
          survey-starts c.args.table.now s c.args.root c.push.new.self c.requires.root c.new.ensures.empty c.new-2.ensures.empty (c.in_ok-push.ensures.ok ∙ ap (λ ts. Visit c.args.root ∷ ts) c.new-3.ensures);
    }
