use Rattle.std.proofs.Common.{◌++◌, ◌∷◌, [], ap, map, ◌∙◌}
use Rattle.script_read.specs.declared.scripts.Command.TheVariants.{Declare, Assert}
use Rattle.passes.proofs.GroupingSteps.{image_more}
use Rattle.passes.proofs.grouping.spell.Goals as goal

pub loop-i-preserved : goal.loop-i-preserved
loop-i-preserved c =
    c.in_ok-push.ensures.ok
    ∙ ap (λ ds. ds ++ Declare c.get.result.0 ∷ []) c.loop-i.invariant
    ∙ image_more (λ p. Declare p.0) c.args.commands.now c.args.group.now.symbols c.loop-i.i c.get.result c.get.ensures

pub loop-i-2-preserved : goal.loop-i-2-preserved
loop-i-2-preserved c =
    let number = c.args.number in
    c.in_ok-push-2.ensures.ok
    ∙ ap (λ ds. ds ++ Assert c.get-id.result number ∷ []) c.loop-i-2.invariant
    ∙ image_more (λ k. Assert k number) (c.args.commands.now ++ map (λ p. Declare p.0) c.args.group.now.symbols) c.args.group.now.asserts c.loop-i-2.i c.get-id.result c.get-id.ensures
