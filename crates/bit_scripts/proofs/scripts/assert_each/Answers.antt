use Rattle.std.proofs.Common.{◌∙◌, ◌+◌, ◌++◌, ◌∷◌, [], ap}
use Rattle.script_read.specs.declared.scripts.Command.TheVariants.{Assert}
use Rattle.bit_scripts.proofs.SpelledNodes.{asserted_more}
use Rattle.bit_scripts.proofs.scripts.assert_each.Goals as goal

pub loop-place-preserved : goal.loop-place-preserved
loop-place-preserved c =
    c.in_ok-push.ensures.ok
    ∙ ap (λ ds. ds ++ Assert c.get-id.result (c.loop-place.place + 1) ∷ []) c.loop-place.invariant
    ∙ asserted_more c.args.commands.now c.args.formulas.now c.loop-place.place c.get-id.result c.get-id.ensures
