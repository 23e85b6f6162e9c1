use Rattle.std.proofs.Common.{◌∙◌, ◌++◌, ◌∷◌, [], ap}
use Rattle.script_read.specs.declared.scripts.Command.TheVariants.{Declare}
use Rattle.bit_scripts.proofs.SpelledNodes.{declared_more}
use Rattle.bit_scripts.proofs.scripts.declare_each.Goals as goal

pub loop-place-preserved : goal.loop-place-preserved
loop-place-preserved c =
    c.in_ok-push.ensures.ok
    ∙ ap (λ ds. ds ++ Declare c.get.result.0 ∷ []) c.loop-place.invariant
    ∙ declared_more c.args.commands.now c.args.symbols.now c.loop-place.place c.get.result c.get.ensures
