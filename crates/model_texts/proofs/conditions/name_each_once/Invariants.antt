use Rattle.model_texts.proofs.OnceNamed.{Named}
use Rattle.model_texts.proofs.conditions.name_each_once.Given as goal

-- which parameters are named so far
abbrev pub invariant-loop-equation : goal.invariant-loop-equation
invariant-loop-equation l = Named l.parameters l.equations l.equation-index l.named.items
