use Rattle.std.proofs.Common.{◌≡◌, map, take}
use Rattle.script_terms.proofs.terms.quantifiers.operands.Given as goal

abbrev pub invariant-loop-constant : goal.invariant-loop-constant
invariant-loop-constant l = l.operands.items ≡ map (λ c. c.node) (take l.constant-index l.constants)
