use Rattle.std.proofs.Common.{◌≡◌, map, take}
use Rattle.script_terms.specs.declared.locals.Constant.{Constant}
use Rattle.script_read.proofs.session.definitions.symbols.Given as goal

abbrev pub invariant-loop-constant : goal.invariant-loop-constant
invariant-loop-constant l = l.symbols ≡ map (λ (c : Constant). c.symbol) (take l.constant-index l.constants)
