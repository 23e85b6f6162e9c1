use Rattle.std.proofs.Common.{◌-◌, length}
use Rattle.smt_lex.specs.Building.{Going}
use Rattle.smt_lex.proofs.builders.tokens_of.Given as goal

abbrev pub invariant-loop-builder : goal.invariant-loop-builder
invariant-loop-builder l = Going l.fn.until l.bytes l.builder.place l.builder.entries.items l.builder.lists.items

abbrev pub decreases-loop-builder : goal.decreases-loop-builder
decreases-loop-builder l = length l.bytes - l.builder.place
