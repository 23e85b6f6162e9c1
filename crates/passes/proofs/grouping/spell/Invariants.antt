use Rattle.std.proofs.Common.{◌≡◌, ◌++◌, map, take}
use Rattle.script_read.specs.declared.scripts.Command.TheVariants.{Declare, Assert}
use Rattle.passes.proofs.grouping.spell.Given as goal

abbrev pub invariant-loop-i : goal.invariant-loop-i
invariant-loop-i l = l.commands ≡ l.fn.commands ++ map (λ p. Declare p.0) (take l.i l.group.symbols)

abbrev pub invariant-loop-i-2 : goal.invariant-loop-i-2
invariant-loop-i-2 l =
    l.commands ≡ (l.fn.commands ++ map (λ p. Declare p.0) l.group.symbols) ++ map (λ k. Assert k l.number) (take l.i l.group.asserts)
