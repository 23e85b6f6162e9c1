use Rattle.std.proofs.Common.{◌≡◌, ◌++◌, length, take, drop}
use Rattle.term_subst.specs.Counters.{one_more}
use Rattle.term_subst.proofs.fresh.count.Given as goal

abbrev pub invariant-loop-i : goal.invariant-loop-i
invariant-loop-i l = (one_more l.fn.digits.items ≡ take l.i l.digits.items ++ one_more (drop l.i l.digits.items)) × (length l.digits.items ≡ length l.fn.digits.items)
