use Rattle.std.proofs.Common.{◌≡◌, take, zip}
use Rattle.term_subst.proofs.substitution.paired.Given as goal

abbrev pub invariant-loop-i : goal.invariant-loop-i
invariant-loop-i l = l.pairs.items ≡ take l.i (zip l.params l.arguments)
