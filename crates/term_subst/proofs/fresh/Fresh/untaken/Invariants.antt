use Rattle.std.proofs.Common.{◌≡◌, ◌≤◌, ◌-◌}
use Rattle.smt_terms.specs.Fresh.{numbered_name, next_number}
use Rattle.term_subst.specs.Counters.{value, AreDigits}
use Rattle.term_subst.proofs.fresh.Fresh.untaken.Given as goal

abbrev pub invariant-loop-self : goal.invariant-loop-self
invariant-loop-self l =
    AreDigits l.digits.items × (l.fn.self.number ≤ value l.digits.items) × (value l.digits.items ≤ next_number l.fn.self) × (l.name.items ≡ numbered_name (value l.digits.items))

abbrev pub decreases-loop-self : goal.decreases-loop-self
decreases-loop-self l = next_number l.fn.self - value l.digits.items
