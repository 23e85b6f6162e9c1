use Rattle.std.proofs.Common.{◌≡◌, ◌++◌, map, take}
use Rattle.smt_terms.specs.Groups.{Named}
use Rattle.term_groups.specs.Seen.{named_at}
use Rattle.term_table.specs.Formulas.{Formulas}
use Rattle.ackermann.specs.Ackermann.{live}
use Rattle.ackermann.specs.LevelsAt.{levels_at, AreLiveIn}
use Rattle.passes.specs.Removing.{keys_of, Keeps}
use Rattle.passes.proofs.removing.keep_uses.Given as goal

abbrev pub invariant-loop-i : goal.invariant-loop-i
invariant-loop-i l = record {
  keys : keys_of l.uses.entries ≡ keys_of l.fn.uses.entries ++ map (λ p. p.0) (take l.i l.group.symbols);
  keeps : (t : Formulas) (earlier : Named) → AreLiveIn t l.ack → live (levels_at t l.ack) ≡ earlier ++ named_at t l.group.symbols
      → Keeps t (live (levels_at t l.ack)) (take l.i l.group.symbols) l.fn.uses.entries l.uses.entries;
}
