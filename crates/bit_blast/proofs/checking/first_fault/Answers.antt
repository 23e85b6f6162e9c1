use Rattle.std.proofs.Common.{sym, subst}
use Rattle.std.specs.Prelude.{◌≡◌, Option, ℕ, MatchOption, true, All}
use Rattle.term_table.specs.Formulas.{trees_at}
use Rattle.bit_blast.specs.Blasted.{is_bits}
use Rattle.bit_blast.specs.Faults.{IsFirstFault}
use Rattle.bit_blast.proofs.FaultNodes.{first-fault, roots-noted}
use Rattle.bit_blast.proofs.checking.first_fault.Goals as goal

pub returns : goal.returns
returns c =
    let t = c.args.table.now in
    let roots = c.args.roots.now in
    subst (λ (r : Option ℕ). MatchOption r (All (λ u. is_bits u ≡ true) (trees_at t roots)) (IsFirstFault (trees_at t roots))) (sym c.first_among.ensures)
    (first-fault t c.in_ok-faults.faults.keys roots (roots-noted t c.know_table.ensures c.in_ok-faults.faults.keys c.args.order.now roots c.requires.order c.requires.roots c.in_ok-faults.ensures))
