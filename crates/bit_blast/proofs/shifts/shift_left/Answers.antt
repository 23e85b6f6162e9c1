use Rattle.std.proofs.Common.{List, IfOk, subst}
use Rattle.smt_terms.specs.Term.{Term}
use Rattle.bit_blast.specs.declared.shifts.Way.TheVariants.{Up}
use Rattle.bit_blast.specs.BitNodes.{AreBits}
use Rattle.bit_blast.specs.Blasted.{term_gates}
use Rattle.bit_blast.specs.Circuits.{shifted}
use Rattle.bit_blast.specs.ShiftWays.{moved}
use Rattle.bit_blast.proofs.BitsOverTables.{trees-kept}
use Rattle.bit_blast.proofs.shifts.shift_left.Goals as goal

pub returns-clause-bits : goal.returns-clause-bits
returns-clause-bits c =
    let kept = trees-kept c.args.table.now c.truth.new.table c.in_ok-bit.ensures.grows in
    let bit = c.in_ok-bit.ensures.term in
    let a = kept c.args.a.now c.requires.a in
    let b = kept c.args.b.now c.requires.b in
    subst (λ (us : List Term). IfOk c.shifted.result (λ ks. AreBits c.shifted.new.table ks.items us)) (λ i. shifted term_gates (moved Up (bit i)) 0 (b i) (a i)) c.shifted.ensures.bits
