use Rattle.std.proofs.Common.{List, IfOk, subst}
use Rattle.smt_terms.specs.Term.{Term}
use Rattle.bit_blast.specs.BitNodes.{AreBits}
use Rattle.bit_blast.specs.Blasted.{term_gates}
use Rattle.bit_blast.specs.Circuits.{chosen, opposite}
use Rattle.bit_blast.proofs.BitsOverTables.{trees-kept}
use Rattle.bit_blast.proofs.signed.absolute.Goals as goal

pub returns-clause-bits : goal.returns-clause-bits
returns-clause-bits c =
    let sign = c.in_ok-sign.ensures.term in
    let a = trees-kept c.args.table.now c.top.new.table c.in_ok-sign.ensures.grows c.args.a.now c.requires.a in
    subst (λ (us : List Term). IfOk c.with_sign.result (λ ks. AreBits c.with_sign.new.table ks.items us)) (λ i. chosen term_gates (sign i) (opposite term_gates (a i)) (a i)) c.with_sign.ensures.bits
