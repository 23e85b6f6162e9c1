use Rattle.std.proofs.Common.{List, IfOk, subst}
use Rattle.smt_terms.specs.Term.{Term}
use Rattle.bit_blast.specs.BitNodes.{AreBits}
use Rattle.bit_blast.specs.Blasted.{term_gates}
use Rattle.bit_blast.specs.Circuits.{add}
use Rattle.bit_blast.proofs.BitLists.{trees-stay}
use Rattle.bit_blast.proofs.sums.sum.Goals as goal

pub returns-clause-bits : goal.returns-clause-bits
returns-clause-bits c =
    let t = c.args.table.now in
    let now = c.truth.new.table in
    subst (λ (us : List Term). IfOk c.add.result (λ ks. AreBits c.add.new.table ks.items us))
    (λ i. add term_gates (trees-stay t now c.args.a.now c.truth.ensures.grows c.requires.a i) (trees-stay t now c.args.b.now c.truth.ensures.grows c.requires.b i) (c.in_ok-carry.ensures.term i))
    c.add.ensures.bits
