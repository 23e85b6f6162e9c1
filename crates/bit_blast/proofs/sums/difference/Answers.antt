use Rattle.std.proofs.Common.{List, IfOk, ap, ◌∙◌, subst}
use Rattle.smt_terms.specs.Term.{Term}
use Rattle.term_table.specs.Formulas.{trees_at}
use Rattle.term_walk.proofs.Visits.{table-grows}
use Rattle.bit_blast.specs.BitNodes.{AreBits}
use Rattle.bit_blast.specs.Blasted.{term_gates}
use Rattle.bit_blast.specs.Circuits.{add}
use Rattle.bit_blast.proofs.BitLists.{trees-stay}
use Rattle.bit_blast.proofs.sums.difference.Goals as goal

pub returns-clause-bits : goal.returns-clause-bits
returns-clause-bits c =
    let t = c.args.table.now in
    let inverted = c.inverses.new.table in
    let now = c.truth.new.table in
    let others = ap (trees_at now) c.deref.ensures.value ∙ trees-stay inverted now c.in_ok-others.others.items c.truth.ensures.grows c.in_ok-others.ensures.bits.formulas ∙ c.in_ok-others.ensures.bits.terms in
    subst (λ (us : List Term). IfOk c.add.result (λ ks. AreBits c.add.new.table ks.items us))
    (λ i. add term_gates (trees-stay t now c.args.a.now (table-grows t inverted now c.inverses.ensures.grows c.truth.ensures.grows) c.requires.a i) (others i) (c.in_ok-carry.ensures.term i))
    c.add.ensures.bits
