use Rattle.std.proofs.Common.{List, IfOk, ◌∙◌, subst}
use Rattle.smt_terms.specs.Term.{Term}
use Rattle.term_table.specs.Formulas.{trees_at}
use Rattle.bit_blast.specs.BitNodes.{AreBits}
use Rattle.bit_blast.specs.Blasted.{term_gates}
use Rattle.bit_blast.specs.Circuits.{chosen}
use Rattle.bit_blast.proofs.BitsOverTables.{tree-kept, trees-kept, trees-count, bits-read, bits-count}
use Rattle.bit_blast.proofs.CircuitLengths.{length-opposite}
use Rattle.bit_blast.proofs.signed.with_sign.Goals as goal

pub choices-requires-clause-same : goal.choices-requires-clause-same
choices-requires-clause-same c =
    bits-count (bits-read c.deref.ensures.value c.in_ok-turned.ensures.bits) ∙ length-opposite term_gates (trees_at c.args.table.now c.args.a.now) ∙ trees-count c.args.table.now c.args.a.now

pub returns-clause-bits : goal.returns-clause-bits
returns-clause-bits c =
    let grows = c.in_ok-turned.ensures.grows in
    let sign = tree-kept c.args.table.now c.opposite.new.table grows c.args.sign c.requires.sign in
    let turned = bits-read c.deref.ensures.value c.in_ok-turned.ensures.bits in
    let a = trees-kept c.args.table.now c.opposite.new.table grows c.args.a.now c.requires.a in
    subst (λ (us : List Term). IfOk c.choices.result (λ ks. AreBits c.choices.new.table ks.items us)) (λ i. chosen term_gates (sign i) (turned.terms i) (a i)) c.choices.ensures.bits
