use Rattle.std.proofs.Common.{List, IfOk, subst}
use Rattle.smt_terms.specs.Term.{Term}
use Rattle.bit_blast.specs.BitNodes.{AreBits}
use Rattle.bit_blast.specs.Blasted.{term_gates}
use Rattle.bit_blast.specs.Circuits.{chosen}
use Rattle.bit_blast.proofs.BitsOverTables.{trees-kept}
use Rattle.bit_blast.proofs.signed.where_both.Goals as goal

pub returns-clause-bits : goal.returns-clause-bits
returns-clause-bits c =
    let grows = c.in_ok-both.ensures.grows in
    let both = c.in_ok-both.ensures.term in
    let a = trees-kept c.args.table.now c.pair.new.table grows c.args.a.now c.requires.a in
    let b = trees-kept c.args.table.now c.pair.new.table grows c.args.b.now c.requires.b in
    subst (λ (us : List Term). IfOk c.choices.result (λ ks. AreBits c.choices.new.table ks.items us)) (λ i. chosen term_gates (both i) (a i) (b i)) c.choices.ensures.bits
