use Rattle.std.proofs.Common.{◌≡◌, List, length, IfOk, sym, ◌∙◌, subst}
use Rattle.smt_terms.specs.Term.{Term}
use Rattle.term_table.specs.Formulas.{trees_at}
use Rattle.bit_blast.specs.BitNodes.{AreBits}
use Rattle.bit_blast.specs.Blasted.{term_gates}
use Rattle.bit_blast.specs.Circuits.{both, chosen}
use Rattle.bit_blast.proofs.BitsOverTables.{tree-kept, trees-kept, trees-count, bits-read, bits-count}
use Rattle.bit_blast.proofs.CircuitLengths.{length-sum}
use Rattle.bit_blast.proofs.signed.sum_where_both.Goals as goal

pub where_both-requires-clause-same : goal.where_both-requires-clause-same
where_both-requires-clause-same c =
    let us : List Term = trees_at c.args.table.now c.args.a.now in
    let vs : List Term = trees_at c.args.table.now c.args.b.now in
    let same : length us ≡ length vs = trees-count c.args.table.now c.args.a.now ∙ c.requires.same ∙ sym (trees-count c.args.table.now c.args.b.now) in
    bits-count (bits-read c.deref.ensures.value c.in_ok-total.ensures.bits) ∙ length-sum term_gates us vs same ∙ trees-count c.args.table.now c.args.a.now ∙ c.requires.as_wide

pub returns-clause-bits : goal.returns-clause-bits
returns-clause-bits c =
    let grows = c.in_ok-total.ensures.grows in
    let s = tree-kept c.args.table.now c.sum.new.table grows c.args.s c.requires.s in
    let t = tree-kept c.args.table.now c.sum.new.table grows c.args.t c.requires.t in
    let total = bits-read c.deref.ensures.value c.in_ok-total.ensures.bits in
    let other = trees-kept c.args.table.now c.sum.new.table grows c.args.other.now c.requires.other in
    subst (λ (us : List Term). IfOk c.where_both.result (λ ks. AreBits c.where_both.new.table ks.items us)) (λ i. chosen term_gates (both term_gates (s i) (t i)) (total.terms i) (other i)) c.where_both.ensures.bits
