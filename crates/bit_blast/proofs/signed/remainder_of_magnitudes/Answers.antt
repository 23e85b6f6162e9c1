use Rattle.std.proofs.Common.{◌≡◌, List, length, IfOk, sym, ◌∙◌, subst}
use Rattle.smt_terms.specs.Term.{Term}
use Rattle.term_table.specs.Formulas.{trees_at}
use Rattle.bit_blast.specs.BitNodes.{AreBits}
use Rattle.bit_blast.specs.Blasted.{term_gates}
use Rattle.bit_blast.specs.Circuits.{absolute, remainder}
use Rattle.bit_blast.proofs.BitsOverTables.{trees-kept, trees-count, bits-kept, bits-read, bits-alike, bits-count}
use Rattle.bit_blast.proofs.CircuitLengths.{length-absolute}
use Rattle.bit_blast.proofs.signed.remainder_of_magnitudes.Goals as goal
use Rattle.bit_blast.proofs.signed.remainder_of_magnitudes.Goals.{After-deref-2}

dividend_bits : (c : After-deref-2) → AreBits c.absolute-2.new.table c.deref.result.now (absolute term_gates (trees_at c.args.table.now c.args.a.now))
dividend_bits c = bits-read c.deref.ensures.value (bits-kept c.in_ok-divisor.ensures.grows c.in_ok-dividend.ensures.bits)

divisor_bits : (c : After-deref-2) → AreBits c.absolute-2.new.table c.deref-2.result.now (absolute term_gates (trees_at c.args.table.now c.args.b.now))
divisor_bits c =
    let b = trees-kept c.args.table.now c.absolute.new.table c.in_ok-dividend.ensures.grows c.args.b.now c.requires.b in
    bits-read c.deref-2.ensures.value (bits-alike (λ i. absolute term_gates (b i)) c.in_ok-divisor.ensures.bits)

pub remainder-requires-clause-same : goal.remainder-requires-clause-same
remainder-requires-clause-same c =
    let us : List Term = trees_at c.args.table.now c.args.a.now in
    let vs : List Term = trees_at c.args.table.now c.args.b.now in
    let same : length us ≡ length vs = trees-count c.args.table.now c.args.a.now ∙ c.requires.same ∙ sym (trees-count c.args.table.now c.args.b.now) in
    bits-count (dividend_bits c) ∙ length-absolute term_gates us ∙ same ∙ sym (length-absolute term_gates vs) ∙ sym (bits-count (divisor_bits c))

pub returns-clause-bits : goal.returns-clause-bits
returns-clause-bits c =
    let here = (goal.at.returns-clause-bits c).After-deref-2 in
    let dividend = dividend_bits here in
    let divisor = divisor_bits here in
    subst (λ (us : List Term). IfOk c.remainder.result (λ ks. AreBits c.remainder.new.table ks.items us)) (λ i. remainder term_gates (dividend.terms i) (divisor.terms i)) c.remainder.ensures.bits
