use Rattle.std.proofs.Common.{List, IfOk, ap, ◌∙◌, subst}
use Rattle.smt_terms.specs.Term.{Term}
use Rattle.bit_blast.specs.BitNodes.{AreBits}
use Rattle.bit_blast.specs.Blasted.{term_gates}
use Rattle.bit_blast.specs.Circuits.{top, chosen, opposite}
use Rattle.bit_blast.proofs.BitsOverTables.{trees-kept, bits-kept, bits-read}
use Rattle.bit_blast.proofs.signed.signed_remainder.Goals as goal

pub returns-clause-bits : goal.returns-clause-bits
returns-clause-bits c =
    let made = c.in_ok-u.ensures in
    let sign = c.in_ok-sign.ensures.term ∙ ap (top term_gates) (trees-kept c.args.table.now c.remainder_of_magnitudes.new.table made.grows c.args.a.now c.requires.a) in
    let u = bits-read c.deref.ensures.value (bits-kept c.in_ok-sign.ensures.grows made.bits) in
    subst (λ (us : List Term). IfOk c.with_sign.result (λ ks. AreBits c.with_sign.new.table ks.items us)) (λ i. chosen term_gates (sign i) (opposite term_gates (u.terms i)) (u.terms i)) c.with_sign.ensures.bits
