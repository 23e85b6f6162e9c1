use Rattle.std.proofs.Common.{List, IfOk, ap, sym, ◌∙◌, subst}
use Rattle.smt_terms.specs.Term.{Term}
use Rattle.term_table.specs.Formulas.{tree, trees_at}
use Rattle.term_walk.proofs.Visits.{table-grows}
use Rattle.bit_blast.specs.BitNodes.{AreBits}
use Rattle.bit_blast.specs.Blasted.{term_gates}
use Rattle.bit_blast.specs.Circuits.{chosen, opposite, is_zero}
use Rattle.bit_blast.specs.Signs.{by_signs}
use Rattle.bit_blast.proofs.BitsOverTables.{tree-kept, trees-kept, trees-count, bits-kept, bits-read, bits-alike, bits-count}
use Rattle.bit_blast.proofs.CircuitLengths.{length-opposite}
use Rattle.bit_blast.proofs.SignedWidths.{length-by_signs}
use Rattle.bit_blast.proofs.signed.floored.Goals as goal
use Rattle.bit_blast.proofs.signed.floored.Goals.{After-deref, After-deref-2}

turned_bits : (c : After-deref) → AreBits c.opposite.new.table c.deref.result.now (opposite term_gates (trees_at c.args.table.now c.args.u.now))
turned_bits c = bits-read c.deref.ensures.value c.in_ok-turned.ensures.bits

pub by_signs-requires-clause-as_wide : goal.by_signs-requires-clause-as_wide
by_signs-requires-clause-as_wide c =
    bits-count (turned_bits c) ∙ length-opposite term_gates (trees_at c.args.table.now c.args.u.now) ∙ trees-count c.args.table.now c.args.u.now ∙ c.requires.same

signed_bits : (c : After-deref-2)
    → AreBits c.opposite.new.table c.deref.result.now (opposite term_gates (trees_at c.args.table.now c.args.u.now))
    → AreBits c.is_zero.new.table c.deref-2.result.now (by_signs (tree c.args.table.now c.args.s) (tree c.args.table.now c.args.t) (trees_at c.args.table.now c.args.u.now) (opposite term_gates (trees_at c.args.table.now c.args.u.now)) (trees_at c.args.table.now c.args.b.now))
signed_bits c turned =
    let t₀ = c.args.table.now in
    let t₁ = c.opposite.new.table in
    let grows = c.in_ok-turned.ensures.grows in
    let s = tree-kept t₀ t₁ grows c.args.s c.requires.s in
    let t = tree-kept t₀ t₁ grows c.args.t c.requires.t in
    let u = trees-kept t₀ t₁ grows c.args.u.now c.requires.u in
    let b = trees-kept t₀ t₁ grows c.args.b.now c.requires.b in
    bits-read c.deref-2.ensures.value (bits-kept c.in_ok-zero.ensures.grows (bits-alike (λ i. by_signs (s i) (t i) (u i) (turned.terms i) (b i)) c.in_ok-signed.ensures.bits))

pub choices-requires-clause-same : goal.choices-requires-clause-same
choices-requires-clause-same c =
    let n = trees-count c.args.table.now in
    let v = n c.args.b.now in
    let us : List Term = trees_at c.args.table.now c.args.u.now in
    let u = n c.args.u.now ∙ c.requires.same ∙ sym v in
    let signed = signed_bits c (turned_bits (goal.at.choices-requires-clause-same c).After-deref) in
    c.requires.same ∙ sym (bits-count signed ∙ length-by_signs _ _ _ _ _ u (length-opposite term_gates us ∙ u) ∙ v)

pub returns-clause-bits : goal.returns-clause-bits
returns-clause-bits c =
    let t₀ = c.args.table.now in
    let t₁ = c.opposite.new.table in
    let t₂ = c.by_signs.new.table in
    let t₃ = c.is_zero.new.table in
    let second = table-grows t₀ t₁ t₂ c.in_ok-turned.ensures.grows c.in_ok-signed.ensures.grows in
    let third = table-grows t₀ t₂ t₃ second c.in_ok-zero.ensures.grows in
    let u = trees-kept t₀ t₃ third c.args.u.now c.requires.u in
    let zero = c.in_ok-zero.ensures.term ∙ ap (is_zero term_gates) (trees-kept t₀ t₂ second c.args.u.now c.requires.u) in
    let signed = signed_bits (goal.at.returns-clause-bits c).After-deref-2 (turned_bits (goal.at.returns-clause-bits c).After-deref) in
    subst (λ (us : List Term). IfOk c.choices.result (λ ks. AreBits c.choices.new.table ks.items us)) (λ i. chosen term_gates (zero i) (u i) (signed.terms i)) c.choices.ensures.bits
