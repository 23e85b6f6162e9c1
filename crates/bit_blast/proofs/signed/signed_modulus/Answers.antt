use Rattle.std.proofs.Common.{◌≡◌, List, length, IfOk, ap, ◌∙◌, subst, arith}
use Rattle.smt_terms.specs.Term.{Term}
use Rattle.term_table.specs.Formulas.{trees_at}
use Rattle.term_walk.proofs.Visits.{table-grows}
use Rattle.bit_blast.specs.BitNodes.{AreBits}
use Rattle.bit_blast.specs.Blasted.{term_gates}
use Rattle.bit_blast.specs.Circuits.{top, absolute, remainder, floored}
use Rattle.bit_blast.proofs.BitsOverTables.{tree-kept, trees-kept, trees-count, bits-kept, bits-read, bits-count}
use Rattle.bit_blast.proofs.CircuitLengths.{length-magnitude}
use Rattle.bit_blast.proofs.signed.signed_modulus.Goals as goal
use Rattle.bit_blast.proofs.signed.signed_modulus.Goals.{After-deref}

u_bits : (c : After-deref) → AreBits c.top-2.new.table c.deref.result.now (remainder term_gates (absolute term_gates (trees_at c.args.table.now c.args.a.now)) (absolute term_gates (trees_at c.args.table.now c.args.b.now)))
u_bits c = bits-read c.deref.ensures.value (bits-kept c.in_ok-t.ensures.grows (bits-kept c.in_ok-s.ensures.grows c.in_ok-u.ensures.bits))

u_width : (c : After-deref) → length c.deref.result.now ≡ length c.args.b.now
u_width c = bits-count (u_bits c) ∙ length-magnitude term_gates (trees_at c.args.table.now c.args.a.now) (trees_at c.args.table.now c.args.b.now) ∙ trees-count c.args.table.now c.args.b.now

pub floored-requires-clause-same : goal.floored-requires-clause-same
floored-requires-clause-same c = u_width c

pub floored-requires-clause-some : goal.floored-requires-clause-some
floored-requires-clause-some c =
    let width = u_width c in
    let same = c.requires.same in
    let some = c.requires.some in
    omega (arith, width, same, some)

pub returns-clause-bits : goal.returns-clause-bits
returns-clause-bits c =
    let t₀ = c.args.table.now in
    let t₁ = c.remainder_of_magnitudes.new.table in
    let t₂ = c.top.new.table in
    let t₃ = c.top-2.new.table in
    let first = c.in_ok-u.ensures.grows in
    let second = table-grows t₀ t₁ t₂ first c.in_ok-s.ensures.grows in
    let third = table-grows t₀ t₂ t₃ second c.in_ok-t.ensures.grows in
    let s = tree-kept t₂ t₃ c.in_ok-t.ensures.grows c.in_ok-s.s c.in_ok-s.ensures.formula ∙ c.in_ok-s.ensures.term ∙ ap (top term_gates) (trees-kept t₀ t₁ first c.args.a.now c.requires.a) in
    let t = c.in_ok-t.ensures.term ∙ ap (top term_gates) (trees-kept t₀ t₂ second c.args.b.now c.requires.b) in
    let u = u_bits (goal.at.returns-clause-bits c).After-deref in
    let b = trees-kept t₀ t₃ third c.args.b.now c.requires.b in
    subst (λ (us : List Term). IfOk c.floored.result (λ ks. AreBits c.floored.new.table ks.items us)) (λ i. floored term_gates (s i) (t i) (u.terms i) (b i)) c.floored.ensures.bits
