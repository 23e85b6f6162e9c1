use Rattle.std.proofs.Common.{List, IfOk, ap, sym, ◌∙◌, subst}
use Rattle.smt_terms.specs.Term.{Term}
use Rattle.term_table.specs.Formulas.{tree, trees_at}
use Rattle.term_walk.proofs.Visits.{table-grows}
use Rattle.bit_blast.specs.BitNodes.{AreBits}
use Rattle.bit_blast.specs.Blasted.{term_gates}
use Rattle.bit_blast.specs.Circuits.{inverse, both, chosen, sum}
use Rattle.bit_blast.specs.Signs.{divisor_negative, some_negative}
use Rattle.bit_blast.proofs.BitsOverTables.{tree-kept, trees-kept, trees-count, bits-read, bits-alike, bits-count}
use Rattle.bit_blast.proofs.SignedWidths.{length-divisor_negative, length-some_negative}
use Rattle.bit_blast.proofs.signed.by_signs.Goals as goal
use Rattle.bit_blast.proofs.signed.by_signs.Goals.{After-deref, After-deref-2}

-- ---- the numbers that are made one after the other

first_bits : (c : After-deref) → AreBits c.sum_where_both.new.table c.deref.result.now
    (divisor_negative (tree c.args.table.now c.args.s) (tree c.args.table.now c.args.t) (trees_at c.args.table.now c.args.u.now) (trees_at c.args.table.now c.args.turned.now) (trees_at c.args.table.now c.args.b.now))
first_bits c =
    let t₀ = c.args.table.now in
    let t₁ = c.negation.new.table in
    let t₂ = c.negation-2.new.table in
    let grows = table-grows t₀ t₁ t₂ c.in_ok-not_s.ensures.grows c.in_ok-not_t.ensures.grows in
    let not_s = tree-kept t₁ t₂ c.in_ok-not_t.ensures.grows c.in_ok-not_s.not_s c.in_ok-not_s.ensures.formula ∙ c.in_ok-not_s.ensures.term in
    let t = tree-kept t₀ t₂ grows c.args.t c.requires.t in
    let u = trees-kept t₀ t₂ grows c.args.u.now c.requires.u in
    let turned = trees-kept t₀ t₂ grows c.args.turned.now c.requires.turned in
    let b = trees-kept t₀ t₂ grows c.args.b.now c.requires.b in
    bits-read c.deref.ensures.value (bits-alike (λ i. chosen term_gates (both term_gates (not_s i) (t i)) (sum term_gates (u i) (b i)) (turned i)) c.in_ok-first.ensures.bits)

second_bits : (c : After-deref-2)
    → AreBits c.sum_where_both.new.table c.deref.result.now (divisor_negative (tree c.args.table.now c.args.s) (tree c.args.table.now c.args.t) (trees_at c.args.table.now c.args.u.now) (trees_at c.args.table.now c.args.turned.now) (trees_at c.args.table.now c.args.b.now))
    → AreBits c.sum_where_both-2.new.table c.deref-2.result.now (some_negative (tree c.args.table.now c.args.s) (tree c.args.table.now c.args.t) (trees_at c.args.table.now c.args.u.now) (trees_at c.args.table.now c.args.turned.now) (trees_at c.args.table.now c.args.b.now))
second_bits c first =
    let t₀ = c.args.table.now in
    let t₁ = c.negation.new.table in
    let t₂ = c.negation-2.new.table in
    let t₃ = c.sum_where_both.new.table in
    let grows = table-grows t₀ t₂ t₃ (table-grows t₀ t₁ t₂ c.in_ok-not_s.ensures.grows c.in_ok-not_t.ensures.grows) c.in_ok-first.ensures.grows in
    let s = tree-kept t₀ t₃ grows c.args.s c.requires.s in
    let t = tree-kept t₀ t₁ c.in_ok-not_s.ensures.grows c.args.t c.requires.t in
    let not_t = tree-kept t₂ t₃ c.in_ok-first.ensures.grows c.in_ok-not_t.not_t c.in_ok-not_t.ensures.formula ∙ c.in_ok-not_t.ensures.term ∙ ap (inverse term_gates) t in
    let turned = trees-kept t₀ t₃ grows c.args.turned.now c.requires.turned in
    let b = trees-kept t₀ t₃ grows c.args.b.now c.requires.b in
    bits-read c.deref-2.ensures.value (bits-alike (λ i. chosen term_gates (both term_gates (s i) (not_t i)) (sum term_gates (turned i) (b i)) (first.terms i)) c.in_ok-second.ensures.bits)

-- ---- the goals

pub sum_where_both-requires-2-clause-as_wide : goal.sum_where_both-requires-2-clause-as_wide
sum_where_both-requires-2-clause-as_wide c =
    let n = trees-count c.args.table.now in
    let v = n c.args.b.now in
    let first = bits-count (first_bits c) ∙ length-divisor_negative _ _ _ _ _ (n c.args.u.now ∙ c.requires.same ∙ sym v) (n c.args.turned.now ∙ c.requires.as_wide ∙ sym v) in
    c.requires.as_wide ∙ sym (first ∙ v)

pub where_both-requires-clause-same : goal.where_both-requires-clause-same
where_both-requires-clause-same c =
    let n = trees-count c.args.table.now in
    let v = n c.args.b.now in
    let first = first_bits (goal.at.where_both-requires-clause-same c).After-deref in
    let second = bits-count (second_bits c first) ∙ length-some_negative _ _ _ _ _ (n c.args.u.now ∙ c.requires.same ∙ sym v) (n c.args.turned.now ∙ c.requires.as_wide ∙ sym v) in
    c.requires.same ∙ sym (second ∙ v)

pub returns-clause-grows : goal.returns-clause-grows
returns-clause-grows c =
    let t₀ = c.args.table.now in
    let t₁ = c.negation.new.table in
    let t₂ = c.negation-2.new.table in
    let t₃ = c.sum_where_both.new.table in
    let t₄ = c.sum_where_both-2.new.table in
    let first = table-grows t₀ t₂ t₃ (table-grows t₀ t₁ t₂ c.in_ok-not_s.ensures.grows c.in_ok-not_t.ensures.grows) c.in_ok-first.ensures.grows in
    table-grows t₀ t₄ c.where_both.new.table (table-grows t₀ t₃ t₄ first c.in_ok-second.ensures.grows) c.where_both.ensures.grows

pub returns-clause-bits : goal.returns-clause-bits
returns-clause-bits c =
    let t₀ = c.args.table.now in
    let t₁ = c.negation.new.table in
    let t₂ = c.negation-2.new.table in
    let t₃ = c.sum_where_both.new.table in
    let t₄ = c.sum_where_both-2.new.table in
    let later = table-grows t₂ t₃ t₄ c.in_ok-first.ensures.grows c.in_ok-second.ensures.grows in
    let signs = table-grows t₁ t₂ t₄ c.in_ok-not_t.ensures.grows later in
    let grows = table-grows t₀ t₁ t₄ c.in_ok-not_s.ensures.grows signs in
    let not_s = tree-kept t₁ t₄ signs c.in_ok-not_s.not_s c.in_ok-not_s.ensures.formula ∙ c.in_ok-not_s.ensures.term in
    let t = tree-kept t₀ t₁ c.in_ok-not_s.ensures.grows c.args.t c.requires.t in
    let not_t = tree-kept t₂ t₄ later c.in_ok-not_t.not_t c.in_ok-not_t.ensures.formula ∙ c.in_ok-not_t.ensures.term ∙ ap (inverse term_gates) t in
    let u = trees-kept t₀ t₄ grows c.args.u.now c.requires.u in
    let second = second_bits (goal.at.returns-clause-bits c).After-deref-2 (first_bits (goal.at.returns-clause-bits c).After-deref) in
    subst (λ (us : List Term). IfOk c.where_both.result (λ ks. AreBits c.where_both.new.table ks.items us)) (λ i. chosen term_gates (both term_gates (not_s i) (not_t i)) (u i) (second.terms i)) c.where_both.ensures.bits
