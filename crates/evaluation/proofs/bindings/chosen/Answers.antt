use Rattle.std.proofs.Common.{◌≡◌, ℕ, ◌-◌, ◌^◌, ◌<◌, ap, sym, ◌∙◌, subst, arith}
use Rattle.smt_terms.specs.BitVectors.{nat2bv}
use Rattle.smt_terms.specs.Sorts.{bit_vector}
use Rattle.smt_terms.specs.Val.{sort_bits}
use Rattle.smt_terms.specs.Values.{bits}
use Rattle.smt_values.specs.Numbered.{numbered}
use Rattle.term_table.specs.Formulas.{tree, variable_of}
use Rattle.evaluation.proofs.BoundVariables.{symbol-of, symbol-within, first-sort, word-sort, truth-binding, bits-binding}
use Rattle.evaluation.proofs.bindings.chosen.Goals as goal

pub returns-then-eq-clause-value : goal.returns-then-eq-clause-value
returns-then-eq-clause-value c =
    let sort = first-sort c.args.table.now c.args.id c.sort_of.ensures.table.sorts c.requires.variable c.sort_of.result c.sort_of.ensures.within c.sort_of.ensures.sort (sym c.eq.ensures ∙ c.if-eq.true) in
    sym (ap (λ s. numbered s c.args.number) sort)

pub returns-then-eq-clause-binding : goal.returns-then-eq-clause-binding
returns-then-eq-clause-binding c =
    let t = c.args.table.now in
    let f = c.in-Sym.symbol in
    let sort = first-sort t c.args.id c.sort_of.ensures.table.sorts c.requires.variable c.sort_of.result c.sort_of.ensures.within c.sort_of.ensures.sort (sym c.eq.ensures ∙ c.if-eq.true) in
    truth-binding t f (variable_of (tree t c.args.id)) (symbol-within t c.args.id f c.in-Sym.ensures.numbers) (symbol-of t c.args.id f c.requires.variable c.in-Sym.ensures.term) _ sort

pub returns-clause-value : goal.returns-clause-value
returns-clause-value c =
    let word = word-sort c.args.table.now c.args.id c.sort_of.ensures.table.sorts c.requires.variable c.sort_of.result c.sort_of.ensures.within c.sort_of.ensures.sort (sym c.eq.ensures ∙ c.if-eq.false) in
    let width : c.bits_of.result ≡ c.sort_of.result.0 - 1 = c.bits_of.ensures ∙ ap sort_bits word.2 in
    (λ i. bits (nat2bv (width i) (c.from.ensures i))) ∙ sym (ap (λ s. numbered s c.args.number) word.2)

pub returns-clause-binding : goal.returns-clause-binding
returns-clause-binding c =
    let t = c.args.table.now in
    let f = c.in-Sym.symbol in
    let word = word-sort t c.args.id c.sort_of.ensures.table.sorts c.requires.variable c.sort_of.result c.sort_of.ensures.within c.sort_of.ensures.sort (sym c.eq.ensures ∙ c.if-eq.false) in
    let width : c.bits_of.result ≡ c.sort_of.result.0 - 1 = c.bits_of.ensures ∙ ap sort_bits word.2 in
    let low = word.0 in
    let high = word.1 in
    bits-binding t f (variable_of (tree t c.args.id)) (symbol-within t c.args.id f c.in-Sym.ensures.numbers) (symbol-of t c.args.id f c.requires.variable c.in-Sym.ensures.term)
    c.bits_of.result c.from.result (word.2 ∙ ap bit_vector (sym width)) (omega arith) (omega arith)
    (subst (λ (n : ℕ). n < 2 ^ c.bits_of.result) (sym c.from.ensures) (subst (λ (w : ℕ). c.args.number < 2 ^ w) (sym c.bits_of.ensures) c.requires.number))
