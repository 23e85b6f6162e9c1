use Rattle.std.proofs.Common.{◌≡◌, IfOk, ap, sym, ◌∙◌, subst}
use Rattle.smt_terms.specs.Term.{Term}
use Rattle.term_table.specs.Formulas.{tree, trees_at}
use Rattle.bit_blast.specs.Blasted.{term_gates}
use Rattle.bit_blast.specs.Circuits.{less, with_top_turned}
use Rattle.bit_blast.proofs.BitLists.{trees-stay}
use Rattle.bit_blast.proofs.OrderBits.{turned-count}
use Rattle.bit_blast.proofs.orders.signed_less.Goals as goal

pub less-requires-clause-same : goal.less-requires-clause-same
less-requires-clause-same c =
    turned-count c.args.table.now c.with_top_turned.new.table c.args.a.now c.in_ok-first.first.items c.deref.result.now c.in_ok-first.ensures.bits c.deref.ensures.value
    ∙ c.requires.same
    ∙ sym (turned-count c.with_top_turned.new.table c.with_top_turned-2.new.table c.args.b.now c.in_ok-second.second.items c.deref-2.result.now c.in_ok-second.ensures.bits c.deref-2.ensures.value)

pub returns-clause-term : goal.returns-clause-term
returns-clause-term c =
    let t = c.args.table.now in
    let turned = c.with_top_turned.new.table in
    let now = c.with_top_turned-2.new.table in
    let first = ap (trees_at now) c.deref.ensures.value ∙ trees-stay turned now c.in_ok-first.first.items c.with_top_turned-2.ensures.grows c.in_ok-first.ensures.bits.formulas ∙ c.in_ok-first.ensures.bits.terms in
    let second = ap (trees_at now) c.deref-2.ensures.value ∙ c.in_ok-second.ensures.bits.terms ∙ ap (with_top_turned term_gates) (trees-stay t turned c.args.b.now c.with_top_turned.ensures.grows c.requires.b) in
    subst (λ (u : Term). IfOk c.less.result (λ k. tree c.less.new.table k ≡ u)) (λ i. less term_gates (first i) (second i)) c.less.ensures.term
