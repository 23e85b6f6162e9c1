use Rattle.std.proofs.Common.{length, ap, sym, ◌∙◌}
use Rattle.smt_terms.specs.declared.ids.NodeId.{NodeId}
use Rattle.term_table.specs.Formulas.{trees_at}
use Rattle.bit_blast.specs.Blasted.{term_gates}
use Rattle.bit_blast.specs.Circuits.{sum}
use Rattle.bit_blast.proofs.ProductNodes.{products-none, row-formulas, row-count, products-more}
use Rattle.bit_blast.proofs.products.product.Goals as goal

pub loop-place-init : goal.loop-place-init
loop-place-init c =
    let found = c.in_ok-none.ensures in
    products-none c.args.table.now c.truth.new.table c.in_ok-none.none c.args.a.now c.args.b.now c.in_ok-total.total.items
    (record { grows = found.grows; symbols = found.symbols; sorts = found.sorts })
    (record { formula = found.formula; term = found.term })
    c.in_ok-total.ensures

pub row_where-requires-clause-row : goal.row_where-requires-clause-row
row_where-requires-clause-row c =
    let t = c.loop-place.table in
    row-formulas c.args.table.now t c.in_ok-none.none c.args.a.now c.args.b.now c.loop-place.place c.loop-place.total.items c.requires.a c.requires.b c.loop-place.invariant
    c.deref.result.now (c.deref.ensures.value ∙ c.in_ok-moved.ensures)

pub sum-requires-clause-same : goal.sum-requires-clause-same
sum-requires-clause-same c =
    let t = c.loop-place.table in
    let d : NodeId = record { 0 = 0 } in
    ap length c.deref-in-loop-place.ensures.value
    ∙ c.loop-place.invariant.width
    ∙ sym (row-count c.args.table.now t c.in_ok-none.none c.args.a.now c.args.b.now c.loop-place.place c.loop-place.total.items c.requires.a c.requires.b c.loop-place.invariant
    c.deref.result.now (c.deref.ensures.value ∙ c.in_ok-moved.ensures) c.row_where.new.table d c.in_ok-row.row.items c.in_ok-row.ensures.bits)
    ∙ sym (ap length c.deref-in-loop-place-2.ensures.value)

pub loop-place-preserved : goal.loop-place-preserved
loop-place-preserved c =
    let t = c.loop-place.table in
    let mid = c.row_where.new.table in
    let d : NodeId = record { 0 = 0 } in
    let row = c.in_ok-row.ensures in
    let total = c.in_ok-total-2.ensures in
    let total_is = c.deref-in-loop-place.ensures.value in
    let row_is = c.deref-in-loop-place-2.ensures.value in
    products-more c.args.table.now t c.in_ok-none.none c.args.a.now c.args.b.now c.loop-place.place c.loop-place.total.items c.requires.a c.requires.b c.loop-place.invariant
    c.deref.result.now (c.deref.ensures.value ∙ c.in_ok-moved.ensures) mid c.sum.new.table d c.in_ok-row.row.items c.in_ok-total-2.total.items c.loop-place-test.true
    (record { grows = row.grows; symbols = row.symbols; sorts = row.sorts })
    row.bits
    (record { grows = total.grows; symbols = total.symbols; sorts = total.sorts })
    (record { formulas = total.bits.formulas; terms = total.bits.terms ∙ (λ i. sum term_gates (trees_at mid (total_is i)) (trees_at mid (row_is i))) })
