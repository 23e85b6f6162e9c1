use Rattle.std.proofs.Common.{get_or, sym, ◌∙◌, arith}
use Rattle.smt_terms.specs.declared.ids.NodeId.{NodeId}
use Rattle.quantifier_forms.proofs.Bodies.{quantified-formula}
use Rattle.quantifier_forms.proofs.Reached.{first-none, first-at}
use Rattle.quantifier_forms.proofs.reaching.first_binder.Goals as goal

pub returns-then-is_binder-clause-first : goal.returns-then-is_binder-clause-first
returns-then-is_binder-clause-first c =
    first-at c.args.table.now c.args.ids.now c.loop-id.id-index (record { 0 = 0 }) c.loop-id-test.true c.loop-id.invariant (sym c.is_binder.ensures ∙ c.if-is_binder.true)

pub returns-then-is_binder-clause-binder : goal.returns-then-is_binder-clause-binder
returns-then-is_binder-clause-binder c =
    let quant = sym c.is_binder.ensures ∙ c.if-is_binder.true in
    let d : NodeId = record { 0 = 0 } in
    record { formula = quantified-formula c.args.table.now (get_or c.args.ids.now c.loop-id.id-index d) c.know_table.ensures (c.requires c.loop-id.id-index d c.loop-id-test.true) quant; quantified = quant }

pub returns-clause-first : goal.returns-clause-first
returns-clause-first c = first-none c.args.table.now c.args.ids.now (λ i d lt. c.loop-id.invariant i d (let past = c.loop-id-test.false in omega arith))
