use Rattle.std.proofs.Common.{sym, ◌∙◌}
use Rattle.term_table.specs.Formulas.{tree}
use Rattle.simplify.proofs.ArraySteps.{stores-filled, stores-hidden, stores-other, storing-opaque}
use Rattle.simplify.proofs.arrays.hidden.Goals as goal

pub returns-then-are_same : goal.returns-then-are_same
returns-then-are_same c =
    let store = c.in-Stored.ensures in
    record {
      earlier = store.earlier;
      term = λ v. stores-hidden c.args.table.now c.args.array c.in-Stored.before c.in-Stored.at c.in-Stored.value store (tree c.args.table.now c.args.index) v (sym c.are_same.ensures ∙ c.if-are_same.true);
    }

pub returns-else-are_same : goal.returns-else-are_same
returns-else-are_same c v = stores-other c.args.table.now c.args.array c.in-Stored.before c.in-Stored.at c.in-Stored.value c.in-Stored.ensures (tree c.args.table.now c.args.index) v (sym c.are_same.ensures ∙ c.if-are_same.false)

pub returns-in-Filled : goal.returns-in-Filled
returns-in-Filled c v = stores-filled c.args.table.now c.args.array c.in-Filled.field-0 c.in-Filled.ensures (tree c.args.table.now c.args.index) v

pub returns-in-Opaque : goal.returns-in-Opaque
returns-in-Opaque c v = storing-opaque (tree c.args.table.now c.args.array) (tree c.args.table.now c.args.index) v c.in-Opaque.ensures
