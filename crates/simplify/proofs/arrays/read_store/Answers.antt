use Rattle.std.proofs.Common.{sym, ◌∙◌}
use Rattle.term_table.specs.Formulas.{tree}
use Rattle.simplify.proofs.ArraySteps.{reads-here, reads-before, reads-unknown}
use Rattle.simplify.proofs.arrays.read_store.Goals as goal

pub returns-then-are_same : goal.returns-then-are_same
returns-then-are_same c =
    reads-here c.args.table.now c.args.store c.args.array c.args.at c.args.value c.requires.stored (tree c.args.table.now c.args.index) (sym c.are_same.ensures ∙ c.if-are_same.true)

pub returns-then-are_different : goal.returns-then-are_different
returns-then-are_different c = (
  c.requires.stored.earlier,
  reads-before c.args.table.now c.args.store c.args.array c.args.at c.args.value c.requires.stored (tree c.args.table.now c.args.index)
      (sym c.are_same.ensures ∙ c.if-are_same.false) (sym c.are_different.ensures ∙ c.if-are_different.true),
)

pub returns : goal.returns
returns c =
    reads-unknown c.args.table.now c.args.store c.args.array c.args.at c.args.value c.requires.stored (tree c.args.table.now c.args.index)
    (sym c.are_same.ensures ∙ c.if-are_same.false) (sym c.are_different.ensures ∙ c.if-are_different.false)
