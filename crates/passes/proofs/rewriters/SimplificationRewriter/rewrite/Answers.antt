use Rattle.std.proofs.Common.{◌∙◌, ap}
use Rattle.smt_terms.specs.Rank.{sort_of}
use Rattle.term_table.specs.Formulas.{tree}
use Rattle.term_subst.proofs.Gaining.{none-gained}
use Rattle.passes.proofs.rewriters.SimplificationRewriter.rewrite.Goals as goal

pub returns-in_err-id-clause-drawn : goal.returns-in_err-id-clause-drawn
returns-in_err-id-clause-drawn g c = none-gained c.args.fresh.now c.args.table.now.symbols c.simplify.new.table.symbols c.simplify.ensures.symbols

pub returns-clause-formula : goal.returns-clause-formula
returns-clause-formula g c = record {
  node = c.in_ok-id.ensures.node;
  sort =
      ap sort_of c.in_ok-id.ensures.term
      ∙ (c.simplify_keeps_values.ensures (tree c.args.table.now c.args.id) (c.know_table.ensures.sorted c.args.id.0 c.requires.formula.node)).sort
      ∙ c.requires.formula.sort;
}

pub returns-clause-drawn : goal.returns-clause-drawn
returns-clause-drawn g c = none-gained c.args.fresh.now c.args.table.now.symbols c.simplify.new.table.symbols c.simplify.ensures.symbols
