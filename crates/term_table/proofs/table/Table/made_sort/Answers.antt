use Rattle.term_table.specs.Formulas.{trees_at}
use Rattle.term_table.proofs.Binding.{quantifier_truth}
use Rattle.term_table.proofs.table.Table.made_sort.Goals as goal

pub returns-in-Forall-clause-rank : goal.returns-in-Forall-clause-rank
returns-in-Forall-clause-rank c = quantifier_truth c.args.self.now c.args.op (trees_at c.args.self.now c.args.kids.now) c.in-Forall.is c.requires.ranked
