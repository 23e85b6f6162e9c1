use Rattle.std.proofs.Common.{◌∙◌, subst}
use Rattle.smt_values.specs.SortIds.{sort_at}
use Rattle.smt_terms.specs.Term.{Term}
use Rattle.term_table.specs.Formulas.{Adds}
use Rattle.sort_check.proofs.Nodes.{other_made, other_makes}
use Rattle.sort_check.proofs.making.node.Goals as goal

pub intern_of_sort-requires-clause-makes : goal.intern_of_sort-requires-clause-makes
intern_of_sort-requires-clause-makes c =
    other_makes c.args.table.now c.args.op c.args.kids.now (sort_at c.args.table.now.sorts c.in_ok-sort.sort) c.requires.kids c.requires.numbers c.requires.other c.in_ok-sort.ensures.rank

pub returns-clause-term : goal.returns-clause-term
returns-clause-term c =
    c.in_ok-intern_of_sort.ensures.term ∙ other_made c.args.table.now c.args.op _ c.requires.other

pub returns-clause-added : goal.returns-clause-added
returns-clause-added c =
    subst (λ (u : Term). Adds c.args.table.now.trees c.intern_of_sort.new.self.trees u) (other_made c.args.table.now c.args.op _ c.requires.other) c.in_ok-intern_of_sort.ensures.added
