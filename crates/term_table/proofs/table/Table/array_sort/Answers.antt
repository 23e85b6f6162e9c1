use Rattle.std.proofs.Common.{ap, ◌∙◌}
use Rattle.smt_terms.specs.Sorts.{array}
use Rattle.smt_values.specs.SortIds.{sort_at}
use Rattle.term_table.specs.Formulas.{Formulas}
use Rattle.term_table.proofs.Symbols.{added_longer, added_stays, symbols-stay, kept_sorts, trees_sorts}
use Rattle.term_table.proofs.table.Table.array_sort.Goals as goal

pub invariant_of-self-2 : goal.invariant_of-self-2
invariant_of-self-2 c =
    kept_sorts c.self.inside.sorts c.array.new.self (added_longer c.self.inside.sorts c.array.new.self (array (sort_at c.self.inside.sorts c.args.index) (sort_at c.self.inside.sorts c.args.element)) c.array.ensures.grows) (added_stays c.self.inside.sorts c.array.new.self (array (sort_at c.self.inside.sorts c.args.index) (sort_at c.self.inside.sorts c.args.element)) c.array.ensures.grows) c.array.ensures.table
    c.self.inside.symbols.keys c.self.inside.nodes.entries c.self.invariant

pub returns-clause-symbols : goal.returns-clause-symbols
returns-clause-symbols c =
    symbols-stay c.self.inside.sorts c.array.new.self (added_longer c.self.inside.sorts c.array.new.self (array (sort_at c.self.inside.sorts c.args.index) (sort_at c.self.inside.sorts c.args.element)) c.array.ensures.grows) (added_stays c.self.inside.sorts c.array.new.self (array (sort_at c.self.inside.sorts c.args.index) (sort_at c.self.inside.sorts c.args.element)) c.array.ensures.grows) c.array.ensures.table
    c.self.inside.symbols.keys c.self.invariant.entries
    ∙ ap (λ (t : Formulas). t.symbols) c.self.view_is

pub returns-clause-trees : goal.returns-clause-trees
returns-clause-trees c =
    trees_sorts c.self.inside.sorts c.array.new.self (added_longer c.self.inside.sorts c.array.new.self (array (sort_at c.self.inside.sorts c.args.index) (sort_at c.self.inside.sorts c.args.element)) c.array.ensures.grows) (added_stays c.self.inside.sorts c.array.new.self (array (sort_at c.self.inside.sorts c.args.index) (sort_at c.self.inside.sorts c.args.element)) c.array.ensures.grows) c.array.ensures.table
    c.self.inside.symbols.keys c.self.inside.nodes.entries c.self.invariant
    ∙ ap (λ (t : Formulas). t.trees) c.self.view_is
