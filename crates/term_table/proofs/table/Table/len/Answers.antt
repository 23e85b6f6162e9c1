use Rattle.std.proofs.Common.{◌≡◌, length, subst, sym, ◌∙◌}
use Rattle.indexmap.specs.IndexMap.{spare}
use Rattle.term_table.specs.Formulas.{Formulas, IsTable}
use Rattle.term_table.proofs.Fields.{length-trees, is_table}
use Rattle.term_table.proofs.table.Table.len.Goals as goal

pub returns-clause-value : goal.returns-clause-value
returns-clause-value c =
    let count = length-trees c.self.inside.sorts c.self.inside.symbols.keys c.self.inside.nodes.entries c.self.invariant in
    subst (λ (t : Formulas). c.len.result ≡ length t.trees) c.self.view_is (c.len.ensures.len ∙ sym count)

pub returns-clause-table : goal.returns-clause-table
returns-clause-table c =
    subst IsTable c.self.view_is (is_table c.self.inside.sorts c.self.inside.symbols.keys c.self.inside.nodes.entries c.self.invariant (spare c.self.inside.nodes))
