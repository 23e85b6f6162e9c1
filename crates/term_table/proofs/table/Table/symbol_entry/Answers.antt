use Rattle.std.proofs.Common.{subst}
use Rattle.indexmap.specs.IndexMap.{spare}
use Rattle.term_table.specs.Formulas.{IsTable}
use Rattle.term_table.proofs.Fields.{is_table}
use Rattle.term_table.proofs.table.Table.symbol_entry.Goals as goal

pub returns-clause-table : goal.returns-clause-table
returns-clause-table c =
    subst IsTable c.self.view_is (is_table c.self.inside.sorts c.self.inside.symbols.keys c.self.inside.nodes.entries c.self.invariant (spare c.self.inside.nodes))
