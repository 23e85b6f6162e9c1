use Rattle.std.proofs.Common.{◌<◌, length, subst, sym, ap, ◌∙◌, arith}
use Rattle.std.specs.Option.{option_map}
use Rattle.std.specs.Map.Iter.{deref_pair}
use Rattle.indexmap.specs.IndexMap.{spare}
use Rattle.term_table.specs.Formulas.{Formulas, IsTable}
use Rattle.term_table.specs.View.{row_of, IsRowAt}
use Rattle.term_table.proofs.Fields.{length-trees, row_at, is_table}
use Rattle.term_table.proofs.table.Table.entry.Goals as goal

pub unwrap-requires : goal.unwrap-requires
unwrap-requires c =
    let within = subst (λ (t : Formulas). c.args.id.0 < length t.trees) (sym c.self.view_is) c.requires in
    let count = length-trees c.self.inside.sorts c.self.inside.symbols.keys c.self.inside.nodes.entries c.self.invariant in
    c.get_index.ensures.found.1 (omega (arith, within, count))

pub returns-clause-row : goal.returns-clause-row
returns-clause-row c =
    let at = row_at c.self.inside.sorts c.self.inside.symbols.keys c.self.inside.nodes.entries c.self.invariant c.args.id.0 (c.unwrap.result.0.now, c.unwrap.result.1.now) (sym c.get_index.ensures.entry ∙ ap (option_map deref_pair) c.unwrap.ensures) in
    subst (λ (t : Formulas). IsRowAt t.symbols t.sorts t.trees c.args.id.0 (row_of (c.unwrap.result.0.now, c.unwrap.result.1.now))) c.self.view_is at

pub returns-clause-table : goal.returns-clause-table
returns-clause-table c =
    subst IsTable c.self.view_is (is_table c.self.inside.sorts c.self.inside.symbols.keys c.self.inside.nodes.entries c.self.invariant (spare c.self.inside.nodes))
