use Rattle.std.proofs.Common.{subst, sym, ap, ◌∙◌}
use Rattle.term_table.specs.Formulas.{Formulas, Adds}
use Rattle.term_table.specs.View.{symbol_of, symbols_of, FitsEntry}
use Rattle.term_table.proofs.Symbols.{kept_inserted, trees_inserted, added_symbol, stored_symbol}
use Rattle.term_table.proofs.table.Table.add_symbol.Goals as goal

pub invariant_of-self-2 : goal.invariant_of-self-2
invariant_of-self-2 c =
    let fits = subst (λ (t : Formulas). FitsEntry t.sorts c.args.entry) (sym c.self.view_is) c.requires in
    kept_inserted c.self.inside.sorts c.self.inside.symbols.keys c.self.inside.nodes.entries c.self.invariant c.args.entry fits c.insert_full.new.self.keys c.in_ok-place.ensures.keys

pub returns-clause-symbol : goal.returns-clause-symbol
returns-clause-symbol c =
    let fits = subst (λ (t : Formulas). FitsEntry t.sorts c.args.entry) (sym c.self.view_is) c.requires in
    let stored = c.in_ok-place.ensures.stored in
    (stored_symbol c.self.inside.sorts c.self.inside.symbols.keys c.self.inside.nodes.entries c.self.invariant c.args.entry fits c.insert_full.new.self.keys c.in_ok-place.place stored.0 stored.1 stored.2).1
    ∙ ap (λ (t : Formulas). symbol_of t.sorts c.args.entry) c.self.view_is

pub returns-clause-added : goal.returns-clause-added
returns-clause-added c =
    let fits = subst (λ (t : Formulas). FitsEntry t.sorts c.args.entry) (sym c.self.view_is) c.requires in
    subst (λ (t : Formulas). Adds t.symbols (symbols_of c.self.inside.sorts c.insert_full.new.self.keys) (symbol_of t.sorts c.args.entry)) c.self.view_is
    (added_symbol c.self.inside.sorts c.self.inside.symbols.keys c.self.inside.nodes.entries c.self.invariant c.args.entry fits c.insert_full.new.self.keys c.in_ok-place.ensures.keys)

pub returns-clause-trees : goal.returns-clause-trees
returns-clause-trees c =
    let fits = subst (λ (t : Formulas). FitsEntry t.sorts c.args.entry) (sym c.self.view_is) c.requires in
    trees_inserted c.self.inside.sorts c.self.inside.symbols.keys c.self.inside.nodes.entries c.self.invariant c.args.entry fits c.insert_full.new.self.keys c.in_ok-place.ensures.keys
    ∙ ap (λ (t : Formulas). t.trees) c.self.view_is
