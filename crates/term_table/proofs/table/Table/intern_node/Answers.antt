use Rattle.std.proofs.Common.{◌≡◌, List, [], map, subst}
use Rattle.indexmap.specs.IndexMap.{spare}
use Rattle.smt_terms.specs.Term.{Term}
use Rattle.term_table.specs.Formulas.{Formulas, tree_in, term_over, trees_at, Adds, GrowsByOne}
use Rattle.term_table.specs.View.{row_of, symbols_of, grown}
use Rattle.term_table.proofs.Fields.{MakesNode, makes_node}
use Rattle.term_table.proofs.Inserted.{kept_inserted, grows_inserted, added_inserted, stored_node}
use Rattle.term_table.proofs.table.Table.intern_node.Goals as goal

makes_of : (c : goal.In_ok-place) → MakesNode c.self.inside.sorts c.self.inside.symbols.keys c.self.inside.nodes.entries c.self.invariant c.args.node c.args.sort
makes_of c =
    makes_node c.self.inside.sorts c.self.inside.symbols.keys c.self.inside.nodes.entries c.self.invariant c.args.node c.args.sort (spare c.self.inside.nodes) c.args.self.now c.self.view_is c.requires.makes c.requires.rank c.requires.sort

abbrev trees_of : (c : goal.In_ok-place) → List Term
trees_of c = grown (symbols_of c.self.inside.sorts c.self.inside.symbols.keys) c.self.inside.sorts [] (map row_of c.insert_full.new.self.entries)

pub invariant_of-self-2 : goal.invariant_of-self-2
invariant_of-self-2 c =
    kept_inserted c.self.inside.sorts c.self.inside.symbols.keys c.self.inside.nodes c.self.invariant c.args.node c.args.sort (makes_of c) c.insert_full.new.self.entries c.in_ok-place.ensures.entries

pub returns-clause-node : goal.returns-clause-node
returns-clause-node c =
    (stored_node c.self.inside.sorts c.self.inside.symbols.keys c.self.inside.nodes c.self.invariant c.args.node c.args.sort (makes_of c) c.insert_full.new.self.entries c.in_ok-place.ensures.entries c.in_ok-place.place c.in_ok-place.ensures.index c.in_ok-place.ensures.within).0

pub returns-clause-term : goal.returns-clause-term
returns-clause-term c =
    let P : Formulas → Type 0 = λ t. tree_in (trees_of c) (record { 0 = c.in_ok-place.place }) ≡ term_over t c.args.node.op (trees_at t c.args.node.kids.items) in
    subst P c.self.view_is
    (stored_node c.self.inside.sorts c.self.inside.symbols.keys c.self.inside.nodes c.self.invariant c.args.node c.args.sort (makes_of c) c.insert_full.new.self.entries c.in_ok-place.ensures.entries c.in_ok-place.place c.in_ok-place.ensures.index c.in_ok-place.ensures.within).1

pub returns-clause-grows : goal.returns-clause-grows
returns-clause-grows c =
    let P : Formulas → Type 0 = λ t. GrowsByOne t.trees (trees_of c) in
    subst P c.self.view_is
    (grows_inserted c.self.inside.sorts c.self.inside.symbols.keys c.self.inside.nodes c.self.invariant c.args.node c.args.sort (makes_of c) c.insert_full.new.self.entries c.in_ok-place.ensures.entries)

pub returns-clause-added : goal.returns-clause-added
returns-clause-added c =
    let P : Formulas → Type 0 = λ t. Adds t.trees (trees_of c) (term_over t c.args.node.op (trees_at t c.args.node.kids.items)) in
    subst P c.self.view_is
    (added_inserted c.self.inside.sorts c.self.inside.symbols.keys c.self.inside.nodes c.self.invariant c.args.node c.args.sort (makes_of c) c.insert_full.new.self.entries c.in_ok-place.ensures.entries)
