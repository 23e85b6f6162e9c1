use Rattle.std.proofs.Common.{subst, sym}
use Rattle.indexmap.specs.IndexMap.{spare}
use Rattle.term_table.specs.Formulas.{Formulas, AreNodes, IsOpOf, IsNodeOf}
use Rattle.smt_terms.specs.declared.ids.NodeId.{NodeId}
use Rattle.term_table.proofs.Fields.{node_found, node_absent, none_from}
use Rattle.term_table.proofs.table.Table.place.Goals as goal

pub returns-in-Some : goal.returns-in-Some
returns-in-Some c =
    let n = c.args.node.now in
    subst (λ (t : Formulas). IsNodeOf t n.op n.kids.items (record { 0 = c.in-Some.place })) c.self.view_is
    (node_found c.self.inside.sorts c.self.inside.symbols.keys c.self.inside.nodes.entries c.self.invariant n c.in-Some.place (spare c.self.inside.nodes) (sym c.in-Some.ensures.index))

pub returns-in-None : goal.returns-in-None
returns-in-None c =
    let n = c.args.node.now in
    let kids = subst (λ (t : Formulas). AreNodes t n.kids.items) (sym c.self.view_is) c.requires.kids in
    let numbers = subst (λ (t : Formulas). IsOpOf t n.op) (sym c.self.view_is) c.requires.numbers in
    subst (λ (t : Formulas). (k : NodeId) → IsNodeOf t n.op n.kids.items k → ⊥) c.self.view_is
    (node_absent c.self.inside.sorts c.self.inside.symbols.keys c.self.inside.nodes.entries c.self.invariant n (spare c.self.inside.nodes) (none_from _ c.in-None.ensures.found) kids numbers)
