use Rattle.std.proofs.Common.{List, [], ◌∷◌, ◌++◌, true, map, filter, refl, ap, sym, ◌∙◌, subst}
use Rattle.smt_terms.specs.declared.ids.NodeId.{NodeId}
use Rattle.smt_terms.specs.Groups.{draw_each}
use Rattle.smt_terms.specs.Term.{constant}
use Rattle.term_table.specs.Formulas.{tree, trees_at}
use Rattle.cnf_polarity.specs.Cnf.{occurrences, literal}
use Rattle.cnf_polarity.specs.Literals.{names_at}
use Rattle.cnf_polarity.specs.Naming.{IsOrderOf, AreNamed}
use Rattle.cnf_polarity.specs.Putting.{all_clauses}
use Rattle.cnf_polarity.specs.Shapes.{is_named}
use Rattle.cnf_polarity.proofs.NodeGroups.{order-stays, drawn-named, made-group}
use Rattle.cnf_polarity.proofs.clauses.cnf.Goals as goal

pub named_clauses-requires-clause-order : goal.named_clauses-requires-clause-order
named_clauses-requires-clause-order c =
    subst (IsOrderOf c.draw_constants.new.table c.args.id) (sym c.deref-3.ensures.value)
    (order-stays c.args.table.now c.draw_constants.new.table c.in_ok-names.ensures.grows c.args.id c.in_ok-order.order.items c.requires.formula c.in_ok-order.ensures.order)

pub named_clauses-requires-clause-named : goal.named_clauses-requires-clause-named
named_clauses-requires-clause-named c =
    let t = c.args.table.now in
    let now = c.draw_constants.new.table in
    let order = c.in_ok-order.order.items in
    let named = c.in_ok-named.named.items in
    let names = c.in_ok-names.names.nodes in
    subst (λ (ks : List NodeId). AreNamed now ks c.deref-4.result.now names) (sym c.deref-3.ensures.value)
    (subst (λ (ks : List NodeId). AreNamed now order ks names) (sym c.deref-4.ensures.value)
    (drawn-named t now c.in_ok-names.ensures.grows order named names c.args.fresh.now c.in_ok-order.ensures.order.formulas c.in_ok-named.ensures.formulas
    (c.in_ok-named.ensures.terms ∙ ap (λ (ks : List NodeId). filter is_named (trees_at t ks)) c.deref.ensures.value)
    c.in_ok-names.ensures.nodes
    (c.in_ok-names.ensures.terms ∙ ap (λ (ks : List NodeId). map (λ n. constant n.0) (draw_each (trees_at t ks) c.args.fresh.now).symbols) c.deref-2.ensures.value)))

pub returns-clause-group : goal.returns-clause-group
returns-clause-group c =
    let t = c.args.table.now in
    let now = c.draw_constants.new.table in
    let root = c.args.id in
    let order = c.in_ok-order.order.items in
    let named = c.in_ok-named.named.items in
    let names = c.in_ok-names.names.nodes in
    let s = c.args.fresh.now in
    made-group t now c.named_clauses.new.table c.in_ok-names.ensures.grows c.in_ok-asserts.ensures.grows root order named names c.in_ok-asserts.asserts c.in_ok-names.names.symbols s _ refl refl
    c.requires.formula (sym c.is_clause.ensures ∙ c.if-is_clause.false) c.in_ok-named.ensures.formulas
    (c.in_ok-named.ensures.terms ∙ ap (λ (ks : List NodeId). filter is_named (trees_at t ks)) c.deref.ensures.value ∙ c.in_ok-order.ensures.named)
    c.in_ok-names.ensures.pairs
    (c.in_ok-names.ensures.symbols ∙ ap (λ (ks : List NodeId). (draw_each (trees_at t ks) s).symbols) c.deref-2.ensures.value)
    (c.in_ok-names.ensures.terms ∙ ap (λ (ks : List NodeId). map (λ n. constant n.0) (draw_each (trees_at t ks) s).symbols) c.deref-2.ensures.value)
    c.in_ok-asserts.ensures.nodes
    (c.in_ok-asserts.ensures.clauses
    ∙ ap (λ (ks : List NodeId). all_clauses (names_at now ks names) (occurrences true (tree now root)) (names_at now ks names) ++ literal (names_at now ks names) (tree now root) ∷ []) c.deref-4.ensures.value)
