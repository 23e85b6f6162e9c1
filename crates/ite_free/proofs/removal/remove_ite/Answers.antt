use Rattle.std.proofs.Common.{◌≡◌, filter, All, refl, ap, sym, ◌∙◌, subst}
use Rattle.smt_terms.specs.declared.ids.NodeId.{NodeId}
use Rattle.smt_terms.specs.declared.ids.SymId.{SymId}
use Rattle.smt_terms.specs.Groups.{draw_each, with_constants}
use Rattle.smt_terms.specs.Rank.{IsWellSorted}
use Rattle.term_groups.specs.Grouping.{terms_of}
use Rattle.term_groups.specs.Replacing.{is_open, IsReplaced, IsDone}
use Rattle.term_groups.specs.Seen.{named_at}
use Rattle.term_groups.proofs.Draws.{draws-for_each}
use Rattle.term_groups.proofs.NodesDrawn.{named-grow}
use Rattle.term_groups.proofs.PartNodes.{parts-nodes, parts-in_order, trees-same, root-among, constants-stay, All-node, drawn-done}
use Rattle.term_subst.specs.Substituting.{NeverGivesGained}
use Rattle.term_table.specs.Formulas.{tree, trees_at, IsNode}
use Rattle.term_subst.proofs.Growing.{tree-grows, node-grows}
use Rattle.ite_free.specs.Ite.{term_ites}
use Rattle.ite_free.specs.Removing.{is_choice}
use Rattle.ite_free.proofs.DrawnConstants.{are-constants, collected-ites}
use Rattle.ite_free.proofs.RemovedNodes.{removed-group}
use Rattle.ite_free.proofs.removal.remove_ite.Goals as goal

pub replace_ites-requires-clause-order : goal.replace_ites-requires-clause-order
replace_ites-requires-clause-order c =
    parts-in_order c.args.table.now c.draw_constants.new.table c.in_ok-constants.ensures.grows c.args.id c.requires.formula.node c.in_ok-order.order.items c.deref-3.result.now c.deref-3.ensures.value
    c.in_ok-order.ensures.nodes (c.in_ok-order.ensures.parts is_open (λ k node. refl) (λ q xs u. refl))

pub replace_ites-requires-clause-constants : goal.replace_ites-requires-clause-constants
replace_ites-requires-clause-constants c =
    let t0 = c.args.table.now in
    let t1 = c.draw_constants.new.table in
    let u = tree t0 c.args.id in
    let fine : IsWellSorted u =
    subst IsWellSorted (tree-grows t0 t1 c.in_ok-constants.ensures.grows c.args.id c.requires.formula.node) (c.know_table.ensures.sorted c.args.id.0 (node-grows t0 t1 c.in_ok-constants.ensures.grows c.args.id c.requires.formula.node)) in
    let ites : trees_at t0 c.deref-2.result.now ≡ term_ites u =
    ap (trees_at t0) c.deref-2.ensures.value ∙ c.in_ok-ites.ensures.terms ∙ ap (λ ks. filter is_choice (trees_at t0 ks)) c.deref.ensures.value
    ∙ c.in_ok-order.ensures.collected is_open is_choice (λ k node. refl) (λ q xs v. refl) ∙ collected-ites u in
    are-constants t0 t1 c.deref-2.result.now c.in_ok-constants.constants u c.args.fresh.now fine ites c.in_ok-constants.ensures.pairs c.in_ok-constants.ensures.nodes c.in_ok-constants.ensures.symbols c.in_ok-constants.ensures.terms

pub definitions-requires-clause-constants : goal.definitions-requires-clause-constants
definitions-requires-clause-constants c =
    let t0 = c.args.table.now in
    let t1 = c.draw_constants.new.table in
    let u = tree t0 c.args.id in
    let fine : IsWellSorted u =
    subst IsWellSorted (tree-grows t0 t1 c.in_ok-constants.ensures.grows c.args.id c.requires.formula.node) (c.know_table.ensures.sorted c.args.id.0 (node-grows t0 t1 c.in_ok-constants.ensures.grows c.args.id c.requires.formula.node)) in
    let ites : trees_at t0 c.deref-2.result.now ≡ term_ites u =
    ap (trees_at t0) c.deref-2.ensures.value ∙ c.in_ok-ites.ensures.terms ∙ ap (λ ks. filter is_choice (trees_at t0 ks)) c.deref.ensures.value
    ∙ c.in_ok-order.ensures.collected is_open is_choice (λ k node. refl) (λ q xs v. refl) ∙ collected-ites u in
    constants-stay t1 c.replace_ites.new.table is_choice c.in_ok-constants.constants c.in_ok-memo.ensures.grows
    (are-constants t0 t1 c.deref-2.result.now c.in_ok-constants.constants u c.args.fresh.now fine ites c.in_ok-constants.ensures.pairs c.in_ok-constants.ensures.nodes c.in_ok-constants.ensures.symbols c.in_ok-constants.ensures.terms)

pub definitions-requires-clause-done : goal.definitions-requires-clause-done
definitions-requires-clause-done c =
    let t0 = c.args.table.now in
    let t1 = c.draw_constants.new.table in
    let parts = c.in_ok-order.ensures.parts is_open (λ k node. refl) (λ q xs u. refl) in
    let nodes = parts-nodes t0 t1 c.in_ok-constants.ensures.grows c.args.id c.requires.formula.node c.in_ok-order.order.items c.deref-3.result.now c.deref-3.ensures.value c.in_ok-order.ensures.nodes parts in
    let same = ap (filter is_choice) (trees-same t0 t1 c.in_ok-constants.ensures.grows c.args.id c.requires.formula.node c.in_ok-order.order.items c.deref-3.result.now c.deref-3.ensures.value c.in_ok-order.ensures.nodes parts) in
    let terms : terms_of (named_at t1 c.in_ok-constants.constants.symbols) ≡ filter is_choice (trees_at t1 c.deref-3.result.now) =
    ap terms_of c.in_ok-constants.ensures.symbols
    ∙ draws-for_each (trees_at t0 c.deref-2.result.now) c.args.fresh.now
    ∙ ap (trees_at t0) c.deref-2.ensures.value ∙ c.in_ok-ites.ensures.terms ∙ ap (λ ks. filter is_choice (trees_at t0 ks)) c.deref.ensures.value
    ∙ sym same in
    let ps = c.in_ok-constants.constants.symbols in
    let t2 = c.replace_ites.new.table in
    subst (λ ns. All (λ (p : SymId × NodeId). IsDone t2 ns c.in_ok-memo.memo p.1) ps) (sym (named-grow t1 t2 c.in_ok-memo.ensures.grows ps c.in_ok-constants.ensures.pairs))
    (drawn-done t1 t2 c.know_table.ensures c.deref-3.result.now nodes c.in_ok-constants.constants c.in_ok-constants.ensures.pairs (named_at t1 ps) c.in_ok-memo.memo c.in_ok-memo.ensures.done is_choice terms)

pub returns-in_err-push-clause-drawn : goal.returns-in_err-push-clause-drawn
returns-in_err-push-clause-drawn c =
    subst (λ fs. NeverGivesGained c.draw_constants.new.fresh c.args.table.now.symbols fs) (sym (c.in_ok-asserts.ensures.symbols ∙ c.in_ok-memo.ensures.symbols)) c.in_ok-constants.ensures.drawn

pub returns-clause-drawn : goal.returns-clause-drawn
returns-clause-drawn c =
    subst (λ fs. NeverGivesGained c.draw_constants.new.fresh c.args.table.now.symbols fs) (sym (c.in_ok-asserts.ensures.symbols ∙ c.in_ok-memo.ensures.symbols)) c.in_ok-constants.ensures.drawn

pub returns-clause-left : goal.returns-clause-left
returns-clause-left c =
    let t0 = c.args.table.now in
    let u = tree t0 c.args.id in
    let ites : trees_at t0 c.deref-2.result.now ≡ term_ites u =
    ap (trees_at t0) c.deref-2.ensures.value ∙ c.in_ok-ites.ensures.terms ∙ ap (λ ks. filter is_choice (trees_at t0 ks)) c.deref.ensures.value
    ∙ c.in_ok-order.ensures.collected is_open is_choice (λ k node. refl) (λ q xs v. refl) ∙ collected-ites u in
    c.in_ok-constants.ensures.left ∙ ap (λ ts. (draw_each ts c.args.fresh.now).names) ites

pub returns-clause-group : goal.returns-clause-group
returns-clause-group c =
    let t0 = c.args.table.now in
    let t1 = c.draw_constants.new.table in
    let t2 = c.replace_ites.new.table in
    let u = tree t0 c.args.id in
    let ns = named_at t1 c.in_ok-constants.constants.symbols in
    let parts = c.in_ok-order.ensures.parts is_open (λ k node. refl) (λ q xs v. refl) in
    let nodes = parts-nodes t0 t1 c.in_ok-constants.ensures.grows c.args.id c.requires.formula.node c.in_ok-order.order.items c.deref-3.result.now c.deref-3.ensures.value c.in_ok-order.ensures.nodes parts in
    let among = root-among t0 t1 c.in_ok-constants.ensures.grows c.args.id c.requires.formula.node c.in_ok-order.order.items c.deref-3.result.now c.deref-3.ensures.value c.in_ok-order.ensures.nodes parts in
    let node : IsNode t1 c.args.id = node-grows t0 t1 c.in_ok-constants.ensures.grows c.args.id c.requires.formula.node in
    let done : IsDone t2 ns c.in_ok-memo.memo c.args.id = All-node t1 c.know_table.ensures (IsDone t2 ns c.in_ok-memo.memo) c.deref-3.result.now nodes c.in_ok-memo.ensures.done c.args.id node among in
    let root : IsReplaced t2 ns c.args.id c.known.result = subst (λ (r : NodeId). IsReplaced t2 ns c.args.id r) (sym c.known.ensures) done.itself in
    let stays : tree t2 c.args.id ≡ u = tree-grows t1 t2 c.in_ok-memo.ensures.grows c.args.id node ∙ tree-grows t0 t1 c.in_ok-constants.ensures.grows c.args.id c.requires.formula.node in
    let ites : trees_at t0 c.deref-2.result.now ≡ term_ites u =
    ap (trees_at t0) c.deref-2.ensures.value ∙ c.in_ok-ites.ensures.terms ∙ ap (λ ks. filter is_choice (trees_at t0 ks)) c.deref.ensures.value
    ∙ c.in_ok-order.ensures.collected is_open is_choice (λ k node. refl) (λ q xs v. refl) ∙ collected-ites u in
    removed-group t1 t2 c.definitions.new.table c.in_ok-memo.ensures.grows c.in_ok-asserts.ensures.grows c.in_ok-constants.constants c.in_ok-constants.ensures.pairs u c.args.fresh.now
    (c.in_ok-constants.ensures.symbols ∙ ap (λ ts. (draw_each ts c.args.fresh.now).symbols) ites)
    c.in_ok-asserts.asserts c.push.new.self c.known.result c.in_ok-asserts.ensures.nodes c.in_ok-push.ensures.ok root.result (root.term ∙ ap (with_constants ns) stays) c.in_ok-asserts.ensures.terms
