use Rattle.std.proofs.Common.{◌≡◌, ◌++◌, [], filter, get_or, refl, ap, sym, ◌∙◌, subst}
use Rattle.smt_terms.specs.declared.ids.NodeId.{NodeId}
use Rattle.smt_terms.specs.Groups.{draw_each, with_constants}
use Rattle.smt_terms.specs.Rank.{IsWellSorted}
use Rattle.term_groups.specs.Grouping.{terms_of}
use Rattle.term_groups.specs.Replacing.{is_open, IsReplaced, IsDone}
use Rattle.term_groups.specs.Seen.{named_at}
use Rattle.term_groups.proofs.Draws.{draws-for_each}
use Rattle.term_groups.proofs.NodesDrawn.{named-grow}
use Rattle.term_groups.proofs.PartNodes.{All-node, trees-same, parts-nodes, parts-in_order, root-among, drawn-done}
use Rattle.term_subst.specs.Substituting.{NeverGivesGained}
use Rattle.term_subst.proofs.Growing.{tree-grows, node-grows}
use Rattle.term_table.specs.Formulas.{tree, trees_at, IsNode}
use Rattle.ackermann.specs.Ackermann.{applications, without_constant, pairs}
use Rattle.ackermann.specs.LiveUses.{named_uses, AreBehind}
use Rattle.ackermann.specs.Removals.{is_use}
use Rattle.ackermann.specs.Replacing.{is_new_use, all_named}
use Rattle.ackermann.proofs.GrownUses.{named-stay, uses-grow}
use Rattle.ackermann.proofs.NewUses.{new-parts, are-new_constants, new_constants-stay, new-behind}
use Rattle.ackermann.proofs.RemovedUses.{removed-group}
use Rattle.ackermann.proofs.removal.remove_applications.Goals as goal

pub replace_uses-requires-clause-order : goal.replace_uses-requires-clause-order
replace_uses-requires-clause-order c =
    parts-in_order c.args.table.now c.draw_constants.new.table c.in_ok-constants.ensures.grows c.args.id c.requires.formula.node c.in_ok-order.order.items c.deref-3.result.now c.deref-3.ensures.value
    c.in_ok-order.ensures.nodes (c.in_ok-order.ensures.parts is_open (λ k node. refl) (λ q xs u. refl))

pub replace_uses-requires-clause-uses : goal.replace_uses-requires-clause-uses
replace_uses-requires-clause-uses c = (uses-grow c.args.table.now c.draw_constants.new.table c.in_ok-constants.ensures.grows c.args.uses.now c.requires.live).each

pub replace_uses-requires-clause-constants : goal.replace_uses-requires-clause-constants
replace_uses-requires-clause-constants c =
    let t0 = c.args.table.now in
    let t1 = c.draw_constants.new.table in
    let us = c.args.uses.now in
    let before = named_uses t0 us in
    let u = tree t0 c.args.id in
    let fine : IsWellSorted u =
    subst IsWellSorted (tree-grows t0 t1 c.in_ok-constants.ensures.grows c.args.id c.requires.formula.node) (c.know_table.ensures.sorted c.args.id.0 (node-grows t0 t1 c.in_ok-constants.ensures.grows c.args.id c.requires.formula.node)) in
    let new_are : trees_at t0 c.deref-2.result.now ≡ filter (is_new_use before) (trees_at t0 c.in_ok-order.order.items) =
    ap (trees_at t0) c.deref-2.ensures.value ∙ c.in_ok-new.ensures.terms ∙ ap (λ ks. filter (is_new_use before) (trees_at t0 ks)) c.deref.ensures.value in
    let uses_are : trees_at t0 c.deref-2.result.now ≡ without_constant before (applications u) =
    new_are ∙ new-parts before (trees_at t0 c.in_ok-order.order.items) u (c.in_ok-order.ensures.collected is_open is_use (λ k node. refl) (λ q xs v. refl)) in
    are-new_constants t0 t1 us c.deref-2.result.now (trees_at t0 c.in_ok-order.order.items) c.in_ok-constants.constants u c.args.fresh.now c.in_ok-constants.ensures.grows c.requires.live.each fine new_are uses_are
    c.in_ok-constants.ensures.pairs c.in_ok-constants.ensures.nodes c.in_ok-constants.ensures.symbols c.in_ok-constants.ensures.terms

pub enter_all-requires-clause-uses : goal.enter_all-requires-clause-uses
enter_all-requires-clause-uses c =
    let t1 = c.draw_constants.new.table in
    uses-grow t1 c.replace_uses.new.table c.in_ok-memo.ensures.grows c.args.uses.now (uses-grow c.args.table.now t1 c.in_ok-constants.ensures.grows c.args.uses.now c.requires.live)

pub enter_all-requires-clause-constants : goal.enter_all-requires-clause-constants
enter_all-requires-clause-constants c =
    let t0 = c.args.table.now in
    let t1 = c.draw_constants.new.table in
    let us = c.args.uses.now in
    let before = named_uses t0 us in
    let u = tree t0 c.args.id in
    let live = uses-grow t0 t1 c.in_ok-constants.ensures.grows us c.requires.live in
    let fine : IsWellSorted u =
    subst IsWellSorted (tree-grows t0 t1 c.in_ok-constants.ensures.grows c.args.id c.requires.formula.node) (c.know_table.ensures.sorted c.args.id.0 (node-grows t0 t1 c.in_ok-constants.ensures.grows c.args.id c.requires.formula.node)) in
    let new_are : trees_at t0 c.deref-2.result.now ≡ filter (is_new_use before) (trees_at t0 c.in_ok-order.order.items) =
    ap (trees_at t0) c.deref-2.ensures.value ∙ c.in_ok-new.ensures.terms ∙ ap (λ ks. filter (is_new_use before) (trees_at t0 ks)) c.deref.ensures.value in
    let uses_are : trees_at t0 c.deref-2.result.now ≡ without_constant before (applications u) =
    new_are ∙ new-parts before (trees_at t0 c.in_ok-order.order.items) u (c.in_ok-order.ensures.collected is_open is_use (λ k node. refl) (λ q xs v. refl)) in
    new_constants-stay t1 c.replace_uses.new.table us c.in_ok-constants.constants c.in_ok-memo.ensures.grows live.each
    (are-new_constants t0 t1 us c.deref-2.result.now (trees_at t0 c.in_ok-order.order.items) c.in_ok-constants.constants u c.args.fresh.now c.in_ok-constants.ensures.grows c.requires.live.each fine new_are uses_are
    c.in_ok-constants.ensures.pairs c.in_ok-constants.ensures.nodes c.in_ok-constants.ensures.symbols c.in_ok-constants.ensures.terms)

pub enter_all-requires-clause-done : goal.enter_all-requires-clause-done
enter_all-requires-clause-done c =
    let t0 = c.args.table.now in
    let t1 = c.draw_constants.new.table in
    let t2 = c.replace_uses.new.table in
    let us = c.args.uses.now in
    let before = named_uses t0 us in
    let u = tree t0 c.args.id in
    let live = uses-grow t0 t1 c.in_ok-constants.ensures.grows us c.requires.live in
    let parts = c.in_ok-order.ensures.parts is_open (λ k node. refl) (λ q xs v. refl) in
    let new_are : trees_at t0 c.deref-2.result.now ≡ filter (is_new_use before) (trees_at t0 c.in_ok-order.order.items) =
    ap (trees_at t0) c.deref-2.ensures.value ∙ c.in_ok-new.ensures.terms ∙ ap (λ ks. filter (is_new_use before) (trees_at t0 ks)) c.deref.ensures.value in
    let nodes = parts-nodes t0 t1 c.in_ok-constants.ensures.grows c.args.id c.requires.formula.node c.in_ok-order.order.items c.deref-3.result.now c.deref-3.ensures.value c.in_ok-order.ensures.nodes parts in
    let terms : terms_of (named_at t1 c.in_ok-constants.constants.symbols) ≡ filter (is_new_use before) (trees_at t0 c.in_ok-order.order.items) =
    ap terms_of c.in_ok-constants.ensures.symbols ∙ draws-for_each (trees_at t0 c.deref-2.result.now) c.args.fresh.now ∙ new_are in
    let same : all_named t2 us c.in_ok-constants.constants ≡ all_named t1 us c.in_ok-constants.constants =
    (λ i. named-stay t1 t2 c.in_ok-memo.ensures.grows us live.each i ++ named-grow t1 t2 c.in_ok-memo.ensures.grows c.in_ok-constants.constants.symbols c.in_ok-constants.ensures.pairs i) in
    drawn-done t1 t2 c.know_table.ensures c.deref-3.result.now nodes c.in_ok-constants.constants c.in_ok-constants.ensures.pairs (all_named t2 us c.in_ok-constants.constants) c.in_ok-memo.memo
    (λ k d lt. subst (λ ns. IsDone t2 ns c.in_ok-memo.memo (get_or c.deref-3.result.now k d)) (sym same) (c.in_ok-memo.ensures.done k d lt))
    (is_new_use before)
    (terms
    ∙ ap (filter (is_new_use before)) (sym (trees-same t0 t1 c.in_ok-constants.ensures.grows c.args.id c.requires.formula.node c.in_ok-order.order.items c.deref-3.result.now c.deref-3.ensures.value c.in_ok-order.ensures.nodes parts)))

pub enter_all-requires-clause-behind : goal.enter_all-requires-clause-behind
enter_all-requires-clause-behind c =
    let t0 = c.args.table.now in
    let t1 = c.draw_constants.new.table in
    let t2 = c.replace_uses.new.table in
    let us = c.args.uses.now in
    let before = named_uses t0 us in
    let u = tree t0 c.args.id in
    let live = uses-grow t0 t1 c.in_ok-constants.ensures.grows us c.requires.live in
    let new_are : trees_at t0 c.deref-2.result.now ≡ filter (is_new_use before) (trees_at t0 c.in_ok-order.order.items) =
    ap (trees_at t0) c.deref-2.ensures.value ∙ c.in_ok-new.ensures.terms ∙ ap (λ ks. filter (is_new_use before) (trees_at t0 ks)) c.deref.ensures.value in
    let uses_are : trees_at t0 c.deref-2.result.now ≡ without_constant before (applications u) =
    new_are ∙ new-parts before (trees_at t0 c.in_ok-order.order.items) u (c.in_ok-order.ensures.collected is_open is_use (λ k node. refl) (λ q xs v. refl)) in
    let drawn = named_at t1 c.in_ok-constants.constants.symbols in
    let same : all_named t2 us c.in_ok-constants.constants ≡ all_named t1 us c.in_ok-constants.constants =
    (λ i. named-stay t1 t2 c.in_ok-memo.ensures.grows us live.each i ++ named-grow t1 t2 c.in_ok-memo.ensures.grows c.in_ok-constants.constants.symbols c.in_ok-constants.ensures.pairs i) in
    subst (λ ns. AreBehind [] (terms_of ns)) (sym (same ∙ ap (λ ns. ns ++ drawn) (named-stay t0 t1 c.in_ok-constants.ensures.grows us c.requires.live.each)))
    (new-behind before drawn u c.requires.live.behind (ap terms_of c.in_ok-constants.ensures.symbols ∙ draws-for_each (trees_at t0 c.deref-2.result.now) c.args.fresh.now ∙ uses_are))

pub returns-in_err-push-clause-drawn : goal.returns-in_err-push-clause-drawn
returns-in_err-push-clause-drawn c =
    subst (λ fs. NeverGivesGained c.draw_constants.new.fresh c.args.table.now.symbols fs) (sym (c.in_ok-asserts.ensures.symbols ∙ c.in_ok-memo.ensures.symbols)) c.in_ok-constants.ensures.drawn

pub returns-clause-drawn : goal.returns-clause-drawn
returns-clause-drawn c =
    subst (λ fs. NeverGivesGained c.draw_constants.new.fresh c.args.table.now.symbols fs) (sym (c.in_ok-asserts.ensures.symbols ∙ c.in_ok-memo.ensures.symbols)) c.in_ok-constants.ensures.drawn

pub returns-clause-left : goal.returns-clause-left
returns-clause-left c =
    let t0 = c.args.table.now in
    let us = c.args.uses.now in
    let before = named_uses t0 us in
    let u = tree t0 c.args.id in
    let new_are : trees_at t0 c.deref-2.result.now ≡ filter (is_new_use before) (trees_at t0 c.in_ok-order.order.items) =
    ap (trees_at t0) c.deref-2.ensures.value ∙ c.in_ok-new.ensures.terms ∙ ap (λ ks. filter (is_new_use before) (trees_at t0 ks)) c.deref.ensures.value in
    let uses_are : trees_at t0 c.deref-2.result.now ≡ without_constant before (applications u) =
    new_are ∙ new-parts before (trees_at t0 c.in_ok-order.order.items) u (c.in_ok-order.ensures.collected is_open is_use (λ k node. refl) (λ q xs v. refl)) in
    c.in_ok-constants.ensures.left ∙ ap (λ ts. (draw_each ts c.args.fresh.now).names) uses_are

pub returns-clause-named : goal.returns-clause-named
returns-clause-named c =
    let t0 = c.args.table.now in
    let t1 = c.draw_constants.new.table in
    let t2 = c.replace_uses.new.table in
    let us = c.args.uses.now in
    let before = named_uses t0 us in
    let u = tree t0 c.args.id in
    let live = uses-grow t0 t1 c.in_ok-constants.ensures.grows us c.requires.live in
    let new_are : trees_at t0 c.deref-2.result.now ≡ filter (is_new_use before) (trees_at t0 c.in_ok-order.order.items) =
    ap (trees_at t0) c.deref-2.ensures.value ∙ c.in_ok-new.ensures.terms ∙ ap (λ ks. filter (is_new_use before) (trees_at t0 ks)) c.deref.ensures.value in
    let uses_are : trees_at t0 c.deref-2.result.now ≡ without_constant before (applications u) =
    new_are ∙ new-parts before (trees_at t0 c.in_ok-order.order.items) u (c.in_ok-order.ensures.collected is_open is_use (λ k node. refl) (λ q xs v. refl)) in
    let same : all_named t2 us c.in_ok-constants.constants ≡ all_named t1 us c.in_ok-constants.constants =
    (λ i. named-stay t1 t2 c.in_ok-memo.ensures.grows us live.each i ++ named-grow t1 t2 c.in_ok-memo.ensures.grows c.in_ok-constants.constants.symbols c.in_ok-constants.ensures.pairs i) in
    c.in_ok-asserts.ensures.named ∙ same
    ∙ (λ i. named-stay t0 t1 c.in_ok-constants.ensures.grows us c.requires.live.each i ++ (c.in_ok-constants.ensures.symbols ∙ ap (λ ts. (draw_each ts c.args.fresh.now).symbols) uses_are) i)

pub returns-clause-group : goal.returns-clause-group
returns-clause-group c =
    let t0 = c.args.table.now in
    let t1 = c.draw_constants.new.table in
    let t2 = c.replace_uses.new.table in
    let us = c.args.uses.now in
    let before = named_uses t0 us in
    let u = tree t0 c.args.id in
    let live = uses-grow t0 t1 c.in_ok-constants.ensures.grows us c.requires.live in
    let parts = c.in_ok-order.ensures.parts is_open (λ k node. refl) (λ q xs v. refl) in
    let new_are : trees_at t0 c.deref-2.result.now ≡ filter (is_new_use before) (trees_at t0 c.in_ok-order.order.items) =
    ap (trees_at t0) c.deref-2.ensures.value ∙ c.in_ok-new.ensures.terms ∙ ap (λ ks. filter (is_new_use before) (trees_at t0 ks)) c.deref.ensures.value in
    let uses_are : trees_at t0 c.deref-2.result.now ≡ without_constant before (applications u) =
    new_are ∙ new-parts before (trees_at t0 c.in_ok-order.order.items) u (c.in_ok-order.ensures.collected is_open is_use (λ k node. refl) (λ q xs v. refl)) in
    let drawn = named_at t1 c.in_ok-constants.constants.symbols in
    let nodes = parts-nodes t0 t1 c.in_ok-constants.ensures.grows c.args.id c.requires.formula.node c.in_ok-order.order.items c.deref-3.result.now c.deref-3.ensures.value c.in_ok-order.ensures.nodes parts in
    let among = root-among t0 t1 c.in_ok-constants.ensures.grows c.args.id c.requires.formula.node c.in_ok-order.order.items c.deref-3.result.now c.deref-3.ensures.value c.in_ok-order.ensures.nodes parts in
    let node : IsNode t1 c.args.id = node-grows t0 t1 c.in_ok-constants.ensures.grows c.args.id c.requires.formula.node in
    let stays : tree t2 c.args.id ≡ u = tree-grows t1 t2 c.in_ok-memo.ensures.grows c.args.id node ∙ tree-grows t0 t1 c.in_ok-constants.ensures.grows c.args.id c.requires.formula.node in
    let names : all_named t1 us c.in_ok-constants.constants ≡ before ++ drawn = ap (λ ns. ns ++ drawn) (named-stay t0 t1 c.in_ok-constants.ensures.grows us c.requires.live.each) in
    let done : IsDone t2 (all_named t1 us c.in_ok-constants.constants) c.in_ok-memo.memo c.args.id =
    All-node t1 c.know_table.ensures (IsDone t2 (all_named t1 us c.in_ok-constants.constants) c.in_ok-memo.memo) c.deref-3.result.now nodes c.in_ok-memo.ensures.done c.args.id node among in
    let root : IsReplaced t2 (all_named t1 us c.in_ok-constants.constants) c.args.id c.known.result = subst (λ (r : NodeId). IsReplaced t2 (all_named t1 us c.in_ok-constants.constants) c.args.id r) (sym c.known.ensures) done.itself in
    let earlier : named_uses t2 us ≡ before = named-stay t1 t2 c.in_ok-memo.ensures.grows us live.each ∙ named-stay t0 t1 c.in_ok-constants.ensures.grows us c.requires.live.each in
    removed-group t1 t2 c.enter_all.new.table c.in_ok-memo.ensures.grows c.in_ok-asserts.ensures.grows c.in_ok-constants.constants c.in_ok-constants.ensures.pairs u before c.args.fresh.now
    (c.in_ok-constants.ensures.symbols ∙ ap (λ ts. (draw_each ts c.args.fresh.now).symbols) uses_are)
    c.in_ok-asserts.asserts c.push.new.self c.known.result c.in_ok-asserts.ensures.nodes c.in_ok-push.ensures.ok root.result (root.term ∙ (λ i. with_constants (names i) (stays i)))
    (c.in_ok-asserts.ensures.terms ∙ ap (λ ns. pairs (ns ++ named_at t2 c.in_ok-constants.constants.symbols) ns (named_at t2 c.in_ok-constants.constants.symbols)) earlier)
