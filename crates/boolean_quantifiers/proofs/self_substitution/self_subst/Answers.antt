use Rattle.std.proofs.Common.{◌≡◌, ◌+◌, false, true, [], List, get_or, None, Some, All, refl, ap, sym, ◌∙◌, subst, arith}
use Rattle.smt_terms.specs.declared.ids.NodeId.{NodeId}
use Rattle.smt_terms.specs.Rank.{sort_of}
use Rattle.smt_terms.specs.Shapes.{no_bool_quantifier}
use Rattle.smt_terms.specs.SubstLaws.{GivesNone, names_within}
use Rattle.term_table.specs.Formulas.{tree, trees_at, IsNode}
use Rattle.term_walk.proofs.Visits.{grows-self, table-grows}
use Rattle.term_subst.proofs.Gaining.{none-gained, gained-both}
use Rattle.normal_forms.specs.Nodes.{IsFormula}
use Rattle.normal_forms.specs.Quantifiers.{Solving, solved_for}
use Rattle.normal_forms.proofs.SelfSubShape.{selfsub-no_bool}
use Rattle.quantifier_forms.specs.Listing.{listed}
use Rattle.quantifier_forms.specs.Memos.{Results, result_in, known_in}
use Rattle.quantifier_forms.specs.Orders.{IsOrdered}
use Rattle.quantifier_forms.proofs.Sweeps.{tree-stays, ready-for, root-for, done-more}
use Rattle.boolean_quantifiers.specs.Solving.{step, AreTold, after}
use Rattle.boolean_quantifiers.proofs.Cases.{new-work}
use Rattle.boolean_quantifiers.proofs.SelfNodes.{later-self, later-on, spared-later, known-some, after-more, new-solved, node-names, names-left, root-solved}
use Rattle.boolean_quantifiers.proofs.self_substitution.self_subst.Goals as goal

pub loop-node-init : goal.loop-node-init
loop-node-init c = record {
  grows = record { trees = grows-self _; symbols = grows-self _; sorts = grows-self _ };
  later = later-self c.args.fresh.now;
  drawn = none-gained c.args.fresh.now c.args.table.now.symbols c.args.table.now.symbols refl;
  names = refl;
  stand = λ k r e. let none_there : None ≡ Some r = sym (ap (λ (m : Results). result_in m 0 k) c.new-results.ensures) ∙ e in absurd cc;
  told = λ k r e. let none_there : None ≡ Some r = sym (ap (λ (m : Results). result_in m 0 k) c.new-results.ensures) ∙ e in absurd cc;
  work = new-work c.args.table.now c.new-work.result c.new-work.ensures.notes (subst (All (IsNode c.args.table.now)) (sym c.new-work.ensures.candidates) c.in_ok-truths.ensures) c.new-work.ensures.cases c.new-work.ensures.memo;
  done = λ i d lt. absurd (omega arith);
}

pub settle-requires-clause-ready : goal.settle-requires-clause-ready
settle-requires-clause-ready c =
    let order = subst (λ (ks : List NodeId). IsOrdered c.args.table.now (λ _. false) c.args.id ks) (sym c.deref-node-items.ensures.value) c.in_ok-order.ensures.order in
    ready-for c.args.table.now c.loop-node.table c.loop-node.results 0 (λ _. false) c.args.id c.deref-node-items.result.now (λ k r. result_in c.loop-node.results 0 k ≡ Some r) c.loop-node.invariant.grows order
    (λ k some. known-some c.loop-node.results k some) (λ k node e. absurd cc) c.loop-node.node-index (record { 0 = 0 }) c.loop-node-test.true c.loop-node.invariant.done

pub settle-requires-clause-names : goal.settle-requires-clause-names
settle-requires-clause-names c =
    let t = c.args.table.now in
    let ks = c.deref-node-items.result.now in
    let n = c.loop-node.node-index in
    let node = get_or ks n (record { 0 = 0 }) in
    let order = subst (λ (js : List NodeId). IsOrdered t (λ _. false) c.args.id js) (sym c.deref-node-items.ensures.value) c.in_ok-order.ensures.order in
    let all = subst (λ (js : List NodeId). trees_at t js ≡ listed (λ _. false) (λ _. true) (tree t c.args.id) []) (sym c.deref-node-items.ensures.value) c.in_ok-order.ensures.terms in
    subst (λ u. GivesNone c.loop-node.fresh (names_within u)) (sym (tree-stays t c.loop-node.table node c.loop-node.invariant.grows (order.nodes n (record { 0 = 0 }) c.loop-node-test.true)))
    (spared-later c.args.fresh.now c.loop-node.fresh (names_within (tree t node)) c.loop-node.invariant.later (node-names t c.args.fresh.now c.args.id ks all n (record { 0 = 0 }) c.loop-node-test.true c.requires.names))

pub loop-node-preserved : goal.loop-node-preserved
loop-node-preserved c =
    let t = c.args.table.now in
    let ks = c.deref-node-items.result.now in
    let n = c.loop-node.node-index in
    let node = get_or ks n (record { 0 = 0 }) in
    let order = subst (λ (js : List NodeId). IsOrdered t (λ _. false) c.args.id js) (sym c.deref-node-items.ensures.value) c.in_ok-order.ensures.order in
    let all = subst (λ (js : List NodeId). trees_at t js ≡ listed (λ _. false) (λ _. true) (tree t c.args.id) []) (sym c.deref-node-items.ensures.value) c.in_ok-order.ensures.terms in
    let same = tree-stays t c.loop-node.table node c.loop-node.invariant.grows (order.nodes n (record { 0 = 0 }) c.loop-node-test.true) in
    let now = after t c.args.fresh.now ks n in
    let more : after t c.args.fresh.now ks (n + 1) ≡ step (tree c.loop-node.table node) now = after-more t c.args.fresh.now c.args.id ks all n (record { 0 = 0 }) c.loop-node-test.true ∙ ap (λ u. step u now) (sym same) in
    record {
      grows = table-grows t c.loop-node.table c.settle.new.table c.loop-node.invariant.grows c.in_ok-settle.ensures.grows;
      later = later-on c.args.fresh.now c.loop-node.fresh c.settle.new.fresh c.loop-node.invariant.later c.settle.ensures.later;
      drawn = gained-both c.loop-node.fresh c.settle.new.fresh c.args.table.now.symbols c.loop-node.table.symbols c.settle.new.table.symbols c.settle.ensures.later c.settle.ensures.grows.symbols c.loop-node.invariant.drawn c.settle.ensures.drawn;
      names = ap (λ (z : Solving). z.names) more ∙ c.in_ok-settle.ensures.left now c.loop-node.invariant.names c.loop-node.invariant.told;
      stand = c.in_ok-settle.ensures.stand;
      told = subst (λ (z : Solving). AreTold c.settle.new.table z.solved c.settle.new.results) (sym more)
          (c.in_ok-settle.ensures.told now c.loop-node.invariant.names c.loop-node.invariant.told (ap (solved_for now.solved) same ∙ new-solved t c.args.fresh.now c.args.id ks all n (record { 0 = 0 }) c.loop-node-test.true));
      work = c.in_ok-settle.ensures.work;
      done = done-more c.loop-node.results c.settle.new.results 0 ks n (record { 0 = 0 }) c.in_ok-settle.ensures.stay c.loop-node-test.true c.in_ok-settle.ensures.done c.loop-node.invariant.done;
    }

pub returns-clause-formula : goal.returns-clause-formula
returns-clause-formula c =
    let t = c.args.table.now in
    let ks = c.deref-node-items.result.now in
    let order = subst (λ (js : List NodeId). IsOrdered t (λ _. false) c.args.id js) (sym c.deref-node-items.ensures.value) c.in_ok-order.ensures.order in
    let root : result_in c.loop-node.results 0 c.args.id ≡ Some (known_in c.loop-node.results 0 c.args.id) =
    root-for t c.loop-node.table c.loop-node.results 0 (λ _. false) c.args.id ks (λ k r. result_in c.loop-node.results 0 k ≡ Some r) c.loop-node.invariant.grows order
    (λ k some. known-some c.loop-node.results k some) (λ k node e. absurd cc) c.requires.formula.node (λ i d lt within. c.loop-node.invariant.done i d (let past = c.loop-node-test.false in omega arith) within) in
    let stands = c.loop-node.invariant.stand c.args.id (known_in c.loop-node.results 0 c.args.id) root in
    subst (IsFormula c.loop-node.table) (sym c.known.ensures)
    (record { node = stands.result; sort = stands.like.sort ∙ ap sort_of (tree-stays t c.loop-node.table c.args.id c.loop-node.invariant.grows c.requires.formula.node) ∙ c.requires.formula.sort })

pub returns-clause-term : goal.returns-clause-term
returns-clause-term c =
    let t = c.args.table.now in
    let ks = c.deref-node-items.result.now in
    let order = subst (λ (js : List NodeId). IsOrdered t (λ _. false) c.args.id js) (sym c.deref-node-items.ensures.value) c.in_ok-order.ensures.order in
    let all = subst (λ (js : List NodeId). trees_at t js ≡ listed (λ _. false) (λ _. true) (tree t c.args.id) []) (sym c.deref-node-items.ensures.value) c.in_ok-order.ensures.terms in
    let root : result_in c.loop-node.results 0 c.args.id ≡ Some (known_in c.loop-node.results 0 c.args.id) =
    root-for t c.loop-node.table c.loop-node.results 0 (λ _. false) c.args.id ks (λ k r. result_in c.loop-node.results 0 k ≡ Some r) c.loop-node.invariant.grows order
    (λ k some. known-some c.loop-node.results k some) (λ k node e. absurd cc) c.requires.formula.node (λ i d lt within. c.loop-node.invariant.done i d (let past = c.loop-node-test.false in omega arith) within) in
    ap (tree c.loop-node.table) c.known.ensures
    ∙ root-solved t c.args.fresh.now c.args.id ks all c.loop-node.table (known_in c.loop-node.results 0 c.args.id) c.loop-node.node-index (let past = c.loop-node-test.false in omega arith) c.loop-node.invariant.grows c.requires.formula.node
    (c.loop-node.invariant.told c.args.id (known_in c.loop-node.results 0 c.args.id) root)

pub returns-clause-left : goal.returns-clause-left
returns-clause-left c =
    let t = c.args.table.now in
    let ks = c.deref-node-items.result.now in
    let all = subst (λ (js : List NodeId). trees_at t js ≡ listed (λ _. false) (λ _. true) (tree t c.args.id) []) (sym c.deref-node-items.ensures.value) c.in_ok-order.ensures.terms in
    sym c.loop-node.invariant.names ∙ names-left t c.args.fresh.now c.args.id ks all c.loop-node.node-index (let past = c.loop-node-test.false in omega arith)

pub returns-clause-shape : goal.returns-clause-shape
returns-clause-shape c = ap no_bool_quantifier (returns-clause-term c) ∙ selfsub-no_bool (tree c.args.table.now c.args.id) c.args.fresh.now

pub returns-in_err-order-clause-drawn : goal.returns-in_err-order-clause-drawn
returns-in_err-order-clause-drawn c = none-gained c.args.fresh.now c.args.table.now.symbols c.args.table.now.symbols refl

pub returns-in_err-truths-clause-drawn : goal.returns-in_err-truths-clause-drawn
returns-in_err-truths-clause-drawn c = none-gained c.args.fresh.now c.args.table.now.symbols c.args.table.now.symbols refl

pub returns-in_err-settle-clause-drawn : goal.returns-in_err-settle-clause-drawn
returns-in_err-settle-clause-drawn c =
    gained-both c.loop-node.fresh c.settle.new.fresh c.args.table.now.symbols c.loop-node.table.symbols c.settle.new.table.symbols c.settle.ensures.later c.settle.ensures.grows.symbols c.loop-node.invariant.drawn c.settle.ensures.drawn
