use Rattle.std.proofs.Common.{◌≡◌, false, List, None, Some, All, refl, ap, sym, ◌∙◌, subst, arith}
use Rattle.smt_terms.specs.declared.ids.NodeId.{NodeId}
use Rattle.smt_terms.specs.Rank.{sort_of}
use Rattle.smt_terms.specs.Shapes.{no_bool_quantifier}
use Rattle.term_table.specs.Formulas.{tree, IsNode}
use Rattle.term_walk.proofs.Visits.{grows-self, table-grows}
use Rattle.normal_forms.specs.Quantifiers.{shannon}
use Rattle.normal_forms.proofs.NoBool.{shannon-free}
use Rattle.quantifier_forms.specs.Memos.{Results, result_in, known_in}
use Rattle.quantifier_forms.specs.Orders.{IsOrdered}
use Rattle.quantifier_forms.proofs.Sweeps.{tree-stays, ready-for, root-for, done-more}
use Rattle.boolean_quantifiers.specs.Expanding.{IsExpanded}
use Rattle.boolean_quantifiers.proofs.Cases.{new-work}
use Rattle.boolean_quantifiers.proofs.Expansions.{known-expanded}
use Rattle.boolean_quantifiers.proofs.shannon_expansion.shannon.Goals as goal

pub loop-node-init : goal.loop-node-init
loop-node-init c = record {
  grows = record { trees = grows-self _; symbols = grows-self _; sorts = grows-self _ };
  symbols = refl;
  expanded = λ k r e. let none_there : None ≡ Some r = sym (ap (λ (m : Results). result_in m 0 k) c.new-results.ensures) ∙ e in absurd cc;
  work = new-work c.args.table.now c.new-work.result c.new-work.ensures.notes (subst (All (IsNode c.args.table.now)) (sym c.new-work.ensures.candidates) c.in_ok-truths.ensures) c.new-work.ensures.cases c.new-work.ensures.memo;
  done = λ i d lt. absurd (omega arith);
}

pub settle-requires-clause-ready : goal.settle-requires-clause-ready
settle-requires-clause-ready c =
    let order = subst (λ (ks : List NodeId). IsOrdered c.args.table.now (λ _. false) c.args.id ks) (sym c.deref-node-items.ensures.value) c.in_ok-order.ensures.order in
    ready-for c.args.table.now c.loop-node.table c.loop-node.results 0 (λ _. false) c.args.id c.deref-node-items.result.now (IsExpanded c.loop-node.table) c.loop-node.invariant.grows order
    (λ k some. known-expanded c.loop-node.table c.loop-node.results k c.loop-node.invariant.expanded some) (λ k node e. absurd cc) c.loop-node.node-index (record { 0 = 0 }) c.loop-node-test.true c.loop-node.invariant.done

pub loop-node-preserved : goal.loop-node-preserved
loop-node-preserved c = record {
  grows = table-grows c.args.table.now c.loop-node.table c.settle.new.table c.loop-node.invariant.grows c.in_ok-settle.ensures.grows;
  symbols = c.in_ok-settle.ensures.symbols ∙ c.loop-node.invariant.symbols;
  expanded = c.in_ok-settle.ensures.expanded;
  work = c.in_ok-settle.ensures.work;
  done = done-more c.loop-node.results c.settle.new.results 0 c.deref-node-items.result.now c.loop-node.node-index (record { 0 = 0 }) c.in_ok-settle.ensures.stay c.loop-node-test.true c.in_ok-settle.ensures.done c.loop-node.invariant.done;
}

pub returns-clause-formula : goal.returns-clause-formula
returns-clause-formula c =
    let order = subst (λ (ks : List NodeId). IsOrdered c.args.table.now (λ _. false) c.args.id ks) (sym c.deref-node-items.ensures.value) c.in_ok-order.ensures.order in
    let root : IsExpanded c.loop-node.table c.args.id (known_in c.loop-node.results 0 c.args.id) =
    root-for c.args.table.now c.loop-node.table c.loop-node.results 0 (λ _. false) c.args.id c.deref-node-items.result.now (IsExpanded c.loop-node.table) c.loop-node.invariant.grows order
    (λ k some. known-expanded c.loop-node.table c.loop-node.results k c.loop-node.invariant.expanded some) (λ k node e. absurd cc) c.requires.node
    (λ i d lt within. c.loop-node.invariant.done i d (let past = c.loop-node-test.false in omega arith) within) in
    let expanded = subst (λ (k : NodeId). IsExpanded c.loop-node.table c.args.id k) (sym c.known.ensures) root in
    let same = tree-stays c.args.table.now c.loop-node.table c.args.id c.loop-node.invariant.grows c.requires.node in
    record { node = expanded.result; sort = expanded.like.sort ∙ ap sort_of same ∙ c.requires.sort }

pub returns-clause-term : goal.returns-clause-term
returns-clause-term c =
    let order = subst (λ (ks : List NodeId). IsOrdered c.args.table.now (λ _. false) c.args.id ks) (sym c.deref-node-items.ensures.value) c.in_ok-order.ensures.order in
    let root : IsExpanded c.loop-node.table c.args.id (known_in c.loop-node.results 0 c.args.id) =
    root-for c.args.table.now c.loop-node.table c.loop-node.results 0 (λ _. false) c.args.id c.deref-node-items.result.now (IsExpanded c.loop-node.table) c.loop-node.invariant.grows order
    (λ k some. known-expanded c.loop-node.table c.loop-node.results k c.loop-node.invariant.expanded some) (λ k node e. absurd cc) c.requires.node
    (λ i d lt within. c.loop-node.invariant.done i d (let past = c.loop-node-test.false in omega arith) within) in
    let expanded = subst (λ (k : NodeId). IsExpanded c.loop-node.table c.args.id k) (sym c.known.ensures) root in
    let same = tree-stays c.args.table.now c.loop-node.table c.args.id c.loop-node.invariant.grows c.requires.node in
    expanded.term ∙ ap shannon same

pub returns-clause-shape : goal.returns-clause-shape
returns-clause-shape c =
    let order = subst (λ (ks : List NodeId). IsOrdered c.args.table.now (λ _. false) c.args.id ks) (sym c.deref-node-items.ensures.value) c.in_ok-order.ensures.order in
    let root : IsExpanded c.loop-node.table c.args.id (known_in c.loop-node.results 0 c.args.id) =
    root-for c.args.table.now c.loop-node.table c.loop-node.results 0 (λ _. false) c.args.id c.deref-node-items.result.now (IsExpanded c.loop-node.table) c.loop-node.invariant.grows order
    (λ k some. known-expanded c.loop-node.table c.loop-node.results k c.loop-node.invariant.expanded some) (λ k node e. absurd cc) c.requires.node
    (λ i d lt within. c.loop-node.invariant.done i d (let past = c.loop-node-test.false in omega arith) within) in
    let expanded = subst (λ (k : NodeId). IsExpanded c.loop-node.table c.args.id k) (sym c.known.ensures) root in
    ap no_bool_quantifier expanded.term ∙ shannon-free (tree c.loop-node.table c.args.id)
