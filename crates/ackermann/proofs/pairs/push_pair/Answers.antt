use Rattle.std.proofs.Common.{◌≡◌, ◌<◌, length, map, ap, sym, ◌∙◌, subst}
use Rattle.smt_terms.specs.Connectives.{implies, equal}
use Rattle.smt_terms.specs.Rank.{sort_of}
use Rattle.term_table.specs.Formulas.{tree, trees_at, AreNodes}
use Rattle.term_walk.proofs.Visits.{table-grows}
use Rattle.term_subst.proofs.Growing.{tree-grows}
use Rattle.normal_forms.specs.Nodes.{formula_stays}
use Rattle.ackermann.specs.Ackermann.{all_equal}
use Rattle.ackermann.specs.LiveUses.{equal_each, said}
use Rattle.ackermann.proofs.PairedUses.{operands-alike, constants-alike, some-results, pushed-terms, pushed-nodes}
use Rattle.ackermann.proofs.pairs.push_pair.Goals as goal

pub equal_operands-requires-clause-first : goal.equal_operands-requires-clause-first
equal_operands-requires-clause-first c = subst (AreNodes c.args.table.now) (sym c.deref.ensures.value) c.requires.earlier.are_results

pub equal_operands-requires-clause-second : goal.equal_operands-requires-clause-second
equal_operands-requires-clause-second c = subst (AreNodes c.args.table.now) (sym c.deref-2.ensures.value) c.requires.new.are_results

pub equal_operands-requires-clause-sorts : goal.equal_operands-requires-clause-sorts
equal_operands-requires-clause-sorts c =
    let t = c.args.table.now in
    ap (λ ks. map sort_of (trees_at t ks)) c.deref.ensures.value
    ∙ operands-alike t c.know_table.ensures c.args.earlier.now c.args.new.now c.requires.earlier c.requires.new c.requires.function
    ∙ ap (λ ks. map sort_of (trees_at t ks)) (sym c.deref-2.ensures.value)

pub equal_operands-requires-clause-some : goal.equal_operands-requires-clause-some
equal_operands-requires-clause-some c = subst (λ ks. 0 < length ks) (sym c.deref.ensures.value) (some-results c.args.table.now c.know_table.ensures c.args.earlier.now c.requires.earlier)

pub equation-requires-clause-sort : goal.equation-requires-clause-sort
equation-requires-clause-sort c =
    let t = c.args.table.now in
    let t1 = c.equal_operands.new.table in
    let grows = c.in_ok-premise.ensures.grows in
    ap sort_of (tree-grows t t1 grows c.args.earlier.now.constant c.requires.earlier.is_constant)
    ∙ constants-alike t c.know_table.ensures c.args.earlier.now c.args.new.now c.requires.earlier c.requires.new c.requires.function
    ∙ ap sort_of (sym (tree-grows t t1 grows c.args.new.now.constant c.requires.new.is_constant))

pub implication-requires-clause-a : goal.implication-requires-clause-a
implication-requires-clause-a c = formula_stays c.equal_operands.new.table c.equation.new.table c.in_ok-premise.premise c.in_ok-conclusion.ensures.grows c.in_ok-premise.ensures.formula

pub returns-clause-nodes : goal.returns-clause-nodes
returns-clause-nodes c =
    let t = c.args.table.now in
    let grows = table-grows t c.equal_operands.new.table c.implication.new.table c.in_ok-premise.ensures.grows (table-grows c.equal_operands.new.table c.equation.new.table c.implication.new.table c.in_ok-conclusion.ensures.grows c.in_ok-pair.ensures.grows) in
    pushed-nodes t c.implication.new.table c.args.asserts.now c.push.new.self c.in_ok-pair.pair grows c.requires.asserts c.in_ok-push.ensures.ok c.in_ok-pair.ensures.formula.node

pub returns-clause-terms : goal.returns-clause-terms
returns-clause-terms c =
    let t = c.args.table.now in
    let t1 = c.equal_operands.new.table in
    let t2 = c.equation.new.table in
    let t3 = c.implication.new.table in
    let u = c.args.earlier.now in
    let v = c.args.new.now in
    let first = c.in_ok-premise.ensures.grows in
    let grows = table-grows t t1 t3 first (table-grows t1 t2 t3 c.in_ok-conclusion.ensures.grows c.in_ok-pair.ensures.grows) in
    let premise : tree t2 c.in_ok-premise.premise ≡ all_equal (equal_each (trees_at t u.operands.items) (trees_at t v.operands.items)) =
    tree-grows t1 t2 c.in_ok-conclusion.ensures.grows c.in_ok-premise.premise c.in_ok-premise.ensures.formula.node ∙ c.in_ok-premise.ensures.term
    ∙ (λ i. all_equal (equal_each (trees_at t (c.deref.ensures.value i)) (trees_at t (c.deref-2.ensures.value i)))) in
    let conclusion : tree t2 c.in_ok-conclusion.conclusion ≡ equal (tree t u.constant) (tree t v.constant) =
    c.in_ok-conclusion.ensures.term ∙ (λ i. equal (tree-grows t t1 first u.constant c.requires.earlier.is_constant i) (tree-grows t t1 first v.constant c.requires.new.is_constant i)) in
    pushed-terms t t3 c.args.asserts.now c.push.new.self c.in_ok-pair.pair (said t u v) grows c.requires.asserts c.in_ok-push.ensures.ok
    (c.in_ok-pair.ensures.term ∙ (λ i. implies (premise i) (conclusion i)))
