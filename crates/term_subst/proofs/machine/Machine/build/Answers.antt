use Rattle.std.proofs.Common.{◌≡◌, ◌≤◌, ◌-◌, ◌++◌, ◌∷◌, [], List, length, take, drop, refl, sym, ap, subst, ◌∙◌, arith}
use Rattle.std.proofs.lemmas.List.{length-map}
use Rattle.smt_terms.specs.declared.ids.NodeId.{NodeId}
use Rattle.smt_terms.specs.Rank.{sorts_of}
use Rattle.smt_terms.specs.Term.{terms}
use Rattle.term_table.specs.Formulas.{tree, tree_in, trees_at, operands}
use Rattle.term_subst.specs.State.{Going}
use Rattle.term_subst.proofs.Gaining.{gains-nodes}
use Rattle.term_subst.proofs.Turning.{build-splits, build-sorts, build-after, last-slice}
use Rattle.term_subst.proofs.machine.Machine.build.Goals as goal

pub overflow_sub-start : goal.overflow_sub-start
overflow_sub-start c =
    let t = c.args.table.now in
    let x = c.args.self.now in
    let count : length c.kids.result.now ≡ length (operands (tree t c.args.node)) = sym (length-map c.kids.result.now (tree_in t.trees)) ∙ ap length c.kids.ensures.terms in
    let going = c.requires.going in
    let room : length (operands (tree t c.args.node)) ≤ length x.values.items = (build-splits t going.0 going.1 x.chosen x.level x.todo x.values.items x.findings going.2 c.args.node going.3).room in
    let ok = x.values.ok in
    omega (arith, count, room, ok)

pub rebuild-requires-clause-sorts : goal.rebuild-requires-clause-sorts
rebuild-requires-clause-sorts c =
    let t = c.args.table.now in
    let x = c.args.self.now in
    let going = c.requires.going in
    let start = c.len.result - length c.kids.result.now in
    let slice = last-slice x.values.items c.deref.result.now start c.deref.ensures.value in
    let count : length c.kids.result.now ≡ length (operands (tree t c.args.node)) = sym (length-map c.kids.result.now (tree_in t.trees)) ∙ ap length c.kids.ensures.terms in
    let ok = x.values.ok in
    let from : start ≡ length x.values.items - length (operands (tree t c.args.node)) = omega (arith, count, ok) in
    ap (λ (ks : List NodeId). sorts_of (terms (trees_at t ks))) (slice ∙ ap (λ n. drop n x.values.items) from)
    ∙ build-sorts t going.0 going.1 x.chosen x.level x.todo x.values.items x.findings going.2 c.args.node going.3

pub returns-clause-going : goal.returns-clause-going
returns-clause-going c = λ names first end going.
    (let old = c.args.table.now in
    let new = c.rebuild.new.table in
    let x = c.args.self.now in
    let start = c.len.result - length c.kids.result.now in
    let slice = last-slice x.values.items c.deref.result.now start c.deref.ensures.value in
    let count : length c.kids.result.now ≡ length (operands (tree old c.args.node)) = sym (length-map c.kids.result.now (tree_in old.trees)) ∙ ap length c.kids.ensures.terms in
    let ok = x.values.ok in
    let from : start ≡ length x.values.items - length (operands (tree old c.args.node)) = omega (arith, count, ok) in
    let grows = (gains-nodes old new names c.in_ok-result.ensures.grows.grows c.in_ok-result.ensures.symbols c.in_ok-result.ensures.sorts).grows in
    let after =
    build-after old new grows names first x.chosen x.level x.todo x.values.items x.findings end c.args.node going (take (length c.deref.result.now - start) (drop start c.deref.result.now)) start from slice c.in_ok-result.result
    c.in_ok-result.ensures.node c.in_ok-result.ensures.term (record { map = x.level.map; kept = c.put.new.self }) refl c.in_ok-put.ensures in
    let values : c.push.new.self.items ≡ take start x.values.items ++ c.in_ok-result.result ∷ [] = c.in_ok-push.ensures.items ∙ ap (λ vs. vs ++ c.in_ok-result.result ∷ []) c.truncate.ensures.items in
    subst (λ (vs : List NodeId). Going new names first x.chosen (record { map = x.level.map; kept = c.put.new.self }) x.todo vs x.findings end) (sym values) after)
