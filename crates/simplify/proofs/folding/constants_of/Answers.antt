use Rattle.std.proofs.Common.{◌≡◌, ◌+◌, ◌<◌, ◌==◌, Bool, true, false, List, [], ◌∷◌, length, get_or, ap, sym, ◌∙◌, subst, arith, length-append}
use Rattle.std.proofs.lemmas.List.{get_or-map, length-map}
use Rattle.smt_terms.specs.declared.ids.NodeId.{NodeId}
use Rattle.smt_terms.specs.Constants.{constant_value}
use Rattle.smt_terms.specs.Term.{Term}
use Rattle.smt_values.specs.declared.scalar.Scalar.{Scalar}
use Rattle.term_table.specs.Formulas.{no_tree, tree_in, tree, trees_at}
use Rattle.simplify.proofs.ConstantTests.{IsConstantOf}
use Rattle.simplify.proofs.FoldedConstants.{constants-push, are-constants, missing-constant}
use Rattle.simplify.proofs.folding.constants_of.Goals as goal

some-items : {A : Type 0} (xs : List A) (b : Bool) → b ≡ (length xs == 0) → b ≡ false → 0 < length xs
some-items [] b e h = absurd (let clash : false ≡ true = sym h ∙ e in cc)
some-items (x ∷ xs) b e h = omega arith

pub loop-id-preserved : goal.loop-id-preserved
loop-id-preserved c =
    let inv = c.loop-id.invariant in
    let t = c.args.table.now in
    let ts = trees_at t c.args.ids.now in
    let k : Scalar = c.in-Some.scalar in
    let zero_node : NodeId = record { 0 = 0 } in
    let id : NodeId = get_or c.args.ids.now c.loop-id.id-index zero_node in
    let place : get_or ts c.loop-id.id-index no_tree ≡ tree t id = get_or-map (tree_in t.trees) c.args.ids.now c.loop-id.id-index zero_node no_tree c.loop-id-test.true in
    let here : IsConstantOf (tree t id) k = record { value = sym c.in-Some.ensures.value; sort = c.in-Some.ensures.sort; scalar = c.in-Some.ensures.scalar } in
    record {
      number = ap length c.in_ok-push-in-Some.ensures.items ∙ length-append c.loop-id.constants.items (k ∷ []) ∙ ap (λ n. n + 1) inv.number;
      each = constants-push ts c.loop-id.constants.items c.push.new.self.items c.loop-id.id-index k inv.number inv.each (subst (λ (u : Term). IsConstantOf u k) (sym place) here) c.in_ok-push-in-Some.ensures.items;
    }

pub returns-in-None : goal.returns-in-None
returns-in-None c =
    let t = c.args.table.now in
    let ts = trees_at t c.args.ids.now in
    let zero_node : NodeId = record { 0 = 0 } in
    let count = length-map c.args.ids.now (tree_in t.trees) in
    let within = c.loop-id-test.true in
    let place : get_or ts c.loop-id.id-index no_tree ≡ tree t (get_or c.args.ids.now c.loop-id.id-index zero_node) = get_or-map (tree_in t.trees) c.args.ids.now c.loop-id.id-index zero_node no_tree within in
    missing-constant ts c.loop-id.id-index (omega (arith, count, within)) (ap constant_value place ∙ sym c.in-None.ensures.value)

pub returns : goal.returns
returns c =
    let t = c.args.table.now in
    let ids = c.args.ids.now in
    let inv = c.loop-id.invariant in
    let count = length-map ids (tree_in t.trees) in
    let last = c.loop-id-test.false in
    let most = c.loop-id.auto.id-index-end in
    let some = some-items ids c.is_empty.result c.is_empty.ensures c.if-is_empty.false in
    are-constants (trees_at t ids) c.loop-id.constants.items (omega (arith, inv.number, count, last, most)) (omega (arith, count, some)) inv.each
