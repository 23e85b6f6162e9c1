use Rattle.std.proofs.Common.{◌+◌, [], ◌∷◌, length, get_or, ap, ◌∙◌, arith, length-append}
use Rattle.smt_terms.specs.declared.ids.NodeId.{NodeId}
use Rattle.smt_terms.specs.Connectives.{opposite}
use Rattle.term_table.specs.Formulas.{no_tree}
use Rattle.term_walk.proofs.Visits.{table-grows}
use Rattle.normal_forms.specs.Nodes.{IsFormula, formula_stays}
use Rattle.normal_forms.proofs.Inverted.{IsOpposite, opposites-push, opposite-terms}
use Rattle.normal_forms.proofs.opposites.opposites.Goals as goal

pub opposite-requires : goal.opposite-requires
opposite-requires c =
    let none_yet : NodeId = record { 0 = 0 } in
    formula_stays c.args.table.now c.loop-id.table (get_or c.args.ids.now c.loop-id.id-index none_yet) c.loop-id.invariant.grows (c.requires c.loop-id.id-index none_yet c.loop-id-test.true)

pub loop-id-preserved : goal.loop-id-preserved
loop-id-preserved c =
    let inv = c.loop-id.invariant in
    let none_yet : NodeId = record { 0 = 0 } in
    let t = c.args.table.now in
    let k : NodeId = get_or c.args.ids.now c.loop-id.id-index none_yet in
    let was : IsFormula t k = c.requires c.loop-id.id-index none_yet c.loop-id-test.true in
    let r : NodeId = c.in_ok-other.other in
    let found : IsOpposite t c.opposite.new.table k r = record {
      formula = c.in_ok-other.ensures.formula;
      term = c.in_ok-other.ensures.term ∙ ap opposite (inv.grows.trees.same k.0 no_tree was.node);
    } in
    record {
      grows = table-grows t c.loop-id.table c.opposite.new.table inv.grows c.opposite.ensures.grows;
      symbols = c.opposite.ensures.symbols ∙ inv.symbols;
      sorts = c.opposite.ensures.sorts ∙ inv.sorts;
      number = ap length c.in_ok-push.ensures.items ∙ length-append c.loop-id.opposites.items (r ∷ []) ∙ ap (λ n. n + 1) inv.number;
      each = opposites-push t c.loop-id.table c.opposite.new.table c.args.ids.now c.loop-id.opposites.items c.push.new.self.items c.loop-id.id-index none_yet r c.opposite.ensures.grows inv.number c.loop-id-test.true inv.each found c.in_ok-push.ensures.items;
    }

pub returns-clause-formulas : goal.returns-clause-formulas
returns-clause-formulas c =
    let none_left = c.loop-id-test.false in
    let most = c.loop-id.auto.id-index-end in
    let inv = c.loop-id.invariant in
    let number = inv.number in
    λ i d lt. (inv.each i d (omega (arith, number))).formula

pub returns-clause-terms : goal.returns-clause-terms
returns-clause-terms c =
    let none_left = c.loop-id-test.false in
    let most = c.loop-id.auto.id-index-end in
    let inv = c.loop-id.invariant in
    let number = inv.number in
    opposite-terms c.args.table.now c.loop-id.table c.args.ids.now c.loop-id.opposites.items (omega (arith, number)) (λ i d lt. inv.each i d (omega arith))
