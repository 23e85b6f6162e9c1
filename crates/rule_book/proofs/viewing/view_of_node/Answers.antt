use Rattle.std.proofs.Common.{◌≡◌, ◌<◌, ◌≤◌, true, List, length, ap, sym, ◌∙◌, rules, arith}
use Rattle.std.proofs.lemmas.List.{length-map}
use Rattle.smt_terms.specs.declared.ids.NodeId.{NodeId}
use Rattle.smt_terms.specs.Term.{Term}
use Rattle.term_table.specs.Formulas.{Formulas, tree, tree_in, trees_at, operands}
use Rattle.rule_book.specs.View.{is_theory}
use Rattle.rule_book.proofs.PlacedNodes.{cells-told, holes-told}
use Rattle.rule_book.proofs.ShownOperators.{no-view-other, no-view-alone, no-view-long, viewed, view-holes}
use Rattle.rule_book.proofs.viewing.view_of_node.Goals as goal
use Rattle.rule_book.proofs.viewing.view_of_node.Goals.{then-not-is_theory-via-then-not-is_theory, then-not-is_theory-via-else-not-is_theory+then-is_empty, then-not-is_theory-via-else-not-is_theory+else-is_empty+then-kids-gt-MOST_OPERANDS}

counted : (t : Formulas) (us : List Term) (ks : List NodeId) → trees_at t ks ≡ us → length us ≡ length ks
counted t us ks are = ap length (sym are) ∙ length-map ks (tree_in t.trees)

pub returns-then-not-is_theory-clause-view : goal.returns-then-not-is_theory-clause-view
returns-then-not-is_theory-clause-view c =
    let t = c.args.table.now in
    let p = c.op-root.result in
    let u = tree t c.args.id in
    let kids = c.kids-kids.result.now in
    let number = counted t (operands u) kids c.kids-kids.ensures.terms in
    elim c.then-not-is_theory.branch [
      | then-not-is_theory-via-then-not-is_theory w ↦ no-view-other t p u c.op-root.ensures.term (search rules)
      | then-not-is_theory-via-else-not-is_theory+then-is_empty w ↦
          let empty : length kids ≡ 0 = search rules in
          no-view-alone t p u c.op-root.ensures.term (omega arith)
      | then-not-is_theory-via-else-not-is_theory+else-is_empty+then-kids-gt-MOST_OPERANDS w ↦
          let long : 4 < length kids = search rules in
          no-view-long t p u c.op-root.ensures.term (omega arith)
    ]

pub returns-clause-view : goal.returns-clause-view
returns-clause-view c =
    let t = c.args.table.now in
    let p = c.op-root.result in
    let u = tree t c.args.id in
    let kids = c.kids-kids.result.now in
    let number = counted t (operands u) kids c.kids-kids.ensures.terms in
    let some : 0 < length kids = search rules in
    let short : length kids ≤ 4 = search rules in
    let theory : is_theory p ≡ true = search rules in
    let cells = cells-told t kids (operands u) c.places_over-places.result.items c.as_slice.result.now c.as_slice-3.result.now c.holes_of-holes.result.items c.as_slice-2.result.now c.cells_of-cells.result c.kids-kids.ensures.terms c.places_over-places.ensures c.as_slice.ensures.value c.holes_of-holes.ensures.terms c.as_slice-2.ensures.value c.as_slice-3.ensures.value c.cells_of-cells.ensures in
    viewed t p u c.op-root.ensures.term theory (omega arith) (omega arith) c.sort_of.result c.sort_of.ensures.sort c.cells_of-cells.result cells

pub returns-clause-holes : goal.returns-clause-holes
returns-clause-holes c =
    let t = c.args.table.now in
    let p = c.op-root.result in
    let u = tree t c.args.id in
    let theory : is_theory p ≡ true = search rules in
    holes-told t c.kids-kids.result.now (operands u) c.places_over-places.result.items c.as_slice.result.now c.holes_of-holes.result.items c.kids-kids.ensures.terms c.places_over-places.ensures c.as_slice.ensures.value c.holes_of-holes.ensures.terms
    ∙ sym (view-holes t p u c.op-root.ensures.term theory)
