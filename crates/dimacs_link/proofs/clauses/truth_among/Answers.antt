use Rattle.std.proofs.Common.{◌≡◌, ◌∙◌, sym, ap, List, ◌||◌, get_or, drop, ◌+◌, Some}
use Rattle.smt_terms.specs.declared.ids.NodeId.{NodeId}
use Rattle.smt_terms.specs.Term.{Term}
use Rattle.term_table.specs.Formulas.{tree, trees_at}
use Rattle.dimacs_link.specs.Clauses.{part}
use Rattle.dimacs_link.proofs.PartLists.{truth_from, truth_more, trees_on}
use Rattle.dimacs_link.proofs.clauses.truth_among.Goals as goal

pub loop-operand-preserved : goal.loop-operand-preserved
loop-operand-preserved c cs are =
    let t = c.args.table.now in
    let ks = c.args.operands.now in
    let i = c.loop-operand.operand-index in
    let d : NodeId = record { 0 = 0 } in
    let rest = trees_at t (drop (i + 1) ks) in
    let found = c.loop-operand.found in
    let here : part cs (tree t (get_or ks i d)) ≡ Some c.in_ok-part.part = sym (c.in_ok-part.ensures cs are) in
    ap (λ b. truth_from cs (found || b) rest) c.is_true-found.ensures
    ∙ sym (truth_more cs found (tree t (get_or ks i d)) rest c.in_ok-part.part here)
    ∙ ap (λ (us : List Term). truth_from cs found us) (sym (trees_on t ks i d c.loop-operand-test.true))
    ∙ c.loop-operand.invariant cs are
