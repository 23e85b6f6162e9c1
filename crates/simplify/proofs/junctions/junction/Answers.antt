use Rattle.std.proofs.Common.{ap, sym, ◌∙◌, subst, filter, not, All}
use Rattle.term_table.specs.Formulas.{tree, trees_at}
use Rattle.normal_forms.specs.Nodes.{IsFormula}
use Rattle.simplify.specs.Folding.{is_truth}
use Rattle.simplify.specs.Joined.{operator}
use Rattle.simplify.proofs.JoinedNodes.{formulas-left, junction-clashes, junction-left}
use Rattle.simplify.proofs.junctions.junction.Goals as goal

pub returns-then-clash-clause-term : goal.returns-then-clash-clause-term
returns-then-clash-clause-term c =
    let t = c.args.table.now in
    junction-clashes (operator c.args.neutral) c.args.neutral (trees_at t c.args.ids.now) (trees_at t c.in_ok-operands.operands.keys) c.in_ok-operands.ensures.terms (tree c.truth.new.table c.in_ok-other.other) (sym c.clash.ensures ∙ c.if-clash.true) c.in_ok-other.ensures.term

pub over_left-requires : goal.over_left-requires
over_left-requires c =
    let t = c.args.table.now in
    subst (All (IsFormula t)) (sym c.deref.ensures.value)
    (formulas-left t (λ u. not (is_truth c.args.neutral u)) c.args.ids.now c.as_slice.result.now c.in_ok-left.left.items c.requires (ap (trees_at t) c.as_slice.ensures.keys ∙ c.in_ok-operands.ensures.terms) c.in_ok-left.ensures.nodes c.in_ok-left.ensures.terms)

pub returns-clause-term : goal.returns-clause-term
returns-clause-term c =
    let t = c.args.table.now in
    junction-left (operator c.args.neutral) c.args.neutral (trees_at t c.args.ids.now) (trees_at t c.in_ok-operands.operands.keys) c.in_ok-operands.ensures.terms
    (trees_at t c.deref.result.now) (tree c.over_left.new.table c.in_ok-id.id) (sym c.clash.ensures ∙ c.if-clash.false)
    (ap (trees_at t) c.deref.ensures.value ∙ c.in_ok-left.ensures.terms ∙ ap (λ ks. filter (λ u. not (is_truth c.args.neutral u)) (trees_at t ks)) c.as_slice.ensures.keys)
    c.in_ok-id.ensures.term
