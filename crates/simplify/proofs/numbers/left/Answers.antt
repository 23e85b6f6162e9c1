use Rattle.std.proofs.Common.{◌≡◌, false, inl, inr, Some, ap, subst}
use Rattle.std.specs.Ordering.{int_eq}
use Rattle.std.proofs.lemmas.Bool.Decides.{Decides-int_eq}
use Rattle.std.proofs.lemmas.Int.{to_z-of_z}
use Rattle.smt_terms.specs.Constants.{whole_term, constant_term}
use Rattle.smt_terms.specs.Values.{whole}
use Rattle.smt_terms.proofs.Tests.{true_or_false}
use Rattle.term_table.specs.Formulas.{tree, trees_at}
use Rattle.simplify.specs.Reduced.{Names}
use Rattle.simplify.proofs.GatheredNodes.{left-terms, left-numbers}
use Rattle.simplify.proofs.NodesOfSorts.{names_whole}
use Rattle.simplify.proofs.numbers.left.Goals as goal
use mir.Syntax.{w128}
use mir.Val.{of_z}

names : (c : goal.In_ok-push) → Names c.node_of.new.table (whole_term c.args.number) c.in_ok-constant.constant
names c =
    names_whole c.node_of.new.table c.args.number c.in_ok-constant.constant c.requires.number c.in_ok-constant.ensures.node
    (subst (λ z. constant_term (whole z) ≡ Some (tree c.node_of.new.table c.in_ok-constant.constant)) (to_z-of_z w128 c.args.number c.ranges.number) c.in_ok-constant.ensures.term)

apart : (c : goal.In_ok-push) → int_eq c.args.number c.args.neutral ≡ false
apart c = elim (true_or_false (int_eq c.args.number c.args.neutral)) [
  | inl same ↦ absurd (c.if-number-neutral.false (ap (of_z w128) ((Decides-int_eq c.args.number c.args.neutral).0 same)))
  | inr other ↦ other
]

pub returns-clause-terms : goal.returns-clause-terms
returns-clause-terms c = left-terms c.args.table.now c.node_of.new.table c.node_of.ensures.grows c.in_ok-left.left.items c.push.new.self.items c.in_ok-constant.constant c.args.number c.in_ok-left.ensures.numbers c.in_ok-push.ensures.items (names c) c.args.neutral (trees_at c.args.table.now c.args.ids.now) c.in_ok-left.ensures.terms (apart c)

pub returns-clause-numbers : goal.returns-clause-numbers
returns-clause-numbers c = left-numbers c.args.table.now c.node_of.new.table c.node_of.ensures.grows c.in_ok-left.left.items c.push.new.self.items c.in_ok-constant.constant c.args.number c.in_ok-left.ensures.numbers c.in_ok-push.ensures.items (names c) c.requires.number
