-- What a law answers, as an equation.
use Rattle.std.proofs.Common.{◌≡◌, Option, Some, None, refl, ap, sym, subst}
use Rattle.smt_terms.specs.declared.ids.NodeId.{NodeId}
use Rattle.smt_terms.specs.Term.{Term}
use Rattle.term_table.specs.Formulas.{Formulas, tree, IsNode}
use Rattle.simplify.specs.Reduced.{Answers}

pub answers-none : (t : Formulas) (o : Option Term) → o ≡ None → Answers t o None
answers-none t o e = subst (λ (p : Option Term). Answers t p None) (sym e) tt

pub answered : (t : Formulas) (o : Option Term) (k : NodeId) → Answers t o (Some k) → IsNode t k × (o ≡ Some (tree t k))
answered t (Some u) k is = (is.node, ap Some (sym is.term))
answered t None k is = absurd is

pub unanswered : (t : Formulas) (o : Option Term) → Answers t o None → o ≡ None
unanswered t (Some u) is = absurd is
unanswered t None is = refl
