-- The two quantifiers.
use Rattle.smt_terms.specs.declared.op.Op.{Op}
use Rattle.smt_terms.specs.declared.op.Op.TheVariants.{Forall, Exists}
use Rattle.smt_terms.specs.Term.{Quantifier, universal, existential}
use Rattle.script_terms.specs.declared.terms.frames.Quantifier.{Quantifier as QuantifierWord}
use Rattle.script_terms.specs.declared.terms.frames.Quantifier.TheVariants.{Universal, Existential}

abbrev pub quantifier_of : QuantifierWord → Quantifier
quantifier_of Universal = universal
quantifier_of Existential = existential

-- the operator of a quantifier's node
abbrev pub operator_of : QuantifierWord → Op
operator_of Universal = Forall
operator_of Existential = Exists
