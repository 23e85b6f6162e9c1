-- What a formula is, as far as normal forms and clauses go by it.
use Rattle.std.specs.Prelude.{◌≡◌, ℕ, ◌≤◌, Bool, true, false, List, []}
use Rattle.smt_terms.specs.Connectives.{Kind, truth_value, negation, conjunction, disjunction, exclusive, implication, equivalence, difference, conditional, atom, kind_of}
use Rattle.smt_terms.specs.Sorts.{Variable}
use Rattle.smt_terms.specs.Term.{Quantifier, universal, existential, Term, apply, quantified}
use Rattle.normal_forms.specs.declared.connective.Connective.{Connective}
use Rattle.normal_forms.specs.declared.connective.Connective.TheVariants.{Not, And, Or, Xor, Implies, Equal, Distinct, Ite}
use Rattle.normal_forms.specs.declared.connective.Shape.{Shape}
use Rattle.normal_forms.specs.declared.connective.Shape.TheVariants.{Truth, Connected, Quantified, Atom}
use Rattle.term_walk.specs.Binders.{is_quantified}

abbrev pub kind_seen : Connective → Kind
kind_seen Not = negation
kind_seen And = conjunction
kind_seen Or = disjunction
kind_seen Xor = exclusive
kind_seen Implies = implication
kind_seen Equal = equivalence
kind_seen Distinct = difference
kind_seen Ite = conditional

-- the kind of a term that isn't quantified
abbrev pub term_kind : Term → Kind
term_kind (apply h ts) = kind_of h ts
term_kind (quantified _ _ _) = atom

abbrev pub IsOfKind : Term → Kind → Type 0
IsOfKind t k = (is_quantified t ≡ false) × (term_kind t ≡ k)

abbrev pub HasShape : Term → Shape → Type 0
HasShape t (Truth b) = IsOfKind t (truth_value b)
HasShape t (Connected c) = IsOfKind t (kind_seen c)
HasShape t Quantified = is_quantified t ≡ true
HasShape t Atom = IsOfKind t atom

abbrev pub is_universally_quantified : Term → Bool
is_universally_quantified (quantified universal _ _) = true
is_universally_quantified _ = false

abbrev pub quantifier_seen : Bool → Quantifier
quantifier_seen true = universal
quantifier_seen false = existential

abbrev pub variables_of : Term → List Variable
variables_of (quantified _ xs _) = xs
variables_of _ = []

abbrev pub body_in : Term → Term
body_in (quantified _ _ t) = t
body_in t = t

-- how many operands a connective may have
abbrev pub Takes : Connective → ℕ → Type 0
Takes Not n = n ≡ 1
Takes And n = 2 ≤ n
Takes Or n = 2 ≤ n
Takes Xor n = n ≡ 2
Takes Implies n = n ≡ 2
Takes Equal n = n ≡ 2
Takes Distinct n = 2 ≤ n
Takes Ite n = n ≡ 3
