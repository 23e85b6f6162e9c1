-- Connectives and atoms: SMT-LIB 2.6, theory Core. A connective is `not`, `and`, `or`, `xor`, `=>`, `=` and `distinct` over
-- Bool, and `ite` of sort Bool. `true` and `false` are neither connectives nor atoms; all else of sort Bool is an atom.
use Rattle.std.specs.Prelude.{ℕ, Bool, true, false, List, ◌∷◌, get_or, Option, Some}
use Rattle.smt_terms.specs.declared.op.Op.{Op}
use Rattle.smt_terms.specs.declared.op.Op.TheVariants.{Truth, Not, And, Or, Xor, Implies, Equal, Distinct, Ite}
use Rattle.smt_terms.specs.Sorts.{Sort, bool}
use Rattle.smt_terms.specs.Rank.{sorts_of}
use Rattle.smt_terms.specs.Term.{Head, op, symbol, const_array, Term, apply, Terms, none, ◌⨾◌, over}

pub data Kind : Type 0 where
  truth_value : Bool → Kind
  negation : Kind
  conjunction : Kind
  disjunction : Kind
  exclusive : Kind
  implication : Kind
  equivalence : Kind
  difference : Kind
  conditional : Kind
  atom : Kind

-- this kind where the first operand is Bool, else an atom
abbrev pub where_bool : Option (List Sort) → Kind → Kind
where_bool (Some (bool ∷ ss)) k = k
where_bool _ k = atom

-- the same of the second operand
abbrev pub where_branch_bool : Option (List Sort) → Kind → Kind
where_branch_bool (Some (s ∷ bool ∷ ss)) k = k
where_branch_bool _ k = atom

unfoldable pub operator_kind : Op → Option (List Sort) → Kind
operator_kind (Truth b) sorts = truth_value b
operator_kind Not sorts = negation
operator_kind And sorts = conjunction
operator_kind Or sorts = disjunction
operator_kind Xor sorts = exclusive
operator_kind Implies sorts = implication
operator_kind Equal sorts = where_bool sorts equivalence
operator_kind Distinct sorts = where_bool sorts difference
operator_kind Ite sorts = where_branch_bool sorts conditional
operator_kind _ sorts = atom

-- the kind of a head over operands of these sorts
abbrev pub kind : Head → Option (List Sort) → Kind
kind (op o) sorts = operator_kind o sorts
kind (symbol f) sorts = atom
kind (const_array s) sorts = atom

abbrev pub kind_of : Head → Terms → Kind
kind_of h ts = kind h (sorts_of ts)

abbrev pub is_connective : Kind → Bool
is_connective (truth_value b) = false
is_connective atom = false
is_connective _ = true

abbrev pub truth_term : Bool → Term
truth_term b = apply (op (Truth b)) none

abbrev pub negated : Term → Term
negated t = apply (op Not) (t ⨾ none)

abbrev pub all_of : List Term → Term
all_of ts = over (op And) ts

abbrev pub any_of : List Term → Term
any_of ts = over (op Or) ts

abbrev pub both : Term → Term → Term
both s t = apply (op And) (s ⨾ t ⨾ none)

abbrev pub either : Term → Term → Term
either s t = apply (op Or) (s ⨾ t ⨾ none)

abbrev pub implies : Term → Term → Term
implies s t = apply (op Implies) (s ⨾ t ⨾ none)

abbrev pub equal : Term → Term → Term
equal s t = apply (op Equal) (s ⨾ t ⨾ none)

-- a `not` is taken away, or else one is added
abbrev pub opposite : Term → Term
opposite (apply (op Not) (t ⨾ none)) = t
opposite t = negated t

-- place i of a list that has one
abbrev pub nth : List Term → ℕ → Term
nth ts i = get_or ts i (truth_term false)
