-- Prenex form: quantifiers over a matrix in which no quantified formula is reached from the root through `and` and `or`
-- alone. It begins with the negation normal form. While one is reached, the leftmost goes in front, over fresh names.
use Rattle.std.specs.Prelude.{ℕ, zero, suc, ◌+◌, Bool, true, false, List, [], map, Option, Some, None}
use Rattle.smt_terms.specs.Sorts.{Variable}
use Rattle.smt_terms.specs.Term.{Quantifier, Head, Term, apply, quantified, Terms, none, ◌⨾◌}
use Rattle.smt_terms.specs.Equal.{term_eq}
use Rattle.smt_terms.specs.Fresh.{Supply}
use Rattle.smt_terms.specs.Subst.{Renamed, renaming, subst}
use Rattle.smt_terms.specs.Connectives.{Kind, conjunction, disjunction, kind_of}
use Rattle.normal_forms.specs.Nnf.{nnf}

-- a quantified formula in its parts
pub record Quantified : Type 0 where
  pub quantifier : Quantifier
  pub variables : List Variable
  pub body : Term

abbrev pub whole : Quantified → Term
whole f = quantified f.quantifier f.variables f.body

-- what is found below a head of this kind, which is looked through where it is `and` or `or`
abbrev pub through : Kind → Option Quantified → Option Quantified
through conjunction found = found
through disjunction found = found
through _ found = None

abbrev pub or_next : Option Quantified → Option Quantified → Option Quantified
or_next (Some f) next = Some f
or_next None next = next

abbrev mutual
  -- the leftmost quantified formula that is reached through `and` and `or` alone
  pub leftmost : Term → Option Quantified
  leftmost (apply h ts) = through (kind_of h ts) (leftmost_of ts)
  leftmost (quantified q xs body) = Some (record { quantifier = q; variables = xs; body = body })

  pub leftmost_of : Terms → Option Quantified
  leftmost_of none = None
  leftmost_of (t ⨾ ts) = or_next (leftmost t) (leftmost_of ts)

-- the head over new operands where it is `and` or `or`
abbrev pub through_or : Kind → Head → Terms → Terms → Term
through_or conjunction h ts us = apply h us
through_or disjunction h ts us = apply h us
through_or _ h ts us = apply h ts

abbrev pub by_if : Bool → Term → Term → Term
by_if true by t = by
by_if false by t = t

abbrev mutual
  -- all occurrences of a quantified formula that are reached through `and` and `or` alone are replaced
  pub replaced : Term → Term → Term → Term
  replaced f by (apply h ts) = through_or (kind_of h ts) h ts (replaced_each f by ts)
  replaced f by (quantified q xs body) = by_if (term_eq f (quantified q xs body)) by (quantified q xs body)

  pub replaced_each : Term → Term → Terms → Terms
  replaced_each f by none = none
  replaced_each f by (t ⨾ ts) = replaced f by t ⨾ replaced_each f by ts

-- how often a quantifier stands in the term
abbrev mutual
  pub quantifiers : Term → ℕ
  quantifiers (apply h ts) = quantifiers_of ts
  quantifiers (quantified q xs body) = suc (quantifiers body)

  pub quantifiers_of : Terms → ℕ
  quantifiers_of none = 0
  quantifiers_of (t ⨾ ts) = quantifiers t + quantifiers_of ts

abbrev pub in_front : Quantifier → List Variable → Term × Supply → Term × Supply
in_front q xs r = (quantified q xs r.0, r.1)

-- the formula f of the matrix t goes in front: a fresh name for each of its variables, in order, and the rest behind
abbrev pub pulled : Option Quantified → Term → Supply → (Term → Supply → Term × Supply) → Term × Supply
pulled None t s rest = (t, s)
pulled (Some f) t s rest =
    let r : Renamed = renaming (map (λ x. x.name) f.variables) f.variables [] s in
    let b : Term × Supply = subst r.map f.body r.names in
    in_front f.quantifier r.variables (rest (replaced (whole f) b.0 t) b.1)

-- each turn takes at least one quantifier out of the matrix, so that as many turns as it has are enough
abbrev pub prenex_turns : ℕ → Term → Supply → Term × Supply
prenex_turns zero t s = (t, s)
prenex_turns (suc turns) t s = pulled (leftmost t) t s (λ t' s'. prenex_turns turns t' s')

-- the prenex form, and the names that are left
abbrev pub prenex : Term → Supply → Term × Supply
prenex t s = prenex_turns (quantifiers (nnf t)) (nnf t) s
