-- Terms for rows, and rows as tables.
use Rattle.std.specs.Prelude.{ℕ, List, [], ◌∷◌, map, ℤ, codes}
use Rattle.smt_terms.specs.declared.op.Op.{Op}
use Rattle.smt_terms.specs.declared.op.Op.TheVariants.{Whole, Bits}
use Rattle.smt_terms.specs.Sorts.{Name, Sort, bool, int, Variable}
use Rattle.smt_terms.specs.Term.{Quantifier, op, Term, apply, quantified, none, over, variable}
use Rattle.smt_print.specs.declared.layout.Layout.{Layout}
use Rattle.smt_print.specs.Text.{text}

abbrev pub Cases : Type 0
Cases = List (Term × List ℕ)

abbrev pub printed : Layout → Cases → List (List ℕ)
printed layout cases = map (λ c. text layout c.0) cases

abbrev pub wanted : Cases → List (List ℕ)
wanted cases = map (λ c. c.1) cases

abbrev pub named : Name → Sort → Variable
named name sort = record { name = name; sort = sort }

abbrev pub p : Term
p = variable (named (codes "p") bool)

abbrev pub q : Term
q = variable (named (codes "q") bool)

abbrev pub a : Term
a = variable (named (codes "a") bool)

abbrev pub b : Term
b = variable (named (codes "b") bool)

abbrev pub x : Term
x = variable (named (codes "x") bool)

abbrev pub y : Term
y = variable (named (codes "y") bool)

abbrev pub n : Term
n = variable (named (codes "n") int)

abbrev pub leaf : Op → Term
leaf o = apply (op o) none

abbrev pub whole : ℤ → Term
whole z = leaf (Whole z)

abbrev pub bits : ℕ → ℕ → Term
bits width number = leaf (Bits width number)

abbrev pub of_one : Op → Term → Term
of_one o s = over (op o) (s ∷ [])

abbrev pub of_two : Op → Term → Term → Term
of_two o s t = over (op o) (s ∷ t ∷ [])

abbrev pub of_three : Op → Term → Term → Term → Term
of_three o s t u = over (op o) (s ∷ t ∷ u ∷ [])

abbrev pub binds : Quantifier → Name → Sort → Term → Term
binds quantifier name sort t = quantified quantifier (named name sort ∷ []) t
