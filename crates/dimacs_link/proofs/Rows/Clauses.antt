-- Worked rows of clauses.
use Rattle.std.specs.Prelude.{◌≡◌, ℕ, Bool, true, false, List, [], ◌∷◌, codes, refl}
use Rattle.std.specs.Fmt.{digits}
use Rattle.smt_terms.specs.declared.op.Op.TheVariants.{Truth, Not, And, Or}
use Rattle.smt_terms.specs.Sorts.{bool, Symbol}
use Rattle.smt_terms.specs.Term.{op, Term, over, constant}
use Rattle.dimacs_link.specs.declared.literals.Literal.{Literal}
use Rattle.dimacs_link.specs.Clauses.{is_clause, clauses, text_of}

abbrev a : Symbol
a = record { name = codes "a"; args = []; result = bool }

abbrev b : Symbol
b = record { name = codes "b"; args = []; result = bool }

abbrev c : Symbol
c = record { name = codes "c"; args = []; result = bool }

abbrev d : Symbol
d = record { name = codes "d"; args = []; result = bool }

abbrev is : Symbol → Term
is f = constant f

abbrev isnt : Symbol → Term
isnt f = over (op Not) (constant f ∷ [])

abbrev fixed : Bool → Term
fixed v = over (op (Truth v)) []

abbrev any : List Term → Term
any ts = over (op Or) ts

abbrev pos : ℕ → Literal
pos n = record { positive = true; constant = n }

abbrev neg : ℕ → Literal
neg n = record { positive = false; constant = n }

two : text_of 2 (clauses (a ∷ b ∷ []) (any (isnt a ∷ is b ∷ []) ∷ is a ∷ [])) ≡ codes "p cnf 2 2\n-1 2 0\n1 0\n"
unfolding digits
two = refl

four : text_of 4 (clauses (a ∷ b ∷ c ∷ d ∷ [])
    (any (isnt b ∷ isnt a ∷ []) ∷ any (is b ∷ is a ∷ []) ∷ any (isnt c ∷ is b ∷ []) ∷ any (is c ∷ isnt b ∷ []) ∷ any (isnt d ∷ isnt c ∷ []) ∷ is d ∷ []))
    ≡ codes "p cnf 4 6\n-2 -1 0\n2 1 0\n-3 2 0\n3 -2 0\n-4 -3 0\n4 0\n"
unfolding digits
four = refl

no_clauses : text_of 0 (clauses [] []) ≡ codes "p cnf 0 0\n"
unfolding digits
no_clauses = refl

-- `false` is left out, and so is a clause with `true`
fixed_literals : clauses (a ∷ b ∷ []) (any (fixed false ∷ is b ∷ []) ∷ any (is a ∷ fixed true ∷ []) ∷ fixed true ∷ fixed false ∷ []) ≡ (pos 2 ∷ []) ∷ [] ∷ []
fixed_literals = refl

empty_clause : text_of 1 (clauses (a ∷ []) (fixed false ∷ [])) ≡ codes "p cnf 1 1\n0\n"
unfolding digits
empty_clause = refl

-- a literal that stands twice is written twice
twice : clauses (a ∷ []) (any (is a ∷ isnt a ∷ is a ∷ []) ∷ []) ≡ (pos 1 ∷ neg 1 ∷ pos 1 ∷ []) ∷ []
twice = refl

both_ways : is_clause (a ∷ b ∷ []) (over (op And) (is a ∷ is b ∷ [])) ≡ false
both_ways = refl

nested : is_clause (a ∷ b ∷ []) (any (is a ∷ any (is b ∷ []) ∷ [])) ≡ false
nested = refl

not_of_true : is_clause (a ∷ []) (over (op Not) (fixed true ∷ [])) ≡ false
not_of_true = refl

another_constant : is_clause (a ∷ []) (any (is a ∷ is b ∷ [])) ≡ false
another_constant = refl
