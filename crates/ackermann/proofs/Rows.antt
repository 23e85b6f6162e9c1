-- Worked rows of the removal of applications, over levels.
use Rattle.std.specs.Prelude.{◌≡◌, ℕ, true, false, List, [], ◌∷◌, codes, refl}
use Rattle.smt_terms.specs.Sorts.{Sort, bool, int, array, free_sort, Symbol}
use Rattle.smt_terms.specs.Term.{Term, constant}
use Rattle.smt_terms.specs.Equal.{op_eq}
use Rattle.smt_terms.specs.Rank.{rank}
use Rattle.smt_terms.specs.Fresh.{Supply}
use Rattle.smt_terms.specs.Connectives.{both, implies, equal}
use Rattle.smt_terms.specs.Groups.{Named, Group}
use Rattle.smt_terms.proofs.Written.{named, flag, function, call, for_all, distinct, whole, supply}
use Rattle.ackermann.specs.Ackermann.{push, pop, reset, assert, groups, one_level, ack, has_quantified_use}

abbrev group : Named → List Term → Group
group symbols asserts = record { symbols = symbols; asserts = asserts }

-- ---- a function over arrays

abbrev flags : Sort
flags = array bool int

abbrev a : Term
a = constant (named "a" flags)

abbrev b : Term
b = constant (named "b" flags)

abbrev of_array : Term → Term
of_array t = call (function "f" (flags ∷ []) int) (t ∷ [])

abbrev i0 : Symbol
i0 = named "FV0" int

abbrev i1 : Symbol
i1 = named "FV1" int

abbrev i2 : Symbol
i2 = named "FV2" int

-- (= (f a) 0) and (distinct (f b) 0)
arrays : groups (assert (equal (of_array a) (whole 0)) ∷ assert (distinct (of_array b ∷ whole 0 ∷ [])) ∷ []) one_level (supply ("a" ∷ "b" ∷ "f" ∷ []) 0) ≡ (group ((i0, of_array a) ∷ []) (equal (constant i0) (whole 0) ∷ []) ∷ group ((i1, of_array b) ∷ []) (implies (equal a b) (equal (constant i0) (constant i1)) ∷ distinct (constant i1 ∷ whole 0 ∷ []) ∷ []) ∷ [])
unfolding rank op_eq
arrays = refl

-- ---- a function over a declared sort, applied to its own result

abbrev u : Sort
u = free_sort (codes "U")

abbrev x : Term
x = constant (named "x" u)

abbrev y : Term
y = constant (named "y" u)

abbrev f : Term → Term
f t = call (function "f" (u ∷ []) u) (t ∷ [])

abbrev fv0 : Symbol
fv0 = named "FV0" u

abbrev fv1 : Symbol
fv1 = named "FV1" u

abbrev fv2 : Symbol
fv2 = named "FV2" u

-- (= (f (f x)) x) and (= (f y) x)
nested : groups (assert (equal (f (f x)) x) ∷ assert (equal (f y) x) ∷ []) one_level (supply ("U" ∷ "f" ∷ "x" ∷ "y" ∷ []) 0) ≡ (group ((fv0, f x) ∷ (fv1, f (f x)) ∷ []) (implies (equal x (constant fv0)) (equal (constant fv0) (constant fv1)) ∷ equal (constant fv1) x ∷ []) ∷ group ((fv2, f y) ∷ []) (implies (equal x y) (equal (constant fv0) (constant fv2)) ∷ implies (equal (constant fv0) y) (equal (constant fv1) (constant fv2)) ∷ equal (constant fv2) x ∷ []) ∷ [])
unfolding rank op_eq
nested = refl

-- ---- levels

abbrev g : ℕ → Term
g n = call (function "g" (int ∷ []) int) (whole n ∷ [])

abbrev names : Supply
names = supply ("g" ∷ "h" ∷ []) 0

-- the constant of an inner level is forgotten with it; its pair with the outer one is made for each
levels : groups (assert (equal (g 1) (whole 2)) ∷ push 1 ∷ assert (equal (g 2) (whole 3)) ∷ pop 1 ∷ assert (equal (g 2) (whole 4)) ∷ []) one_level names ≡ (group ((i0, g 1) ∷ []) (equal (constant i0) (whole 2) ∷ []) ∷ group ((i1, g 2) ∷ []) (implies (equal (whole 1) (whole 2)) (equal (constant i0) (constant i1)) ∷ equal (constant i1) (whole 3) ∷ []) ∷ group ((i2, g 2) ∷ []) (implies (equal (whole 1) (whole 2)) (equal (constant i0) (constant i2)) ∷ equal (constant i2) (whole 4) ∷ []) ∷ [])
unfolding rank op_eq
levels = refl

-- an application keeps its constant while its level is open, also on inner levels
kept : groups (assert (equal (g 1) (whole 2)) ∷ push 2 ∷ assert (equal (g 1) (whole 3)) ∷ []) one_level names ≡ (group ((i0, g 1) ∷ []) (equal (constant i0) (whole 2) ∷ []) ∷ group [] (equal (constant i0) (whole 3) ∷ []) ∷ [])
unfolding rank op_eq
kept = refl

-- a reset forgets all, but names that were drawn aren't drawn again
after_reset : groups (assert (equal (g 1) (whole 2)) ∷ push 1 ∷ reset ∷ assert (equal (g 2) (whole 3)) ∷ []) one_level names ≡ (group ((i0, g 1) ∷ []) (equal (constant i0) (whole 2) ∷ []) ∷ group ((i1, g 2) ∷ []) (equal (constant i1) (whole 3) ∷ []) ∷ [])
unfolding rank op_eq
after_reset = refl

-- ---- two arguments, and two functions

abbrev h : ℕ → ℕ → Term
h m n = call (function "h" (int ∷ int ∷ []) int) (whole m ∷ whole n ∷ [])

-- the equations of two arguments stand in an `and`, and other functions have no part
two_arguments : (ack (equal (h 1 2) (call (function "h" (int ∷ int ∷ []) int) (g 3 ∷ whole 4 ∷ []))) one_level names).group ≡ group ((i0, h 1 2) ∷ (i1, g 3) ∷ (i2, call (function "h" (int ∷ int ∷ []) int) (g 3 ∷ whole 4 ∷ [])) ∷ []) (implies (both (equal (whole 1) (constant i1)) (equal (whole 2) (whole 4))) (equal (constant i0) (constant i2)) ∷ equal (constant i0) (constant i2) ∷ [])
unfolding rank op_eq
two_arguments = refl

-- ---- the refusal

abbrev z : Symbol
z = flag "z"

abbrev of_flag : Term → Term
of_flag t = call (function "g" (bool ∷ []) bool) (t ∷ [])

-- (forall ((z Bool)) (= (g z) z))
refused : has_quantified_use (for_all (z ∷ []) (equal (of_flag (constant z)) (constant z))) ≡ true
refused = refl

not_refused : has_quantified_use (both (of_flag (constant z)) (for_all (z ∷ []) (constant z))) ≡ false
not_refused = refl
