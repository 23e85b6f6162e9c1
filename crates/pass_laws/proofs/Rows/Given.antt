-- The scripts of the worked rows, as commands.
use Rattle.std.specs.Prelude.{ℕ, true, List, [], ◌∷◌, codes}
use Rattle.smt_terms.specs.declared.op.Op.TheVariants.{Bits, BvUlt}
use Rattle.smt_terms.specs.Sorts.{Sort, bool, int, bit_vector, array, free_sort, Symbol}
use Rattle.smt_terms.specs.Term.{op, Term, apply, none, ◌⨾◌, constant}
use Rattle.smt_terms.specs.Fresh.{Supply}
use Rattle.smt_terms.specs.Connectives.{negated, both, either, equal}
use Rattle.smt_terms.proofs.Written.{named, flag, function, call, distinct, ite, whole, supply}
use Rattle.script_read.specs.Commands.{Command, passed, declare_sort, declare, assert, check, push, pop, globals, exit}

abbrev pub Commands : Type 0
Commands = List (Command Term)

-- ---- a function over arrays

abbrev pub flags : Sort
flags = array bool int

abbrev pub a : Symbol
a = named "a" flags

abbrev pub b : Symbol
b = named "b" flags

abbrev pub f : Symbol
f = function "f" (flags ∷ []) int

abbrev pub over_arrays : Commands
over_arrays =
    declare a ∷ declare b ∷ declare f
    ∷ assert 1 (equal (call f (constant a ∷ [])) (whole 0))
    ∷ assert 2 (distinct (call f (constant b ∷ []) ∷ whole 0 ∷ []))
    ∷ check ∷ []

abbrev pub array_names : Supply
array_names = supply ("a" ∷ "Array" ∷ "Bool" ∷ "Int" ∷ "b" ∷ "f" ∷ "=" ∷ "distinct" ∷ []) 0

-- ---- a function over a declared sort, applied to its own result

abbrev pub u : Sort
u = free_sort (codes "U")

abbrev pub x : Symbol
x = named "x" u

abbrev pub y : Symbol
y = named "y" u

abbrev pub h : Symbol
h = function "f" (u ∷ []) u

abbrev pub of : Term → Term
of t = call h (t ∷ [])

abbrev pub nested : Commands
nested =
    declare_sort (codes "U") ∷ declare h ∷ declare x ∷ declare y
    ∷ assert 1 (equal (of (of (constant x))) (constant x))
    ∷ assert 2 (equal (of (constant y)) (constant x))
    ∷ check ∷ []

abbrev pub nested_names : Supply
nested_names = supply ("U" ∷ "f" ∷ "x" ∷ "y" ∷ "=" ∷ []) 0

-- ---- formulas over truth values, where a name that could be drawn is declared later

abbrev pub flag_term : Symbol → Term
flag_term p = constant p

abbrev pub A : Symbol
A = flag "a"

abbrev pub B : Symbol
B = flag "b"

abbrev pub C : Symbol
C = flag "c"

abbrev pub D : Symbol
D = flag "d"

abbrev pub formulas : Commands
formulas =
    declare A ∷ declare B ∷ declare C ∷ declare D
    ∷ assert 1 (equal (both (constant A) (constant B)) (either (constant C) (constant D)))
    ∷ declare (flag "FV0") ∷ check ∷ []

abbrev pub formula_names : Supply
formula_names = supply ("a" ∷ "Bool" ∷ "b" ∷ "c" ∷ "d" ∷ "=" ∷ "and" ∷ "or" ∷ "FV0" ∷ []) 0

-- ---- a choice of bit vectors below a comparison

abbrev pub byte : Sort
byte = bit_vector 8

abbrev pub p : Symbol
p = flag "p"

abbrev pub v : Symbol
v = named "x" byte

abbrev pub w : Symbol
w = named "y" byte

abbrev pub three : Term
three = apply (op (Bits 8 3)) none

abbrev pub below : Term → Term → Term
below s t = apply (op BvUlt) (s ⨾ t ⨾ none)

abbrev pub chosen : Term
chosen = ite (constant p) (constant v) (constant w)

abbrev pub source_text : List ℕ
source_text = codes "(set-info :source |written by hand; x: |)"

abbrev pub logic_text : List ℕ
logic_text = codes "(set-logic QF_BV)"

abbrev pub choice : Commands
choice = passed source_text ∷ passed logic_text ∷ declare p ∷ declare v ∷ declare w ∷ assert 1 (below chosen three) ∷ check ∷ exit ∷ []

abbrev pub choice_names : Supply
choice_names = supply ("QF_BV" ∷ "p" ∷ "Bool" ∷ "x" ∷ "BitVec" ∷ "y" ∷ ".def_0" ∷ "ite" ∷ ".def_1" ∷ "bvult" ∷ "bv3" ∷ []) 0

-- ---- levels

abbrev pub g : Symbol
g = function "g" (int ∷ []) int

abbrev pub at : ℕ → Term
at n = call g (whole n ∷ [])

abbrev pub levels : Commands
levels =
    declare g
    ∷ assert 1 (equal (at 1) (whole 2))
    ∷ push 1
    ∷ assert 2 (equal (at 2) (whole 3))
    ∷ check
    ∷ pop 1
    ∷ assert 3 (equal (at 2) (whole 4))
    ∷ check ∷ []

abbrev pub level_names : Supply
level_names = supply ("g" ∷ "Int" ∷ "=" ∷ []) 0

-- ---- declarations that outlive their level

abbrev pub outliving : Commands
outliving =
    globals true ∷ push 1 ∷ declare p
    ∷ assert 1 (negated (both (constant p) (constant p)))
    ∷ pop 1
    ∷ assert 2 (constant p)
    ∷ check ∷ []

abbrev pub outliving_names : Supply
outliving_names = supply ("p" ∷ "Bool" ∷ "not" ∷ "and" ∷ []) 0
