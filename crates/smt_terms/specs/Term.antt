-- Terms: SMT-LIB 2.6, sections 3.6 and 5.3.
use Rattle.std.specs.Prelude.{List, [], ◌∷◌}
use Rattle.smt_terms.specs.declared.op.Op.{Op}
use Rattle.smt_terms.specs.Sorts.{Sort, Symbol, Variable}

pub data Quantifier : Type 0 where
  universal : Quantifier
  existential : Quantifier

-- what a term applies: an operator of the theories or a constant of theirs, a symbol, or the constant array of a
-- sort. The operators that speak of a table's numbers (`Sym`, `ConstArray`) and the quantifiers don't occur here.
pub data Head : Type 0 where
  op : Op → Head
  symbol : Symbol → Head
  const_array : Sort → Head

infixr 67 ◌⨾◌
mutual
  pub data Term : Type 0 where
    apply : Head → Terms → Term
    quantified : Quantifier → List Variable → Term → Term

  pub data Terms : Type 0 where
    none : Terms
    ◌⨾◌ : Term → Terms → Terms

-- the operands as a list, and back
abbrev pub list : Terms → List Term
list none = []
list (t ⨾ ts) = t ∷ list ts

abbrev pub terms : List Term → Terms
terms [] = none
terms (t ∷ ts) = t ⨾ terms ts

-- the head over a list of operands
abbrev pub over : Head → List Term → Term
over h ts = apply h (terms ts)

-- a symbol without arguments
abbrev pub constant_of : Variable → Symbol
constant_of x = record { name = x.name; args = []; result = x.sort }

abbrev pub constant : Symbol → Term
constant f = apply (symbol f) none

-- a quantified variable where it occurs: the constant of its name and sort
abbrev pub variable : Variable → Term
variable x = constant (constant_of x)
