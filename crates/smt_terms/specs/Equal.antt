-- When two names, sorts, symbols, operators and terms are the same: SMT-LIB 2.6, sections 3.1, 3.5, 3.6 and 4.2.3.
-- Each is a test, which computes; that it says `true` exactly at equal arguments is proved.
use Rattle.std.specs.Prelude.{ℕ, Bool, true, false, ◌&&◌, ◌==◌, ℤ, pos, List, [], ◌∷◌}
use Rattle.std.specs.Ordering.{int_eq}
use Rattle.std.specs.Str.{bytes_eq}
use lib.Pointwise.{pointwise}
use Rattle.smt_terms.specs.declared.op.Op.{Op}
use Rattle.smt_terms.specs.declared.op.Op.TheVariants.{Truth, Whole, Bits, Sym, Forall, Exists, ConstArray, Not, And, Or, Xor, Implies, Equal, Distinct, Ite, Neg, Sub, Add, Mul, Div, Mod, Abs, Le, Lt, Concat, Extract, BvNot, BvNeg, BvAnd, BvOr, BvXor, BvAdd, BvMul, BvSub, BvUdiv, BvUrem, BvSdiv, BvSrem, BvSmod, BvShl, BvLshr, BvAshr, BvComp, BvUlt, BvUle, BvSlt, BvSle, ZeroExt, SignExt, RotL, RotR, Select, Store}
use Rattle.smt_terms.specs.Sorts.{Name, Sort, bool, int, bit_vector, array, free_sort, Symbol, Variable}
use Rattle.smt_terms.specs.Term.{Quantifier, universal, existential, Head, op, symbol, const_array, Term, apply, quantified, Terms, none, ◌⨾◌}

abbrev pub name_eq : Name → Name → Bool
name_eq = bytes_eq

abbrev pub sort_eq : Sort → Sort → Bool
sort_eq bool bool = true
sort_eq int int = true
sort_eq (bit_vector v) (bit_vector w) = v == w
sort_eq (array i e) (array j f) = sort_eq i j && sort_eq e f
sort_eq (free_sort m) (free_sort n) = name_eq m n
sort_eq _ _ = false

-- a name with other ranks is another symbol
abbrev pub symbol_eq : Symbol → Symbol → Bool
symbol_eq f g = name_eq f.name g.name && (pointwise sort_eq f.args g.args && sort_eq f.result g.result)

abbrev pub variable_eq : Variable → Variable → Bool
variable_eq x y = name_eq x.name y.name && sort_eq x.sort y.sort

-- the operators in the order of their declaration
unfoldable pub place : Op → ℕ
place (Truth _) = 0
place (Whole _) = 1
place (Bits _ _) = 2
place (Sym _) = 3
place Forall = 4
place Exists = 5
place (ConstArray _) = 6
place Not = 7
place And = 8
place Or = 9
place Xor = 10
place Implies = 11
place Equal = 12
place Distinct = 13
place Ite = 14
place Neg = 15
place Sub = 16
place Add = 17
place Mul = 18
place Div = 19
place Mod = 20
place Abs = 21
place Le = 22
place Lt = 23
place Concat = 24
place (Extract _ _) = 25
place BvNot = 26
place BvNeg = 27
place BvAnd = 28
place BvOr = 29
place BvXor = 30
place BvAdd = 31
place BvMul = 32
place BvSub = 33
place BvUdiv = 34
place BvUrem = 35
place BvSdiv = 36
place BvSrem = 37
place BvSmod = 38
place BvShl = 39
place BvLshr = 40
place BvAshr = 41
place BvComp = 42
place BvUlt = 43
place BvUle = 44
place BvSlt = 45
place BvSle = 46
place (ZeroExt _) = 47
place (SignExt _) = 48
place (RotL _) = 49
place (RotR _) = 50
place Select = 51
place Store = 52

abbrev pub truth_number : Bool → ℤ
truth_number false = pos 0
truth_number true = pos 1

-- the numbers that an operator carries
unfoldable pub parameters : Op → List ℤ
parameters (Truth b) = truth_number b ∷ []
parameters (Whole n) = n ∷ []
parameters (Bits width bits) = pos width ∷ pos bits ∷ []
parameters (Sym f) = pos f.0 ∷ []
parameters (ConstArray s) = pos s.0 ∷ []
parameters (Extract high low) = pos high ∷ pos low ∷ []
parameters (ZeroExt i) = pos i ∷ []
parameters (SignExt i) = pos i ∷ []
parameters (RotL i) = pos i ∷ []
parameters (RotR i) = pos i ∷ []
parameters _ = []

unfoldable pub op_eq : Op → Op → Bool
unfolding place parameters
op_eq p q = (place p == place q) && pointwise int_eq (parameters p) (parameters q)

abbrev pub head_eq : Head → Head → Bool
head_eq (op p) (op q) = op_eq p q
head_eq (symbol f) (symbol g) = symbol_eq f g
head_eq (const_array s) (const_array t) = sort_eq s t
head_eq _ _ = false

abbrev pub quantifier_eq : Quantifier → Quantifier → Bool
quantifier_eq universal universal = true
quantifier_eq existential existential = true
quantifier_eq _ _ = false

-- the same tree: bound names count
abbrev mutual
  pub term_eq : Term → Term → Bool
  term_eq (apply g ts) (apply h us) = head_eq g h && terms_eq ts us
  term_eq (quantified p xs t) (quantified q ys u) = quantifier_eq p q && (pointwise variable_eq xs ys && term_eq t u)
  term_eq _ _ = false

  pub terms_eq : Terms → Terms → Bool
  terms_eq none none = true
  terms_eq (t ⨾ ts) (u ⨾ us) = term_eq t u && terms_eq ts us
  terms_eq _ _ = false
