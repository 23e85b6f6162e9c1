-- The simplifier. Of an application `simp t` is `red` of the head and the simplified operands: where there are operands, all are
-- constants, nothing is divided by zero (`div`, `mod`), and the operator's value is a constant in the range, it is that constant;
-- else the operator's law counts, where one applies; else the application is made anew. Of a quantified formula it binds, around
-- the simplified body, the variables that are free there. The operators are those of SMT-LIB 2.6, theories Core, Ints, FixedSizeBitVectors and ArraysEx, and logic QF_BV.
use Rattle.std.specs.Prelude.{Bool, true, false, List, [], Option, Some, None, unwrap_or}
use Rattle.smt_terms.specs.declared.op.Op.{Op}
use Rattle.smt_terms.specs.declared.op.Op.TheVariants.{Not, And, Or, Xor, Implies, Equal, Distinct, Ite, Neg, Sub, Add, Mul, Div, Mod, Le, Lt, Extract, BvNot, BvNeg, BvAnd, BvOr, BvXor, BvAdd, BvMul, BvSub, BvUdiv, BvUrem, BvShl, BvLshr, BvAshr, BvComp, BvUlt, BvUle, BvSlt, BvSle, ZeroExt, SignExt, RotL, RotR, Select, Store}
use Rattle.smt_terms.specs.Term.{Head, op, symbol, const_array, Term, apply, quantified, Terms, none, ◌⨾◌, list}
use Rattle.smt_terms.specs.Equal.{term_eq}
use Rattle.smt_terms.specs.Rank.{sorts_of}
use Rattle.simplify.specs.Folding.{folded, one, two, three, twice}
use Rattle.simplify.specs.Logic.{conjunction, disjunction, exclusive, implication, equation, distinctness, choice, quantification}
use Rattle.simplify.specs.Numbers as numbers
use Rattle.simplify.specs.Vectors as vectors
use Rattle.simplify.specs.Arrays.{selection, storing}

-- what an operator's law makes of its operands; none where no law applies, though `and`, `or`, `select` and `store` always answer
unfoldable pub law : Op → List Term → Option Term
law Not ts = one (twice Not) ts
law And ts = Some (conjunction ts)
law Or ts = Some (disjunction ts)
law Xor ts = two exclusive ts
law Implies ts = two implication ts
law Equal ts = two equation ts
law Distinct ts = distinctness ts
law Ite ts = three choice ts
law Neg ts = one (twice Neg) ts
law Sub ts = two numbers.subtraction ts
law Add ts = numbers.addition ts
law Mul ts = numbers.multiplication ts
law Div ts = two numbers.division ts
law Mod ts = two numbers.remainder ts
law Le ts = two (numbers.with_itself true) ts
law Lt ts = two (numbers.with_itself false) ts
law (Extract high low) ts = one (vectors.extraction high low) ts
law BvNot ts = one (twice BvNot) ts
law BvNeg ts = one (twice BvNeg) ts
law BvAnd ts = two vectors.bit_and ts
law BvOr ts = two vectors.bit_or ts
law BvXor ts = two vectors.bit_exclusive ts
law BvAdd ts = two vectors.addition ts
law BvMul ts = two vectors.multiplication ts
law BvSub ts = two vectors.subtraction ts
law BvUdiv ts = two vectors.division ts
law BvUrem ts = two vectors.remainder ts
law BvShl ts = two vectors.shift ts
law BvLshr ts = two vectors.shift ts
law BvAshr ts = two vectors.shift ts
law BvComp ts = two vectors.comparison ts
law BvUlt ts = two (numbers.with_itself false) ts
law BvUle ts = two (numbers.with_itself true) ts
law BvSlt ts = two (numbers.with_itself false) ts
law BvSle ts = two (numbers.with_itself true) ts
law (ZeroExt i) ts = one (vectors.movement i) ts
law (SignExt i) ts = one (vectors.movement i) ts
law (RotL i) ts = one (vectors.movement i) ts
law (RotR i) ts = one (vectors.movement i) ts
law Select ts = two (λ a j. Some (selection a j)) ts
law Store ts = three (λ a i v. Some (storing a i v)) ts
law _ ts = None

abbrev pub folded_or_law : Option Term → Option Term → Term → Term
folded_or_law (Some t) _ made_anew = t
folded_or_law None (Some t) made_anew = t
folded_or_law None None made_anew = made_anew

-- a head over simplified operands
abbrev pub red : Head → Terms → Term
red (op o) ts = folded_or_law (folded o (unwrap_or (sorts_of ts) []) (list ts)) (law o (list ts)) (apply (op o) ts)
red (symbol f) ts = apply (symbol f) ts
red (const_array s) ts = apply (const_array s) ts

abbrev mutual
  pub simp : Term → Term
  simp (apply h ts) = red h (simp_all ts)
  simp (quantified q xs t) = quantification q xs (simp t)

  pub simp_all : Terms → Terms
  simp_all none = none
  simp_all (t ⨾ ts) = simp t ⨾ simp_all ts

-- a term that the simplifier leaves as it is
abbrev pub is_simple : Term → Bool
is_simple t = term_eq (simp t) t
