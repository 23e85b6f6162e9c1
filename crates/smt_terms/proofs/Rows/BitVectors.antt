-- Worked rows of the operators on bit vectors.
use Rattle.std.specs.Prelude.{◌≡◌, ℕ, true, false, List, [], ◌∷◌, map, pos, negsuc, refl}
use Rattle.smt_terms.specs.declared.op.Op.{Op}
use Rattle.smt_terms.specs.declared.op.Op.TheVariants.{Bits, Concat, Extract, BvNot, BvNeg, BvAnd, BvOr, BvXor, BvAdd, BvMul, BvSub, BvUdiv, BvUrem, BvSdiv, BvSrem, BvSmod, BvShl, BvLshr, BvAshr, BvComp, BvUlt, BvUle, BvSlt, BvSle, ZeroExt, SignExt, RotL, RotR}
use Rattle.smt_terms.specs.Sorts.{bit_vector}
use Rattle.smt_terms.specs.BitVectors.{bv2nat, bv2int, nat2bv, int2bv}
use Rattle.smt_terms.specs.Values.{Value, truth, bits}
use Rattle.smt_terms.specs.Operators.{Background, op_value}

abbrev any : Background
any = record { sizes = λ _. 1; div_by_zero = λ n. n; mod_by_zero = λ n. n }

-- a number on four and on eight bits
abbrev hex : ℕ → Value
hex n = bits (nat2bv 4 n)

abbrev byte : ℕ → Value
byte n = bits (nat2bv 8 n)

abbrev of_one : Op → ℕ → Value
of_one o n = op_value any o (bit_vector 4 ∷ []) (hex n ∷ [])

abbrev of_byte : Op → Value
of_byte o = op_value any o (bit_vector 8 ∷ []) (byte 0x5c ∷ [])

abbrev of_two : Op → ℕ → ℕ → Value
of_two o m n = op_value any o (bit_vector 4 ∷ bit_vector 4 ∷ []) (hex m ∷ hex n ∷ [])

-- ---- numbers and bits

lowest_first : nat2bv 4 0x6 ≡ false ∷ true ∷ true ∷ false ∷ []
lowest_first = refl

modulo : nat2bv 4 0x16 ≡ nat2bv 4 0x6
modulo = refl

number_of_bits : bv2nat (false ∷ true ∷ true ∷ false ∷ []) ≡ 6
number_of_bits = refl

negative : bv2int (nat2bv 4 0x9) ≡ negsuc 6
negative = refl

positive : bv2int (nat2bv 4 0x7) ≡ pos 7
positive = refl

complement : int2bv 4 (negsuc 6) ≡ nat2bv 4 0x9
complement = refl

literal : op_value any (Bits 4 0x9) [] [] ≡ bits (true ∷ false ∷ false ∷ true ∷ [])
unfolding op_value
literal = refl

-- ---- signed division, at these operands

abbrev at_signed : Op → List Value
at_signed o =
    of_two o 0x7 0x3 ∷ of_two o 0x9 0x3 ∷ of_two o 0x7 0xd ∷ of_two o 0x9 0xd ∷
    of_two o 0x8 0x3 ∷ of_two o 0x8 0xf ∷ of_two o 0x7 0x0 ∷ of_two o 0x9 0x0 ∷ []

bvsdiv : at_signed BvSdiv ≡ map hex (0x2 ∷ 0xe ∷ 0xe ∷ 0x2 ∷ 0xe ∷ 0x8 ∷ 0xf ∷ 0x1 ∷ [])
unfolding op_value
bvsdiv = refl

bvsrem : at_signed BvSrem ≡ map hex (0x1 ∷ 0xf ∷ 0x1 ∷ 0xf ∷ 0xe ∷ 0x0 ∷ 0x7 ∷ 0x9 ∷ [])
unfolding op_value
bvsrem = refl

bvsmod : at_signed BvSmod ≡ map hex (0x1 ∷ 0x2 ∷ 0xe ∷ 0xf ∷ 0x1 ∷ 0x0 ∷ 0x7 ∷ 0x9 ∷ [])
unfolding op_value
bvsmod = refl

-- ---- unsigned arithmetic

bvudiv : of_two BvUdiv 0x7 0x3 ∷ of_two BvUdiv 0x9 0x3 ∷ of_two BvUdiv 0x5 0x0 ∷ [] ≡ map hex (0x2 ∷ 0x3 ∷ 0xf ∷ [])
unfolding op_value
bvudiv = refl

bvurem : of_two BvUrem 0x7 0x3 ∷ of_two BvUrem 0x9 0x3 ∷ of_two BvUrem 0x5 0x0 ∷ [] ≡ map hex (0x1 ∷ 0x0 ∷ 0x5 ∷ [])
unfolding op_value
bvurem = refl

sums : of_two BvAdd 0x9 0x9 ∷ of_two BvSub 0x3 0x5 ∷ of_two BvSub 0x5 0x3 ∷ of_two BvMul 0x7 0x3 ∷ [] ≡ map hex (0x2 ∷ 0xe ∷ 0x2 ∷ 0x5 ∷ [])
unfolding op_value
sums = refl

bvneg : of_one BvNeg 0x3 ∷ of_one BvNeg 0x0 ∷ of_one BvNeg 0x8 ∷ [] ≡ map hex (0xd ∷ 0x0 ∷ 0x8 ∷ [])
unfolding op_value
bvneg = refl

bit_by_bit : of_one BvNot 0x5 ∷ of_two BvAnd 0xc 0xa ∷ of_two BvOr 0xc 0xa ∷ of_two BvXor 0xc 0xa ∷ [] ≡ map hex (0xa ∷ 0x8 ∷ 0xe ∷ 0x6 ∷ [])
unfolding op_value
bit_by_bit = refl

-- ---- shifts by less than the width, by the width, and by more

bvshl : of_two BvShl 0x3 0x1 ∷ of_two BvShl 0x3 0x3 ∷ of_two BvShl 0x3 0x4 ∷ of_two BvShl 0x3 0xf ∷ [] ≡ map hex (0x6 ∷ 0x8 ∷ 0x0 ∷ 0x0 ∷ [])
unfolding op_value
bvshl = refl

bvlshr : of_two BvLshr 0xc 0x1 ∷ of_two BvLshr 0xc 0x3 ∷ of_two BvLshr 0xc 0x4 ∷ of_two BvLshr 0xc 0xf ∷ [] ≡ map hex (0x6 ∷ 0x1 ∷ 0x0 ∷ 0x0 ∷ [])
unfolding op_value
bvlshr = refl

bvashr : of_two BvAshr 0xc 0x1 ∷ of_two BvAshr 0xc 0x3 ∷ of_two BvAshr 0xc 0x4 ∷ of_two BvAshr 0xc 0xf ∷ [] ≡ map hex (0xe ∷ 0xf ∷ 0xf ∷ 0xf ∷ [])
unfolding op_value
bvashr = refl

bvashr_positive : of_two BvAshr 0x4 0x1 ∷ of_two BvAshr 0x4 0x3 ∷ of_two BvAshr 0x4 0x4 ∷ [] ≡ map hex (0x2 ∷ 0x0 ∷ 0x0 ∷ [])
unfolding op_value
bvashr_positive = refl

-- a shift by a large number is computed at once
far : op_value any BvShl (bit_vector 64 ∷ bit_vector 64 ∷ []) (bits (nat2bv 64 1) ∷ bits (nat2bv 64 0xffffffffffffffff) ∷ []) ≡ bits (nat2bv 64 0)
unfolding op_value
far = refl

-- ---- comparisons

bvcomp : of_two BvComp 0x5 0x5 ∷ of_two BvComp 0x5 0x4 ∷ [] ≡ bits (true ∷ []) ∷ bits (false ∷ []) ∷ []
unfolding op_value
bvcomp = refl

bvult : of_two BvUlt 0x7 0x9 ∷ of_two BvUlt 0x9 0x7 ∷ of_two BvUlt 0x9 0x9 ∷ [] ≡ map truth (true ∷ false ∷ false ∷ [])
unfolding op_value
bvult = refl

bvule : of_two BvUle 0x7 0x9 ∷ of_two BvUle 0x9 0x7 ∷ of_two BvUle 0x9 0x9 ∷ [] ≡ map truth (true ∷ false ∷ true ∷ [])
unfolding op_value
bvule = refl

bvslt : of_two BvSlt 0x7 0x9 ∷ of_two BvSlt 0x9 0x7 ∷ of_two BvSlt 0x9 0x9 ∷ [] ≡ map truth (false ∷ true ∷ false ∷ [])
unfolding op_value
bvslt = refl

bvsle : of_two BvSle 0x7 0x9 ∷ of_two BvSle 0x9 0x7 ∷ of_two BvSle 0x9 0x9 ∷ [] ≡ map truth (false ∷ true ∷ true ∷ [])
unfolding op_value
bvsle = refl

-- ---- parts of #x5c, which is 01011100

concat : op_value any Concat (bit_vector 4 ∷ bit_vector 8 ∷ []) (hex 0xa ∷ byte 0x5c ∷ []) ≡ bits (nat2bv 12 0xa5c)
unfolding op_value
concat = refl

extract : of_byte (Extract 5 2) ∷ of_byte (Extract 7 4) ∷ of_byte (Extract 3 0) ∷ of_byte (Extract 7 0) ∷ of_byte (Extract 2 2) ∷ [] ≡ hex 0x7 ∷ hex 0x5 ∷ hex 0xc ∷ byte 0x5c ∷ bits (true ∷ []) ∷ []
unfolding op_value
extract = refl

rotations : of_byte (RotL 1) ∷ of_byte (RotL 3) ∷ of_byte (RotR 1) ∷ of_byte (RotR 3) ∷ of_byte (RotL 0) ∷ of_byte (RotR 0) ∷ [] ≡ map byte (0xb8 ∷ 0xe2 ∷ 0x2e ∷ 0x8b ∷ 0x5c ∷ 0x5c ∷ [])
unfolding op_value
rotations = refl

extensions : of_one (ZeroExt 4) 0x9 ∷ of_one (SignExt 4) 0x9 ∷ of_one (SignExt 4) 0x5 ∷ of_one (ZeroExt 0) 0x9 ∷ of_one (SignExt 0) 0x9 ∷ [] ≡ byte 0x09 ∷ byte 0xf9 ∷ byte 0x05 ∷ hex 0x9 ∷ hex 0x9 ∷ []
unfolding op_value
extensions = refl
