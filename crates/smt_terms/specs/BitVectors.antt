-- Bit vectors as lists of bits, the lowest first: SMT-LIB 2.6, theory FixedSizeBitVectors and logic QF_BV, whose
-- functions bv2nat and nat2bv stand here under their names. An operator of two operands takes the width of the first.
use Rattle.std.specs.Prelude.{ℕ, zero, suc, ◌+◌, ◌-◌, ◌*◌, ◌/◌, ◌%◌, ◌^◌, min, Bool, true, false, cond, not, ◌&&◌, ◌||◌, ◌==◌, nat_lt, nat_le, List, [], ◌∷◌, ◌++◌, map, length, take, drop, replicate, ℤ, pos, ◌+ℤ◌, ◌-ℤ◌, unsigned_abs, int_lt, int_le, int_div, int_rem}
use Rattle.std.specs.Bool.{beq}
use Rattle.std.specs.Int.{int_rem_euclid}
use Rattle.std.specs.Ordering.{int_eq}

abbrev pub BitVector : Type 0
BitVector = List Bool

abbrev pub bit_number : Bool → ℕ
bit_number false = 0
bit_number true = 1

-- the number that the bits are
abbrev pub bv2nat : BitVector → ℕ
bv2nat [] = 0
bv2nat (b ∷ bs) = bit_number b + 2 * bv2nat bs

-- the bits of a number modulo 2 ^ width
abbrev pub nat2bv : ℕ → ℕ → BitVector
nat2bv zero n = []
nat2bv (suc width) n = (n % 2 == 1) ∷ nat2bv width (n / 2)

-- the highest bit
abbrev pub sign : BitVector → Bool
sign [] = false
sign (b ∷ []) = b
sign (_ ∷ b ∷ bs) = sign (b ∷ bs)

-- the number that the bits are in two's complement, and the bits of such a number modulo 2 ^ width
abbrev pub bv2int : BitVector → ℤ
bv2int bs = cond (sign bs) (pos (bv2nat bs) -ℤ pos (2 ^ length bs)) (pos (bv2nat bs))

abbrev pub int2bv : ℕ → ℤ → BitVector
int2bv width z = nat2bv width (unsigned_abs (int_rem_euclid z (pos (2 ^ width))))

abbrev pub bits_eq : BitVector → BitVector → Bool
bits_eq [] [] = true
bits_eq [] (_ ∷ _) = false
bits_eq (_ ∷ _) [] = false
bits_eq (a ∷ s) (b ∷ t) = beq a b && bits_eq s t

abbrev pub zeros : ℕ → BitVector
zeros width = replicate width false

abbrev pub ones : ℕ → BitVector
ones width = replicate width true

-- ---- bit by bit

abbrev pub bitwise : (Bool → Bool → Bool) → BitVector → BitVector → BitVector
bitwise f [] _ = []
bitwise f (_ ∷ _) [] = []
bitwise f (a ∷ s) (b ∷ t) = f a b ∷ bitwise f s t

abbrev pub bvnot : BitVector → BitVector
bvnot = map not

abbrev pub bvand : BitVector → BitVector → BitVector
bvand = bitwise ◌&&◌

abbrev pub bvor : BitVector → BitVector → BitVector
bvor = bitwise ◌||◌

abbrev pub bvxor : BitVector → BitVector → BitVector
bvxor = bitwise (λ a b. not (beq a b))

-- ---- parts: the first operand of a concatenation is its high part

abbrev pub concat : BitVector → BitVector → BitVector
concat high low = low ++ high

-- the bits from place low to place high, both included
abbrev pub extract : ℕ → ℕ → BitVector → BitVector
extract high low bs = take (high + 1 - low) (drop low bs)

abbrev pub zero_extend : ℕ → BitVector → BitVector
zero_extend i bs = bs ++ zeros i

abbrev pub sign_extend : ℕ → BitVector → BitVector
sign_extend i bs = bs ++ replicate i (sign bs)

-- bits that leave at one end come in at the other; i is less than the width
abbrev pub rotate_left : ℕ → BitVector → BitVector
rotate_left i bs = drop (length bs - i) bs ++ take (length bs - i) bs

abbrev pub rotate_right : ℕ → BitVector → BitVector
rotate_right i bs = drop i bs ++ take i bs

-- ---- arithmetic modulo 2 ^ width

abbrev pub bvneg : BitVector → BitVector
bvneg bs = nat2bv (length bs) (2 ^ length bs - bv2nat bs)

abbrev pub bvadd : BitVector → BitVector → BitVector
bvadd s t = nat2bv (length s) (bv2nat s + bv2nat t)

abbrev pub bvsub : BitVector → BitVector → BitVector
bvsub s t = nat2bv (length s) (bv2nat s + (2 ^ length s - bv2nat t))

abbrev pub bvmul : BitVector → BitVector → BitVector
bvmul s t = nat2bv (length s) (bv2nat s * bv2nat t)

-- by zero, all ones and the first operand
abbrev pub bvudiv : BitVector → BitVector → BitVector
bvudiv s t = cond (bv2nat t == 0) (ones (length s)) (nat2bv (length s) (bv2nat s / bv2nat t))

abbrev pub bvurem : BitVector → BitVector → BitVector
bvurem s t = cond (bv2nat t == 0) s (nat2bv (length s) (bv2nat s % bv2nat t))

-- ---- arithmetic on signed numbers

-- the quotient cut toward zero; by zero, all ones for a first operand that isn't negative, else 1
abbrev pub bvsdiv : BitVector → BitVector → BitVector
bvsdiv s t = cond (bv2nat t == 0) (cond (sign s) (nat2bv (length s) 1) (ones (length s))) (int2bv (length s) (int_div (bv2int s) (bv2int t)))

-- what that quotient leaves, with the sign of the first operand; by zero, the first operand
abbrev pub bvsrem : BitVector → BitVector → BitVector
bvsrem s t = cond (bv2nat t == 0) s (int2bv (length s) (int_rem (bv2int s) (bv2int t)))

-- the remainder that has the sign of the divisor
abbrev pub floor_mod : ℤ → ℤ → ℤ
floor_mod m n = let r = int_rem_euclid m n in cond (int_lt n (pos 0) && not (int_eq r (pos 0))) (r +ℤ n) r

-- by zero, the first operand
abbrev pub bvsmod : BitVector → BitVector → BitVector
bvsmod s t = cond (bv2nat t == 0) s (int2bv (length s) (floor_mod (bv2int s) (bv2int t)))

-- ---- shifts: one by the width or more moves every bit out, as one by the width does

abbrev pub distance : BitVector → BitVector → ℕ
distance s t = min (length s) (bv2nat t)

abbrev pub bvshl : BitVector → BitVector → BitVector
bvshl s t = nat2bv (length s) (bv2nat s * 2 ^ distance s t)

abbrev pub bvlshr : BitVector → BitVector → BitVector
bvlshr s t = nat2bv (length s) (bv2nat s / 2 ^ distance s t)

-- copies of the sign come in
abbrev pub bvashr : BitVector → BitVector → BitVector
bvashr s t = cond (sign s) (bvnot (bvlshr (bvnot s) t)) (bvlshr s t)

-- ---- comparisons

abbrev pub bvcomp : BitVector → BitVector → BitVector
bvcomp s t = bits_eq s t ∷ []

abbrev pub bvult : BitVector → BitVector → Bool
bvult s t = nat_lt (bv2nat s) (bv2nat t)

abbrev pub bvule : BitVector → BitVector → Bool
bvule s t = nat_le (bv2nat s) (bv2nat t)

abbrev pub bvslt : BitVector → BitVector → Bool
bvslt s t = int_lt (bv2int s) (bv2int t)

abbrev pub bvsle : BitVector → BitVector → Bool
bvsle s t = int_le (bv2int s) (bv2int t)
