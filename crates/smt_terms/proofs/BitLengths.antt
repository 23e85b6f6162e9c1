-- How many bits the operators of bit vectors give.
use Rattle.std.proofs.Common.{◌≡◌, ℕ, zero, suc, ◌+◌, ◌-◌, ◌/◌, ◌^◌, ◌<◌, ◌≤◌, Bool, true, false, cond, ◌==◌, [], ◌∷◌, replicate, length, refl, ap, ◌∙◌, arith, length-append, length-drop, length-take}
use Rattle.std.specs.Prelude.{int_div}
use Rattle.smt_terms.specs.BitVectors.{BitVector, bv2nat, bv2int, nat2bv, bitwise, bvnot, bvneg, bvand, bvor, bvxor, bvadd, bvsub, bvmul, bvudiv, bvurem, bvsdiv, bvsrem, bvsmod, bvshl, bvlshr, bvashr, int2bv, concat, extract, zero_extend, sign_extend, rotate_left, rotate_right, zeros, ones, sign}

pub length-nat2bv : (w n : ℕ) → length (nat2bv w n) ≡ w
length-nat2bv zero n = refl
length-nat2bv (suc w) n = ap suc (length-nat2bv w (n / 2))

pub length-copies : (w : ℕ) (b : Bool) → length (replicate w b) ≡ w
length-copies zero b = refl
length-copies (suc w) b = ap suc (length-copies w b)

pub length-bvnot : (bs : BitVector) → length (bvnot bs) ≡ length bs
length-bvnot [] = refl
length-bvnot (b ∷ bs) = ap suc (length-bvnot bs)

pub length-bvneg : (bs : BitVector) → length (bvneg bs) ≡ length bs
length-bvneg bs = length-nat2bv (length bs) (2 ^ length bs - bv2nat bs)

pub length-extract : (high low : ℕ) (bs : BitVector) → low ≤ high → high < length bs → length (extract high low bs) ≡ high - low + 1
length-extract high low bs order below = simp (length-take, length-drop) (omega arith)

pub length-concat : (high low : BitVector) → length (concat high low) ≡ length high + length low
length-concat high low = let e = length-append low high in omega (arith, e)

pub length-zero_extend : (i : ℕ) (bs : BitVector) → length (zero_extend i bs) ≡ length bs + i
length-zero_extend i bs = length-append bs (zeros i) ∙ ap (λ n. length bs + n) (length-copies i false)

pub length-sign_extend : (i : ℕ) (bs : BitVector) → length (sign_extend i bs) ≡ length bs + i
length-sign_extend i bs = length-append bs (replicate i (sign bs)) ∙ ap (λ n. length bs + n) (length-copies i (sign bs))

pub length-rotate_left : (i : ℕ) (bs : BitVector) → length (rotate_left i bs) ≡ length bs
length-rotate_left i bs = simp (length-append, length-take, length-drop) (omega arith)

pub length-rotate_right : (i : ℕ) (bs : BitVector) → length (rotate_right i bs) ≡ length bs
length-rotate_right i bs = simp (length-append, length-take, length-drop) (omega arith)

-- an operator of two operands of one width gives that width
abbrev pub KeepsWidth : (BitVector → BitVector → BitVector) → Type 0
KeepsWidth f = (s t : BitVector) → length t ≡ length s → length (f s t) ≡ length s

keeps_bitwise : (f : Bool → Bool → Bool) → KeepsWidth (bitwise f)
keeps_bitwise f [] t e = refl
keeps_bitwise f (a ∷ s) [] e = absurd (omega arith)
keeps_bitwise f (a ∷ s) (b ∷ t) e = ap suc (keeps_bitwise f s t (omega arith))

length-cond : (b : Bool) (s t : BitVector) (w : ℕ) → length s ≡ w → length t ≡ w → length (cond b s t) ≡ w
length-cond true s t w h k = h
length-cond false s t w h k = k

keeps_number : (f : BitVector → BitVector → ℕ) → KeepsWidth (λ s t. nat2bv (length s) (f s t))
keeps_number f s t e = length-nat2bv (length s) (f s t)

pub keeps_bvand : KeepsWidth bvand
keeps_bvand = keeps_bitwise _

pub keeps_bvor : KeepsWidth bvor
keeps_bvor = keeps_bitwise _

pub keeps_bvxor : KeepsWidth bvxor
keeps_bvxor = keeps_bitwise _

pub keeps_bvadd : KeepsWidth bvadd
keeps_bvadd = keeps_number _

pub keeps_bvsub : KeepsWidth bvsub
keeps_bvsub = keeps_number _

pub keeps_bvmul : KeepsWidth bvmul
keeps_bvmul = keeps_number _

pub keeps_bvshl : KeepsWidth bvshl
keeps_bvshl = keeps_number _

pub keeps_bvlshr : KeepsWidth bvlshr
keeps_bvlshr = keeps_number _

pub keeps_bvudiv : KeepsWidth bvudiv
keeps_bvudiv s t e = length-cond _ _ _ (length s) (length-copies (length s) true) (length-nat2bv (length s) _)

pub keeps_bvurem : KeepsWidth bvurem
keeps_bvurem s t e = length-cond _ _ _ (length s) refl (length-nat2bv (length s) _)

pub keeps_bvsdiv : KeepsWidth bvsdiv
keeps_bvsdiv s t e =
    length-cond (bv2nat t == 0) (cond (sign s) (nat2bv (length s) 1) (ones (length s))) (int2bv (length s) (int_div (bv2int s) (bv2int t))) (length s)
    (length-cond (sign s) (nat2bv (length s) 1) (ones (length s)) (length s) (length-nat2bv (length s) 1) (length-copies (length s) true))
    (length-nat2bv (length s) _)

pub keeps_bvsrem : KeepsWidth bvsrem
keeps_bvsrem s t e = length-cond _ _ _ (length s) refl (length-nat2bv (length s) _)

pub keeps_bvsmod : KeepsWidth bvsmod
keeps_bvsmod s t e = length-cond _ _ _ (length s) refl (length-nat2bv (length s) _)

pub keeps_bvashr : KeepsWidth bvashr
keeps_bvashr s t e =
    length-cond (sign s) (bvnot (bvlshr (bvnot s) t)) (bvlshr s t) (length s)
    (length-bvnot (bvlshr (bvnot s) t) ∙ length-nat2bv (length (bvnot s)) _ ∙ length-bvnot s)
    (length-nat2bv (length s) _)
