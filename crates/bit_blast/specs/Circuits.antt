-- Operators on bit vectors as circuits of connectives: SMT-LIB 2.6, theories Core and FixedSizeBitVectors and logic QF_BV. A bit
-- vector is the list of its bits, the lowest first. Circuits are the same over terms, over nodes and over truth values: all that
-- they know of a bit is what the connectives make of bits.
use Rattle.std.specs.Prelude.{ℕ, zero, suc, ◌+◌, ◌-◌, ◌^◌, min, Bool, true, false, List, [], ◌∷◌, ◌++◌, map, length, take, drop, replicate}
use Rattle.smt_terms.specs.declared.op.Op.{Op}
use Rattle.smt_terms.specs.declared.op.Op.TheVariants.{Truth, Bits, Not, And, Or, Xor, Equal, Distinct, Ite, Concat, Extract, BvNot, BvNeg, BvAnd, BvOr, BvXor, BvAdd, BvMul, BvSub, BvUdiv, BvUrem, BvSdiv, BvSrem, BvSmod, BvShl, BvLshr, BvAshr, BvComp, BvUlt, BvUle, BvSlt, BvSle, ZeroExt, SignExt, RotL, RotR}
use Rattle.smt_terms.specs.Sorts.{Sort, bool}
use Rattle.smt_terms.specs.BitVectors.{nat2bv}
use Rattle.smt_terms.specs.Operators.{first_sort}

-- what a connective, or `true` or `false`, makes of bits
abbrev pub Gates : Type 0 → Type 0
Gates A = Op → List A → A

abbrev pub constant : {A : Type 0} → Gates A → Bool → A
constant g b = g (Truth b) []

abbrev pub inverse : {A : Type 0} → Gates A → A → A
inverse g a = g Not (a ∷ [])

abbrev pub both : {A : Type 0} → Gates A → A → A → A
both g a b = g And (a ∷ b ∷ [])

abbrev pub either : {A : Type 0} → Gates A → A → A → A
either g a b = g Or (a ∷ b ∷ [])

abbrev pub differ : {A : Type 0} → Gates A → A → A → A
differ g a b = g Xor (a ∷ b ∷ [])

abbrev pub alike : {A : Type 0} → Gates A → A → A → A
alike g a b = g Equal (a ∷ b ∷ [])

abbrev pub choose : {A : Type 0} → Gates A → A → A → A → A
choose g c a b = g Ite (c ∷ a ∷ b ∷ [])

-- the `and` of bits; of one bit this alone
abbrev pub joined : {A : Type 0} → Gates A → List A → A
joined g (a ∷ []) = a
joined g us = g And us

-- ---- bit by bit

abbrev pub each : {A : Type 0} → (A → A → A) → List A → List A → List A
each f [] _ = []
each f (_ ∷ _) [] = []
each f (a ∷ us) (b ∷ vs) = f a b ∷ each f us vs

abbrev pub inverses : {A : Type 0} → Gates A → List A → List A
inverses g us = map (inverse g) us

abbrev pub chosen : {A : Type 0} → Gates A → A → List A → List A → List A
chosen g c us vs = each (choose g c) us vs

-- as many bits as there are, all of them this one
abbrev pub filled : {A : Type 0} → A → List A → List A
filled a us = replicate (length us) a

-- the highest bit
abbrev pub top : {A : Type 0} → Gates A → List A → A
top g [] = constant g false
top g (a ∷ []) = a
top g (_ ∷ a ∷ us) = top g (a ∷ us)

-- ---- sums

abbrev pub carry : {A : Type 0} → Gates A → A → A → A → A
carry g a b c = either g (both g a b) (both g c (differ g a b))

-- with the carry c
abbrev pub add : {A : Type 0} → Gates A → List A → List A → A → List A
add g [] _ c = []
add g (_ ∷ _) [] c = []
add g (a ∷ us) (b ∷ vs) c = differ g (differ g a b) c ∷ add g us vs (carry g a b c)

abbrev pub sum : {A : Type 0} → Gates A → List A → List A → List A
sum g us vs = add g us vs (constant g false)

abbrev pub difference : {A : Type 0} → Gates A → List A → List A → List A
difference g us vs = add g us (inverses g vs) (constant g true)

abbrev pub opposite : {A : Type 0} → Gates A → List A → List A
opposite g us = difference g (filled (constant g false) us) us

-- ---- comparisons

abbrev pub equal : {A : Type 0} → Gates A → List A → List A → A
equal g us vs = joined g (each (alike g) us vs)

-- no two of these are equal
abbrev pub apart : {A : Type 0} → Gates A → List (List A) → List A
apart g [] = []
apart g (x ∷ xs) = map (λ y. inverse g (equal g x y)) xs ++ apart g xs

-- whether the first number is less, where l tells it of the lower bits
abbrev pub less_from : {A : Type 0} → Gates A → List A → List A → A → A
less_from g [] _ l = l
less_from g (_ ∷ _) [] l = l
less_from g (a ∷ us) (b ∷ vs) l = less_from g us vs (either g (both g (inverse g a) b) (both g (alike g a b) l))

abbrev pub less : {A : Type 0} → Gates A → List A → List A → A
less g us vs = less_from g us vs (constant g false)

-- in two's complement numbers stand in the order of the bits with the highest one turned
abbrev pub with_top_turned : {A : Type 0} → Gates A → List A → List A
with_top_turned g [] = []
with_top_turned g (a ∷ []) = inverse g a ∷ []
with_top_turned g (a ∷ b ∷ us) = a ∷ with_top_turned g (b ∷ us)

abbrev pub signed_less : {A : Type 0} → Gates A → List A → List A → A
signed_less g us vs = less g (with_top_turned g us) (with_top_turned g vs)

-- ---- shifts: bits f come in, and as many leave at the other end

abbrev pub up : {A : Type 0} → A → ℕ → List A → List A
up f n us = take (length us) (replicate (min n (length us)) f ++ us)

abbrev pub down : {A : Type 0} → A → ℕ → List A → List A
down f n us = drop n us ++ replicate (min n (length us)) f

-- by the distance whose bits from number k on are these
abbrev pub shifted : {A : Type 0} → Gates A → (ℕ → List A → List A) → ℕ → List A → List A → List A
shifted g move k [] us = us
shifted g move k (b ∷ vs) us = shifted g move (suc k) vs (chosen g b (move (2 ^ k) us) us)

-- ---- products

-- r and the products of a with the bits from number k on
abbrev pub with_products : {A : Type 0} → Gates A → ℕ → List A → List A → List A → List A
with_products g k us [] r = r
with_products g k us (b ∷ vs) r = with_products g (suc k) us vs (sum g r (map (both g b) (up (constant g false) k us)))

abbrev pub product : {A : Type 0} → Gates A → List A → List A → List A
product g us vs = with_products g 0 us vs (filled (constant g false) us)

-- ---- quotients and rests

pub record Division (A : Type 0) : Type 0 where
  pub quotient : List A
  -- one bit more than the divisor has
  pub rest : List A

-- the step for a bit of the dividend, behind those for the higher ones: s is what is left with this bit below it
abbrev pub next_division : {A : Type 0} → Gates A → List A → List A → Division A → Division A
next_division g d s v = record {
  quotient = inverse g (less g s d) ∷ v.quotient;
  rest = chosen g (inverse g (less g s d)) (difference g s d) s;
}

abbrev pub division : {A : Type 0} → Gates A → List A → List A → Division A
division g [] vs = record { quotient = []; rest = constant g false ∷ filled (constant g false) vs }
division g (a ∷ us) vs =
    let higher = division g us vs in next_division g (vs ++ constant g false ∷ []) (a ∷ take (length vs) higher.rest) higher

abbrev pub quotient : {A : Type 0} → Gates A → List A → List A → List A
quotient g us vs = (division g us vs).quotient

abbrev pub remainder : {A : Type 0} → Gates A → List A → List A → List A
remainder g us vs = take (length vs) (division g us vs).rest

-- ---- of numbers in two's complement

abbrev pub absolute : {A : Type 0} → Gates A → List A → List A
absolute g us = chosen g (top g us) (opposite g us) us

abbrev pub signed_quotient : {A : Type 0} → Gates A → List A → List A → List A
signed_quotient g us vs =
    let u = quotient g (absolute g us) (absolute g vs) in chosen g (differ g (top g us) (top g vs)) (opposite g u) u

abbrev pub signed_remainder : {A : Type 0} → Gates A → List A → List A → List A
signed_remainder g us vs =
    let u = remainder g (absolute g us) (absolute g vs) in chosen g (top g us) (opposite g u) u

abbrev pub is_zero : {A : Type 0} → Gates A → List A → A
is_zero g us = equal g us (filled (constant g false) us)

-- of the remainder u of the magnitudes, by the signs s and t
abbrev pub floored : {A : Type 0} → Gates A → A → A → List A → List A → List A
floored g s t u vs =
    chosen g (is_zero g u) u
    (chosen g (both g (inverse g s) (inverse g t)) u
    (chosen g (both g s (inverse g t)) (sum g (opposite g u) vs)
    (chosen g (both g (inverse g s) t) (sum g u vs) (opposite g u))))

abbrev pub signed_modulus : {A : Type 0} → Gates A → List A → List A → List A
signed_modulus g us vs = floored g (top g us) (top g vs) (remainder g (absolute g us) (absolute g vs)) vs

-- ---- operands: a truth value is a list of one bit

abbrev pub operand : {A : Type 0} → ℕ → List (List A) → List A
operand i [] = []
operand zero (x ∷ xs) = x
operand (suc i) (x ∷ xs) = operand i xs

abbrev pub only_bit : {A : Type 0} → Gates A → List A → A
only_bit g [] = constant g false
only_bit g (a ∷ _) = a

abbrev pub vector : {A : Type 0} → (List A → List A) → List (List A) → List A
vector f xs = f (operand 0 xs)

abbrev pub vectors : {A : Type 0} → (List A → List A → List A) → List (List A) → List A
vectors f xs = f (operand 0 xs) (operand 1 xs)

abbrev pub comparison : {A : Type 0} → (List A → List A → A) → List (List A) → List A
comparison f xs = f (operand 0 xs) (operand 1 xs) ∷ []

-- a connective over truth values
abbrev pub connective : {A : Type 0} → Gates A → Op → List (List A) → List A
connective g o xs = g o (map (only_bit g) xs) ∷ []

-- of truth values the connective itself, of bit vectors that those of each pair differ
abbrev pub distinct : {A : Type 0} → Gates A → Sort → List (List A) → List A
distinct g bool xs = connective g Distinct xs
distinct g _ xs = joined g (apart g xs) ∷ []

-- an operator over operands of these sorts and bits. Those on other sorts don't occur in a formula of bits.
unfoldable pub circuit : {A : Type 0} → Gates A → Op → List Sort → List (List A) → List A
circuit g (Bits width n) ss xs = map (constant g) (nat2bv width n)
circuit g Equal ss xs = comparison (equal g) xs
circuit g Distinct ss xs = distinct g (first_sort ss) xs
circuit g Ite ss xs = chosen g (only_bit g (operand 0 xs)) (operand 1 xs) (operand 2 xs)
circuit g Concat ss xs = vectors (λ high low. low ++ high) xs
circuit g (Extract high low) ss xs = vector (λ us. take (high + 1 - low) (drop low us)) xs
circuit g BvNot ss xs = vector (inverses g) xs
circuit g BvNeg ss xs = vector (opposite g) xs
circuit g BvAnd ss xs = vectors (each (both g)) xs
circuit g BvOr ss xs = vectors (each (either g)) xs
circuit g BvXor ss xs = vectors (each (differ g)) xs
circuit g BvAdd ss xs = vectors (sum g) xs
circuit g BvMul ss xs = vectors (product g) xs
circuit g BvSub ss xs = vectors (difference g) xs
circuit g BvUdiv ss xs = vectors (quotient g) xs
circuit g BvUrem ss xs = vectors (remainder g) xs
circuit g BvSdiv ss xs = vectors (signed_quotient g) xs
circuit g BvSrem ss xs = vectors (signed_remainder g) xs
circuit g BvSmod ss xs = vectors (signed_modulus g) xs
circuit g BvShl ss xs = vectors (λ us vs. shifted g (up (constant g false)) 0 vs us) xs
circuit g BvLshr ss xs = vectors (λ us vs. shifted g (down (constant g false)) 0 vs us) xs
circuit g BvAshr ss xs = vectors (λ us vs. shifted g (down (top g us)) 0 vs us) xs
circuit g BvComp ss xs = comparison (equal g) xs
circuit g BvUlt ss xs = comparison (less g) xs
circuit g BvUle ss xs = comparison (λ us vs. inverse g (less g vs us)) xs
circuit g BvSlt ss xs = comparison (signed_less g) xs
circuit g BvSle ss xs = comparison (λ us vs. inverse g (signed_less g vs us)) xs
circuit g (ZeroExt i) ss xs = vector (λ us. us ++ replicate i (constant g false)) xs
circuit g (SignExt i) ss xs = vector (λ us. us ++ replicate i (top g us)) xs
circuit g (RotL i) ss xs = vector (λ us. drop (length us - i) us ++ take (length us - i) us) xs
circuit g (RotR i) ss xs = vector (λ us. drop i us ++ take i us) xs
circuit g o ss xs = connective g o xs
