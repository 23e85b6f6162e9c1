-- What is to be shown of circuits: over truth values they give the operators' values, and what holds of all that connectives make
-- holds of all that circuits make.
use Rattle.std.specs.Prelude.{◌≡◌, ◌<◌, ◌≤◌, ℕ, Bool, true, false, not, ◌&&◌, List, [], ◌∷◌, map, length, Ok, Some, All}
use Rattle.std.specs.List.{list_any}
use Rattle.smt_terms.specs.declared.op.Op.{Op}
use Rattle.smt_terms.specs.Sorts.{Sort, bool, bit_vector}
use Rattle.smt_terms.specs.Term.{op}
use Rattle.smt_terms.specs.Rank.{rank}
use Rattle.smt_terms.specs.BitVectors.{BitVector, sign, bits_eq, bvneg, bvadd, bvsub, bvmul, bvudiv, bvurem, bvsdiv, bvsrem, bvsmod, bvshl, bvlshr, bvashr, bvult, bvule, bvslt, bvsle}
use Rattle.smt_terms.specs.Values.{Value, truth, bits}
use Rattle.smt_terms.specs.Operators.{Background, op_value}
use Rattle.bit_blast.specs.Blasted.{is_bits_sort}
use Rattle.bit_blast.specs.Circuits.{Gates, constant, top, joined, sum, difference, opposite, equal, apart, less, signed_less, up, down, shifted, product, quotient, remainder, signed_quotient, signed_remainder, signed_modulus, only_bit, circuit}
use Rattle.bit_blast.proofs.TruthGates.{truth_gates}

-- ---- over truth values

-- two functions of bit vectors give the same at vectors of one length, of one bit or more
abbrev pub AreAlike : {A : Type 0} → (BitVector → BitVector → A) → (BitVector → BitVector → A) → Type 0
AreAlike f h = (us vs : BitVector) → length us ≡ length vs → 0 < length us → f us vs ≡ h us vs

abbrev pub SumsAreRight : Type 0
SumsAreRight = AreAlike (sum truth_gates) bvadd × AreAlike (difference truth_gates) bvsub × ((us : BitVector) → opposite truth_gates us ≡ bvneg us)

-- no two of these vectors are equal
abbrev pub none_equal : List BitVector → Bool
none_equal [] = true
none_equal (u ∷ us) = not (list_any (bits_eq u) us) && none_equal us

abbrev pub OrdersAreRight : Type 0
OrdersAreRight = AreAlike (equal truth_gates) bits_eq
    × (AreAlike (less truth_gates) bvult × AreAlike (λ us vs. not (less truth_gates vs us)) bvule)
    × (AreAlike (signed_less truth_gates) bvslt × AreAlike (λ us vs. not (signed_less truth_gates vs us)) bvsle)
    × ((us : BitVector) → top truth_gates us ≡ sign us)

abbrev pub DistinctionsAreRight : Type 0
DistinctionsAreRight = (n : ℕ) (us : List BitVector) → 0 < n → All (λ u. length u ≡ n) us → 2 ≤ length us → joined truth_gates (apart truth_gates us) ≡ none_equal us

abbrev pub ProductsAreRight : Type 0
ProductsAreRight = AreAlike (product truth_gates) bvmul

abbrev pub ShiftsAreRight : Type 0
ShiftsAreRight = AreAlike (λ us vs. shifted truth_gates (up (constant truth_gates false)) 0 vs us) bvshl
    × AreAlike (λ us vs. shifted truth_gates (down (constant truth_gates false)) 0 vs us) bvlshr
    × AreAlike (λ us vs. shifted truth_gates (down (top truth_gates us)) 0 vs us) bvashr

abbrev pub DivisionsAreRight : Type 0
DivisionsAreRight = AreAlike (quotient truth_gates) bvudiv × AreAlike (remainder truth_gates) bvurem

abbrev pub SignedDivisionsAreRight : Type 0
SignedDivisionsAreRight = AreAlike (signed_quotient truth_gates) bvsdiv × AreAlike (signed_remainder truth_gates) bvsrem × AreAlike (signed_modulus truth_gates) bvsmod

-- ---- operators over operands of sorts

-- how many bits a value of this sort has
abbrev pub bits_in : Sort → ℕ
bits_in bool = 1
bits_in (bit_vector width) = width
bits_in _ = 0

-- lists of bits that values of these sorts can have
pub data Fit {A : Type 0} : List Sort → List (List A) → Type 0 where
  fit_none : Fit [] []
  fit_more : {s : Sort} {ss : List Sort} {us : List A} {uss : List (List A)} → is_bits_sort (Some s) ≡ true → 0 < length us → length us ≡ bits_in s → Fit ss uss → Fit (s ∷ ss) (us ∷ uss)

-- the value of these bits
abbrev pub bits_value : Sort → List Bool → Value
bits_value bool us = truth (only_bit truth_gates us)
bits_value _ us = bits us

abbrev pub bits_values : List Sort → List (List Bool) → List Value
bits_values [] _ = []
bits_values (_ ∷ _) [] = []
bits_values (s ∷ ss) (us ∷ uss) = bits_value s us ∷ bits_values ss uss

-- an operator on bits, over operands of these sorts, gives bits of this sort
pub record IsOnBits (o : Op) (ss : List Sort) (s : Sort) : Type 0 where
  pub ranked : rank (op o) ss ≡ Ok s
  pub result : is_bits_sort (Some s) ≡ true

abbrev pub CircuitsHaveWidths : Type 1
CircuitsHaveWidths = (A : Type 0) (g : Gates A) (o : Op) (ss : List Sort) (s : Sort) (uss : List (List A)) → IsOnBits o ss s → Fit ss uss → (length (circuit g o ss uss) ≡ bits_in s) × (0 < length (circuit g o ss uss))

abbrev pub CircuitsHaveValues : Type 0
CircuitsHaveValues = (c : Background) (o : Op) (ss : List Sort) (s : Sort) (uss : List (List Bool)) → IsOnBits o ss s → Fit ss uss → bits_value s (circuit truth_gates o ss uss) ≡ op_value c o ss (bits_values ss uss)

-- ---- a relation that connectives keep

pub data Both {A B : Type 0} (R : A → B → Type 0) : List A → List B → Type 0 where
  both_none : Both R [] []
  both_more : {u : A} {v : B} {us : List A} {vs : List B} → R u v → Both R us vs → Both R (u ∷ us) (v ∷ vs)

-- connectives over as many operands as they take keep the relation
abbrev pub Keep : {A B : Type 0} → (A → B → Type 0) → Gates A → Gates B → Type 0
Keep R g h = (o : Op) (us : List _) (vs : List _) → rank (op o) (map (λ _. bool) us) ≡ Ok bool → Both R us vs → R (g o us) (h o vs)

abbrev pub CircuitsKeep : Type 1
CircuitsKeep = (A B : Type 0) (R : A → B → Type 0) (g : Gates A) (h : Gates B) (o : Op) (ss : List Sort) (s : Sort) (uss : List (List A)) (vss : List (List B))
    → Keep R g h → IsOnBits o ss s → Fit ss uss → Both (Both R) uss vss → Both R (circuit g o ss uss) (circuit h o ss vss)
