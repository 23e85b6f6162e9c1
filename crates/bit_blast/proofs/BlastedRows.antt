-- Worked rows of formulas over bits.
use Rattle.std.specs.Prelude.{◌≡◌, true, false, [], ◌∷◌, pos, refl}
use Rattle.smt_terms.specs.declared.op.Op.TheVariants.{And, Xor, Distinct, BvAdd, BvUlt, Lt, Concat}
use Rattle.smt_terms.specs.Connectives.{truth_term, negated, both, either, equal}
use Rattle.smt_terms.specs.Constants.{bits_term, whole_term}
use Rattle.smt_terms.specs.Equal.{op_eq}
use Rattle.smt_terms.specs.Rank.{rank}
use Rattle.smt_terms.specs.Sorts.{int, bit_vector, Symbol}
use Rattle.smt_terms.specs.Term.{op, Term, over, constant}
use Rattle.smt_terms.proofs.Written.{named, flag, supply}
use Rattle.bit_blast.specs.Blasted.{is_bits, bit_of, blasted}
use Rattle.bit_blast.specs.Circuits.{circuit}

abbrev x : Symbol
x = named "x" (bit_vector 1)

abbrev y : Symbol
y = named "y" (bit_vector 2)

abbrev z : Symbol
z = named "z" (bit_vector 2)

abbrev p : Symbol
p = flag "p"

abbrev f0 : Term
f0 = constant (flag "FV0")

abbrev f1 : Term
f1 = constant (flag "FV1")

abbrev f2 : Term
f2 = constant (flag "FV2")

abbrev f3 : Term
f3 = constant (flag "FV3")

abbrev xor : Term → Term → Term
xor s t = over (op Xor) (s ∷ t ∷ [])

-- one bit draws one constant, and a sum is its first bit
one_bit : blasted (equal (over (op BvAdd) (constant x ∷ bits_term 1 1 ∷ [])) (bits_term 1 0) ∷ []) (supply [] 0)
    ≡ record {
      group = record { symbols = (flag "FV0", bit_of x 0) ∷ []; asserts = equal (xor (xor f0 (truth_term true)) (truth_term false)) (truth_term false) ∷ [] };
      names = record { taken = []; number = 1 };
    }
unfolding circuit rank op_eq
one_bit = refl

-- constants are drawn in order of first occurrence, the lowest bit first, and once over all formulas
in_order : blasted (equal (constant y) (constant z) ∷ over (op Distinct) (constant p ∷ constant p ∷ []) ∷ negated (equal (constant z) (constant y)) ∷ []) (supply [] 0)
    ≡ record {
      group = record {
        symbols = (flag "FV0", bit_of y 0) ∷ (flag "FV1", bit_of y 1) ∷ (flag "FV2", bit_of z 0) ∷ (flag "FV3", bit_of z 1) ∷ [];
        asserts =
            both (equal f0 f2) (equal f1 f3)
            ∷ over (op Distinct) (constant p ∷ constant p ∷ [])
            ∷ negated (both (equal f2 f0) (equal f3 f1)) ∷ [];
      };
      names = record { taken = []; number = 4 };
    }
unfolding circuit rank op_eq
in_order = refl

-- of more than two vectors no pair is equal
three_distinct : blasted (over (op Distinct) (constant y ∷ bits_term 2 1 ∷ constant z ∷ []) ∷ []) (supply [] 0)
    ≡ record {
      group = record {
        symbols = (flag "FV0", bit_of y 0) ∷ (flag "FV1", bit_of y 1) ∷ (flag "FV2", bit_of z 0) ∷ (flag "FV3", bit_of z 1) ∷ [];
        asserts =
            over (op And) (
            negated (both (equal f0 (truth_term true)) (equal f1 (truth_term false)))
            ∷ negated (both (equal f0 f2) (equal f1 f3))
            ∷ negated (both (equal (truth_term true) f2) (equal (truth_term false) f3)) ∷ []) ∷ [];
      };
      names = record { taken = []; number = 4 };
    }
unfolding circuit rank op_eq
three_distinct = refl

-- bits of both operands are put together, the second below the first
joined : blasted (over (op BvUlt) (over (op Concat) (constant x ∷ constant x ∷ []) ∷ constant y ∷ []) ∷ []) (supply [] 0)
    ≡ record {
      group = record {
        symbols = (flag "FV0", bit_of x 0) ∷ (flag "FV1", bit_of y 0) ∷ (flag "FV2", bit_of y 1) ∷ [];
        asserts =
            either (both (negated f0) f2) (both (equal f0 f2) (either (both (negated f0) f1) (both (equal f0 f1) (truth_term false)))) ∷ [];
      };
      names = record { taken = []; number = 3 };
    }
unfolding circuit rank op_eq
joined = refl

whole_numbers : is_bits (over (op Lt) (constant (named "n" int) ∷ whole_term (pos 3) ∷ [])) ≡ false
unfolding circuit rank op_eq
whole_numbers = refl

vectors : is_bits (over (op BvUlt) (constant y ∷ bits_term 2 3 ∷ [])) ≡ true
unfolding circuit rank op_eq
vectors = refl
