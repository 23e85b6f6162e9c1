-- Worked rows of circuits: at all pairs of bit vectors of one, two and three bits they give the operators' values, and division of
-- signed numbers of four bits gives what is worked out by hand.
use Rattle.std.specs.Prelude.{◌≡◌, ℕ, zero, suc, Bool, true, false, ◌&&◌, List, [], ◌∷◌, ◌++◌, map, refl}
use Rattle.std.specs.List.{list_all}
use Rattle.smt_terms.specs.BitVectors.{bits_eq, nat2bv, bvneg, bvadd, bvsub, bvmul, bvudiv, bvurem, bvsdiv, bvsrem, bvsmod, bvshl, bvlshr, bvashr, bvult, bvslt}
use Rattle.bit_blast.specs.Circuits.{Gates, constant, top, sum, difference, opposite, equal, less, signed_less, up, down, shifted, product, quotient, remainder, signed_quotient, signed_remainder, signed_modulus}
use Rattle.bit_blast.proofs.TruthGates.{truth_gates}

abbrev vectors_of : ℕ → List (List Bool)
vectors_of zero = [] ∷ []
vectors_of (suc n) = map (λ vs. false ∷ vs) (vectors_of n) ++ map (λ vs. true ∷ vs) (vectors_of n)

-- two functions give the same at all pairs of this width
abbrev agree : ℕ → (List Bool → List Bool → List Bool) → (List Bool → List Bool → List Bool) → Bool
agree n f h = list_all (λ us. list_all (λ vs. bits_eq (f us vs) (h us vs)) (vectors_of n)) (vectors_of n)

abbrev agree_of_three : (List Bool → List Bool → List Bool) → (List Bool → List Bool → List Bool) → Bool
agree_of_three f h = agree 1 f h && (agree 2 f h && agree 3 f h)

abbrev alike : (List Bool → List Bool → Bool) → (List Bool → List Bool → Bool) → Bool
alike f h = agree_of_three (λ us vs. f us vs ∷ []) (λ us vs. h us vs ∷ [])

abbrev g : Gates Bool
g = truth_gates

sums : agree_of_three (sum g) bvadd ≡ true
sums = refl

differences : agree_of_three (difference g) bvsub ≡ true
differences = refl

opposites : agree_of_three (λ us vs. opposite g us) (λ us vs. bvneg us) ≡ true
opposites = refl

products : agree_of_three (product g) bvmul ≡ true
products = refl

quotients : agree_of_three (quotient g) bvudiv ≡ true
quotients = refl

remainders : agree_of_three (remainder g) bvurem ≡ true
remainders = refl

signed_quotients : agree_of_three (signed_quotient g) bvsdiv ≡ true
signed_quotients = refl

signed_remainders : agree_of_three (signed_remainder g) bvsrem ≡ true
signed_remainders = refl

signed_moduli : agree_of_three (signed_modulus g) bvsmod ≡ true
signed_moduli = refl

shifts_left : agree_of_three (λ us vs. shifted g (up (constant g false)) 0 vs us) bvshl ≡ true
shifts_left = refl

shifts_right : agree_of_three (λ us vs. shifted g (down (constant g false)) 0 vs us) bvlshr ≡ true
shifts_right = refl

signed_shifts : agree_of_three (λ us vs. shifted g (down (top g us)) 0 vs us) bvashr ≡ true
signed_shifts = refl

equations : alike (equal g) bits_eq ≡ true
equations = refl

orders : alike (less g) bvult ≡ true
orders = refl

signed_orders : alike (signed_less g) bvslt ≡ true
signed_orders = refl

-- numbers of four bits, their quotient, remainder and modulus in two's complement
abbrev signed_rows : List (ℕ × ℕ × ℕ × ℕ × ℕ)
signed_rows =
    (7, 3, 2, 1, 1) ∷
    (9, 3, 14, 15, 2) ∷
    (7, 13, 14, 1, 14) ∷
    (9, 13, 2, 15, 15) ∷
    (8, 3, 14, 14, 1) ∷
    (8, 15, 8, 0, 0) ∷
    (7, 0, 15, 7, 7) ∷
    (9, 0, 1, 9, 9) ∷
    []

abbrev of_four : ℕ → List Bool
of_four n = nat2bv 4 n

abbrev signed_row : ℕ × ℕ × ℕ × ℕ × ℕ → Bool
signed_row (s, t, d, r, m) =
    bits_eq (signed_quotient g (of_four s) (of_four t)) (of_four d)
    && (bits_eq (signed_remainder g (of_four s) (of_four t)) (of_four r)
    && bits_eq (signed_modulus g (of_four s) (of_four t)) (of_four m))

signed_divisions : list_all signed_row signed_rows ≡ true
signed_divisions = refl
