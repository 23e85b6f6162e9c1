-- The rank of an operator as a relation, shape by shape: which operands it takes and what it gives. SMT-LIB 2.6,
-- section 3.6, and the declarations of the theories. `rank` answers a sort exactly where this relation holds and the
-- sort has no more than 128 bits.
use Rattle.std.specs.Prelude.{◌≡◌, ℕ, ◌+◌, ◌-◌, ◌^◌, ◌<◌, ◌≤◌, List, [], ◌∷◌, replicate, nat_abs}
use Rattle.smt_terms.specs.Sorts.{Sort, bool, int, bit_vector, array}
use Rattle.smt_terms.specs.Rank.{Shape, fixed, several, equation, distinctness, choice, whole_number, bit_constant, concatenation, extraction, extension, rotation, bitwise, bitwise_pair, bits_comparison, selection, storing, filling, no_head}

abbrev pub Takes : Shape → List Sort → Sort → Type 0
Takes (fixed args r) ss s = (ss ≡ args) × (s ≡ r)
Takes (several t) ss s = (n : ℕ) × (ss ≡ t ∷ t ∷ replicate n t) × (s ≡ t)
Takes equation ss s = (t : Sort) × (ss ≡ t ∷ t ∷ []) × (s ≡ bool)
Takes distinctness ss s = (t : Sort) × (n : ℕ) × (ss ≡ t ∷ t ∷ replicate n t) × (s ≡ bool)
Takes choice ss s = (t : Sort) × (ss ≡ bool ∷ t ∷ t ∷ []) × (s ≡ t)
Takes (whole_number n) ss s = (ss ≡ []) × (nat_abs n < 2 ^ 127) × (s ≡ int)
Takes (bit_constant w bits) ss s = (ss ≡ []) × (0 < w) × (bits < 2 ^ w) × (s ≡ bit_vector w)
Takes concatenation ss s = (v : ℕ) × (w : ℕ) × (ss ≡ bit_vector v ∷ bit_vector w ∷ []) × (s ≡ bit_vector (v + w))
Takes (extraction high low) ss s = (w : ℕ) × (ss ≡ bit_vector w ∷ []) × (low ≤ high) × (high < w) × (s ≡ bit_vector (high - low + 1))
Takes (extension i) ss s = (w : ℕ) × (ss ≡ bit_vector w ∷ []) × (s ≡ bit_vector (w + i))
Takes (rotation i) ss s = (w : ℕ) × (ss ≡ bit_vector w ∷ []) × (i < w) × (s ≡ bit_vector w)
Takes bitwise ss s = (w : ℕ) × (ss ≡ bit_vector w ∷ []) × (s ≡ bit_vector w)
Takes bitwise_pair ss s = (w : ℕ) × (ss ≡ bit_vector w ∷ bit_vector w ∷ []) × (s ≡ bit_vector w)
Takes (bits_comparison r) ss s = (w : ℕ) × (ss ≡ bit_vector w ∷ bit_vector w ∷ []) × (s ≡ r)
Takes selection ss s = (i : Sort) × (ss ≡ array i s ∷ i ∷ [])
Takes storing ss s = (i : Sort) × (e : Sort) × (ss ≡ array i e ∷ i ∷ e ∷ []) × (s ≡ array i e)
Takes (filling r) ss s = (i : Sort) × (e : Sort) × (r ≡ array i e) × (ss ≡ e ∷ []) × (s ≡ r)
Takes no_head ss s = ⊥
