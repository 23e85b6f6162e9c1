-- The values of a finite sort by numbers: the first is the default value.
use Rattle.std.specs.Prelude.{ℕ, ◌-◌, ◌^◌, ◌<◌, ◌==◌, nat_lt, if◌then◌else◌, Option, Some, None}
use Rattle.smt_terms.specs.Sorts.{Sort, bool, bit_vector, free_sort}
use Rattle.smt_terms.specs.BitVectors.{nat2bv}
use Rattle.smt_terms.specs.Values.{Value, truth, bits, element, Sizes, default_value}

abbrev pub numbered : Sort → ℕ → Value
numbered bool n = truth (n == 1)
numbered (bit_vector w) n = bits (nat2bv w n)
numbered (free_sort _) n = element n
numbered s n = default_value s

-- the number of the last value; the other sorts are never covered by keys
abbrev pub last_number : Sort → Sizes → Option ℕ
last_number bool sizes = Some 1
last_number (bit_vector w) sizes = Some (2 ^ w - 1)
last_number (free_sort s) sizes = Some (sizes s - 1)
last_number _ sizes = None

-- the same by the number of the sort, and the numbers that this sort has and that fit a word
abbrev pub numbered_at : ℕ → ℕ → Value
numbered_at s n = if s == 0 then truth (n == 1) else if nat_lt s 130 then bits (nat2bv (s - 1) n) else element n

pub record IsNumberAt (s n : ℕ) : Type 0 where
  pub word : 0 < s → s < 130 → (1 < s) × (n < 2 ^ (s - 1))
  pub element : 129 < s → n < 2 ^ 64
