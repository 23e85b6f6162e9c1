-- What the error stream got.
use Rattle.std.specs.Prelude.{◌≡◌, ℕ, List, take, Option}
use Rattle.smt_io.specs.Told.{with_bytes}

-- it got a prefix of a line
abbrev pub GotPrefix : Option (List ℕ) → Option (List ℕ) → List ℕ → Type 0
GotPrefix before now line = (n : ℕ) × (now ≡ with_bytes before (take n line))
