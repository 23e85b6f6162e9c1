-- Bytes that are told, or `None` where they aren't.
use Rattle.std.specs.Prelude.{◌≡◌, ℕ, ◌+◌, ◌<◌, List, [], ◌++◌, length, ⊤, Option, None, Some}
use Rattle.std.specs.Option.{option_map}
use Rattle.smt_io.specs.Counts.{RoseBy}

-- the told bytes with more behind them
abbrev pub with_bytes : Option (List ℕ) → List ℕ → Option (List ℕ)
with_bytes told more = option_map (λ xs. xs ++ more) told

-- the told bytes with more in front of them
abbrev pub behind : List ℕ → Option (List ℕ) → Option (List ℕ)
behind more told = option_map (λ xs. more ++ xs) told

-- nothing is left of a told text
abbrev pub IsAtEnd : Option (List ℕ) → Type 0
IsAtEnd None = ⊤
IsAtEnd (Some xs) = xs ≡ []

-- the most bytes of a text that is read
abbrev pub longest_text : ℕ
longest_text = 67108864

-- a call took more bytes than the longest text has: of a told text by what its rest lost, else by the number of bytes given
abbrev pub TookMore : Option (List ℕ) → Option (List ℕ) → ℕ → ℕ → Type 0
TookMore (Some text) (Some rest) before now = longest_text + length rest < length text
TookMore (Some text) None before now = ⊥
TookMore None rest before now = RoseBy (longest_text + 1) before now
