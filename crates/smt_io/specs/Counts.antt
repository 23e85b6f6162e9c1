-- Counts of 64 bits that stand still at their last value.
use Rattle.std.specs.Prelude.{ℕ, ◌+◌, ◌≤◌, min, max}

abbrev pub last_count : ℕ
last_count = 18446744073709551615

-- a count raised by n, at most to its last value
abbrev pub raised_by : ℕ → ℕ → ℕ
raised_by n count = max count (min (count + n) last_count)

-- a count raised by one
abbrev pub raised : ℕ → ℕ
raised count = raised_by 1 count

-- the count rose by n or more, or stands at its last value
abbrev pub RoseBy : ℕ → ℕ → ℕ → Type 0
RoseBy n before now = min (before + n) last_count ≤ now

-- the count is greater now than before, or stands at its last value
abbrev pub Rose : ℕ → ℕ → Type 0
Rose before now = RoseBy 1 before now

-- the count didn't fall, and where it stood at its last value it stays there
abbrev pub NeverFalls : ℕ → ℕ → Type 0
NeverFalls before now = (before ≤ now) × (now ≤ max before last_count)
