-- Where a key stands among the pairs of an array.
use Rattle.std.specs.Prelude.{ℕ, suc, Bool, cond, Option, Some, None}
use Rattle.smt_terms.specs.Values.{Value, Pairs, no_pairs, pair}

-- the place of the first pair with that key, where the first of the pairs has the place n
abbrev pub place_from : ℕ → (Value → Value → Bool) → Value → Pairs → Option ℕ
place_from n alike k no_pairs = None
place_from n alike k (pair j v ps) = cond (alike j k) (Some n) (place_from (suc n) alike k ps)
