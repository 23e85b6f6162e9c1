-- What a contract sees of an array: its default value, and its pairs in order.
use Rattle.std.specs.Prelude.{ℕ, zero, suc, ◌+◌, max, Option, Some, None}
use Rattle.smt_terms.specs.Values.{Value, table, Pairs, no_pairs, pair}

pub record Table : Type 0 where
  pub fallback : Value
  pub pairs : Pairs

abbrev pub as_value : Table → Value
as_value t = table t.fallback t.pairs

abbrev pub count : Pairs → ℕ
count no_pairs = 0
count (pair k v ps) = 1 + count ps

-- the key and the value at a place
abbrev pub pair_at : Pairs → ℕ → Option (Value × Value)
pair_at no_pairs i = None
pair_at (pair k v ps) zero = Some (k, v)
pair_at (pair k v ps) (suc i) = pair_at ps i

-- the pairs with another value at a place, and with one more pair behind them
abbrev pub with_value_at : Pairs → ℕ → Value → Pairs
with_value_at no_pairs i u = no_pairs
with_value_at (pair k v ps) zero u = pair k u ps
with_value_at (pair k v ps) (suc i) u = pair k v (with_value_at ps i u)

abbrev pub with_pair : Pairs → Value → Value → Pairs
with_pair no_pairs k v = pair k v no_pairs
with_pair (pair j u ps) k v = pair j u (with_pair ps k v)

-- how deep arrays are nested
abbrev mutual
  pub value_depth : Value → ℕ
  value_depth (table d ps) = 1 + max (value_depth d) (pairs_depth ps)
  value_depth _ = 0

  pub pairs_depth : Pairs → ℕ
  pairs_depth no_pairs = 0
  pairs_depth (pair k v ps) = max (max (value_depth k) (value_depth v)) (pairs_depth ps)

abbrev pub depth : Table → ℕ
depth t = max (value_depth t.fallback) (pairs_depth t.pairs)
