-- What the pairs of an array have at a key, for a test of keys that is an equivalence.
use Rattle.std.proofs.Common.{◌≡◌, Bool, true, false, cond, not, inl, inr, refl, ap, sym, ◌∙◌, subst}
use Rattle.smt_terms.specs.Values.{Value, Pairs, no_pairs, pair, is_key, value_at, put, distinct_keys, every_pair}
use Rattle.smt_terms.proofs.Tests.{IsEquivalent, like_before, both_true, and_true, or_false, either_true, both_false, not_true, true_or_false, either_way}

module _ (alike : Value → Value → Bool) (law : IsEquivalent alike) where
  -- like keys have the same place
  pub is_key-like : (j k : Value) (ps : Pairs) → alike j k ≡ true → is_key alike j ps ≡ is_key alike k ps
  is_key-like j k no_pairs h = refl
  is_key-like j k (pair x v ps) h =
      let here : alike x j ≡ alike x k = like_before law x j k h in
      let behind : is_key alike j ps ≡ is_key alike k ps = is_key-like j k ps h in
      cc

  pub value_at-like : (j k : Value) (ps : Pairs) (d : Value) → alike j k ≡ true → value_at alike j ps d ≡ value_at alike k ps d
  value_at-like j k no_pairs d h = refl
  value_at-like j k (pair x v ps) d h =
      let here : alike x j ≡ alike x k = like_before law x j k h in
      let behind : value_at alike j ps d ≡ value_at alike k ps d = value_at-like j k ps d h in
      cc

  -- a test that passes at each pair's key passes at each like key, if it makes no difference between like keys
  pub every_key : (test : Value → Bool) (k : Value) (ps : Pairs) → ((j : Value) → alike j k ≡ true → test j ≡ test k) → every_pair (λ j _. test j) ps ≡ true → is_key alike k ps ≡ true → test k ≡ true
  every_key test k no_pairs respects h there = absurd cc
  every_key test k (pair j v ps) respects h there =
      let parts = both_true (test j) (every_pair (λ j _. test j) ps) h in
      elim (either_true (alike j k) (is_key alike k ps) there) [
        | inl here ↦ sym (respects j here) ∙ parts.0
        | inr behind ↦ every_key test k ps respects parts.1 behind
      ]

-- where a key isn't there
pub value_at-absent : (alike : Value → Value → Bool) (k : Value) (ps : Pairs) (d : Value) → is_key alike k ps ≡ false → value_at alike k ps d ≡ d
value_at-absent alike k no_pairs d h = refl
value_at-absent alike k (pair j v ps) d h =
    let parts = both_false (alike j k) (is_key alike k ps) h in
    let behind : value_at alike k ps d ≡ d = value_at-absent alike k ps d parts.1 in
    let here : alike j k ≡ false = parts.0 in
    cc

-- from one test of each pair to another
pub every_pair-from : (given wanted : Value → Value → Bool) (ps : Pairs) → ((k v : Value) → given k v ≡ true → wanted k v ≡ true) → every_pair given ps ≡ true → every_pair wanted ps ≡ true
every_pair-from given wanted no_pairs leads h = refl
every_pair-from given wanted (pair k v ps) leads h =
    let parts = both_true (given k v) (every_pair given ps) h in
    and_true (wanted k v) (every_pair wanted ps) (leads k v parts.0) (every_pair-from given wanted ps leads parts.1)

pub every_pair-always : (test : Value → Value → Bool) (ps : Pairs) → ((k v : Value) → test k v ≡ true) → every_pair test ps ≡ true
every_pair-always test no_pairs passes = refl
every_pair-always test (pair k v ps) passes = and_true (test k v) (every_pair test ps) (passes k v) (every_pair-always test ps passes)

-- the value at a key is one of the values or the default
pub value_at-passes : (alike : Value → Value → Bool) (test : Value → Value → Bool) (wanted : Value → Bool) (k : Value) (ps : Pairs) (d : Value) → ((j v : Value) → test j v ≡ true → wanted v ≡ true) → every_pair test ps ≡ true → wanted d ≡ true → wanted (value_at alike k ps d) ≡ true
value_at-passes alike test wanted k no_pairs d leads h default = default
value_at-passes alike test wanted k (pair j v ps) d leads h default =
    let parts = both_true (test j v) (every_pair test ps) h in
    let behind : wanted (value_at alike k ps d) ≡ true = value_at-passes alike test wanted k ps d leads parts.1 default in
    elim (true_or_false (alike j k)) [
      | inl here ↦ subst (λ b. wanted (cond b v (value_at alike k ps d)) ≡ true) (sym here) (leads j v parts.0)
      | inr other ↦ subst (λ b. wanted (cond b v (value_at alike k ps d)) ≡ true) (sym other) behind
    ]

-- ---- an array with a new value at a key

is_key-put : (alike : Value → Value → Bool) (j k v : Value) (ps : Pairs) → is_key alike j ps ≡ false → alike k j ≡ false → is_key alike j (put alike k v ps) ≡ false
is_key-put alike j k v no_pairs absent other = let e : alike k j ≡ false = other in cc
is_key-put alike j k v (pair x u ps) absent other =
    let parts = both_false (alike x j) (is_key alike j ps) absent in
    let behind : is_key alike j (put alike k v ps) ≡ false = is_key-put alike j k v ps parts.1 other in
    either_way (is_key alike j) (alike x k) (pair x v ps) (pair x u (put alike k v ps)) false (λ e. absent) (λ e. or_false (alike x j) (is_key alike j (put alike k v ps)) parts.0 behind)

pub distinct_keys-put : (alike : Value → Value → Bool) → ((j k : Value) → alike j k ≡ true → alike k j ≡ true) → (k v : Value) (ps : Pairs) → distinct_keys alike ps ≡ true → distinct_keys alike (put alike k v ps) ≡ true
distinct_keys-put alike back k v no_pairs h = refl
distinct_keys-put alike back k v (pair x u ps) h =
    let parts = both_true (not (is_key alike x ps)) (distinct_keys alike ps) h in
    let behind : distinct_keys alike (put alike k v ps) ≡ true = distinct_keys-put alike back k v ps parts.1 in
    either_way (distinct_keys alike) (alike x k) (pair x v ps) (pair x u (put alike k v ps)) true (λ e. h)
    (λ e. and_true (not (is_key alike x (put alike k v ps))) (distinct_keys alike (put alike k v ps)) (ap not (is_key-put alike x k v ps (not_true (is_key alike x ps) parts.0) (apart e))) behind)
  where
    apart : alike x k ≡ false → alike k x ≡ false
    apart e = elim (true_or_false (alike k x)) [
      | inl like ↦ let turned : alike x k ≡ true = back k x like in absurd cc
      | inr other ↦ other
    ]

pub every_pair-put : (alike test : Value → Value → Bool) (k v : Value) (ps : Pairs) → ((j u : Value) → test j u ≡ true → test j v ≡ true) → test k v ≡ true → every_pair test ps ≡ true → every_pair test (put alike k v ps) ≡ true
every_pair-put alike test k v no_pairs replaced new h = and_true (test k v) true new refl
every_pair-put alike test k v (pair x u ps) replaced new h =
    let parts = both_true (test x u) (every_pair test ps) h in
    let behind : every_pair test (put alike k v ps) ≡ true = every_pair-put alike test k v ps replaced new parts.1 in
    either_way (every_pair test) (alike x k) (pair x v ps) (pair x u (put alike k v ps)) true
    (λ e. and_true (test x v) (every_pair test ps) (replaced x u parts.0) parts.1)
    (λ e. and_true (test x u) (every_pair test (put alike k v ps)) parts.0 behind)
