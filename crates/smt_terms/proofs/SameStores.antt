-- Arrays that are the same stay the same when the same is stored in them.
use Rattle.std.proofs.Common.{◌≡◌, Bool, true, false, cond, inl, inr, refl, ap, sym, ◌∙◌, subst}
use Rattle.smt_terms.specs.Sorts.{Sort, array}
use Rattle.smt_terms.specs.Rank.{is_array, is_sort}
use Rattle.smt_terms.specs.Values.{Value, Pairs, no_pairs, pair, Sizes, pairs_of, default_of, value_at, put, same, is_value, select, store}
use Rattle.smt_terms.proofs.Tests.{IsEquivalent, like_before, alike_from, true_or_false}
use Rattle.smt_terms.proofs.OverValues.{over_finite}
use Rattle.smt_terms.proofs.Same.{same_scalar, same-select, array_sorts, array_value, agrees, AgreeAt, same_finite, same_default}

-- ---- what is read where something was put

module _ (alike : Value → Value → Bool) (law : IsEquivalent alike) where
  first_like : (k l j : Value) → alike k l ≡ true → alike k j ≡ alike l j
  first_like k l j h = alike_from (alike k j) (alike l j) (λ p. law.through l k j (law.back k l h) p) (λ p. law.through k l j h p)

  other_like : (x k j : Value) → alike x k ≡ false → alike k j ≡ true → alike x j ≡ false
  other_like x k j apart h = sym (like_before law x k j h) ∙ apart

  put_here : (b c : Bool) (v u r : Value) → b ≡ c → cond b v r ≡ cond c v (cond b u r)
  put_here true c v u r e = ap (λ d. cond d v u) e
  put_here false c v u r e = ap (λ d. cond d v r) e

  put_behind : (b c : Bool) (v u r : Value) → (c ≡ true → b ≡ false) → cond b u (cond c v r) ≡ cond c v (cond b u r)
  put_behind b true v u r apart = ap (λ d. cond d u v) (apart refl)
  put_behind b false v u r apart = refl

  pub value_at-put : (k v j : Value) (ps : Pairs) (d : Value) → value_at alike j (put alike k v ps) d ≡ cond (alike k j) v (value_at alike j ps d)
  value_at-put k v j no_pairs d = refl
  value_at-put k v j (pair x u ps) d = elim (true_or_false (alike x k)) [
    | inl here ↦
        ap (λ b. value_at alike j (cond b (pair x v ps) (pair x u (put alike k v ps))) d) here
        ∙ put_here (alike x j) (alike k j) v u (value_at alike j ps d) (first_like x k j here)
    | inr other ↦
        ap (λ b. value_at alike j (cond b (pair x v ps) (pair x u (put alike k v ps))) d) other
        ∙ ap (cond (alike x j) u) (value_at-put k v j ps d)
        ∙ put_behind (alike x j) (alike k j) v u (value_at alike j ps d) (other_like x k j other)
  ]

pub same_choice : (s : Sort) (sizes : Sizes) (b c : Bool) (v w r q : Value) → b ≡ c → same s sizes v w ≡ true → same s sizes r q ≡ true → same s sizes (cond b v r) (cond c w q) ≡ true
same_choice s sizes true c v w r q e here other = subst (λ d. same s sizes v (cond d w q) ≡ true) e here
same_choice s sizes false c v w r q e here other = subst (λ d. same s sizes r (cond d w q) ≡ true) e other

-- ---- stores

module _ (i e : Sort) (sizes : Sizes) (fine : is_sort (array i e) ≡ true) where
  scalar : is_array i ≡ false
  scalar = (array_sorts i e fine).0

  law : IsEquivalent (same i sizes)
  law = same_scalar i sizes scalar

  stored_at : (a b k l v w : Value) → same (array i e) sizes a b ≡ true → same i sizes k l ≡ true → same e sizes v w ≡ true → AgreeAt i e sizes (store i sizes a k v) (store i sizes b l w)
  stored_at a b k l v w arrays keys results j valid =
      let left : select i sizes (store i sizes a k v) j ≡ cond (same i sizes k j) v (select i sizes a j) = value_at-put (same i sizes) law k v j (pairs_of a) (default_of a) in
      let right : select i sizes (store i sizes b l w) j ≡ cond (same i sizes l j) w (select i sizes b j) = value_at-put (same i sizes) law l w j (pairs_of b) (default_of b) in
      (λ x. same e sizes (left x) (right x))
      ∙ same_choice e sizes (same i sizes k j) (same i sizes l j) v w (select i sizes a j) (select i sizes b j)
      (first_like (same i sizes) law k l j keys) results (same-select i e sizes a b j scalar valid arrays)

  pub store_same : (a b k l v w : Value) → is_value (array i e) sizes (store i sizes a k v) ≡ true → is_value (array i e) sizes (store i sizes b l w) ≡ true → same (array i e) sizes a b ≡ true → same i sizes k l ≡ true → same e sizes v w ≡ true → same (array i e) sizes (store i sizes a k v) (store i sizes b l w) ≡ true
  store_same a b k l v w valid_left valid_right arrays keys results =
      let left = array_value i e sizes (store i sizes a k v) valid_left in
      let right = array_value i e sizes (store i sizes b l w) valid_right in
      let at = stored_at a b k l v w arrays keys results in
      elim ((agrees i e sizes a b arrays).elsewhere) [
        | inl covered ↦ same_finite i e sizes (store i sizes a k v) (store i sizes b l w) left right at (over_finite i sizes _ covered)
        | inr default ↦ same_default i e sizes (store i sizes a k v) (store i sizes b l w) left right at default
      ]
