-- Operators over bit vectors whose indices are clamped or reduced.
use Rattle.std.proofs.Common.{◌≡◌, ℕ, zero, suc, ◌+◌, ◌-◌, ◌%◌, ◌^◌, ◌<◌, ◌≤◌, Bool, true, false, ◌&&◌, cond, ◌==◌, nat_lt, nat_le, min, inl, inr, List, [], ◌∷◌, length, Option, Some, None, Result, Ok, Err, IsOk, refl, ap, sym, ◌∙◌, subst, arith}
use Rattle.std.specs.Prelude.{unwrap_or}
use Rattle.std.proofs.lemmas.Bool.Decides.{leb_tells, eqb_tells, Decides-eqb}
use Rattle.smt_terms.specs.declared.ids.NodeId.{NodeId}
use Rattle.smt_terms.specs.declared.op.Op.TheVariants.{Extract, ZeroExt, SignExt, RotL, RotR}
use Rattle.smt_terms.specs.Rank.{Fault, wrong_arity, width_limit, bad_index, any_width, misfit, before, first_misfit, accepted, most_bits, width, operand, rank, shape, sort_of, is_sort}
use Rattle.smt_terms.specs.Sorts.{Sort, bool, bit_vector}
use Rattle.smt_terms.specs.Term.{op, apply, terms, none, ◌⨾◌}
use Rattle.smt_terms.specs.Written.{plain, left_rotation, right_rotation, written_rank, written_arity, written_places, written_in_range, written_result, build}
use Rattle.smt_terms.proofs.Ranked.{lt_true}
use Rattle.term_table.specs.Formulas.{Formulas, tree, trees_at, rank_over, sort_or_bool, kind}
use Rattle.term_table.specs.ShapeRank.{kid_sorts}
use Rattle.term_table.proofs.Ranks.{length-kid_sorts}
use Rattle.sort_check.specs.Making.{made_over, term_algebra}

-- ---- how many operands

pub not_one : (n : ℕ) → (suc (suc n) == 1) ≡ false
not_one n = elim (eqb_tells (suc (suc n)) 1) [ inl e ↦ absurd (let same : suc (suc n) ≡ 1 = e.1 in omega arith) | inr e ↦ e.0 ]

refused_two : (b : Bool) (r : Result Sort Fault) → b ≡ false → IsOk (cond b r (Err wrong_arity)) → ⊥
refused_two true r e ok = absurd cc
refused_two false r e ok = absurd cc

one_of : (b : Bool) (r : Result Sort Fault) → IsOk (cond b r (Err wrong_arity)) → (b ≡ true) × IsOk r
one_of true r ok = (refl, ok)
one_of false r ok = absurd cc

no_fault : (m : Option Fault) (b : Bool) (s : Sort) → IsOk (accepted m b s) → IsOk (accepted None b s)
no_fault (Some f) b s ok = absurd cc
no_fault None b s ok = ok

-- ---- extensions

pub gt_false : (a b : ℕ) → b < a → nat_le a b ≡ false
gt_false a b lt = elim (leb_tells a b) [ inl e ↦ absurd (let le : a ≤ b = e.1 in omega arith) | inr e ↦ e.0 ]

wide : (w i j : ℕ) → (w + i ≤ 128 → i ≡ j) → (128 < w + i → 128 < w + j) → accepted None true (bit_vector (w + i)) ≡ accepted None true (bit_vector (w + j))
wide w i j small large =
    elim (leb_tells (w + i) 128) [
      | inl e ↦ ap (λ k. accepted None true (bit_vector (w + k))) (small e.1)
      | inr e ↦ ap (λ b. cond b (Ok (bit_vector (w + i))) (Err width_limit)) e.0 ∙ sym (ap (λ b. cond b (Ok (bit_vector (w + j))) (Err width_limit)) (gt_false (w + j) 128 (large e.1)))
    ]

wide_at : (m : Option Fault) (w i j : ℕ) → (w + i ≤ 128 → i ≡ j) → (128 < w + i → 128 < w + j) → accepted m true (bit_vector (w + i)) ≡ accepted m true (bit_vector (w + j))
wide_at (Some f) w i j small large = refl
wide_at None w i j small large = wide w i j small large

module _ (by : ℕ) (held : ℕ) (is : held ≡ min by (2 ^ 32 - 1)) where
  most : 2 ^ 32 - 1 ≡ 4294967295
  most = refl

  small : (w : ℕ) → w + held ≤ 128 → held ≡ by
  small w fits = let top = most in omega arith

  large : (w : ℕ) → 128 < w + held → 128 < w + by
  large w over = omega arith

  held_rank : (ss : List Sort) → cond (length ss == 1) (accepted (first_misfit 0 (any_width ∷ []) ss) true (bit_vector (width (operand 0 ss) + held))) (Err wrong_arity)
      ≡ cond (length ss == 1) (accepted (first_misfit 0 (any_width ∷ []) ss) true (bit_vector (width (operand 0 ss) + by))) (Err wrong_arity)
  held_rank ss = ap (λ r. cond (length ss == 1) r (Err wrong_arity)) (wide_at (first_misfit 0 (any_width ∷ []) ss) (width (operand 0 ss)) held by (small (width (operand 0 ss))) (large (width (operand 0 ss))))

  pub zero_rank : (t : Formulas) (ks : List NodeId) → rank_over t (ZeroExt held) (trees_at t ks) ≡ written_rank (plain (ZeroExt by)) (kid_sorts t ks)
  unfolding kind rank shape written_rank written_arity written_places written_in_range written_result
  zero_rank t ks = held_rank (kid_sorts t ks)

  pub sign_rank : (t : Formulas) (ks : List NodeId) → rank_over t (SignExt held) (trees_at t ks) ≡ written_rank (plain (SignExt by)) (kid_sorts t ks)
  unfolding kind rank shape written_rank written_arity written_places written_in_range written_result
  sign_rank t ks = held_rank (kid_sorts t ks)

  same_by : (ss : List Sort) → IsOk (cond (length ss == 1) (accepted (first_misfit 0 (any_width ∷ []) ss) true (bit_vector (width (operand 0 ss) + by))) (Err wrong_arity)) → held ≡ by
  same_by ss ok = at (length ss == 1) (first_misfit 0 (any_width ∷ []) ss) ok
    where
      at : (b : Bool) (m : Option Fault) → IsOk (cond b (accepted m true (bit_vector (width (operand 0 ss) + by))) (Err wrong_arity)) → held ≡ by
      at false m h = absurd cc
      at true (Some f) h = absurd cc
      at true None h =
          elim (leb_tells (width (operand 0 ss) + by) 128) [
            | inl e ↦ let fits : width (operand 0 ss) + by ≤ 128 = e.1 in let top = most in omega arith
            | inr e ↦ absurd (let f : IsOk (cond false (Ok (bit_vector (width (operand 0 ss) + by))) (Err width_limit)) = subst (λ b. IsOk (cond b (Ok (bit_vector (width (operand 0 ss) + by))) (Err width_limit))) e.0 h in let g : false ≡ true = f in cc)
          ]

  pub zero_term : (t : Formulas) (ks : List NodeId) → IsOk (written_rank (plain (ZeroExt by)) (kid_sorts t ks)) → made_over t (ZeroExt held) (trees_at t ks) ≡ build term_algebra (plain (ZeroExt by)) (trees_at t ks)
  unfolding kind build rank shape written_rank written_arity written_places written_in_range written_result
  zero_term t ks ok = ap (λ i. apply (op (ZeroExt i)) (terms (trees_at t ks))) (same_by (kid_sorts t ks) ok)

  pub sign_term : (t : Formulas) (ks : List NodeId) → IsOk (written_rank (plain (SignExt by)) (kid_sorts t ks)) → made_over t (SignExt held) (trees_at t ks) ≡ build term_algebra (plain (SignExt by)) (trees_at t ks)
  unfolding kind build rank shape written_rank written_arity written_places written_in_range written_result
  sign_term t ks ok = ap (λ i. apply (op (SignExt i)) (terms (trees_at t ks))) (same_by (kid_sorts t ks) ok)

-- ---- extraction

-- an index in range is itself, and one that isn't stays out of range
module _ (high low w h l : ℕ) (his : h ≡ min high w) (lis : l ≡ min low w) where
  cut : accepted None (nat_lt h w && nat_le l h) (bit_vector (h - l + 1)) ≡ accepted None (nat_lt high w && nat_le low high) (bit_vector (high - low + 1))
  cut =
      elim (leb_tells (suc high) w) [
        | inl e ↦
            let in_high : high < w = e.1 in
            let same_high : h ≡ high = omega arith in
            elim (leb_tells low high) [
              | inl f ↦ let ordered : low ≤ high = f.1 in let same_low : l ≡ low = omega arith in
                  (λ i. accepted None (nat_lt (same_high i) w && nat_le (same_low i) (same_high i)) (bit_vector (same_high i - same_low i + 1)))
              | inr f ↦ let above : high < low = f.1 in let above_held : h < l = omega arith in
                  none_of (nat_lt h w) (nat_le l h) (bit_vector (h - l + 1)) (gt_false l h above_held) ∙ sym (none_of (nat_lt high w) (nat_le low high) (bit_vector (high - low + 1)) f.0)
            ]
        | inr e ↦
            let out : w ≤ high = let lt : w < suc high = e.1 in omega arith in
            let out_held : w ≤ h = omega arith in
            first_of_two (nat_lt h w) (nat_le l h) (bit_vector (h - l + 1)) (gt_false (suc h) w (omega arith)) ∙ sym (first_of_two (nat_lt high w) (nat_le low high) (bit_vector (high - low + 1)) e.0)
      ]
    where
      none_of : (a b : Bool) (s : Sort) → b ≡ false → accepted None (a && b) s ≡ Err bad_index
      none_of true b s e = ap (λ c. accepted None c s) e
      none_of false b s e = refl

      first_of_two : (a b : Bool) (s : Sort) → a ≡ false → accepted None (a && b) s ≡ Err bad_index
      first_of_two a b s e = ap (λ c. accepted None (c && b) s) e

  cut_at : (m : Option Fault) → accepted m (nat_lt h w && nat_le l h) (bit_vector (h - l + 1)) ≡ accepted m (nat_lt high w && nat_le low high) (bit_vector (high - low + 1))
  cut_at (Some f) = refl
  cut_at None = cut

  pub in_place : IsOk (accepted None (nat_lt high w && nat_le low high) (bit_vector (high - low + 1))) → (h ≡ high) × (l ≡ low)
  in_place ok =
      elim (leb_tells (suc high) w) [
        | inl e ↦ let in_high : high < w = e.1 in
            elim (leb_tells low high) [
              | inl f ↦ let ordered : low ≤ high = f.1 in (omega arith, omega arith)
              | inr f ↦ absurd (refuse (nat_lt high w) (nat_le low high) (bit_vector (high - low + 1)) ok f.0)
            ]
        | inr e ↦ absurd (refuse_first (nat_lt high w) (nat_le low high) (bit_vector (high - low + 1)) ok e.0)
      ]
    where
      refuse : (a b : Bool) (s : Sort) → IsOk (accepted None (a && b) s) → b ≡ false → ⊥
      refuse true false s h e = absurd cc
      refuse false false s h e = absurd cc
      refuse a true s h e = absurd cc

      refuse_first : (a b : Bool) (s : Sort) → IsOk (accepted None (a && b) s) → a ≡ false → ⊥
      refuse_first true b s h e = absurd cc
      refuse_first false b s h e = absurd cc

module _ (high low w h l : ℕ) (t : Formulas) (ks : List NodeId) (of : length ks ≡ 1 → w ≡ width (operand 0 (kid_sorts t ks))) (his : h ≡ min high w) (lis : l ≡ min low w) where
  pub extract_rank : rank_over t (Extract h l) (trees_at t ks) ≡ written_rank (plain (Extract high low)) (kid_sorts t ks)
  unfolding kind rank shape written_rank written_arity written_places written_in_range written_result
  extract_rank =
      let ss = kid_sorts t ks in
      elim (eqb_tells (length ss) 1) [
        | inl e ↦
            let is : w ≡ width (operand 0 ss) = of (sym (length-kid_sorts t ks) ∙ e.1) in
            ap (λ r. cond (length ss == 1) r (Err wrong_arity)) (cut_at high low (width (operand 0 ss)) h l (his ∙ ap (min high) is) (lis ∙ ap (min low) is) (first_misfit 0 (any_width ∷ []) ss))
        | inr e ↦ ap (λ b. cond b (accepted (first_misfit 0 (any_width ∷ []) ss) (nat_lt h (width (operand 0 ss)) && nat_le l h) (bit_vector (h - l + 1))) (Err wrong_arity)) e.0
            ∙ sym (ap (λ b. cond b (accepted (first_misfit 0 (any_width ∷ []) ss) (nat_lt high (width (operand 0 ss)) && nat_le low high) (bit_vector (high - low + 1))) (Err wrong_arity)) e.0)
      ]

  pub extract_term : IsOk (written_rank (plain (Extract high low)) (kid_sorts t ks)) → made_over t (Extract h l) (trees_at t ks) ≡ build term_algebra (plain (Extract high low)) (trees_at t ks)
  unfolding kind build rank shape written_rank written_arity written_places written_in_range written_result
  extract_term ok =
      let ss = kid_sorts t ks in
      let one = one_of (length ss == 1) (accepted (first_misfit 0 (any_width ∷ []) ss) (nat_lt high (width (operand 0 ss)) && nat_le low high) (bit_vector (high - low + 1))) ok in
      let is : w ≡ width (operand 0 ss) = of (sym (length-kid_sorts t ks) ∙ (Decides-eqb (length ss) 1).0 one.0) in
      let same = in_place high low (width (operand 0 ss)) h l (his ∙ ap (min high) is) (lis ∙ ap (min low) is) (no_fault (first_misfit 0 (any_width ∷ []) ss) (nat_lt high (width (operand 0 ss)) && nat_le low high) (bit_vector (high - low + 1)) one.1) in
      (λ i. apply (op (Extract (same.0 i) (same.1 i))) (terms (trees_at t ks)))

-- ---- rotations

rotated : (s : Sort) (i r : ℕ) → is_sort s ≡ true → (0 < width s → r ≡ i % width s) → accepted (before (misfit 0 any_width s) None) (nat_lt r (width s)) s ≡ accepted (before (misfit 0 any_width s) None) true s
rotated (bit_vector w) i r sort is =
    let positive : 0 < w = positive_width w sort in
    let same : r ≡ i % w = is positive in
    let less : i % w < w = omega arith in
    ap (λ b. accepted None b (bit_vector w)) (ap (λ n. nat_lt n w) same ∙ lt_true (i % w) w less)
  where
    positive_width : (w : ℕ) → (nat_le 1 w && nat_le w most_bits) ≡ true → 0 < w
    positive_width zero e = absurd cc
    positive_width (suc w) e = omega arith
rotated _ i r sort is = refl

rotated_width : (s : Sort) → is_sort s ≡ true → IsOk (accepted (before (misfit 0 any_width s) None) true s) → 0 < width s
rotated_width (bit_vector zero) sort ok = absurd cc
rotated_width (bit_vector (suc w)) sort ok = omega arith
rotated_width _ sort ok = absurd cc

width_of_term : (o : Option Sort) → width (sort_or_bool o) ≡ width (unwrap_or o bool)
width_of_term (Some s) = refl
width_of_term None = refl

module _ (i w r : ℕ) (t : Formulas) (ks : List NodeId) (of : length ks ≡ 1 → w ≡ width (operand 0 (kid_sorts t ks))) (sort : length ks ≡ 1 → is_sort (operand 0 (kid_sorts t ks)) ≡ true) (ris : 0 < w → r ≡ i % w) where
  rotation_rank : cond (length (kid_sorts t ks) == 1) (accepted (first_misfit 0 (any_width ∷ []) (kid_sorts t ks)) (nat_lt r (width (operand 0 (kid_sorts t ks)))) (operand 0 (kid_sorts t ks))) (Err wrong_arity)
      ≡ cond (length (kid_sorts t ks) == 1) (accepted (first_misfit 0 (any_width ∷ []) (kid_sorts t ks)) true (operand 0 (kid_sorts t ks))) (Err wrong_arity)
  rotation_rank = by ks of sort
    where
      by : (ks : List NodeId) → (length ks ≡ 1 → w ≡ width (operand 0 (kid_sorts t ks))) → (length ks ≡ 1 → is_sort (operand 0 (kid_sorts t ks)) ≡ true)
          → cond (length (kid_sorts t ks) == 1) (accepted (first_misfit 0 (any_width ∷ []) (kid_sorts t ks)) (nat_lt r (width (operand 0 (kid_sorts t ks)))) (operand 0 (kid_sorts t ks))) (Err wrong_arity)
          ≡ cond (length (kid_sorts t ks) == 1) (accepted (first_misfit 0 (any_width ∷ []) (kid_sorts t ks)) true (operand 0 (kid_sorts t ks))) (Err wrong_arity)
      by [] of sort = refl
      by (k ∷ []) of sort =
          let s = sort_or_bool (sort_of (tree t k)) in
          rotated s i r (sort refl) (λ lt. let is : w ≡ width s = of refl in let positive : 0 < w = omega arith in ris positive ∙ ap (λ v. i % v) is)
      by (k ∷ l ∷ ks) of sort =
          let several : (length (kid_sorts t (k ∷ l ∷ ks)) == 1) ≡ false = not_one (length (kid_sorts t ks)) in
          ap (λ b. cond b (accepted (first_misfit 0 (any_width ∷ []) (kid_sorts t (k ∷ l ∷ ks))) (nat_lt r (width (operand 0 (kid_sorts t (k ∷ l ∷ ks))))) (operand 0 (kid_sorts t (k ∷ l ∷ ks)))) (Err wrong_arity)) several
          ∙ sym (ap (λ b. cond b (accepted (first_misfit 0 (any_width ∷ []) (kid_sorts t (k ∷ l ∷ ks))) true (operand 0 (kid_sorts t (k ∷ l ∷ ks)))) (Err wrong_arity)) several)

  pub left_rank : rank_over t (RotL r) (trees_at t ks) ≡ written_rank (left_rotation i) (kid_sorts t ks)
  unfolding kind rank shape written_rank written_arity written_places written_in_range written_result
  left_rank = rotation_rank

  pub right_rank : rank_over t (RotR r) (trees_at t ks) ≡ written_rank (right_rotation i) (kid_sorts t ks)
  unfolding kind rank shape written_rank written_arity written_places written_in_range written_result
  right_rank = rotation_rank

  pub left_term : IsOk (written_rank (left_rotation i) (kid_sorts t ks)) → made_over t (RotL r) (trees_at t ks) ≡ build term_algebra (left_rotation i) (trees_at t ks)
  unfolding kind build written_rank written_arity written_places written_in_range written_result
  left_term ok = by ks of sort ok
    where
      by : (ks : List NodeId) → (length ks ≡ 1 → w ≡ width (operand 0 (kid_sorts t ks))) → (length ks ≡ 1 → is_sort (operand 0 (kid_sorts t ks)) ≡ true)
          → IsOk (cond (length (kid_sorts t ks) == 1) (accepted (first_misfit 0 (any_width ∷ []) (kid_sorts t ks)) true (operand 0 (kid_sorts t ks))) (Err wrong_arity))
          → made_over t (RotL r) (trees_at t ks) ≡ build term_algebra (left_rotation i) (trees_at t ks)
      by [] of sort ok = absurd cc
      by (k ∷ []) of sort ok =
          let s = sort_or_bool (sort_of (tree t k)) in
          let is : w ≡ width s = of refl in
          let positive : 0 < width s = rotated_width s (sort refl) ok in
          ap (λ n. apply (op (RotL n)) (tree t k ⨾ none)) (ris (omega arith) ∙ ap (λ v. i % v) (is ∙ width_of_term (sort_of (tree t k))))
      by (k ∷ l ∷ ks) of sort ok = absurd (refused_two (length (kid_sorts t (k ∷ l ∷ ks)) == 1) _ (not_one (length (kid_sorts t ks))) ok)

  pub right_term : IsOk (written_rank (right_rotation i) (kid_sorts t ks)) → made_over t (RotR r) (trees_at t ks) ≡ build term_algebra (right_rotation i) (trees_at t ks)
  unfolding kind build written_rank written_arity written_places written_in_range written_result
  right_term ok = by ks of sort ok
    where
      by : (ks : List NodeId) → (length ks ≡ 1 → w ≡ width (operand 0 (kid_sorts t ks))) → (length ks ≡ 1 → is_sort (operand 0 (kid_sorts t ks)) ≡ true)
          → IsOk (cond (length (kid_sorts t ks) == 1) (accepted (first_misfit 0 (any_width ∷ []) (kid_sorts t ks)) true (operand 0 (kid_sorts t ks))) (Err wrong_arity))
          → made_over t (RotR r) (trees_at t ks) ≡ build term_algebra (right_rotation i) (trees_at t ks)
      by [] of sort ok = absurd cc
      by (k ∷ []) of sort ok =
          let s = sort_or_bool (sort_of (tree t k)) in
          let is : w ≡ width s = of refl in
          let positive : 0 < width s = rotated_width s (sort refl) ok in
          ap (λ n. apply (op (RotR n)) (tree t k ⨾ none)) (ris (omega arith) ∙ ap (λ v. i % v) (is ∙ width_of_term (sort_of (tree t k))))
      by (k ∷ l ∷ ks) of sort ok = absurd (refused_two (length (kid_sorts t (k ∷ l ∷ ks)) == 1) _ (not_one (length (kid_sorts t ks))) ok)
