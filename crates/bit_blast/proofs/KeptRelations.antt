-- What connectives keep, circuits keep.
use Rattle.std.proofs.Common.{◌≡◌, ℕ, zero, suc, ◌+◌, ◌-◌, ◌^◌, ◌<◌, Bool, true, false, List, [], ◌∷◌, ◌++◌, length, replicate, map, take, drop, Ok, refl, ap, sym, ◌∙◌, subst, arith}
use Rattle.std.specs.Prelude.{min}
use Rattle.smt_terms.specs.declared.op.Op.{Op}
use Rattle.smt_terms.specs.declared.op.Op.TheVariants.{Truth, Not, And, Or, Xor, Equal, Distinct, Ite}
use Rattle.smt_terms.specs.Sorts.{Sort, bool}
use Rattle.smt_terms.specs.Term.{op}
use Rattle.smt_terms.specs.Rank.{rank, shape}
use Rattle.smt_terms.specs.BitVectors.{nat2bv}
use Rattle.smt_terms.proofs.Ranked.{takes-rank}
use Rattle.bit_blast.specs.Circuits.{Gates, constant, inverse, both, either, differ, alike, choose, joined, each, inverses, chosen, filled, top, carry, add, sum, difference, opposite, equal, apart, less_from, less, with_top_turned, signed_less, up, down, shifted, with_products, product, Division, next_division, division, quotient, remainder, absolute, signed_quotient, signed_remainder, is_zero, floored, signed_modulus, only_bit, connective, distinct, circuit}
use Rattle.bit_blast.proofs.CircuitStatements.{bits_in, Fit, fit_none, fit_more, Both, both_none, both_more, Keep, CircuitsKeep}
use Rattle.bit_blast.proofs.BitOperators.{OfVector, is_bvnot, is_bvneg, is_rotl, is_rotr, Extension, is_zero_ext, is_sign_ext, OfVectors, is_bvand, is_bvor, is_bvxor, is_bvadd, is_bvmul, is_bvsub, is_bvudiv, is_bvurem, is_bvsdiv, is_bvsrem, is_bvsmod, is_bvshl, is_bvlshr, is_bvashr, Comparison, is_bvcomp, is_bvult, is_bvule, is_bvslt, is_bvsle, BitOperator, of_none, of_flags, of_equals, of_several, of_choice, of_parts, of_part, of_vector, of_extension, of_vectors, of_comparison, bit_operator, circuit-connective, flag_sorts}
use Rattle.bit_blast.proofs.CircuitWidths.{length-each, length-filled, length-of_absolutes}

-- ---- lists whose elements are related one by one

module _ {A B : Type 0} (R : A → B → Type 0) where
  both_length : (us : List A) (vs : List B) → Both R us vs → length us ≡ length vs
  both_length us vs both_none = refl
  both_length us vs (both_more {us = us'} {vs = vs'} r b) = ap suc (both_length us' vs' b)

  both_append : (us us' : List A) (vs vs' : List B) → Both R us vs → Both R us' vs' → Both R (us ++ us') (vs ++ vs')
  both_append us us' vs vs' both_none c = c
  both_append us us' vs vs' (both_more {us = ws} {vs = xs} r b) c = both_more r (both_append ws us' xs vs' b c)

  both_take : (n : ℕ) (us : List A) (vs : List B) → Both R us vs → Both R (take n us) (take n vs)
  both_take zero us vs b = both_none
  both_take (suc n) us vs both_none = both_none
  both_take (suc n) us vs (both_more {us = us'} {vs = vs'} r b) = both_more r (both_take n us' vs' b)

  both_drop : (n : ℕ) (us : List A) (vs : List B) → Both R us vs → Both R (drop n us) (drop n vs)
  both_drop zero us vs b = b
  both_drop (suc n) us vs both_none = both_none
  both_drop (suc n) us vs (both_more {us = us'} {vs = vs'} r b) = both_drop n us' vs' b

  both_replicate : (n : ℕ) (a : A) (b : B) → R a b → Both R (replicate n a) (replicate n b)
  both_replicate zero a b r = both_none
  both_replicate (suc n) a b r = both_more r (both_replicate n a b r)

  both_map : (f : A → A) (f' : B → B) → ((a : A) (b : B) → R a b → R (f a) (f' b)) → (us : List A) (vs : List B) → Both R us vs → Both R (map f us) (map f' vs)
  both_map f f' keeps us vs both_none = both_none
  both_map f f' keeps us vs (both_more {u = a} {v = b} {us = us'} {vs = vs'} r c) = both_more (keeps a b r) (both_map f f' keeps us' vs' c)

  both_each : (f : A → A → A) (f' : B → B → B) → ((a c : A) (b d : B) → R a b → R c d → R (f a c) (f' b d)) → (us ws : List A) (vs xs : List B) → Both R us vs → Both R ws xs → Both R (each f us ws) (each f' vs xs)
  both_each f f' keeps us ws vs xs both_none c = both_none
  both_each f f' keeps us ws vs xs (both_more r b) both_none = both_none
  both_each f f' keeps us ws vs xs (both_more {u = a} {v = b} {us = us'} {vs = vs'} r p) (both_more {u = c} {v = d} {us = ws'} {vs = xs'} q p') =
      both_more (keeps a c b d r q) (both_each f f' keeps us' ws' vs' xs' p p')

  both_filled : (a : A) (b : B) → R a b → (us : List A) (vs : List B) → Both R us vs → Both R (filled a us) (filled b vs)
  both_filled a b r us vs p = subst (λ n. Both R (filled a us) (replicate n b)) (both_length us vs p) (both_replicate (length us) a b r)

  both_up : (a : A) (b : B) → R a b → (n : ℕ) (us : List A) (vs : List B) → Both R us vs → Both R (up a n us) (up b n vs)
  both_up a b r n us vs p =
      subst (λ k. Both R (up a n us) (take k (replicate (min n k) b ++ vs))) (both_length us vs p)
      (both_take (length us) _ _ (both_append _ us _ vs (both_replicate (min n (length us)) a b r) p))

  both_down : (a : A) (b : B) → R a b → (n : ℕ) (us : List A) (vs : List B) → Both R us vs → Both R (down a n us) (down b n vs)
  both_down a b r n us vs p =
      subst (λ k. Both R (down a n us) (drop n vs ++ replicate (min n k) b)) (both_length us vs p)
      (both_append (drop n us) _ (drop n vs) _ (both_drop n us vs p) (both_replicate (min n (length us)) a b r))

-- ---- connectives

module _ {A B : Type 0} (R : A → B → Type 0) (g : Gates A) (h : Gates B) (keep : Keep R g h) where
  kept_constant : (b : Bool) → R (constant g b) (constant h b)
  unfolding rank
  kept_constant b = keep (Truth b) [] [] refl both_none

  kept_inverse : (a : A) (b : B) → R a b → R (inverse g a) (inverse h b)
  unfolding rank
  kept_inverse a b r = keep Not _ _ refl (both_more r both_none)

  kept_both : (a c : A) (b d : B) → R a b → R c d → R (both g a c) (both h b d)
  unfolding rank
  kept_both a c b d r q = keep And _ _ refl (both_more r (both_more q both_none))

  kept_either : (a c : A) (b d : B) → R a b → R c d → R (either g a c) (either h b d)
  unfolding rank
  kept_either a c b d r q = keep Or _ _ refl (both_more r (both_more q both_none))

  kept_differ : (a c : A) (b d : B) → R a b → R c d → R (differ g a c) (differ h b d)
  unfolding rank
  kept_differ a c b d r q = keep Xor _ _ refl (both_more r (both_more q both_none))

  kept_alike : (a c : A) (b d : B) → R a b → R c d → R (alike g a c) (alike h b d)
  unfolding rank
  kept_alike a c b d r q = keep Equal _ _ refl (both_more r (both_more q both_none))

  kept_choose : (a c e : A) (b d f : B) → R a b → R c d → R e f → R (choose g a c e) (choose h b d f)
  unfolding rank
  kept_choose a c e b d f r q p = keep Ite _ _ refl (both_more r (both_more q (both_more p both_none)))

  two_or_more : (n : ℕ) → rank (op And) (bool ∷ bool ∷ replicate n bool) ≡ Ok bool
  unfolding shape
  two_or_more n = takes-rank (op And) (bool ∷ bool ∷ replicate n bool) bool (n, refl, refl) (omega arith)

  kept_joined : (us : List A) (vs : List B) → Both R us vs → 0 < length us → R (joined g us) (joined h vs)
  kept_joined us vs both_none some = absurd (omega arith)
  kept_joined us vs (both_more r both_none) some = r
  kept_joined us vs (both_more r (both_more {us = us'} q p)) some =
      keep And us vs (ap (λ ss. rank (op And) (bool ∷ bool ∷ ss)) (all_flags us') ∙ two_or_more (length us')) (both_more r (both_more q p))
    where
      all_flags : (ws : List A) → map (λ _. bool) ws ≡ replicate (length ws) bool
      all_flags [] = refl
      all_flags (w ∷ ws) = ap (λ ss. bool ∷ ss) (all_flags ws)

  -- ---- bit by bit

  kept_inverses : (us : List A) (vs : List B) → Both R us vs → Both R (inverses g us) (inverses h vs)
  kept_inverses us vs p = both_map R (inverse g) (inverse h) kept_inverse us vs p

  kept_chosen : (c : A) (d : B) (us ws : List A) (vs xs : List B) → R c d → Both R us vs → Both R ws xs → Both R (chosen g c us ws) (chosen h d vs xs)
  kept_chosen c d us ws vs xs r p q = both_each R (choose g c) (choose h d) (λ a e b f rab ref. kept_choose c a e d b f r rab ref) us ws vs xs p q

  kept_zeros : (us : List A) (vs : List B) → Both R us vs → Both R (filled (constant g false) us) (filled (constant h false) vs)
  kept_zeros us vs p = both_filled R (constant g false) (constant h false) (kept_constant false) us vs p

  top_of_more : (a : A) (b : B) (us : List A) (vs : List B) → R a b → Both R us vs → R (top g (a ∷ us)) (top h (b ∷ vs))
  top_of_more a b us vs r both_none = r
  top_of_more a b us vs r (both_more {u = a'} {v = b'} {us = us'} {vs = vs'} q p) = top_of_more a' b' us' vs' q p

  kept_top : (us : List A) (vs : List B) → Both R us vs → R (top g us) (top h vs)
  kept_top us vs both_none = kept_constant false
  kept_top us vs (both_more {u = a} {v = b} {us = us'} {vs = vs'} r p) = top_of_more a b us' vs' r p

  -- ---- sums

  kept_add : (us ws : List A) (vs xs : List B) (c : A) (d : B) → Both R us vs → Both R ws xs → R c d → Both R (add g us ws c) (add h vs xs d)
  kept_add us ws vs xs c d both_none q r = both_none
  kept_add us ws vs xs c d (both_more t p) both_none r = both_none
  kept_add us ws vs xs c d (both_more {u = a} {v = b} {us = us'} {vs = vs'} t p) (both_more {u = a'} {v = b'} {us = ws'} {vs = xs'} t' q) r =
      let unlike : R (differ g a a') (differ h b b') = kept_differ a a' b b' t t' in
      let next : R (carry g a a' c) (carry h b b' d) = kept_either _ _ _ _ (kept_both a a' b b' t t') (kept_both c (differ g a a') d (differ h b b') r unlike) in
      both_more (kept_differ (differ g a a') c (differ h b b') d unlike r) (kept_add us' ws' vs' xs' (carry g a a' c) (carry h b b' d) p q next)

  kept_sum : (us ws : List A) (vs xs : List B) → Both R us vs → Both R ws xs → Both R (sum g us ws) (sum h vs xs)
  kept_sum us ws vs xs p q = kept_add us ws vs xs (constant g false) (constant h false) p q (kept_constant false)

  kept_difference : (us ws : List A) (vs xs : List B) → Both R us vs → Both R ws xs → Both R (difference g us ws) (difference h vs xs)
  kept_difference us ws vs xs p q = kept_add us (inverses g ws) vs (inverses h xs) (constant g true) (constant h true) p (kept_inverses ws xs q) (kept_constant true)

  kept_opposite : (us : List A) (vs : List B) → Both R us vs → Both R (opposite g us) (opposite h vs)
  kept_opposite us vs p = kept_difference (filled (constant g false) us) us (filled (constant h false) vs) vs (kept_zeros us vs p) p

  -- ---- comparisons

  kept_equal : (us ws : List A) (vs xs : List B) → Both R us vs → Both R ws xs → length us ≡ length ws → 0 < length us → R (equal g us ws) (equal h vs xs)
  kept_equal us ws vs xs p q e some =
      let pairs : length (each (alike g) us ws) ≡ length us = length-each (alike g) us ws e in
      kept_joined (each (alike g) us ws) (each (alike h) vs xs) (both_each R (alike g) (alike h) kept_alike us ws vs xs p q) (omega arith)

  kept_less_from : (us ws : List A) (vs xs : List B) (l : A) (m : B) → Both R us vs → Both R ws xs → R l m → R (less_from g us ws l) (less_from h vs xs m)
  kept_less_from us ws vs xs l m both_none q r = r
  kept_less_from us ws vs xs l m (both_more t p) both_none r = r
  kept_less_from us ws vs xs l m (both_more {u = a} {v = b} {us = us'} {vs = vs'} t p) (both_more {u = a'} {v = b'} {us = ws'} {vs = xs'} t' q) r =
      kept_less_from us' ws' vs' xs'
      (either g (both g (inverse g a) a') (both g (alike g a a') l))
      (either h (both h (inverse h b) b') (both h (alike h b b') m)) p q
      (kept_either _ _ _ _ (kept_both (inverse g a) a' (inverse h b) b' (kept_inverse a b t) t') (kept_both (alike g a a') l (alike h b b') m (kept_alike a a' b b' t t') r))

  kept_less : (us ws : List A) (vs xs : List B) → Both R us vs → Both R ws xs → R (less g us ws) (less h vs xs)
  kept_less us ws vs xs p q = kept_less_from us ws vs xs (constant g false) (constant h false) p q (kept_constant false)

  turned_of_more : (a : A) (b : B) (us : List A) (vs : List B) → R a b → Both R us vs → Both R (with_top_turned g (a ∷ us)) (with_top_turned h (b ∷ vs))
  turned_of_more a b us vs r both_none = both_more (kept_inverse a b r) both_none
  turned_of_more a b us vs r (both_more {u = a'} {v = b'} {us = us'} {vs = vs'} q p) = both_more r (turned_of_more a' b' us' vs' q p)

  kept_turned : (us : List A) (vs : List B) → Both R us vs → Both R (with_top_turned g us) (with_top_turned h vs)
  kept_turned us vs both_none = both_none
  kept_turned us vs (both_more {u = a} {v = b} {us = us'} {vs = vs'} r p) = turned_of_more a b us' vs' r p

  kept_signed_less : (us ws : List A) (vs xs : List B) → Both R us vs → Both R ws xs → R (signed_less g us ws) (signed_less h vs xs)
  kept_signed_less us ws vs xs p q = kept_less (with_top_turned g us) (with_top_turned g ws) (with_top_turned h vs) (with_top_turned h xs) (kept_turned us vs p) (kept_turned ws xs q)

  -- ---- shifts and products

  kept_shifted : (move : ℕ → List A → List A) (move' : ℕ → List B → List B) → ((n : ℕ) (us : List A) (vs : List B) → Both R us vs → Both R (move n us) (move' n vs)) → (k : ℕ) (ws us : List A) (xs vs : List B) → Both R ws xs → Both R us vs → Both R (shifted g move k ws us) (shifted h move' k xs vs)
  kept_shifted move move' keeps k ws us xs vs both_none p = p
  kept_shifted move move' keeps k ws us xs vs (both_more {u = c} {v = d} {us = ws'} {vs = xs'} r q) p =
      kept_shifted move move' keeps (suc k) ws' (chosen g c (move (2 ^ k) us) us) xs' (chosen h d (move' (2 ^ k) vs) vs) q
      (kept_chosen c d (move (2 ^ k) us) us (move' (2 ^ k) vs) vs r (keeps (2 ^ k) us vs p) p)

  kept_with_products : (k : ℕ) (us ws r : List A) (vs xs s : List B) → Both R us vs → Both R ws xs → Both R r s → Both R (with_products g k us ws r) (with_products h k vs xs s)
  kept_with_products k us ws r vs xs s p both_none t = t
  kept_with_products k us ws r vs xs s p (both_more {u = c} {v = d} {us = ws'} {vs = xs'} q q') t =
      let moved : Both R (up (constant g false) k us) (up (constant h false) k vs) = both_up R (constant g false) (constant h false) (kept_constant false) k us vs p in
      let one : Both R (map (both g c) (up (constant g false) k us)) (map (both h d) (up (constant h false) k vs)) = both_map R (both g c) (both h d) (λ a b rab. kept_both c a d b q rab) (up (constant g false) k us) (up (constant h false) k vs) moved in
      kept_with_products (suc k) us ws' (sum g r (map (both g c) (up (constant g false) k us))) vs xs' (sum h s (map (both h d) (up (constant h false) k vs))) p q'
      (kept_sum r (map (both g c) (up (constant g false) k us)) s (map (both h d) (up (constant h false) k vs)) t one)

  kept_product : (us ws : List A) (vs xs : List B) → Both R us vs → Both R ws xs → Both R (product g us ws) (product h vs xs)
  kept_product us ws vs xs p q = kept_with_products 0 us ws (filled (constant g false) us) vs xs (filled (constant h false) vs) p q (kept_zeros us vs p)

  -- ---- division

  record KeptDivision (v : Division A) (w : Division B) : Type 0 where
    quotient : Both R v.quotient w.quotient
    rest : Both R v.rest w.rest

  kept_next : (d s : List A) (d' s' : List B) (v : Division A) (w : Division B) → Both R d d' → Both R s s' → KeptDivision v w → KeptDivision (next_division g d s v) (next_division h d' s' w)
  kept_next d s d' s' v w p q k =
      let fits : R (inverse g (less g s d)) (inverse h (less h s' d')) = kept_inverse (less g s d) (less h s' d') (kept_less s d s' d' q p) in
      record {
        quotient = both_more fits k.quotient;
        rest = kept_chosen (inverse g (less g s d)) (inverse h (less h s' d')) (difference g s d) s (difference h s' d') s' fits (kept_difference s d s' d' q p) q;
      }

  kept_division : (us ws : List A) (vs xs : List B) → Both R us vs → Both R ws xs → KeptDivision (division g us ws) (division h vs xs)
  kept_division us ws vs xs both_none q = record { quotient = both_none; rest = both_more (kept_constant false) (kept_zeros ws xs q) }
  kept_division us ws vs xs (both_more {u = a} {v = b} {us = us'} {vs = vs'} r p) q =
      let higher = kept_division us' ws vs' xs p q in
      let left : Both R (take (length ws) (division g us' ws).rest) (take (length xs) (division h vs' xs).rest) = subst (λ n. Both R (take (length ws) (division g us' ws).rest) (take n (division h vs' xs).rest)) (both_length R ws xs q) (both_take R (length ws) (division g us' ws).rest (division h vs' xs).rest higher.rest) in
      kept_next (ws ++ constant g false ∷ []) (a ∷ take (length ws) (division g us' ws).rest) (xs ++ constant h false ∷ []) (b ∷ take (length xs) (division h vs' xs).rest) (division g us' ws) (division h vs' xs)
      (both_append R ws (constant g false ∷ []) xs (constant h false ∷ []) q (both_more (kept_constant false) both_none))
      (both_more r left) higher

  kept_quotient : (us ws : List A) (vs xs : List B) → Both R us vs → Both R ws xs → Both R (quotient g us ws) (quotient h vs xs)
  kept_quotient us ws vs xs p q = (kept_division us ws vs xs p q).quotient

  kept_remainder : (us ws : List A) (vs xs : List B) → Both R us vs → Both R ws xs → Both R (remainder g us ws) (remainder h vs xs)
  kept_remainder us ws vs xs p q =
      subst (λ n. Both R (remainder g us ws) (take n (division h vs xs).rest)) (both_length R ws xs q)
      (both_take R (length ws) (division g us ws).rest (division h vs xs).rest (kept_division us ws vs xs p q).rest)

  -- ---- of numbers in two's complement

  kept_signed : (c : A) (d : B) (us : List A) (vs : List B) → R c d → Both R us vs → Both R (chosen g c (opposite g us) us) (chosen h d (opposite h vs) vs)
  kept_signed c d us vs r p = kept_chosen c d (opposite g us) us (opposite h vs) vs r (kept_opposite us vs p) p

  kept_absolute : (us : List A) (vs : List B) → Both R us vs → Both R (absolute g us) (absolute h vs)
  kept_absolute us vs p = kept_signed (top g us) (top h vs) us vs (kept_top us vs p) p

  kept_signed_quotient : (us ws : List A) (vs xs : List B) → Both R us vs → Both R ws xs → Both R (signed_quotient g us ws) (signed_quotient h vs xs)
  kept_signed_quotient us ws vs xs p q =
      kept_signed (differ g (top g us) (top g ws)) (differ h (top h vs) (top h xs)) (quotient g (absolute g us) (absolute g ws)) (quotient h (absolute h vs) (absolute h xs))
      (kept_differ (top g us) (top g ws) (top h vs) (top h xs) (kept_top us vs p) (kept_top ws xs q))
      (kept_quotient (absolute g us) (absolute g ws) (absolute h vs) (absolute h xs) (kept_absolute us vs p) (kept_absolute ws xs q))

  kept_of_absolutes : (us ws : List A) (vs xs : List B) → Both R us vs → Both R ws xs → Both R (remainder g (absolute g us) (absolute g ws)) (remainder h (absolute h vs) (absolute h xs))
  kept_of_absolutes us ws vs xs p q = kept_remainder (absolute g us) (absolute g ws) (absolute h vs) (absolute h xs) (kept_absolute us vs p) (kept_absolute ws xs q)

  kept_signed_remainder : (us ws : List A) (vs xs : List B) → Both R us vs → Both R ws xs → Both R (signed_remainder g us ws) (signed_remainder h vs xs)
  kept_signed_remainder us ws vs xs p q =
      kept_signed (top g us) (top h vs) (remainder g (absolute g us) (absolute g ws)) (remainder h (absolute h vs) (absolute h xs)) (kept_top us vs p) (kept_of_absolutes us ws vs xs p q)

  kept_is_zero : (us : List A) (vs : List B) → Both R us vs → 0 < length us → R (is_zero g us) (is_zero h vs)
  kept_is_zero us vs p some =
      kept_equal us (filled (constant g false) us) vs (filled (constant h false) vs) p (kept_zeros us vs p) (sym (length-filled (constant g false) us)) some

  kept_floored : (s t : A) (s' t' : B) (us ws : List A) (vs xs : List B) → R s s' → R t t' → Both R us vs → Both R ws xs → 0 < length us → Both R (floored g s t us ws) (floored h s' t' vs xs)
  kept_floored s t s' t' us ws vs xs r q p p' some =
      let turned : Both R (opposite g us) (opposite h vs) = kept_opposite us vs p in
      let over : R (inverse g s) (inverse h s') = kept_inverse s s' r in
      let over' : R (inverse g t) (inverse h t') = kept_inverse t t' q in
      kept_chosen (is_zero g us) (is_zero h vs) us _ vs _ (kept_is_zero us vs p some) p
      (kept_chosen (both g (inverse g s) (inverse g t)) (both h (inverse h s') (inverse h t')) us _ vs _ (kept_both (inverse g s) (inverse g t) (inverse h s') (inverse h t') over over') p
      (kept_chosen (both g s (inverse g t)) (both h s' (inverse h t')) (sum g (opposite g us) ws) _ (sum h (opposite h vs) xs) _ (kept_both s (inverse g t) s' (inverse h t') r over') (kept_sum (opposite g us) ws (opposite h vs) xs turned p')
      (kept_chosen (both g (inverse g s) t) (both h (inverse h s') t') (sum g us ws) (opposite g us) (sum h vs xs) (opposite h vs) (kept_both (inverse g s) t (inverse h s') t' over q) (kept_sum us ws vs xs p p') turned)))

  kept_signed_modulus : (us ws : List A) (vs xs : List B) → Both R us vs → Both R ws xs → 0 < length ws → Both R (signed_modulus g us ws) (signed_modulus h vs xs)
  kept_signed_modulus us ws vs xs p q some =
      let width : length (remainder g (absolute g us) (absolute g ws)) ≡ length ws = length-of_absolutes g us ws in
      kept_floored (top g us) (top g ws) (top h vs) (top h xs) (remainder g (absolute g us) (absolute g ws)) ws (remainder h (absolute h vs) (absolute h xs)) xs
      (kept_top us vs p) (kept_top ws xs q) (kept_of_absolutes us ws vs xs p q) q (omega arith)

  -- ---- distinct operands

  kept_against : (t : Sort) (n : ℕ) (us : List A) (vs : List B) (uss : List (List A)) (vss : List (List B)) → 0 < length us → length us ≡ bits_in t → Both R us vs → Fit (replicate n t) uss → Both (Both R) uss vss → Both R (map (λ ws. inverse g (equal g us ws)) uss) (map (λ xs. inverse h (equal h vs xs)) vss)
  kept_against t zero us vs uss vss some width p fit_none both_none = both_none
  kept_against t (suc n) us vs uss vss some width p (fit_more {us = ws} {uss = wss} _ _ e fit) (both_more {v = xs} {vs = xss} q r) =
      both_more (kept_inverse (equal g us ws) (equal h vs xs) (kept_equal us ws vs xs p q (width ∙ sym e) some)) (kept_against t n us vs wss xss some width p fit r)

  kept_apart : (t : Sort) (n : ℕ) (uss : List (List A)) (vss : List (List B)) → Fit (replicate n t) uss → Both (Both R) uss vss → Both R (apart g uss) (apart h vss)
  kept_apart t zero uss vss fit_none both_none = both_none
  kept_apart t (suc n) uss vss (fit_more {us = us} {uss = wss} _ some e fit) (both_more {v = vs} {vs = xss} p r) =
      both_append R (map (λ ws. inverse g (equal g us ws)) wss) (apart g wss) (map (λ xs. inverse h (equal h vs xs)) xss) (apart h xss)
      (kept_against t n us vs wss xss some e p fit r) (kept_apart t n wss xss fit r)

  some_apart : (t : Sort) (n : ℕ) (uss : List (List A)) → Fit (t ∷ t ∷ replicate n t) uss → 0 < length (apart g uss)
  some_apart t n uss (fit_more _ _ _ (fit_more _ _ _ fit)) = omega arith

  kept_only_bit : (us : List A) (vs : List B) → Both R us vs → R (only_bit g us) (only_bit h vs)
  kept_only_bit us vs both_none = kept_constant false
  kept_only_bit us vs (both_more r p) = r

  kept_only_bits : (uss : List (List A)) (vss : List (List B)) → Both (Both R) uss vss → Both R (map (only_bit g) uss) (map (only_bit h) vss)
  kept_only_bits uss vss both_none = both_none
  kept_only_bits uss vss (both_more {u = us} {v = vs} {us = wss} {vs = xss} p r) = both_more (kept_only_bit us vs p) (kept_only_bits wss xss r)

  kept_connective : (o : Op) (n : ℕ) (uss : List (List A)) (vss : List (List B)) → rank (op o) (replicate n bool) ≡ Ok bool → Fit (replicate n bool) uss → Both (Both R) uss vss → Both R (connective g o uss) (connective h o vss)
  kept_connective o n uss vss ranked fit r =
      both_more (keep o (map (only_bit g) uss) (map (only_bit h) vss) (ap (rank (op o)) (flag_sorts g n uss fit) ∙ ranked) (kept_only_bits uss vss r)) both_none

  distinct_ranked : (n : ℕ) → rank (op Distinct) (bool ∷ bool ∷ replicate n bool) ≡ Ok bool
  unfolding shape
  distinct_ranked n = takes-rank (op Distinct) (bool ∷ bool ∷ replicate n bool) bool (bool, n, refl, refl) (omega arith)

  kept_distinct : (t : Sort) (n : ℕ) (uss : List (List A)) (vss : List (List B)) → Fit (t ∷ t ∷ replicate n t) uss → Both (Both R) uss vss → Both R (distinct g t uss) (distinct h t vss)
  kept_distinct bool n uss vss fit r = kept_connective Distinct (suc (suc n)) uss vss (distinct_ranked n) fit r
  kept_distinct t n uss vss fit r = both_more (kept_joined (apart g uss) (apart h vss) (kept_apart t (suc (suc n)) uss vss fit r) (some_apart t n uss fit)) both_none

  -- ---- operators

  kept_bits : (bs : List Bool) → Both R (map (constant g) bs) (map (constant h) bs)
  kept_bits [] = both_none
  kept_bits (b ∷ bs) = both_more (kept_constant b) (kept_bits bs)

  kept_rotated : (n : ℕ) (us : List A) (vs : List B) → Both R us vs → Both R (drop n us ++ take n us) (drop n vs ++ take n vs)
  kept_rotated n us vs p = both_append R (drop n us) (take n us) (drop n vs) (take n vs) (both_drop R n us vs p) (both_take R n us vs p)

  kept_part : (high low : ℕ) (us : List A) (vs : List B) → Both R us vs → Both R (take (high + 1 - low) (drop low us)) (take (high + 1 - low) (drop low vs))
  kept_part high low us vs p = both_take R (high + 1 - low) (drop low us) (drop low vs) (both_drop R low us vs p)

  kept_extended : (i : ℕ) (a : A) (b : B) (us : List A) (vs : List B) → R a b → Both R us vs → Both R (us ++ replicate i a) (vs ++ replicate i b)
  kept_extended i a b us vs r p = both_append R us (replicate i a) vs (replicate i b) p (both_replicate R i a b r)

  of_one : (o : Op) (ss : List Sort) (us : List A) (vs : List B) → OfVector o → Both R us vs → Both R (circuit g o ss (us ∷ [])) (circuit h o ss (vs ∷ []))
  unfolding circuit
  of_one o ss us vs is_bvnot p = kept_inverses us vs p
  of_one o ss us vs is_bvneg p = kept_opposite us vs p
  of_one o ss us vs (is_rotl i) p =
      subst (λ n. Both R (drop (length us - i) us ++ take (length us - i) us) (drop (n - i) vs ++ take (n - i) vs)) (both_length R us vs p) (kept_rotated (length us - i) us vs p)
  of_one o ss us vs (is_rotr i) p = kept_rotated i us vs p

  of_more : (o : Op) (i : ℕ) (ss : List Sort) (us : List A) (vs : List B) → Extension o i → Both R us vs → Both R (circuit g o ss (us ∷ [])) (circuit h o ss (vs ∷ []))
  unfolding circuit
  of_more o i ss us vs (is_zero_ext j) p = kept_extended j (constant g false) (constant h false) us vs (kept_constant false) p
  of_more o i ss us vs (is_sign_ext j) p = kept_extended j (top g us) (top h vs) us vs (kept_top us vs p) p

  of_two : (o : Op) (ss : List Sort) (us ws : List A) (vs xs : List B) → OfVectors o → 0 < length ws → Both R us vs → Both R ws xs → Both R (circuit g o ss (us ∷ ws ∷ [])) (circuit h o ss (vs ∷ xs ∷ []))
  unfolding circuit
  of_two o ss us ws vs xs is_bvand some p q = both_each R (both g) (both h) kept_both us ws vs xs p q
  of_two o ss us ws vs xs is_bvor some p q = both_each R (either g) (either h) kept_either us ws vs xs p q
  of_two o ss us ws vs xs is_bvxor some p q = both_each R (differ g) (differ h) kept_differ us ws vs xs p q
  of_two o ss us ws vs xs is_bvadd some p q = kept_sum us ws vs xs p q
  of_two o ss us ws vs xs is_bvmul some p q = kept_product us ws vs xs p q
  of_two o ss us ws vs xs is_bvsub some p q = kept_difference us ws vs xs p q
  of_two o ss us ws vs xs is_bvudiv some p q = kept_quotient us ws vs xs p q
  of_two o ss us ws vs xs is_bvurem some p q = kept_remainder us ws vs xs p q
  of_two o ss us ws vs xs is_bvsdiv some p q = kept_signed_quotient us ws vs xs p q
  of_two o ss us ws vs xs is_bvsrem some p q = kept_signed_remainder us ws vs xs p q
  of_two o ss us ws vs xs is_bvsmod some p q = kept_signed_modulus us ws vs xs p q some
  of_two o ss us ws vs xs is_bvshl some p q = kept_shifted (up (constant g false)) (up (constant h false)) (both_up R (constant g false) (constant h false) (kept_constant false)) 0 ws us xs vs q p
  of_two o ss us ws vs xs is_bvlshr some p q = kept_shifted (down (constant g false)) (down (constant h false)) (both_down R (constant g false) (constant h false) (kept_constant false)) 0 ws us xs vs q p
  of_two o ss us ws vs xs is_bvashr some p q = kept_shifted (down (top g us)) (down (top h vs)) (both_down R (top g us) (top h vs) (kept_top us vs p)) 0 ws us xs vs q p

  of_compared : (o : Op) (s : Sort) (ss : List Sort) (us ws : List A) (vs xs : List B) → Comparison o s → length us ≡ length ws → 0 < length us → Both R us vs → Both R ws xs → Both R (circuit g o ss (us ∷ ws ∷ [])) (circuit h o ss (vs ∷ xs ∷ []))
  unfolding circuit
  of_compared o s ss us ws vs xs is_bvcomp e some p q = both_more (kept_equal us ws vs xs p q e some) both_none
  of_compared o s ss us ws vs xs is_bvult e some p q = both_more (kept_less us ws vs xs p q) both_none
  of_compared o s ss us ws vs xs is_bvule e some p q = both_more (kept_inverse (less g ws us) (less h xs vs) (kept_less ws us xs vs q p)) both_none
  of_compared o s ss us ws vs xs is_bvslt e some p q = both_more (kept_signed_less us ws vs xs p q) both_none
  of_compared o s ss us ws vs xs is_bvsle e some p q = both_more (kept_inverse (signed_less g ws us) (signed_less h xs vs) (kept_signed_less ws us xs vs q p)) both_none

  kept_operator : (o : Op) (ss : List Sort) (s : Sort) (uss : List (List A)) (vss : List (List B)) → BitOperator o ss s → Fit ss uss → Both (Both R) uss vss → Both R (circuit g o ss uss) (circuit h o ss vss)
  unfolding circuit
  kept_operator o ss s uss vss (of_none w n some) fit r = kept_bits (nat2bv w n)
  kept_operator o ss s uss vss (of_flags n c ranked) fit r =
      subst (λ us. Both R us (circuit h o ss vss)) (sym (circuit-connective g o ss uss c))
      (subst (λ vs. Both R (connective g o uss) vs) (sym (circuit-connective h o ss vss c)) (kept_connective o n uss vss ranked fit r))
  kept_operator o ss s uss vss (of_equals t) (fit_more {us = us} _ some e (fit_more {us = ws} _ _ f fit_none)) (both_more {v = vs} p (both_more {v = xs} q both_none)) =
      both_more (kept_equal us ws vs xs p q (e ∙ sym f) some) both_none
  kept_operator o ss s uss vss (of_several t n) fit r = kept_distinct t n uss vss fit r
  kept_operator o ss s uss vss (of_choice t) (fit_more {us = cs} _ _ _ (fit_more {us = us} _ _ _ (fit_more {us = ws} _ _ _ fit_none))) (both_more {v = ds} c (both_more {v = vs} p (both_more {v = xs} q both_none))) =
      kept_chosen (only_bit g cs) (only_bit h ds) us ws vs xs (kept_only_bit cs ds c) p q
  kept_operator o ss s uss vss (of_parts v w) (fit_more {us = us} _ _ _ (fit_more {us = ws} _ _ _ fit_none)) (both_more {v = vs} p (both_more {v = xs} q both_none)) =
      both_append R ws us xs vs q p
  kept_operator o ss s uss vss (of_part high low w order below) (fit_more {us = us} _ _ _ fit_none) (both_more {v = vs} p both_none) = kept_part high low us vs p
  kept_operator o ss s uss vss (of_vector w k) (fit_more {us = us} _ _ _ fit_none) (both_more {v = vs} p both_none) = of_one o ss us vs k p
  kept_operator o ss s uss vss (of_extension w k) (fit_more {us = us} _ _ _ fit_none) (both_more {v = vs} p both_none) = of_more o _ ss us vs k p
  kept_operator o ss s uss vss (of_vectors w k) (fit_more {us = us} _ _ _ (fit_more {us = ws} _ some _ fit_none)) (both_more {v = vs} p (both_more {v = xs} q both_none)) =
      of_two o ss us ws vs xs k some p q
  kept_operator o ss s uss vss (of_comparison w k) (fit_more {us = us} _ some e (fit_more {us = ws} _ _ f fit_none)) (both_more {v = vs} p (both_more {v = xs} q both_none)) =
      of_compared o s ss us ws vs xs k (e ∙ sym f) some p q

pub circuits_keep : CircuitsKeep
circuits_keep A B R g h o ss s uss vss keep on fit r = kept_operator R g h keep o ss s uss vss (bit_operator o ss s uss on fit) fit r
