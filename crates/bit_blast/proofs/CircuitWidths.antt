-- How many bits the circuits give.
use Rattle.std.proofs.Common.{◌≡◌, ℕ, suc, ◌+◌, ◌-◌, ◌^◌, ◌<◌, ◌≤◌, true, false, List, [], ◌∷◌, ◌++◌, length, replicate, map, take, drop, refl, ap, sym, ◌∙◌, subst, arith, length-append, length-drop, length-take}
use Rattle.std.proofs.lemmas.List.{length-map, length-replicate}
use Rattle.smt_terms.specs.declared.op.Op.{Op}
use Rattle.smt_terms.specs.Sorts.{Sort, bool, bit_vector}
use Rattle.smt_terms.specs.BitVectors.{nat2bv}
use Rattle.smt_terms.proofs.BitLengths.{length-nat2bv}
use Rattle.bit_blast.specs.Circuits.{Gates, constant, inverse, both, either, differ, choose, carry, each, inverses, chosen, filled, top, add, sum, difference, opposite, less, up, down, shifted, with_products, product, division, quotient, remainder, absolute, signed_quotient, signed_remainder, floored, signed_modulus, only_bit, distinct, circuit}
use Rattle.bit_blast.proofs.CircuitStatements.{bits_in, Fit, fit_none, fit_more, CircuitsHaveWidths}
use Rattle.bit_blast.proofs.BitOperators.{Connective, OfVector, is_bvnot, is_bvneg, is_rotl, is_rotr, Extension, is_zero_ext, is_sign_ext, OfVectors, is_bvand, is_bvor, is_bvxor, is_bvadd, is_bvmul, is_bvsub, is_bvudiv, is_bvurem, is_bvsdiv, is_bvsrem, is_bvsmod, is_bvshl, is_bvlshr, is_bvashr, Comparison, is_bvcomp, is_bvult, is_bvule, is_bvslt, is_bvsle, BitOperator, of_none, of_flags, of_equals, of_several, of_choice, of_parts, of_part, of_vector, of_extension, of_vectors, of_comparison, bit_operator, circuit-connective}

-- as many bits as the operand, or as the first of two operands of one width
abbrev pub Keeps : {A : Type 0} → (List A → List A) → Type 0
Keeps f = (us : List _) → length (f us) ≡ length us

abbrev pub KeepsBoth : {A : Type 0} → (List A → List A → List A) → Type 0
KeepsBoth f = (us vs : List _) → length us ≡ length vs → length (f us vs) ≡ length us

pub length-each : {A : Type 0} (f : A → A → A) → KeepsBoth (each f)
length-each f [] vs e = refl
length-each f (a ∷ us) [] e = absurd (omega arith)
length-each f (a ∷ us) (b ∷ vs) e = ap suc (length-each f us vs (omega arith))

pub length-filled : {A : Type 0} (a : A) → Keeps (filled a)
length-filled a us = length-replicate (length us) a

length-up : {A : Type 0} (a : A) (n : ℕ) → Keeps (up a n)
length-up a n us = simp (length-take, length-append, length-replicate) (omega arith)

length-down : {A : Type 0} (a : A) (n : ℕ) → Keeps (down a n)
length-down a n us = simp (length-append, length-drop, length-replicate) (omega arith)

length-rotated : {A : Type 0} (n : ℕ) (us : List A) → length (drop n us ++ take n us) ≡ length us
length-rotated n us = simp (length-append, length-drop, length-take) (omega arith)

length-part : {A : Type 0} (high low : ℕ) (us : List A) → low ≤ high → high < length us → length (take (high + 1 - low) (drop low us)) ≡ high - low + 1
length-part high low us order below = simp (length-take, length-drop) (omega arith)

length-extended : {A : Type 0} (i : ℕ) (a : A) (us : List A) → length (us ++ replicate i a) ≡ length us + i
length-extended i a us = length-append us (replicate i a) ∙ ap (λ n. length us + n) (length-replicate i a)

module _ {A : Type 0} (g : Gates A) where
  length-inverses : Keeps (inverses g)
  length-inverses us = length-map us (inverse g)

  length-chosen : (c : A) → KeepsBoth (chosen g c)
  length-chosen c us vs e = length-each (choose g c) us vs e

  length-add : (us vs : List A) (c : A) → length us ≡ length vs → length (add g us vs c) ≡ length us
  length-add [] vs c e = refl
  length-add (a ∷ us) [] c e = absurd (omega arith)
  length-add (a ∷ us) (b ∷ vs) c e = ap suc (length-add us vs (carry g a b c) (omega arith))

  length-sum : KeepsBoth (sum g)
  length-sum us vs e = length-add us vs (constant g false) e

  length-difference : KeepsBoth (difference g)
  length-difference us vs e = length-add us (inverses g vs) (constant g true) (e ∙ sym (length-inverses vs))

  length-opposite : Keeps (opposite g)
  length-opposite us =
      let zeros : length (filled (constant g false) us) ≡ length us = length-filled (constant g false) us in
      length-difference (filled (constant g false) us) us zeros ∙ zeros

  length-shifted : (move : ℕ → List A → List A) → ((n : ℕ) → Keeps (move n)) → (k : ℕ) (vs us : List A) → length (shifted g move k vs us) ≡ length us
  length-shifted move keeps k [] us = refl
  length-shifted move keeps k (b ∷ vs) us =
      let moved : length (move (2 ^ k) us) ≡ length us = keeps (2 ^ k) us in
      length-shifted move keeps (suc k) vs (chosen g b (move (2 ^ k) us) us) ∙ length-chosen b (move (2 ^ k) us) us moved ∙ moved

  length-with_products : (k : ℕ) (us vs r : List A) → length r ≡ length us → length (with_products g k us vs r) ≡ length us
  length-with_products k us [] r e = e
  length-with_products k us (b ∷ vs) r e =
      let one : length (map (both g b) (up (constant g false) k us)) ≡ length us = length-map (up (constant g false) k us) (both g b) ∙ length-up (constant g false) k us in
      let next = sum g r (map (both g b) (up (constant g false) k us)) in
      length-with_products (suc k) us vs next (length-sum r (map (both g b) (up (constant g false) k us)) (e ∙ sym one) ∙ e)

  length-product : KeepsBoth (product g)
  length-product us vs e = length-with_products 0 us vs (filled (constant g false) us) (length-filled (constant g false) us)

  -- ---- division

  length-quotient : (us vs : List A) → length (quotient g us vs) ≡ length us
  length-quotient [] vs = refl
  length-quotient (a ∷ us) vs = ap suc (length-quotient us vs)

  -- what the higher bits leave, with the next bit below it
  abbrev left : A → List A → List A → List A
  left a us vs = a ∷ take (length vs) (division g us vs).rest

  length-rest : (us vs : List A) → length (division g us vs).rest ≡ suc (length vs)
  length-rest [] vs = ap suc (length-filled (constant g false) vs)
  length-rest (a ∷ us) vs =
      let higher : length (division g us vs).rest ≡ suc (length vs) = length-rest us vs in
      let whole : length (left a us vs) ≡ suc (length vs) = simp length-take (omega arith) in
      let divisor : length (vs ++ constant g false ∷ []) ≡ suc (length vs) = simp length-append (omega arith) in
      let less_divisor : length (difference g (left a us vs) (vs ++ constant g false ∷ [])) ≡ length (left a us vs) = length-difference (left a us vs) (vs ++ constant g false ∷ []) (whole ∙ sym divisor) in
      length-chosen (inverse g (less g (left a us vs) (vs ++ constant g false ∷ []))) (difference g (left a us vs) (vs ++ constant g false ∷ [])) (left a us vs) less_divisor ∙ less_divisor ∙ whole

  length-remainder : (us vs : List A) → length (remainder g us vs) ≡ length vs
  length-remainder us vs = let e : length (division g us vs).rest ≡ suc (length vs) = length-rest us vs in simp length-take (omega arith)

  length-absolute : Keeps (absolute g)
  length-absolute us = length-chosen (top g us) (opposite g us) us (length-opposite us) ∙ length-opposite us

  -- a vector or its opposite
  length-signed : (c : A) (us : List A) → length (chosen g c (opposite g us) us) ≡ length us
  length-signed c us = length-chosen c (opposite g us) us (length-opposite us) ∙ length-opposite us

  length-signed_quotient : KeepsBoth (signed_quotient g)
  length-signed_quotient us vs e =
      let u = quotient g (absolute g us) (absolute g vs) in
      length-signed (differ g (top g us) (top g vs)) u ∙ length-quotient (absolute g us) (absolute g vs) ∙ length-absolute us

  pub length-of_absolutes : (us vs : List A) → length (remainder g (absolute g us) (absolute g vs)) ≡ length vs
  length-of_absolutes us vs = length-remainder (absolute g us) (absolute g vs) ∙ length-absolute vs

  length-signed_remainder : KeepsBoth (signed_remainder g)
  length-signed_remainder us vs e = length-signed (top g us) (remainder g (absolute g us) (absolute g vs)) ∙ length-of_absolutes us vs ∙ sym e

  -- a choice between two of one width
  length-either : (c : A) (us vs : List A) (n : ℕ) → length us ≡ n → length vs ≡ n → length (chosen g c us vs) ≡ n
  length-either c us vs n e h = length-chosen c us vs (e ∙ sym h) ∙ e

  length-floored : (s t : A) (u vs : List A) → length u ≡ length vs → length (floored g s t u vs) ≡ length vs
  length-floored s t u vs e =
      let turned : length (opposite g u) ≡ length vs = length-opposite u ∙ e in
      length-either _ u _ (length vs) e
      (length-either _ u _ (length vs) e
      (length-either _ (sum g (opposite g u) vs) _ (length vs) (length-sum (opposite g u) vs turned ∙ turned)
      (length-either _ (sum g u vs) (opposite g u) (length vs) (length-sum u vs e ∙ e) turned)))

  length-signed_modulus : KeepsBoth (signed_modulus g)
  length-signed_modulus us vs e = length-floored (top g us) (top g vs) (remainder g (absolute g us) (absolute g vs)) vs (length-of_absolutes us vs) ∙ sym e

  -- ---- operators

  one_width : (o : Op) (w : ℕ) (us : List A) → OfVector o → length us ≡ w → length (circuit g o (bit_vector w ∷ []) (us ∷ [])) ≡ w
  unfolding circuit
  one_width o w us is_bvnot e = length-inverses us ∙ e
  one_width o w us is_bvneg e = length-opposite us ∙ e
  one_width o w us (is_rotl i) e = length-rotated (length us - i) us ∙ e
  one_width o w us (is_rotr i) e = length-rotated i us ∙ e

  extended_width : (o : Op) (i w : ℕ) (us : List A) → Extension o i → length us ≡ w → length (circuit g o (bit_vector w ∷ []) (us ∷ [])) ≡ w + i
  unfolding circuit
  extended_width o i w us (is_zero_ext j) e = length-extended j (constant g false) us ∙ ap (λ n. n + j) e
  extended_width o i w us (is_sign_ext j) e = length-extended j (top g us) us ∙ ap (λ n. n + j) e

  same_width : (o : Op) (w : ℕ) (us vs : List A) → OfVectors o → length us ≡ w → length us ≡ length vs → length (circuit g o (bit_vector w ∷ bit_vector w ∷ []) (us ∷ vs ∷ [])) ≡ w
  unfolding circuit
  same_width o w us vs is_bvand e h = length-each (both g) us vs h ∙ e
  same_width o w us vs is_bvor e h = length-each (either g) us vs h ∙ e
  same_width o w us vs is_bvxor e h = length-each (differ g) us vs h ∙ e
  same_width o w us vs is_bvadd e h = length-sum us vs h ∙ e
  same_width o w us vs is_bvmul e h = length-product us vs h ∙ e
  same_width o w us vs is_bvsub e h = length-difference us vs h ∙ e
  same_width o w us vs is_bvudiv e h = length-quotient us vs ∙ e
  same_width o w us vs is_bvurem e h = length-remainder us vs ∙ sym h ∙ e
  same_width o w us vs is_bvsdiv e h = length-signed_quotient us vs h ∙ e
  same_width o w us vs is_bvsrem e h = length-signed_remainder us vs h ∙ e
  same_width o w us vs is_bvsmod e h = length-signed_modulus us vs h ∙ e
  same_width o w us vs is_bvshl e h = length-shifted (up (constant g false)) (length-up (constant g false)) 0 vs us ∙ e
  same_width o w us vs is_bvlshr e h = length-shifted (down (constant g false)) (length-down (constant g false)) 0 vs us ∙ e
  same_width o w us vs is_bvashr e h = length-shifted (down (top g us)) (length-down (top g us)) 0 vs us ∙ e

  comparison_width : (o : Op) (s : Sort) (w : ℕ) (us vs : List A) → Comparison o s → length (circuit g o (bit_vector w ∷ bit_vector w ∷ []) (us ∷ vs ∷ [])) ≡ bits_in s
  unfolding circuit
  comparison_width o s w us vs is_bvcomp = refl
  comparison_width o s w us vs is_bvult = refl
  comparison_width o s w us vs is_bvule = refl
  comparison_width o s w us vs is_bvslt = refl
  comparison_width o s w us vs is_bvsle = refl

  comparison_some : (o : Op) (s : Sort) → Comparison o s → 0 < bits_in s
  comparison_some o s is_bvcomp = omega arith
  comparison_some o s is_bvult = omega arith
  comparison_some o s is_bvule = omega arith
  comparison_some o s is_bvslt = omega arith
  comparison_some o s is_bvsle = omega arith

  flag_width : (o : Op) (ss : List Sort) (uss : List (List A)) → Connective o → length (circuit g o ss uss) ≡ 1
  flag_width o ss uss c = ap length (circuit-connective g o ss uss c)

  distinct_width : (t : Sort) (uss : List (List A)) → length (distinct g t uss) ≡ 1
  distinct_width bool uss = refl
  distinct_width _ uss = refl

  abbrev Widths : Op → List Sort → Sort → List (List A) → Type 0
  Widths o ss s uss = (length (circuit g o ss uss) ≡ bits_in s) × (0 < length (circuit g o ss uss))

  wide : (o : Op) (ss : List Sort) (s : Sort) (uss : List (List A)) → length (circuit g o ss uss) ≡ bits_in s → 0 < bits_in s → Widths o ss s uss
  wide o ss s uss e some = (e, subst (λ n. 0 < n) (sym e) some)

  operator_width : (o : Op) (ss : List Sort) (s : Sort) (uss : List (List A)) → BitOperator o ss s → Fit ss uss → Widths o ss s uss
  unfolding circuit
  operator_width o ss s uss (of_none w n some) fit = wide o ss s uss (length-map (nat2bv w n) (constant g) ∙ length-nat2bv w n) some
  operator_width o ss s uss (of_flags n c ranked) fit = wide o ss s uss (flag_width o ss uss c) (omega arith)
  operator_width o ss s uss (of_equals t) fit = wide o ss s uss refl (omega arith)
  operator_width o ss s uss (of_several t n) fit = wide o ss s uss (distinct_width t uss) (omega arith)
  operator_width o ss s uss (of_choice t) (fit_more {us = c} q p d (fit_more {us = us} fine some e (fit_more {us = vs} _ _ h fit_none))) =
      wide o ss s uss (length-either (only_bit g c) us vs (bits_in t) e h) (subst (λ n. 0 < n) e some)
  operator_width o ss s uss (of_parts v w) (fit_more {us = high} _ some e (fit_more {us = low} _ _ h fit_none)) =
      wide o ss s uss (length-append low high ∙ (omega arith)) (omega arith)
  operator_width o ss s uss (of_part high low w order below) (fit_more {us = us} _ some e fit_none) =
      wide o ss s uss (length-part high low us order (omega arith)) (omega arith)
  operator_width o ss s uss (of_vector w k) (fit_more {us = us} _ some e fit_none) = wide o ss s uss (one_width o w us k e) (omega arith)
  operator_width o ss s uss (of_extension w k) (fit_more {us = us} _ some e fit_none) = wide o ss s uss (extended_width o _ w us k e) (omega arith)
  operator_width o ss s uss (of_vectors w k) (fit_more {us = us} _ some e (fit_more {us = vs} _ _ h fit_none)) =
      wide o ss s uss (same_width o w us vs k e (e ∙ sym h)) (omega arith)
  operator_width o ss s uss (of_comparison w k) (fit_more {us = us} _ _ _ (fit_more {us = vs} _ _ _ fit_none)) =
      wide o ss s uss (comparison_width o s w us vs k) (comparison_some o s k)

pub circuits_have_widths : CircuitsHaveWidths
circuits_have_widths A g o ss s uss on fit = operator_width g o ss s uss (bit_operator o ss s uss on fit) fit
