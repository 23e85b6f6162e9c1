-- The operands of an operator in a formula of bits have as many bits as it takes.
use Rattle.std.proofs.Common.{◌≡◌, ℕ, zero, suc, ◌<◌, List, [], ◌∷◌, map, length, replicate, Ok, refl, ap, sym, ◌∙◌, subst, arith}
use Rattle.smt_terms.specs.declared.op.Op.{Op}
use Rattle.smt_terms.specs.declared.op.Op.TheVariants.{RotL, RotR}
use Rattle.smt_terms.specs.Rank.{shape, rank}
use Rattle.smt_terms.specs.Sorts.{Sort, bool, bit_vector}
use Rattle.smt_terms.specs.Term.{op}
use Rattle.smt_terms.proofs.Ranked.{rank-takes}
use Rattle.bit_blast.specs.OperandBits.{TakesBits, IsConnective}
use Rattle.bit_blast.proofs.BitOperators.{Connective, is_truth, is_not, is_and, is_or, is_xor, is_implies, OfVector, is_bvnot, is_bvneg, is_rotl, is_rotr, Extension, is_zero_ext, is_sign_ext, OfVectors, is_bvand, is_bvor, is_bvxor, is_bvadd, is_bvmul, is_bvsub, is_bvudiv, is_bvurem, is_bvsdiv, is_bvsrem, is_bvsmod, is_bvshl, is_bvlshr, is_bvashr, Comparison, is_bvcomp, is_bvult, is_bvule, is_bvslt, is_bvsle, BitOperator, of_none, of_flags, of_equals, of_several, of_choice, of_parts, of_part, of_vector, of_extension, of_vectors, of_comparison, bit_operator}
use Rattle.bit_blast.proofs.CircuitStatements.{bits_in, Fit, fit_more, IsOnBits}

-- ---- the numbers of bits of lists that fit

some-width : {A : Type 0} (s : Sort) (ss : List Sort) (uss : List (List A)) → Fit (s ∷ ss) uss → 0 < bits_in s
some-width s ss [] fit = elim fit [ ]
some-width s ss (us ∷ uss) (fit_more fine some width fit) = omega arith

fit-widths : {A : Type 0} (ss : List Sort) (uss : List (List A)) → Fit ss uss → map length uss ≡ map bits_in ss
fit-widths [] [] fit = refl
fit-widths [] (us ∷ uss) fit = elim fit [ ]
fit-widths (s ∷ ss) [] fit = elim fit [ ]
fit-widths (s ∷ ss) (us ∷ uss) (fit_more fine some width fit) = λ i. width i ∷ fit-widths ss uss fit i

flag-sorts : {A : Type 0} (n : ℕ) (uss : List (List A)) → Fit (replicate n bool) uss → map (λ _. bool) (map length uss) ≡ replicate n bool
flag-sorts zero [] fit = refl
flag-sorts zero (us ∷ uss) fit = elim fit [ ]
flag-sorts (suc n) [] fit = elim fit [ ]
flag-sorts (suc n) (us ∷ uss) (fit_more fine some width fit) = ap (λ ss. bool ∷ ss) (flag-sorts n uss fit)

several-widths : (n : ℕ) (s : Sort) → map bits_in (replicate n s) ≡ replicate n (bits_in s)
several-widths zero s = refl
several-widths (suc n) s = ap (λ ws. bits_in s ∷ ws) (several-widths n s)

-- ---- each operator

module _ (ws : List ℕ) where
  flags : (o : Op) → Connective o → IsConnective o ws → TakesBits o ws
  flags o (is_truth b) h = h
  flags o is_not h = h
  flags o is_and h = h
  flags o is_or h = h
  flags o is_xor h = h
  flags o is_implies h = h

  one-vector : (o : Op) (s : Sort) (w : ℕ) → OfVector o → rank (op o) (bit_vector w ∷ []) ≡ Ok s → ws ≡ w ∷ [] → TakesBits o ws
  unfolding shape
  one-vector o s w is_bvnot ranked e = (w, e, tt)
  one-vector o s w is_bvneg ranked e = (w, e, tt)
  one-vector o s w (is_rotl i) ranked e =
      let takes = rank-takes (op (RotL i)) (bit_vector w ∷ []) s ranked in
      let same : w ≡ takes.0 = let h : bit_vector w ∷ [] ≡ bit_vector takes.0 ∷ [] = takes.1 in cc in
      (w, e, subst (λ v. i < v) (sym same) takes.2)
  one-vector o s w (is_rotr i) ranked e =
      let takes = rank-takes (op (RotR i)) (bit_vector w ∷ []) s ranked in
      let same : w ≡ takes.0 = let h : bit_vector w ∷ [] ≡ bit_vector takes.0 ∷ [] = takes.1 in cc in
      (w, e, subst (λ v. i < v) (sym same) takes.2)

  extended-vector : (o : Op) (i w : ℕ) → Extension o i → ws ≡ w ∷ [] → TakesBits o ws
  extended-vector o i w (is_zero_ext j) e = (w, e, tt)
  extended-vector o i w (is_sign_ext j) e = (w, e, tt)

  two-vectors : (o : Op) (w : ℕ) → OfVectors o → 0 < w → ws ≡ w ∷ w ∷ [] → TakesBits o ws
  two-vectors o w is_bvand some e = (w, w, e, record { same = refl; some = some })
  two-vectors o w is_bvor some e = (w, w, e, record { same = refl; some = some })
  two-vectors o w is_bvxor some e = (w, w, e, record { same = refl; some = some })
  two-vectors o w is_bvadd some e = (w, w, e, record { same = refl; some = some })
  two-vectors o w is_bvmul some e = (w, w, e, record { same = refl; some = some })
  two-vectors o w is_bvsub some e = (w, w, e, record { same = refl; some = some })
  two-vectors o w is_bvudiv some e = (w, w, e, record { same = refl; some = some })
  two-vectors o w is_bvurem some e = (w, w, e, record { same = refl; some = some })
  two-vectors o w is_bvsdiv some e = (w, w, e, record { same = refl; some = some })
  two-vectors o w is_bvsrem some e = (w, w, e, record { same = refl; some = some })
  two-vectors o w is_bvsmod some e = (w, w, e, record { same = refl; some = some })
  two-vectors o w is_bvshl some e = (w, w, e, record { same = refl; some = some })
  two-vectors o w is_bvlshr some e = (w, w, e, record { same = refl; some = some })
  two-vectors o w is_bvashr some e = (w, w, e, record { same = refl; some = some })

  compared : (o : Op) (s : Sort) (w : ℕ) → Comparison o s → 0 < w → ws ≡ w ∷ w ∷ [] → TakesBits o ws
  compared o s w is_bvcomp some e = (w, w, e, record { same = refl; some = some })
  compared o s w is_bvult some e = (w, w, e, record { same = refl; some = some })
  compared o s w is_bvule some e = (w, w, e, record { same = refl; some = some })
  compared o s w is_bvslt some e = (w, w, e, record { same = refl; some = some })
  compared o s w is_bvsle some e = (w, w, e, record { same = refl; some = some })

module _ {A : Type 0} (uss : List (List A)) where
  takes : (o : Op) (ss : List Sort) (s : Sort) → BitOperator o ss s → rank (op o) ss ≡ Ok s → Fit ss uss → TakesBits o (map length uss)
  takes o ss s (of_none width n some) ranked fit = tt
  takes o ss s (of_flags n c of_bool) ranked fit = flags (map length uss) o c (ap (rank (op o)) (flag-sorts n uss fit) ∙ ranked)
  takes o ss s (of_equals t) ranked fit = (bits_in t, bits_in t, fit-widths (t ∷ t ∷ []) uss fit, record { same = refl; some = some-width t (t ∷ []) uss fit })
  takes o ss s (of_several t n) ranked fit =
      (bits_in t, n, some-width t (t ∷ replicate n t) uss fit, fit-widths (t ∷ t ∷ replicate n t) uss fit ∙ ap (λ ws. bits_in t ∷ bits_in t ∷ ws) (several-widths n t))
  takes o ss s (of_choice t) ranked fit = (bits_in t, fit-widths (bool ∷ t ∷ t ∷ []) uss fit)
  takes o ss s (of_parts v w) ranked fit = (v, w, fit-widths (bit_vector v ∷ bit_vector w ∷ []) uss fit, tt)
  takes o ss s (of_part high low w order within) ranked fit = (w, fit-widths (bit_vector w ∷ []) uss fit, (order, within))
  takes o ss s (of_vector w c) ranked fit = one-vector (map length uss) o s w c ranked (fit-widths (bit_vector w ∷ []) uss fit)
  takes o ss s (of_extension {i = i} w c) ranked fit = extended-vector (map length uss) o i w c (fit-widths (bit_vector w ∷ []) uss fit)
  takes o ss s (of_vectors w c) ranked fit =
      two-vectors (map length uss) o w c (some-width (bit_vector w) (bit_vector w ∷ []) uss fit) (fit-widths (bit_vector w ∷ bit_vector w ∷ []) uss fit)
  takes o ss s (of_comparison w c) ranked fit =
      compared (map length uss) o s w c (some-width (bit_vector w) (bit_vector w ∷ []) uss fit) (fit-widths (bit_vector w ∷ bit_vector w ∷ []) uss fit)

  pub takes-bits : (o : Op) (ss : List Sort) (s : Sort) → IsOnBits o ss s → Fit ss uss → TakesBits o (map length uss)
  takes-bits o ss s on fit = takes o ss s (bit_operator o ss s uss on fit) on.ranked fit
