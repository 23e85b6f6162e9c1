-- Bits moved up and down: how many they are, what holds of each, and that a move of nodes is one of their terms.
use Rattle.std.proofs.Common.{◌≡◌, ℕ, zero, suc, ◌+◌, ◌-◌, min, List, ◌∷◌, ◌++◌, map, length, take, drop, replicate, All, refl, ap, sym, ◌∙◌, arith, length-append, length-drop, length-take}
use Rattle.std.proofs.Math.Seq.{take-append-add}
use Rattle.std.proofs.lemmas.List.{length-replicate, take-map, drop-map, map-append, length-map, drop_min}
use Rattle.std.proofs.lemmas.List.Elements.{All-append, All-take, All-drop, All-replicate}
use Rattle.bit_blast.specs.declared.shifts.Way.{Way}
use Rattle.bit_blast.specs.declared.shifts.Way.TheVariants.{Up, Down}
use Rattle.bit_blast.specs.Circuits.{up, down}
use Rattle.bit_blast.specs.ShiftWays.{moved}

module _ {A : Type 0} where
  -- the bits that come in, and those that stay
  pub up-parts : (a : A) (n : ℕ) (us : List A) → replicate (min n (length us)) a ++ take (length us - min n (length us)) us ≡ up a n us
  up-parts a n us =
      let coming : List A = replicate (min n (length us)) a in
      let count : length coming ≡ min n (length us) = length-replicate (min n (length us)) a in
      let all : length coming + (length us - min n (length us)) ≡ length us = omega (arith, count) in
      sym (take-append-add coming us (length us - min n (length us))) ∙ ap (λ k. take k (coming ++ us)) all

  length-up : (a : A) (n : ℕ) (us : List A) → length (up a n us) ≡ length us
  length-up a n us = simp (length-take, length-append, length-replicate) (omega arith)

  length-down : (a : A) (n : ℕ) (us : List A) → length (down a n us) ≡ length us
  length-down a n us = simp (length-append, length-drop, length-replicate) (omega arith)

  pub length-moved : (way : Way) (a : A) (n : ℕ) (us : List A) → length (moved way a n us) ≡ length us
  length-moved Up a n us = length-up a n us
  length-moved Down a n us = length-down a n us

  -- beyond the width all distances are one
  near-up : (a : A) (n : ℕ) (us : List A) → up a (min n (length us)) us ≡ up a n us
  near-up a n us = let e : min (min n (length us)) (length us) ≡ min n (length us) = omega arith in ap (λ k. take (length us) (replicate k a ++ us)) e

  near-down : (a : A) (n : ℕ) (us : List A) → down a (min n (length us)) us ≡ down a n us
  near-down a n us =
      let e : min (min n (length us)) (length us) ≡ min n (length us) = omega arith in
      let left = drop_min n us in
      λ i. left i ++ replicate (e i) a

  near : (way : Way) (a : A) (n : ℕ) (us : List A) → moved way a (min n (length us)) us ≡ moved way a n us
  near Up a n us = near-up a n us
  near Down a n us = near-down a n us

  pub moved-alike : (way : Way) (a : A) (m n : ℕ) (us : List A) → min m (length us) ≡ min n (length us) → moved way a m us ≡ moved way a n us
  moved-alike way a m n us e = sym (near way a m us) ∙ ap (λ k. moved way a k us) e ∙ near way a n us

module _ {A B : Type 0} (f : A → B) where
  pub map-replicate : (n : ℕ) (a : A) → map f (replicate n a) ≡ replicate n (f a)
  map-replicate zero a = refl
  map-replicate (suc n) a = ap (λ us. f a ∷ us) (map-replicate n a)

  map-up : (a : A) (n : ℕ) (us : List A) → map f (up a n us) ≡ up (f a) n (map f us)
  map-up a n us =
      sym (take-map f (length us) (replicate (min n (length us)) a ++ us))
      ∙ ap (take (length us)) (map-append f (replicate (min n (length us)) a) us)
      ∙ ap (λ bs. take (length us) (bs ++ map f us)) (map-replicate (min n (length us)) a)
      ∙ ap (λ w. take w (replicate (min n w) (f a) ++ map f us)) (sym (length-map us f))

  map-down : (a : A) (n : ℕ) (us : List A) → map f (down a n us) ≡ down (f a) n (map f us)
  map-down a n us =
      map-append f (drop n us) (replicate (min n (length us)) a)
      ∙ ap (λ bs. bs ++ map f (replicate (min n (length us)) a)) (sym (drop-map f n us))
      ∙ ap (λ bs. drop n (map f us) ++ bs) (map-replicate (min n (length us)) a)
      ∙ ap (λ w. drop n (map f us) ++ replicate (min n w) (f a)) (sym (length-map us f))

  pub map-moved : (way : Way) (a : A) (n : ℕ) (us : List A) → map f (moved way a n us) ≡ moved way (f a) n (map f us)
  map-moved Up a n us = map-up a n us
  map-moved Down a n us = map-down a n us

pub all-moved : {A : Type 0} (P : A → Type 0) (way : Way) (a : A) (n : ℕ) (us : List A) → P a → All P us → All P (moved way a n us)
all-moved P Up a n us first rest = All-take P (length us) (replicate (min n (length us)) a ++ us) (All-append P (replicate (min n (length us)) a) us (All-replicate P (min n (length us)) a first) rest)
all-moved P Down a n us first rest = All-append P (drop n us) (replicate (min n (length us)) a) (All-drop P n us rest) (All-replicate P (min n (length us)) a first)
