-- The assertions on the open levels, the latest first, each with the number of its level, as commands change them.
use Rattle.std.proofs.Common.{◌≡◌, ◌∙◌, sym, ap, refl, ℕ, zero, suc, ◌+◌, ◌-◌, ◌<◌, ◌≤◌, min, max, nat_lt, Bool, true, false, if◌then◌else◌, List, [], ◌∷◌, ◌++◌, map, length, drop, replicate, reverse, arith, length-append, length-drop}
use Rattle.std.proofs.lemmas.Bool.{lt-ltb, le-ltb}
use Rattle.std.proofs.lemmas.List.{length-replicate, map-append, reverse-append, reverse-reverse}
use Rattle.script_read.specs.Commands.{Level, empty_level, throughout, on_latest, with_assertion, with_declarations, folded, levels_popped, levels_emptied}
use Rattle.models.specs.LiveAssertions.{levels_left}

pub map-reverse : {A B : Type 0} (f : A → B) (xs : List A) → map f (reverse xs) ≡ reverse (map f xs)
map-reverse f [] = refl
map-reverse f (x ∷ xs) =
    ap (map f) (reverse-append (x ∷ []) xs) ∙ map-append f (reverse xs) (x ∷ []) ∙ ap (λ ys. ys ++ f x ∷ []) (map-reverse f xs) ∙ sym (reverse-append (f x ∷ []) (map f xs))

module _ {A : Type 0} where
  abbrev pub placed_in : List (Level A) → List (A × ℕ)
  placed_in [] = []
  placed_in (l ∷ ls) = map (λ a. (a, suc (length ls))) (reverse l.asserted) ++ placed_in ls

  -- but for those at the head that stand on levels above n
  abbrev pub kept : ℕ → List (A × ℕ) → List (A × ℕ)
  kept n [] = []
  kept n (p ∷ ps) = if nat_lt n p.1 then kept n ps else p ∷ ps

  -- ---- the latest level changed

  pub length_latest : (change : Level A → Level A) (ls : List (Level A)) → length (on_latest change ls) ≡ max (length ls) 1
  length_latest change [] = refl
  length_latest change (l ∷ ls) = omega arith

  pub latest_kept : (change : Level A → Level A) → ((l : Level A) → (change l).asserted ≡ l.asserted) → (ls : List (Level A)) → placed_in (on_latest change ls) ≡ placed_in ls
  latest_kept change is [] = ap (λ xs. map (λ a. (a, 1)) (reverse xs) ++ []) (is empty_level)
  latest_kept change is (l ∷ ls) = ap (λ xs. map (λ a. (a, suc (length ls))) (reverse xs) ++ placed_in ls) (is l)

  pub latest_asserted : (a : A) (ls : List (Level A)) → placed_in (on_latest (with_assertion a) ls) ≡ (a, max (length ls) 1) ∷ placed_in ls
  latest_asserted a [] = refl
  latest_asserted a (l ∷ ls) =
      let level : suc (length ls) ≡ max (suc (length ls)) 1 = omega arith in
      ap (λ xs. map (λ x. (x, suc (length ls))) xs ++ placed_in ls) (reverse-append l.asserted (a ∷ [])) ∙ ap (λ n. (a, n) ∷ placed_in (l ∷ ls)) level

  -- ---- levels opened

  pub length_opened : (n : ℕ) (ls : List (Level A)) → length (replicate n empty_level ++ ls) ≡ length ls + n
  length_opened n ls = omega (arith, length-append (replicate n (empty_level {A = A})) ls, length-replicate n (empty_level {A = A}))

  pub placed_opened : (n : ℕ) (ls : List (Level A)) → placed_in (replicate n empty_level ++ ls) ≡ placed_in ls
  placed_opened zero ls = refl
  placed_opened (suc n) ls = placed_opened n ls

  -- ---- levels closed

  kept_over : (xs : List A) (n level : ℕ) (ps : List (A × ℕ)) → n < level → kept n (map (λ a. (a, level)) xs ++ ps) ≡ kept n ps
  kept_over [] n level ps h = refl
  kept_over (x ∷ xs) n level ps h =
      ap (λ b. if b then kept n (map (λ a. (a, level)) xs ++ ps) else (x, level) ∷ (map (λ a. (a, level)) xs ++ ps)) (lt-ltb n level h) ∙ kept_over xs n level ps h

  kept_front : (xs : List A) (n level : ℕ) (ps : List (A × ℕ)) → level ≤ n → kept n ps ≡ ps → kept n (map (λ a. (a, level)) xs ++ ps) ≡ map (λ a. (a, level)) xs ++ ps
  kept_front [] n level ps h rest = rest
  kept_front (x ∷ xs) n level ps h rest =
      ap (λ b. if b then kept n (map (λ a. (a, level)) xs ++ ps) else (x, level) ∷ (map (λ a. (a, level)) xs ++ ps)) (le-ltb n level h)

  kept_all : (ls : List (Level A)) (n : ℕ) → length ls ≤ n → kept n (placed_in ls) ≡ placed_in ls
  kept_all [] n h = refl
  kept_all (l ∷ ls) n h = kept_front (reverse l.asserted) n (suc (length ls)) (placed_in ls) h (kept_all ls n (omega (arith, h)))

  dropped : (n : ℕ) (ls : List (Level A)) → kept (length (drop n ls)) (placed_in ls) ≡ placed_in (drop n ls)
  dropped zero ls = kept_all ls (length ls) (omega arith)
  dropped (suc n) [] = refl
  dropped (suc n) (l ∷ ls) =
      kept_over (reverse l.asserted) (length (drop n ls)) (suc (length ls)) (placed_in ls) (omega (arith, length-drop n ls)) ∙ dropped n ls

  length_folded : (n : ℕ) (ls : List (Level A)) → length (folded n ls) ≡ max (length ls - n) (min (length ls) 1)
  length_folded zero ls = omega arith
  length_folded (suc n) [] = omega arith
  length_folded (suc n) (l ∷ []) = omega arith
  length_folded (suc n) (above ∷ l ∷ ls) = omega (arith, length_folded n (with_declarations above l ∷ ls))

  folded_placed : (n : ℕ) (ls : List (Level A)) → kept (length (folded n ls)) (placed_in ls) ≡ placed_in (folded n ls)
  folded_placed zero ls = kept_all ls (length ls) (omega arith)
  folded_placed (suc n) [] = refl
  folded_placed (suc n) (l ∷ []) = kept_all (l ∷ []) 1 (omega arith)
  folded_placed (suc n) (above ∷ l ∷ ls) =
      kept_over (reverse above.asserted) (length (folded n (with_declarations above l ∷ ls))) (suc (suc (length ls))) (placed_in (l ∷ ls))
      (omega (arith, length_folded n (with_declarations above l ∷ ls)))
      ∙ folded_placed n (with_declarations above l ∷ ls)

  pub length_popped : (global : Bool) (n : ℕ) (ls : List (Level A)) → length (levels_popped global n ls) ≡ levels_left global n (length ls)
  length_popped true n ls = length_folded n ls
  length_popped false n ls = length-drop n ls

  pub placed_popped : (global : Bool) (n : ℕ) (ls : List (Level A)) → kept (length (levels_popped global n ls)) (placed_in ls) ≡ placed_in (levels_popped global n ls)
  placed_popped true n ls = folded_placed n ls
  placed_popped false n ls = dropped n ls

  pub length_emptied : (global : Bool) (ls : List (Level A)) → length (levels_emptied global ls) ≡ 1
  length_emptied true ls = refl
  length_emptied false ls = refl

  pub placed_emptied : (global : Bool) (ls : List (Level A)) → placed_in (levels_emptied global ls) ≡ []
  placed_emptied true ls = refl
  placed_emptied false ls = refl

  -- ---- all of them, in order

  without_level : (xs : List A) (level : ℕ) → map (λ (p : A × ℕ). p.0) (map (λ a. (a, level)) xs) ≡ xs
  without_level [] level = refl
  without_level (x ∷ xs) level = ap (λ ys. x ∷ ys) (without_level xs level)

  pub asserted_throughout : (ls : List (Level A)) → throughout (λ l. l.asserted) ls ≡ reverse (map (λ p. p.0) (placed_in ls))
  asserted_throughout [] = refl
  asserted_throughout (l ∷ ls) =
      let below : List A = map (λ p. p.0) (placed_in ls) in
      ap (λ xs. xs ++ l.asserted) (asserted_throughout ls) ∙ ap (λ xs. reverse below ++ xs) (sym (reverse-reverse l.asserted))
      ∙ sym (reverse-append (reverse l.asserted) below) ∙ ap (λ xs. reverse (xs ++ below)) (sym (without_level (reverse l.asserted) (suc (length ls))))
      ∙ ap reverse (sym (map-append (λ p. p.0) (map (λ a. (a, suc (length ls))) (reverse l.asserted)) (placed_in ls)))
