-- What levels hold throughout, where a number of the latest ones is left out.
use Rattle.std.proofs.Common.{◌≡◌, ◌∙◌, sym, ap, refl, ℕ, zero, suc, ◌+◌, ◌-◌, ◌==◌, ◌<◌, if◌then◌else◌, false, List, [], ◌∷◌, ◌++◌, drop, length, replicate, append_assoc, append-nil, arith}
use Rattle.std.proofs.lemmas.Bool.{ne_eqb}
use Rattle.std.proofs.Math.Seq.{drop-nil}
use Rattle.script_read.specs.Commands.{Level, empty_level, throughout, on_latest, with_declarations, folded}

some_left : (n : ℕ) → (suc n == 0) ≡ false
some_left n = ne_eqb (suc n) 0 (λ same. omega (arith, same))

module _ {A B : Type 0} (part : Level A → List B) (empty : part empty_level ≡ []) where
  -- all but the n latest levels
  abbrev pub below : ℕ → List (Level A) → List B
  below n ls = throughout part (drop n ls)

  pub below_none : (n : ℕ) → below n [] ≡ []
  below_none n = ap (throughout part) (drop-nil n)

  pub below_bare : (n : ℕ) → below n (empty_level ∷ []) ≡ []
  below_bare zero = empty
  below_bare (suc n) = below_none n

  -- the latest level changed
  pub below_changed : (change : Level A → Level A) (added : List B) → ((l : Level A) → part (change l) ≡ part l ++ added) → (n : ℕ) (ls : List (Level A))
      → below n (on_latest change ls) ≡ below n ls ++ (if n == 0 then added else [])
  below_changed change added is zero [] = is empty_level ∙ ap (λ bs. bs ++ added) empty
  below_changed change added is zero (l ∷ ls) = ap (λ bs. throughout part ls ++ bs) (is l) ∙ sym (append_assoc (throughout part ls) (part l) added)
  below_changed change added is (suc n) [] =
      below_none n ∙ sym (below_none (suc n)) ∙ sym (append-nil (below (suc n) [])) ∙ ap (λ b. below (suc n) [] ++ (if b then added else [])) (sym (some_left n))
  below_changed change added is (suc n) (l ∷ ls) = sym (append-nil (below n ls)) ∙ ap (λ b. below n ls ++ (if b then added else [])) (sym (some_left n))

  pub below_kept : (change : Level A → Level A) → ((l : Level A) → part (change l) ≡ part l) → (n : ℕ) (ls : List (Level A)) → below n (on_latest change ls) ≡ below n ls
  below_kept change is zero [] = is empty_level ∙ empty
  below_kept change is zero (l ∷ ls) = ap (λ bs. throughout part ls ++ bs) (is l)
  below_kept change is (suc n) [] = below_none n ∙ sym (below_none (suc n))
  below_kept change is (suc n) (l ∷ ls) = refl

  -- levels that are opened
  pub below_opened : (n k : ℕ) (ls : List (Level A)) → below k (replicate n empty_level ++ ls) ≡ below (k - n) ls
  below_opened zero k ls = let same : k ≡ k - 0 = omega arith in ap (λ n. below n ls) same
  below_opened (suc n) zero ls =
      let none : 0 - n ≡ 0 - suc n = omega arith in
      ap (λ bs. throughout part (replicate n empty_level ++ ls) ++ bs) empty ∙ append-nil (throughout part (replicate n empty_level ++ ls)) ∙ below_opened n zero ls ∙ ap (λ i. below i ls) none
  below_opened (suc n) (suc k) ls = let same : k - n ≡ suc k - suc n = omega arith in below_opened n k ls ∙ ap (λ i. below i ls) same

  -- levels that are closed and give what they hold to the one below
  pub throughout_folded : ((above l : Level A) → part (with_declarations above l) ≡ part l ++ part above) → (n : ℕ) (ls : List (Level A)) → throughout part (folded n ls) ≡ throughout part ls
  throughout_folded is zero ls = refl
  throughout_folded is (suc n) [] = refl
  throughout_folded is (suc n) (l ∷ []) = refl
  throughout_folded is (suc n) (above ∷ l ∷ ls) =
      throughout_folded is n (with_declarations above l ∷ ls) ∙ ap (λ bs. throughout part ls ++ bs) (is above l) ∙ sym (append_assoc (throughout part ls) (part l) (part above))

  below_replaced : (n : ℕ) (k l : Level A) (ls : List (Level A)) → part k ≡ part l → below n (k ∷ ls) ≡ below n (l ∷ ls)
  below_replaced zero k l ls same = ap (λ bs. throughout part ls ++ bs) same
  below_replaced (suc n) k l ls same = refl

  -- levels that are closed and give nothing
  pub below_folded : ((above l : Level A) → part (with_declarations above l) ≡ part l) → (k n : ℕ) (ls : List (Level A)) → n < length ls → below k (folded n ls) ≡ below (k + n) ls
  below_folded is k zero ls some = let same : k ≡ k + 0 = omega arith in ap (λ i. below i ls) same
  below_folded is k (suc n) [] some = absurd (omega (arith, some))
  below_folded is k (suc n) (l ∷ []) some = absurd (omega (arith, some))
  below_folded is k (suc n) (above ∷ l ∷ ls) some =
      let one_more : suc (k + n) ≡ k + suc n = omega arith in
      below_folded is k n (with_declarations above l ∷ ls) (omega (arith, some)) ∙ below_replaced (k + n) (with_declarations above l) l ls (is above l) ∙ ap (λ i. below i (above ∷ l ∷ ls)) one_more
