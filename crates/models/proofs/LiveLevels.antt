-- What levels have throughout, as commands change them, where a number of the latest ones is left out.
use Rattle.std.proofs.Common.{◌≡◌, ◌∙◌, sym, ap, refl, ℕ, zero, suc, ◌-◌, ◌==◌, false, if◌then◌else◌, List, [], ◌∷◌, ◌++◌, drop, replicate, append_assoc, arith}
use Rattle.std.proofs.lemmas.List.{append-nil}
use Rattle.std.proofs.lemmas.Bool.{ne_eqb}
use Rattle.std.proofs.Math.Seq.{drop-nil}
use Rattle.smt_terms.specs.Term.{Term}
use Rattle.script_read.specs.Commands.{Level, empty_level, throughout, on_latest, with_declarations, folded}

some_left : (n : ℕ) → (suc n == 0) ≡ false
some_left n = ne_eqb (suc n) 0 (λ same. omega (arith, same))

module _ {B : Type 0} (part : Level Term → List B) (empty : part empty_level ≡ []) where
  -- all but the n latest levels
  abbrev pub below : ℕ → List (Level Term) → List B
  below n ls = throughout part (drop n ls)

  pub below_none : (n : ℕ) → below n [] ≡ []
  below_none n = ap (throughout part) (drop-nil n)

  pub below_bare : (n : ℕ) → below n (empty_level ∷ []) ≡ []
  below_bare zero = empty
  below_bare (suc n) = below_none n

  -- a declaration on the latest level
  pub below_declared : (change : Level Term → Level Term) (added : List B) → ((l : Level Term) → part (change l) ≡ part l ++ added) → (n : ℕ) (ls : List (Level Term))
      → below n (on_latest change ls) ≡ below n ls ++ (if n == 0 then added else [])
  below_declared change added is zero [] = is empty_level ∙ ap (λ bs. bs ++ added) empty
  below_declared change added is zero (l ∷ ls) = ap (λ bs. throughout part ls ++ bs) (is l) ∙ sym (append_assoc (throughout part ls) (part l) added)
  below_declared change added is (suc n) [] =
      below_none n ∙ sym (below_none (suc n)) ∙ sym (append-nil (below (suc n) [])) ∙ ap (λ b. below (suc n) [] ++ (if b then added else [])) (sym (some_left n))
  below_declared change added is (suc n) (l ∷ ls) = sym (append-nil (below n ls)) ∙ ap (λ b. below n ls ++ (if b then added else [])) (sym (some_left n))

  -- a change that adds nothing
  pub below_kept : (change : Level Term → Level Term) → ((l : Level Term) → part (change l) ≡ part l) → (n : ℕ) (ls : List (Level Term)) → below n (on_latest change ls) ≡ below n ls
  below_kept change is zero [] = is empty_level ∙ empty
  below_kept change is zero (l ∷ ls) = ap (λ bs. throughout part ls ++ bs) (is l)
  below_kept change is (suc n) [] = below_none n ∙ sym (below_none (suc n))
  below_kept change is (suc n) (l ∷ ls) = refl

  -- levels that are opened
  pub below_opened : (n k : ℕ) (ls : List (Level Term)) → below k (replicate n empty_level ++ ls) ≡ below (k - n) ls
  below_opened zero k ls = let same : k ≡ k - 0 = omega arith in ap (λ n. below n ls) same
  below_opened (suc n) zero ls = ap (λ bs. throughout part (replicate n empty_level ++ ls) ++ bs) empty ∙ append-nil (throughout part (replicate n empty_level ++ ls)) ∙ below_opened n zero ls ∙ (let same : 0 - n ≡ 0 - suc n = omega arith in ap (λ i. below i ls) same)
  below_opened (suc n) (suc k) ls = let same : k - n ≡ suc k - suc n = omega arith in below_opened n k ls ∙ ap (λ i. below i ls) same

  -- levels that are closed and give their declarations to the one below
  pub throughout_folded : ((above l : Level Term) → part (with_declarations above l) ≡ part l ++ part above) → (n : ℕ) (ls : List (Level Term)) → throughout part (folded n ls) ≡ throughout part ls
  throughout_folded is zero ls = refl
  throughout_folded is (suc n) [] = refl
  throughout_folded is (suc n) (l ∷ []) = refl
  throughout_folded is (suc n) (above ∷ l ∷ ls) =
      throughout_folded is n (with_declarations above l ∷ ls) ∙ ap (λ bs. throughout part ls ++ bs) (is above l) ∙ sym (append_assoc (throughout part ls) (part l) (part above))
