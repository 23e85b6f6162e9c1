-- What a written operator is made of keeps its meaning from one algebra to another.
use Rattle.std.proofs.Common.{◌≡◌, ◌∙◌, ap, refl, ℕ, zero, suc, List, [], ◌∷◌, map}
use Rattle.std.specs.Prelude.{◌%◌, pos}
use Rattle.smt_terms.specs.declared.op.Op.{Op}
use Rattle.smt_terms.specs.declared.op.Op.TheVariants.{Whole, And, Equal, Neg, Sub, Mod, Concat, BvNot, RotL, RotR}
use Rattle.smt_terms.specs.Written.{Written, plain, over_all, left_associative, right_associative, chainable, chainable_exchanged, exchanged, complemented, subtraction, divisibility, repetition, left_rotation, right_rotation, Algebra, apply_to, apply_to_both, itself_or_join, from_left, from_right, associated, neighbours, chain, minus_or_differences, whole_in, over_one, copies, repeated, divides, build}

-- a function that keeps applications and widths
pub record Keeps {A B : Type 0} (a : Algebra A) (b : Algebra B) (h : A → B) : Type 0 where
  pub applications : (o : Op) (xs : List A) → b.make o (map h xs) ≡ h (a.make o xs)
  pub widths : (x : A) → b.width_in (h x) ≡ a.width_in x

-- ---- sequences

from_left_kept : {A B : Type 0} (h : A → B) (f : A → A → A) (g : B → B → B) → ((x y : A) → g (h x) (h y) ≡ h (f x y)) → (x : A) (ys : List A) → from_left g (h x) (map h ys) ≡ h (from_left f x ys)
from_left_kept h f g two x [] = refl
from_left_kept h f g two x (y ∷ ys) = ap (λ z. from_left g z (map h ys)) (two x y) ∙ from_left_kept h f g two (f x y) ys

from_right_kept : {A B : Type 0} (h : A → B) (f : A → A → A) (g : B → B → B) → ((x y : A) → g (h x) (h y) ≡ h (f x y)) → (x : A) (ys : List A) → from_right g (h x) (map h ys) ≡ h (from_right f x ys)
from_right_kept h f g two x [] = refl
from_right_kept h f g two x (y ∷ ys) = ap (λ z. g (h x) z) (from_right_kept h f g two y ys) ∙ two x (from_right f y ys)

neighbours_kept : {A B : Type 0} (h : A → B) (f : A → A → A) (g : B → B → B) → ((x y : A) → g (h x) (h y) ≡ h (f x y)) → (x : A) (ys : List A) → neighbours g (h x) (map h ys) ≡ map h (neighbours f x ys)
neighbours_kept h f g two x [] = refl
neighbours_kept h f g two x (y ∷ ys) = ap (λ z. z ∷ neighbours g (h y) (map h ys)) (two x y) ∙ ap (λ zs. h (f x y) ∷ zs) (neighbours_kept h f g two y ys)

module _ {A B : Type 0} (a : Algebra A) (b : Algebra B) (h : A → B) (k : Keeps a b h) where
  one : (o : Op) (x : A) → apply_to b o (h x) ≡ h (apply_to a o x)
  one o x = k.applications o (x ∷ [])

  both : (o : Op) (x y : A) → apply_to_both b o (h x) (h y) ≡ h (apply_to_both a o x y)
  both o x y = k.applications o (x ∷ y ∷ [])

  joins : (o : Op) (xs : List A) → itself_or_join b o (map h xs) ≡ h (itself_or_join a o xs)
  joins o [] = k.applications o []
  joins o (x ∷ []) = refl
  joins o (x ∷ y ∷ zs) = k.applications o (x ∷ y ∷ zs)

  lefts : (o : Op) (xs : List A) → associated b o (from_left (apply_to_both b o)) (map h xs) ≡ h (associated a o (from_left (apply_to_both a o)) xs)
  lefts o [] = k.applications o []
  lefts o (x ∷ xs) = from_left_kept h (apply_to_both a o) (apply_to_both b o) (both o) x xs

  rights : (o : Op) (xs : List A) → associated b o (from_right (apply_to_both b o)) (map h xs) ≡ h (associated a o (from_right (apply_to_both a o)) xs)
  rights o [] = k.applications o []
  rights o (x ∷ xs) = from_right_kept h (apply_to_both a o) (apply_to_both b o) (both o) x xs

  chains : (f : A → A → A) (g : B → B → B) → ((x y : A) → g (h x) (h y) ≡ h (f x y)) → (xs : List A) → chain b g (map h xs) ≡ h (chain a f xs)
  chains f g two [] = k.applications And []
  chains f g two (x ∷ xs) = ap (λ zs. itself_or_join b And zs) (neighbours_kept h f g two x xs) ∙ joins And (neighbours f x xs)

  differences : (xs : List A) → minus_or_differences b (map h xs) ≡ h (minus_or_differences a xs)
  differences [] = k.applications Sub []
  differences (x ∷ []) = one Neg x
  differences (x ∷ y ∷ zs) = lefts Sub (x ∷ y ∷ zs)

  on_one : (f : A → A) (g : B → B) → ((x : A) → g (h x) ≡ h (f x)) → (xs : List A) → over_one b g (map h xs) ≡ h (over_one a f xs)
  on_one f g same [] = k.applications And []
  on_one f g same (x ∷ xs) = same x

  copies_kept : (n : ℕ) (x : A) → copies b n (h x) ≡ h (copies a n x)
  copies_kept zero x = refl
  copies_kept (suc n) x = ap (λ z. apply_to_both b Concat (h x) z) (copies_kept n x) ∙ both Concat x (copies a n x)

  repeats : (n : ℕ) (x : A) → repeated b n (h x) ≡ h (repeated a n x)
  repeats zero x = refl
  repeats (suc n) x = copies_kept n x

  whole_kept : (n : ℕ) → whole_in b n ≡ h (whole_in a n)
  whole_kept n = k.applications (Whole (pos n)) []

  divides_kept : (n : ℕ) (x : A) → divides b n (h x) ≡ h (divides a n x)
  divides_kept n x =
      ap (λ z. apply_to_both b Equal (apply_to_both b Mod (h x) z) (whole_in b 0)) (whole_kept n)
      ∙ ap (λ z. apply_to_both b Equal z (whole_in b 0)) (both Mod x (whole_in a n))
      ∙ ap (λ z. apply_to_both b Equal (h (apply_to_both a Mod x (whole_in a n))) z) (whole_kept 0)
      ∙ both Equal (apply_to_both a Mod x (whole_in a n)) (whole_in a 0)

  rotates : (rotation : ℕ → Op) (n : ℕ) (x : A) → apply_to b (rotation (n % b.width_in (h x))) (h x) ≡ h (apply_to a (rotation (n % a.width_in x)) x)
  rotates rotation n x = ap (λ w. apply_to b (rotation (n % w)) (h x)) (k.widths x) ∙ one (rotation (n % a.width_in x)) x

  pub builds : (w : Written) (xs : List A) → build b w (map h xs) ≡ h (build a w xs)
  unfolding build
  builds (plain o) xs = k.applications o xs
  builds (over_all o) xs = joins o xs
  builds (left_associative o) xs = lefts o xs
  builds (right_associative o) xs = rights o xs
  builds (chainable o) xs = chains (apply_to_both a o) (apply_to_both b o) (both o) xs
  builds (chainable_exchanged o) xs = chains (λ x y. apply_to_both a o y x) (λ x y. apply_to_both b o y x) (λ x y. both o y x) xs
  builds (exchanged o) [] = k.applications o []
  builds (exchanged o) (x ∷ []) = k.applications o (x ∷ [])
  builds (exchanged o) (x ∷ y ∷ xs) = both o y x
  builds (complemented o) xs = ap (λ z. apply_to b BvNot z) (k.applications o xs) ∙ one BvNot (a.make o xs)
  builds subtraction xs = differences xs
  builds (divisibility n) xs = on_one (divides a n) (divides b n) (divides_kept n) xs
  builds (repetition n) xs = on_one (repeated a n) (repeated b n) (repeats n) xs
  builds (left_rotation n) xs = on_one (λ x. apply_to a (RotL (n % a.width_in x)) x) (λ x. apply_to b (RotL (n % b.width_in x)) x) (rotates RotL n) xs
  builds (right_rotation n) xs = on_one (λ x. apply_to a (RotR (n % a.width_in x)) x) (λ x. apply_to b (RotR (n % b.width_in x)) x) (rotates RotR n) xs
