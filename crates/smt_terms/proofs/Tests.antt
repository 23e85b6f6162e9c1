-- Tests that are joined by `&&` and `||`, and equivalences that are tests.
use Rattle.std.proofs.Common.{◌≡◌, Bool, true, false, cond, not, ◌&&◌, ◌||◌, ◌⊎◌, inl, inr, refl, sym, ◌∙◌}
use Rattle.std.specs.Bool.{Decides}

pub both_true : (a b : Bool) → (a && b) ≡ true → (a ≡ true) × (b ≡ true)
both_true true true h = (refl, refl)
both_true true false h = absurd cc
both_true false b h = absurd cc

pub and_true : (a b : Bool) → a ≡ true → b ≡ true → (a && b) ≡ true
and_true a b h k = cc

pub either_true : (a b : Bool) → (a || b) ≡ true → (a ≡ true) ⊎ (b ≡ true)
either_true true b h = inl refl
either_true false b h = inr h

pub left_true : (a b : Bool) → a ≡ true → (a || b) ≡ true
left_true a b h = cc

pub right_true : (a b : Bool) → b ≡ true → (a || b) ≡ true
right_true true b h = refl
right_true false b h = h

pub both_false : (a b : Bool) → (a || b) ≡ false → (a ≡ false) × (b ≡ false)
both_false true b h = absurd cc
both_false false b h = (refl, h)

pub or_false : (a b : Bool) → a ≡ false → b ≡ false → (a || b) ≡ false
or_false a b h k = cc

pub one_false : (a b : Bool) → (a && b) ≡ false → (a ≡ false) ⊎ (b ≡ false)
one_false true b h = inr h
one_false false b h = inl refl

pub not_true : (a : Bool) → not a ≡ true → a ≡ false
not_true true h = absurd cc
not_true false h = refl

pub true_or_false : (a : Bool) → (a ≡ true) ⊎ (a ≡ false)
true_or_false true = inl refl
true_or_false false = inr refl

pub alike_from : (a b : Bool) → (a ≡ true → b ≡ true) → (b ≡ true → a ≡ true) → a ≡ b
alike_from true true f g = refl
alike_from false false f g = refl
alike_from true false f g = sym (f refl)
alike_from false true f g = g refl

-- no test is passed and failed
pub contrary : {A : Type 0} (b : Bool) → b ≡ true → b ≡ false → A
contrary b h k = absurd (clash h k)
  where
    clash : b ≡ true → b ≡ false → ⊥
    clash h k = absurd cc

-- what a test says of either choice it says of the choice
pub either_way : {A : Type 0} (test : A → Bool) (b : Bool) (x y : A) (r : Bool) → (b ≡ true → test x ≡ r) → (b ≡ false → test y ≡ r) → test (cond b x y) ≡ r
either_way test true x y r f g = f refl
either_way test false x y r f g = g refl

-- a test that is an equivalence
pub record IsEquivalent {A : Type 0} (same : A → A → Bool) : Type 0 where
  pub itself : (a : A) → same a a ≡ true
  pub back : (a b : A) → same a b ≡ true → same b a ≡ true
  pub through : (a b c : A) → same a b ≡ true → same b c ≡ true → same a c ≡ true

-- equality of what two values read as
pub by_reading : {A B : Type 0} (read : A → B) (eq : B → B → Bool) → ((x y : B) → Decides (eq x y) (x ≡ y)) → IsEquivalent (λ (a b : A). eq (read a) (read b))
by_reading read eq told = record {
  itself = λ a. (told (read a) (read a)).1 refl;
  back = λ a b h. (told (read b) (read a)).1 (sym ((told (read a) (read b)).0 h));
  through = λ a b c h k. (told (read a) (read c)).1 ((told (read a) (read b)).0 h ∙ (told (read b) (read c)).0 k);
}

-- equivalent arguments have the same equivalents
pub like_before : {A : Type 0} {same : A → A → Bool} → IsEquivalent same → (x j k : A) → same j k ≡ true → same x j ≡ same x k
like_before {same = same} law x j k h =
    alike_from (same x j) (same x k) (λ p. law.through x j k p h) (λ p. law.through x k j p (law.back j k h))
