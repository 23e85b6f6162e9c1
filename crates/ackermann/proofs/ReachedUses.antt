-- How far the live applications of a function reach, and the way back from the last of them to the first.
use Rattle.std.proofs.Common.{◌≡◌, ℕ, zero, suc, ◌≤◌, ◌<◌, Bool, true, false, cond, if◌then◌else◌, List, [], ◌∷◌, ◌++◌, append_assoc, append-nil, length, take, map, reverse, slice_get, Option, Some, refl, ap, sym, ◌∙◌, subst, arith}
use Rattle.std.proofs.lemmas.Bool.Decides.{Decides-eqb}
use Rattle.std.proofs.lemmas.List.{map-append, reverse-append, length-take}
use Rattle.smt_terms.specs.declared.ids.SymId.{SymId}
use Rattle.ackermann.specs.declared.uses.LiveUse.{LiveUse}
use Rattle.ackermann.specs.LiveUses.{is_use_of, uses_of, farther, reach}

-- ---- lists

pub taken-fewer : (n p : ℕ) (us : List LiveUse) → n ≤ p → take n (take p us) ≡ take n us
taken-fewer zero p us le = refl
taken-fewer (suc n) zero us le = absurd (omega arith)
taken-fewer (suc n) (suc p) [] le = refl
taken-fewer (suc n) (suc p) (u ∷ us) le = ap (λ vs. u ∷ vs) (taken-fewer n p us (omega arith))

pub taken-one : (us : List LiveUse) (p : ℕ) (u : LiveUse) → slice_get us p ≡ Some u → take (suc p) us ≡ take p us ++ u ∷ []
taken-one [] p u at = absurd cc
taken-one (x ∷ us) zero u at = let same : x ≡ u = cc in ap (λ y. y ∷ []) same
taken-one (x ∷ us) (suc p) u at = ap (λ vs. x ∷ vs) (taken-one us p u at)

pub uses_of-append : (f : SymId) (us vs : List LiveUse) → uses_of f (us ++ vs) ≡ uses_of f us ++ uses_of f vs
uses_of-append f [] vs = refl
uses_of-append f (u ∷ us) vs = by (is_use_of f u) (uses_of-append f us vs)
  where
    by : (b : Bool) → uses_of f (us ++ vs) ≡ uses_of f us ++ uses_of f vs → cond b (u ∷ uses_of f (us ++ vs)) (uses_of f (us ++ vs)) ≡ cond b (u ∷ uses_of f us) (uses_of f us) ++ uses_of f vs
    by true rest = ap (λ xs. u ∷ xs) rest
    by false rest = rest

-- ---- how far they reach

pub reach-last : (f : SymId) (us : List LiveUse) (u : LiveUse) → reach f (us ++ u ∷ []) ≡ (if is_use_of f u then suc (length us) else reach f us)
reach-last f [] u = refl
reach-last f (x ∷ us) u = ap (λ n. farther n (is_use_of f x)) (reach-last f us u) ∙ by (is_use_of f u)
  where
    by : (b : Bool) → farther (if b then suc (length us) else reach f us) (is_use_of f x) ≡ (if b then suc (suc (length us)) else farther (reach f us) (is_use_of f x))
    by true = refl
    by false = refl

pub reach-within : (f : SymId) (us : List LiveUse) → reach f us ≤ length us
reach-within f [] = omega arith
reach-within f (u ∷ us) = by (reach f us) (is_use_of f u) (reach-within f us)
  where
    by : (n : ℕ) (b : Bool) → n ≤ length us → farther n b ≤ suc (length us)
    by zero true le = omega arith
    by zero false le = omega arith
    by (suc n) b le = omega arith

pub reach-all : (f : SymId) (us : List LiveUse) → uses_of f us ≡ uses_of f (take (reach f us) us)
reach-all f [] = refl
reach-all f (u ∷ us) = by (reach f us) (is_use_of f u) refl (reach-all f us)
  where
    by : (n : ℕ) (b : Bool) → is_use_of f u ≡ b → uses_of f us ≡ uses_of f (take n us) → uses_of f (u ∷ us) ≡ uses_of f (take (farther n b) (u ∷ us))
    by zero true e rest = ap (λ b. cond b (u ∷ uses_of f us) (uses_of f us)) e ∙ ap (λ xs. u ∷ xs) rest ∙ sym (ap (λ b. cond b (u ∷ []) []) e)
    by zero false e rest = ap (λ b. cond b (u ∷ uses_of f us) (uses_of f us)) e ∙ rest
    by (suc n) b e rest = λ i. cond (is_use_of f u) (u ∷ rest i) (rest i)

pub reach-itself : (f : SymId) (us : List LiveUse) → reach f (take (reach f us) us) ≡ reach f us
reach-itself f [] = refl
reach-itself f (u ∷ us) = by (reach f us) (is_use_of f u) refl (reach-itself f us)
  where
    by : (n : ℕ) (b : Bool) → is_use_of f u ≡ b → reach f (take n us) ≡ n → reach f (take (farther n b) (u ∷ us)) ≡ farther n b
    by zero true e rest = ap (farther 0) e
    by zero false e rest = refl
    by (suc n) b e rest = ap (λ m. farther m (is_use_of f u)) rest

-- ---- the way back

-- the applications of the function among the first `left`, and those that were found, the last first, are all
pub record IsOnWay (us : List LiveUse) (f : SymId) (left : ℕ) (found : List (Option LiveUse)) : Type 0 where
  pub within : left ≤ length us
  pub standing : reach f (take left us) ≡ left
  pub all : map (λ (u : LiveUse). Some u) (uses_of f (take left us)) ++ reverse found ≡ map (λ (u : LiveUse). Some u) (uses_of f us)

pub way-begins : (us : List LiveUse) (f : SymId) (left : ℕ) (found : List (Option LiveUse)) → left ≡ reach f us → found ≡ [] → IsOnWay us f left found
way-begins us f left found is none_found =
    subst (λ n. IsOnWay us f n found) (sym is) (subst (IsOnWay us f (reach f us)) (sym none_found) (record {
      within = reach-within f us;
      standing = reach-itself f us;
      all = append-nil (map (λ (u : LiveUse). Some u) (uses_of f (take (reach f us) us))) ∙ ap (map (λ (u : LiveUse). Some u)) (sym (reach-all f us));
    }))

-- the last of some applications is one of the function where that reaches so far
last-is : (f : SymId) (us : List LiveUse) (u : LiveUse) → reach f (us ++ u ∷ []) ≡ suc (length us) → is_use_of f u ≡ true
last-is f us u far = by (is_use_of f u) (sym (reach-last f us u) ∙ far)
  where
    by : (b : Bool) → (if b then suc (length us) else reach f us) ≡ suc (length us) → b ≡ true
    by true e = refl
    by false e = let le = reach-within f us in absurd (omega arith)

module _ (us : List LiveUse) (f : SymId) (left p n : ℕ) (u : LiveUse) (found : List (Option LiveUse)) (is : left ≡ suc p) (at : slice_get us p ≡ Some u) (on : IsOnWay us f left found) (next : n ≡ reach u.function (take p us)) where
  more : take left us ≡ take p us ++ u ∷ []
  more = ap (λ m. take m us) is ∙ taken-one us p u at

  long : length (take p us) ≡ p
  long = let n = length-take p us in let m = on.within in omega (arith, n, is)

  same : is_use_of f u ≡ true
  same = last-is f (take p us) u (ap (reach f) (sym more) ∙ on.standing ∙ is ∙ ap suc (sym long))

  function : u.function ≡ f
  function = λ i. record { 0 = sym ((Decides-eqb f.0 u.function.0).0 same) i }

  is_reach : n ≡ reach f (take p us)
  is_reach = next ∙ ap (λ (g : SymId). reach g (take p us)) function

  fewer : n ≤ p
  fewer = let le = reach-within f (take p us) in let l = long in let r = is_reach in omega arith

  shorter : take n (take p us) ≡ take n us
  shorter = taken-fewer n p us fewer

  before : uses_of f (take p us) ≡ uses_of f (take n us)
  before = reach-all f (take p us) ∙ ap (λ m. uses_of f (take m (take p us))) (sym is_reach) ∙ ap (uses_of f) shorter

  split : uses_of f (take left us) ≡ uses_of f (take n us) ++ u ∷ []
  split = ap (uses_of f) more ∙ uses_of-append f (take p us) (u ∷ []) ∙ (λ i. before i ++ cond (same i) (u ∷ []) [])

  pub way-goes : IsOnWay us f n (found ++ Some u ∷ [])
  way-goes = record {
    within = let le = fewer in let m = on.within in omega arith;
    standing = ap (reach f) (sym shorter) ∙ ap (λ m. reach f (take m (take p us))) is_reach ∙ reach-itself f (take p us) ∙ sym is_reach;
    all =
        ap (λ xs. map (λ (v : LiveUse). Some v) (uses_of f (take n us)) ++ xs) (reverse-append found (Some u ∷ []))
        ∙ sym (append_assoc (map (λ (v : LiveUse). Some v) (uses_of f (take n us))) (Some u ∷ []) (reverse found))
        ∙ ap (λ xs. xs ++ reverse found) (sym (ap (map (λ (v : LiveUse). Some v)) split ∙ map-append (λ (v : LiveUse). Some v) (uses_of f (take n us)) (u ∷ [])))
        ∙ on.all;
  }

pub way-ends : (us : List LiveUse) (f : SymId) (left : ℕ) (found : List (Option LiveUse)) → left ≡ 0 → IsOnWay us f left found → reverse found ≡ map (λ (u : LiveUse). Some u) (uses_of f us)
way-ends us f left found none_left on = ap (λ n. map (λ (u : LiveUse). Some u) (uses_of f (take n us)) ++ reverse found) (sym none_left) ∙ on.all

pub there-is : (us : List LiveUse) (p : ℕ) → p < length us → (u : LiveUse) × (slice_get us p ≡ Some u)
there-is [] p lt = absurd (omega arith)
there-is (x ∷ us) zero lt = (x, refl)
there-is (x ∷ us) (suc p) lt = there-is us p (omega arith)

pub fewer-left : (us : List LiveUse) (p n : ℕ) (f : SymId) → n ≡ reach f (take p us) → n ≤ p
fewer-left us p n f is = let le = reach-within f (take p us) in let l = length-take p us in omega (arith, l)
