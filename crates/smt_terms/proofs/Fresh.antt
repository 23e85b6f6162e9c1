-- What a supply gives: different numbers have different names, a name that is drawn isn't taken, and numbers only rise.
use Rattle.std.proofs.Common.{◌≡◌, ◌≢◌, ℕ, zero, suc, ◌+◌, ◌<◌, ◌≤◌, Bool, true, false, not, cond, ◌||◌, ◌⊎◌, inl, inr, nat_lt, List, [], ◌∷◌, length, refl, ap, sym, ◌∙◌, arith}
use Rattle.std.specs.List.{filter}
use Rattle.std.proofs.lemmas.Bool.{ltb-true, ltb-false}
use Rattle.std.proofs.lemmas.List.Filters.{length-filter_both}
use Rattle.smt_terms.specs.Sorts.{Name}
use Rattle.smt_terms.specs.Equal.{name_eq}
use Rattle.smt_terms.specs.Free.{name_among}
use Rattle.smt_terms.specs.Fresh.{Supply, numbered_name, free_number, next_number, next_name, after_draw, NeverGives}
use Rattle.smt_terms.proofs.Equal.{Decides-name_eq}
use Rattle.smt_terms.proofs.Numeral.{numeral-injective}

tail_of : List ℕ → List ℕ
tail_of [] = []
tail_of (n ∷ ns) = ns

pub numbered_name-injective : (i j : ℕ) → numbered_name i ≡ numbered_name j → i ≡ j
unfolding tail_of
numbered_name-injective i j e = numeral-injective i j (ap (λ ns. tail_of (tail_of ns)) e)

-- ---- numbers rise

pub from_start : (taken : List Name) (room i : ℕ) → i ≤ free_number taken room i
from_start taken zero i = omega arith
from_start taken (suc room) i = go (name_among taken (numbered_name i)) (from_start taken room (suc i))
  where
    go : (b : Bool) → suc i ≤ free_number taken room (suc i) → i ≤ elim b [ true ↦ free_number taken room (suc i) | false ↦ i ]
    go true h = omega arith
    go false h = omega arith

pub number-rises : (s : Supply) → s.number < (after_draw s).number
number-rises s =
    let h : s.number ≤ next_number s = from_start s.taken (length s.taken) s.number in
    omega arith

-- ---- lists of names without one

others : Name → List Name → List Name
others n ms = filter (λ m. not (name_eq m n)) ms

one_of : Name → List Name → List Name
one_of n ms = filter (λ m. name_eq m n) ms

first_else : (n m : Name) (ms : List Name) (b : Bool) → name_eq m n ≡ b → name_among (m ∷ ms) n ≡ (b || name_among ms n)
first_else n m ms b e = ap (λ c. c || name_among ms n) e

in_one_of : (n : Name) (ms : List Name) → name_among ms n ≡ true → 1 ≤ length (one_of n ms)
unfolding one_of
in_one_of n [] h = absurd cc
in_one_of n (m ∷ ms) h = go (name_eq m n) refl (in_one_of n ms)
  where
    go : (b : Bool) → name_eq m n ≡ b → (name_among ms n ≡ true → 1 ≤ length (one_of n ms)) → 1 ≤ length (cond b (m ∷ one_of n ms) (one_of n ms))
    go true e below = omega arith
    go false e below = below (sym (first_else n m ms false e) ∙ h)

fewer_others : (n : Name) (ms : List Name) → name_among ms n ≡ true → length (others n ms) < length ms
unfolding others one_of
fewer_others n ms h =
    let all : length (others n ms) + length (one_of n ms) ≡ length ms = length-filter_both (λ m. not (name_eq m n)) (λ m. name_eq m n) (λ m. not_not (name_eq m n)) ms in
    let some : 1 ≤ length (one_of n ms) = in_one_of n ms h in
    omega arith
  where
    not_not : (b : Bool) → b ≡ not (not b)
    not_not true = refl
    not_not false = refl

among_others : (n k : Name) → n ≢ k → (ms : List Name) → name_among (others n ms) k ≡ name_among ms k
unfolding others
among_others n k apart [] = refl
among_others n k apart (m ∷ ms) = go (name_eq m n) refl (among_others n k apart ms)
  where
    other : (b : Bool) → name_eq m k ≡ b → m ≡ n → b ≡ false
    other true e same = absurd (apart (sym same ∙ (Decides-name_eq m k).0 e))
    other false e same = refl

    go : (b : Bool) → name_eq m n ≡ b → name_among (others n ms) k ≡ name_among ms k → name_among (cond (not b) (m ∷ others n ms) (others n ms)) k ≡ (name_eq m k || name_among ms k)
    go true e below =
        let gone : name_eq m k ≡ false = other (name_eq m k) refl ((Decides-name_eq m n).0 e) in
        below ∙ sym (ap (λ b. b || name_among ms k) gone)
    go false e below = ap (λ b. name_eq m k || b) below

-- ---- the search

le_split : (i j : ℕ) → i ≤ j → (i ≡ j) ⊎ (suc i ≤ j)
le_split i j h = go (nat_lt i j) refl
  where
    go : (b : Bool) → nat_lt i j ≡ b → (i ≡ j) ⊎ (suc i ≤ j)
    go true e = inr (ltb-true i j e)
    go false e = let back : j ≤ i = ltb-false i j e in inl (omega arith)

abbrev chosen : Bool → ℕ → ℕ → ℕ
chosen b x i = elim b [ true ↦ x | false ↦ i ]

same_choice : (b c : Bool) (i x y : ℕ) → b ≡ c → x ≡ y → chosen b x i ≡ chosen c y i
same_choice true true i x y e h = h
same_choice false false i x y e h = refl
same_choice true false i x y e h = absurd cc
same_choice false true i x y e h = absurd cc

same_search : (ms ns : List Name) (room i : ℕ) → ((j : ℕ) → i ≤ j → name_among ms (numbered_name j) ≡ name_among ns (numbered_name j)) → free_number ms room i ≡ free_number ns room i
same_search ms ns zero i same = refl
same_search ms ns (suc room) i same =
    same_choice (name_among ms (numbered_name i)) (name_among ns (numbered_name i)) i (free_number ms room (suc i)) (free_number ns room (suc i))
    (same i (omega arith))
    (same_search ms ns room (suc i) (λ j h. same j (omega arith)))

-- the name at the number found isn't taken, where the search has as much room as there are names
pub found-free : (room : ℕ) (taken : List Name) (i : ℕ) → length taken ≤ room → name_among taken (numbered_name (free_number taken room i)) ≡ false
found-free zero [] i h = refl
found-free zero (m ∷ ms) i h = absurd (omega arith)
found-free (suc room) taken i h = go (name_among taken (numbered_name i)) refl (found-free room (others (numbered_name i) taken) (suc i))
  where
    rest : List Name
    rest = others (numbered_name i) taken

    go : (b : Bool) → name_among taken (numbered_name i) ≡ b → (length rest ≤ room → name_among rest (numbered_name (free_number rest room (suc i))) ≡ false) → name_among taken (numbered_name (elim b [ true ↦ free_number taken room (suc i) | false ↦ i ])) ≡ false
    go false e below = e
    go true e below =
        let fewer : length rest < length taken = fewer_others (numbered_name i) taken e in
        let alike : (j : ℕ) → suc i ≤ j → name_among rest (numbered_name j) ≡ name_among taken (numbered_name j) = λ j k. among_others (numbered_name i) (numbered_name j) (λ same. absurd (differ j k (numbered_name-injective i j same))) taken in
        let found : free_number rest room (suc i) ≡ free_number taken room (suc i) = same_search rest taken room (suc i) alike in
        let there : name_among rest (numbered_name (free_number taken room (suc i))) ≡ false = ap (λ j. name_among rest (numbered_name j)) (sym found) ∙ below (omega arith) in
        sym (alike (free_number taken room (suc i)) (from_start taken room (suc i))) ∙ there
      where
        differ : (j : ℕ) → suc i ≤ j → i ≡ j → ⊥
        differ j k same = absurd (omega arith)

pub next_name-free : (s : Supply) → name_among s.taken (next_name s) ≡ false
next_name-free s = found-free (length s.taken) s.taken s.number (omega arith)

-- and every number before it has a name that is taken
found-least : (room : ℕ) (taken : List Name) (i j : ℕ) → i ≤ j → j < free_number taken room i → name_among taken (numbered_name j) ≡ true
found-least zero taken i j h k = absurd (omega arith)
found-least (suc room) taken i j h k = go (name_among taken (numbered_name i)) refl k (found-least room taken (suc i) j)
  where
    go : (b : Bool) → name_among taken (numbered_name i) ≡ b → j < elim b [ true ↦ free_number taken room (suc i) | false ↦ i ] → (suc i ≤ j → j < free_number taken room (suc i) → name_among taken (numbered_name j) ≡ true) → name_among taken (numbered_name j) ≡ true
    go false e l below = absurd (omega arith)
    go true e l below = first_or (le_split i j h) below
      where
        first_or : (i ≡ j) ⊎ (suc i ≤ j) → (suc i ≤ j → j < free_number taken room (suc i) → name_among taken (numbered_name j) ≡ true) → name_among taken (numbered_name j) ≡ true
        first_or (inl same) further = ap (λ n. name_among taken (numbered_name n)) (sym same) ∙ e
        first_or (inr less) further = further less l

pub next-least : (s : Supply) (i : ℕ) → s.number ≤ i → i < next_number s → name_among s.taken (numbered_name i) ≡ true
next-least s i = found-least (length s.taken) s.taken s.number i

pub next-later : (s : Supply) → s.number ≤ next_number s
next-later s = from_start s.taken (length s.taken) s.number

-- ---- what a supply never gives

pub never-next : (s : Supply) (n : Name) → NeverGives s n → n ≢ next_name s
never-next s n never same =
    let at : s.number ≤ next_number s = from_start s.taken (length s.taken) s.number in
    let there : name_among s.taken n ≡ true = never (next_number s) at same in
    let free : name_among s.taken n ≡ false = ap (λ m. name_among s.taken m) same ∙ next_name-free s in
    cc

pub never-after : (s : Supply) (n : Name) → NeverGives s n → NeverGives (after_draw s) n
never-after s n never i h same =
    let rises : s.number < (after_draw s).number = number-rises s in
    never i (omega arith) same

pub never-drawn : (s : Supply) → NeverGives (after_draw s) (next_name s)
never-drawn s i h same =
    let at : next_number s ≡ i = numbered_name-injective (next_number s) i same in
    absurd (omega arith)
