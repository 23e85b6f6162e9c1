-- The names that a quantifier's variables are read with are distinct, where the variables are and no name that is drawn is
-- one of the text.
use Rattle.std.proofs.Common.{◌≡◌, ◌<◌, inl, inr, Bool, true, false, not, List, [], ◌∷◌, length, map, refl, ap, subst, ◌∙◌, arith}
use Rattle.std.specs.List.{list_all}
use Rattle.smt_terms.specs.Equal.{name_eq}
use Rattle.smt_terms.specs.Free.{name_among}
use Rattle.smt_terms.specs.Fresh.{Supply, next_name, after_draw, NeverGives}
use Rattle.smt_terms.specs.Rank.{is_quantifiable, has_name, are_distinct, are_bindable}
use Rattle.smt_terms.specs.Sorts.{Name, Variable}
use Rattle.smt_terms.proofs.Fresh.{next_name-free, never-next, never-after, never-drawn}
use Rattle.smt_terms.proofs.Tests.{true_or_false, both_true, and_true, both_false, or_false, not_true}
use Rattle.script_terms.specs.Read.{constant_names, renamed}
use Rattle.smt_print.proofs.Contexts.{other_name}

abbrev pub names_in : List Variable → List Name
names_in xs = map (λ x. x.name) xs

-- each variable's name is one of these
abbrev pub AreAmong : List Name → List Variable → Type 0
AreAmong taken [] = Unit {0}
AreAmong taken (x ∷ xs) = (name_among taken x.name ≡ true) × AreAmong taken xs

-- a taken name is never drawn
never_taken : (s : Supply) (n : Name) → name_among s.taken n ≡ true → NeverGives s n
never_taken s n taken i h same = taken

not_drawn : (s : Supply) (n : Name) → NeverGives s n → name_eq n (next_name s) ≡ false
not_drawn s n never = other_name n (next_name s) (never-next s n never)

-- a name that the variables haven't, and that is never drawn, is none of their constants' names
apart : (n : Name) (is_taken : Name → Bool) (xs : List Variable) (s : Supply) → has_name n (names_in xs) ≡ false → NeverGives s n → has_name n (constant_names is_taken xs s).0 ≡ false
apart n is_taken [] s other never = refl
apart n is_taken (x ∷ xs) s other never =
    let parts = both_false (name_eq n x.name) (has_name n (names_in xs)) other in
    elim (true_or_false (is_taken x.name)) [
      | inl drawn ↦ rw drawn (or_false (name_eq n (next_name s)) (has_name n (constant_names is_taken xs (after_draw s)).0) (not_drawn s n never) (apart n is_taken xs (after_draw s) parts.1 (never-after s n never)))
      | inr kept ↦ rw kept (or_false (name_eq n x.name) (has_name n (constant_names is_taken xs s).0) parts.0 (apart n is_taken xs s parts.1 never))
    ]

next_new : (s : Supply) (xs : List Variable) → AreAmong s.taken xs → has_name (next_name s) (names_in xs) ≡ false
next_new s [] taken = refl
next_new s (x ∷ xs) taken =
    or_false (name_eq (next_name s) x.name) (has_name (next_name s) (names_in xs))
    (other_name (next_name s) x.name (λ same. absurd (
    let free : name_among s.taken x.name ≡ false = subst (λ n. name_among s.taken n ≡ false) same (next_name-free s) in
    let there : name_among s.taken x.name ≡ true = taken.0 in
    cc
    )))
    (next_new s xs taken.1)

pub drawn_distinct : (is_taken : Name → Bool) (xs : List Variable) (s : Supply) → are_distinct (names_in xs) ≡ true → AreAmong s.taken xs → are_distinct (constant_names is_taken xs s).0 ≡ true
drawn_distinct is_taken [] s distinct taken = refl
drawn_distinct is_taken (x ∷ xs) s distinct taken =
    let parts = both_true (not (has_name x.name (names_in xs))) (are_distinct (names_in xs)) distinct in
    elim (true_or_false (is_taken x.name)) [
      | inl drawn ↦ rw drawn (
          and_true (not (has_name (next_name s) (constant_names is_taken xs (after_draw s)).0)) (are_distinct (constant_names is_taken xs (after_draw s)).0)
          (ap not (apart (next_name s) is_taken xs (after_draw s) (next_new s xs taken.1) (never-drawn s)))
          (drawn_distinct is_taken xs (after_draw s) parts.1 taken.1)
          )
      | inr kept ↦ rw kept (
          and_true (not (has_name x.name (constant_names is_taken xs s).0)) (are_distinct (constant_names is_taken xs s).0)
          (ap not (apart x.name is_taken xs s (not_true (has_name x.name (names_in xs)) parts.0) (never_taken s x.name taken.0)))
          (drawn_distinct is_taken xs s parts.1 taken.1)
          )
    ]

renamed_names : (is_taken : Name → Bool) (xs : List Variable) (s : Supply) → names_in (renamed xs (constant_names is_taken xs s).0) ≡ (constant_names is_taken xs s).0
renamed_names is_taken [] s = refl
renamed_names is_taken (x ∷ xs) s = elim (true_or_false (is_taken x.name)) [
  | inl drawn ↦ rw drawn (ap (λ ns. next_name s ∷ ns) (renamed_names is_taken xs (after_draw s)))
  | inr kept ↦ rw kept (ap (λ ns. x.name ∷ ns) (renamed_names is_taken xs s))
]

renamed_quantifiable : (xs : List Variable) (ns : List Name) → list_all (λ x. is_quantifiable x.sort) xs ≡ true → list_all (λ x. is_quantifiable x.sort) (renamed xs ns) ≡ true
renamed_quantifiable [] ns all = refl
renamed_quantifiable (x ∷ xs) [] all = refl
renamed_quantifiable (x ∷ xs) (n ∷ ns) all =
    let parts = both_true (is_quantifiable x.sort) (list_all (λ x. is_quantifiable x.sort) xs) all in
    and_true (is_quantifiable x.sort) (list_all (λ x. is_quantifiable x.sort) (renamed xs ns)) parts.0 (renamed_quantifiable xs ns parts.1)

bindable : (y : Variable) (ys : List Variable) → are_distinct (names_in (y ∷ ys)) ≡ true → list_all (λ x. is_quantifiable x.sort) (y ∷ ys) ≡ true → are_bindable (y ∷ ys) ≡ true
bindable y ys distinct all = and_true (are_distinct (names_in (y ∷ ys))) (list_all (λ x. is_quantifiable x.sort) (y ∷ ys)) distinct all

-- variables, one or more, are distinct and of sorts that may be quantified
pub bindable_parts : (x : Variable) (xs : List Variable) → are_bindable (x ∷ xs) ≡ true → (are_distinct (names_in (x ∷ xs)) ≡ true) × (list_all (λ x. is_quantifiable x.sort) (x ∷ xs) ≡ true)
bindable_parts x xs h = both_true (are_distinct (names_in (x ∷ xs))) (list_all (λ x. is_quantifiable x.sort) (x ∷ xs)) h

some_renamed : (x : Variable) (xs : List Variable) (ns : List Name) → are_distinct (names_in (renamed (x ∷ xs) ns)) ≡ true → list_all (λ x. is_quantifiable x.sort) (renamed (x ∷ xs) ns) ≡ true → 0 < length ns
    → are_bindable (renamed (x ∷ xs) ns) ≡ true
some_renamed x xs [] distinct all some = absurd (omega arith)
some_renamed x xs (n ∷ ns) distinct all some = bindable (record { name = n; sort = x.sort }) (renamed xs ns) distinct all

some_names : (is_taken : Name → Bool) (x : Variable) (xs : List Variable) (s : Supply) → 0 < length (constant_names is_taken (x ∷ xs) s).0
some_names is_taken x xs s = elim (true_or_false (is_taken x.name)) [ inl drawn ↦ rw drawn (omega arith) | inr kept ↦ rw kept (omega arith) ]

pub renamed_bindable : (is_taken : Name → Bool) (x : Variable) (xs : List Variable) (s : Supply) → are_bindable (x ∷ xs) ≡ true → AreAmong s.taken (x ∷ xs)
    → are_bindable (renamed (x ∷ xs) (constant_names is_taken (x ∷ xs) s).0) ≡ true
renamed_bindable is_taken x xs s h taken =
    let parts = bindable_parts x xs h in
    some_renamed x xs (constant_names is_taken (x ∷ xs) s).0
    (ap are_distinct (renamed_names is_taken (x ∷ xs) s) ∙ drawn_distinct is_taken (x ∷ xs) s parts.0 taken)
    (renamed_quantifiable (x ∷ xs) (constant_names is_taken (x ∷ xs) s).0 parts.1) (some_names is_taken x xs s)
