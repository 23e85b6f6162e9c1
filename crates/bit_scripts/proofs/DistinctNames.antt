-- Lists of symbols whose names are different: their parts, their joins, and what is found among them.
use Rattle.std.proofs.Common.{◌≡◌, ◌≢◌, ◌∙◌, sym, ap, refl, subst, Bool, true, false, cond, not, ◌⊎◌, inl, inr, List, [], ◌∷◌, ◌++◌, filter, All}
use Rattle.std.specs.Prelude.{bytes_eq}
use Rattle.std.proofs.lemmas.List.Elements.{All-nil, All-cons, All-head, All-tail}
use Rattle.smt_lex.specs.Names.{is_among as is_among_names}
use Rattle.smt_terms.specs.Equal.{name_eq, symbol_eq}
use Rattle.smt_terms.specs.Free.{is_among, names_of}
use Rattle.smt_terms.specs.Rank.{has_name, are_distinct}
use Rattle.smt_terms.specs.Sorts.{Name, Symbol}
use Rattle.smt_terms.proofs.Among.{is_among-append}
use Rattle.smt_terms.proofs.ClearTerms.{Apart, apart_front}
use Rattle.smt_terms.proofs.Equal.{name_itself, names_differ, Decides-symbol_eq}
use Rattle.smt_terms.proofs.Tests.{both_true, and_true, both_false, or_false, either_true, left_true, right_true, not_true, contrary}

-- ---- symbols among others

pub among_left : (fs gs : List Symbol) (f : Symbol) → is_among fs f ≡ true → is_among (fs ++ gs) f ≡ true
among_left fs gs f among = is_among-append fs gs f ∙ left_true (is_among fs f) (is_among gs f) among

pub among_right : (fs gs : List Symbol) (f : Symbol) → is_among gs f ≡ true → is_among (fs ++ gs) f ≡ true
among_right fs gs f among = is_among-append fs gs f ∙ right_true (is_among fs f) (is_among gs f) among

pub among_one : (f g : Symbol) → is_among (f ∷ []) g ≡ true → f ≡ g
among_one f g among =
    elim (either_true (symbol_eq f g) false among) [
      | inl same ↦ (Decides-symbol_eq f g).0 same
      | inr other ↦ absurd cc
    ]

-- what holds of each symbol of a list holds of one that is among them
pub of_among : (P : Symbol → Type 0) (fs : List Symbol) (f : Symbol) → All P fs → is_among fs f ≡ true → P f
of_among P [] f all among = absurd cc
of_among P (g ∷ fs) f all among = go (either_true (symbol_eq g f) (is_among fs f) among) (of_among P fs f (All-tail P g fs all))
  where
    go : (symbol_eq g f ≡ true) ⊎ (is_among fs f ≡ true) → (is_among fs f ≡ true → P f) → P f
    go (inl here) below = subst P ((Decides-symbol_eq g f).0 here) (All-head P g fs all)
    go (inr there) below = below there

-- ---- names

-- none of the first names is among the second
abbrev pub AreOthers : List Symbol → List Symbol → Type 0
AreOthers fs gs = All (λ f. has_name f.name (names_of gs) ≡ false) fs

pub joined_distinct : (fs gs : List Symbol) → are_distinct (names_of fs) ≡ true → are_distinct (names_of gs) ≡ true → AreOthers fs gs → are_distinct (names_of (fs ++ gs)) ≡ true
joined_distinct [] gs first second others = second
joined_distinct (f ∷ fs) gs first second others =
    let parts = both_true (not (has_name f.name (names_of fs))) (are_distinct (names_of fs)) first in
    and_true (not (has_name f.name (names_of (fs ++ gs)))) (are_distinct (names_of (fs ++ gs)))
    (ap not (in_neither fs (not_true (has_name f.name (names_of fs)) parts.0)))
    (joined_distinct fs gs parts.1 second (All-tail (λ (h : Symbol). has_name h.name (names_of gs) ≡ false) f fs others))
  where
    in_neither : (hs : List Symbol) → has_name f.name (names_of hs) ≡ false → has_name f.name (names_of (hs ++ gs)) ≡ false
    in_neither [] none = All-head (λ (h : Symbol). has_name h.name (names_of gs) ≡ false) f fs others
    in_neither (h ∷ hs) none =
        let parts = both_false (name_eq f.name h.name) (has_name f.name (names_of hs)) none in
        or_false (name_eq f.name h.name) (has_name f.name (names_of (hs ++ gs))) parts.0 (in_neither hs parts.1)

missing_left : (f : Symbol) (fs gs : List Symbol) → has_name f.name (names_of (fs ++ gs)) ≡ false → has_name f.name (names_of fs) ≡ false
missing_left f [] gs none = refl
missing_left f (h ∷ fs) gs none =
    let parts = both_false (name_eq f.name h.name) (has_name f.name (names_of (fs ++ gs))) none in
    or_false (name_eq f.name h.name) (has_name f.name (names_of fs)) parts.0 (missing_left f fs gs parts.1)

missing_right : (f : Symbol) (fs gs : List Symbol) → has_name f.name (names_of (fs ++ gs)) ≡ false → has_name f.name (names_of gs) ≡ false
missing_right f [] gs none = none
missing_right f (h ∷ fs) gs none = missing_right f fs gs (both_false (name_eq f.name h.name) (has_name f.name (names_of (fs ++ gs))) none).1

pub left_distinct : (fs gs : List Symbol) → are_distinct (names_of (fs ++ gs)) ≡ true → are_distinct (names_of fs) ≡ true
left_distinct [] gs all = refl
left_distinct (f ∷ fs) gs all =
    let parts = both_true (not (has_name f.name (names_of (fs ++ gs)))) (are_distinct (names_of (fs ++ gs))) all in
    and_true (not (has_name f.name (names_of fs))) (are_distinct (names_of fs))
    (ap not (missing_left f fs gs (not_true (has_name f.name (names_of (fs ++ gs))) parts.0)))
    (left_distinct fs gs parts.1)

pub parts_differ : (fs gs : List Symbol) → are_distinct (names_of (fs ++ gs)) ≡ true → AreOthers fs gs
parts_differ [] gs all = All-nil (λ (h : Symbol). has_name h.name (names_of gs) ≡ false)
parts_differ (f ∷ fs) gs all =
    let parts = both_true (not (has_name f.name (names_of (fs ++ gs)))) (are_distinct (names_of (fs ++ gs))) all in
    All-cons (λ (h : Symbol). has_name h.name (names_of gs) ≡ false) f fs
    (missing_right f fs gs (not_true (has_name f.name (names_of (fs ++ gs))) parts.0))
    (parts_differ fs gs parts.1)

-- a name is told from another in either order
turned : (m n : Name) → name_eq m n ≡ false → name_eq n m ≡ false
turned m n other = names_differ n m (λ same. contrary (name_eq m n) (ap (λ k. name_eq m k) same ∙ name_itself m) other)

pub not_among : (fs : List Symbol) (f : Symbol) (gs : List Symbol) → AreOthers fs (f ∷ gs) → is_among_names (names_of fs) f.name ≡ false
not_among [] f gs others = refl
not_among (h ∷ fs) f gs others =
    or_false (bytes_eq f.name h.name) (is_among_names (names_of fs) f.name)
    (turned h.name f.name (both_false (name_eq h.name f.name) (has_name h.name (names_of gs)) (All-head (λ (k : Symbol). has_name k.name (names_of (f ∷ gs)) ≡ false) h fs others)).0)
    (not_among fs f gs (All-tail (λ (k : Symbol). has_name k.name (names_of (f ∷ gs)) ≡ false) h fs others))

pub others_than : (fs : List Symbol) (f : Symbol) → is_among_names (names_of fs) f.name ≡ false → AreOthers fs (f ∷ [])
others_than [] f none = All-nil (λ (k : Symbol). has_name k.name (f.name ∷ []) ≡ false)
others_than (h ∷ fs) f none =
    let parts = both_false (bytes_eq f.name h.name) (is_among_names (names_of fs) f.name) none in
    All-cons (λ (k : Symbol). has_name k.name (f.name ∷ []) ≡ false) h fs
    (or_false (name_eq h.name f.name) false (turned f.name h.name parts.0) refl)
    (others_than fs f parts.1)

missing_kept : (p : Symbol → Bool) (n : Name) (fs : List Symbol) → has_name n (names_of fs) ≡ false → has_name n (names_of (filter p fs)) ≡ false
missing_kept p n [] none = refl
missing_kept p n (f ∷ fs) none = let parts = both_false (name_eq n f.name) (has_name n (names_of fs)) none in go (p f) parts.0 (missing_kept p n fs parts.1)
  where
    go : (b : Bool) → name_eq n f.name ≡ false → has_name n (names_of (filter p fs)) ≡ false → has_name n (names_of (cond b (f ∷ filter p fs) (filter p fs))) ≡ false
    go true here below = or_false (name_eq n f.name) (has_name n (names_of (filter p fs))) here below
    go false here below = below

pub kept_distinct : (p : Symbol → Bool) (fs : List Symbol) → are_distinct (names_of fs) ≡ true → are_distinct (names_of (filter p fs)) ≡ true
kept_distinct p [] all = refl
kept_distinct p (f ∷ fs) all =
    let parts = both_true (not (has_name f.name (names_of fs))) (are_distinct (names_of fs)) all in
    go (p f) (missing_kept p f.name fs (not_true (has_name f.name (names_of fs)) parts.0)) (kept_distinct p fs parts.1)
  where
    go : (b : Bool) → has_name f.name (names_of (filter p fs)) ≡ false → are_distinct (names_of (filter p fs)) ≡ true → are_distinct (names_of (cond b (f ∷ filter p fs) (filter p fs))) ≡ true
    go true none below = and_true (not (has_name f.name (names_of (filter p fs)))) (are_distinct (names_of (filter p fs))) (ap not none) below
    go false none below = below

named_else : (n : Name) (fs : List Symbol) → has_name n (names_of fs) ≡ false → (g : Symbol) → is_among fs g ≡ true → n ≢ g.name
named_else n [] none g among = absurd cc
named_else n (f ∷ fs) none g among =
    let parts = both_false (name_eq n f.name) (has_name n (names_of fs)) none in
    go parts.0 (either_true (symbol_eq f g) (is_among fs g) among) (named_else n fs parts.1 g)
  where
    go : name_eq n f.name ≡ false → (symbol_eq f g ≡ true) ⊎ (is_among fs g ≡ true) → (is_among fs g ≡ true → n ≢ g.name) → n ≢ g.name
    go other (inl here) below same =
        contrary {A = ⊥} (name_eq n f.name) (ap (name_eq n) (ap (λ (h : Symbol). h.name) ((Decides-symbol_eq f g).0 here) ∙ sym same) ∙ name_itself n) other
    go other (inr there) below same = below there same

-- symbols of different names are told by their names
pub distinct_apart : (fs : List Symbol) → are_distinct (names_of fs) ≡ true → Apart fs
distinct_apart [] all = λ g h a b same. absurd cc
distinct_apart (f ∷ fs) all =
    let parts = both_true (not (has_name f.name (names_of fs))) (are_distinct (names_of fs)) all in
    apart_front f fs (distinct_apart fs parts.1) (named_else f.name fs (not_true (has_name f.name (names_of fs)) parts.0))
