-- Constants that are drawn for terms: one for each, in order, of its sort, all of different names that were never given.
use Rattle.std.proofs.Common.{◌≡◌, suc, Bool, true, false, not, ◌⊎◌, inl, inr, List, [], ◌∷◌, ◌++◌, length, Option, Some, None, unwrap_or, refl, ap, sym, ◌∙◌, subst as carry}
use Rattle.std.proofs.lemmas.List.Elements.{All-nil, All-cons}
use Rattle.smt_terms.specs.Equal.{name_eq, symbol_eq}
use Rattle.smt_terms.specs.Free.{is_among, name_among, names_of}
use Rattle.smt_terms.specs.Fresh.{Supply, next_name, after_draw, fresh_constant, NeverGives}
use Rattle.smt_terms.specs.Groups.{draw_each}
use Rattle.smt_terms.specs.Rank.{has_name, are_distinct, sort_of}
use Rattle.smt_terms.specs.Sorts.{Name, Sort, bool, Symbol}
use Rattle.smt_terms.specs.SubstLaws.{GivesNone}
use Rattle.smt_terms.specs.Term.{Term}
use Rattle.smt_terms.proofs.Equal.{Decides-symbol_eq, name_same, name_itself, names_differ}
use Rattle.smt_terms.proofs.Fresh.{never-next, never-after, never-drawn}
use Rattle.smt_terms.proofs.Tests.{and_true, either_true, both_false, left_true, right_true, or_false, contrary}
use Rattle.term_groups.specs.Drawing.{drawn_names, DrawsForEach, DrawsConstants, DrawsNewNames, DrawsApart, DrawnAreGone, DrawingGivesLater, ConstantsAreNew}
use Rattle.term_groups.specs.Grouping.{symbols_of}

-- ---- what is drawn

pub draws-for_each : DrawsForEach
draws-for_each [] s = refl
draws-for_each (t ∷ ts) s = ap (λ us. t ∷ us) (draws-for_each ts (after_draw s))

pub draws-length : (ts : List Term) (s : Supply) → length (draw_each ts s).symbols ≡ length ts
draws-length [] s = refl
draws-length (t ∷ ts) s = ap suc (draws-length ts (after_draw s))

unwrapped : {A : Type 0} (o : Option A) (d x : A) → o ≡ Some x → unwrap_or o d ≡ x
unwrapped None d x e = absurd cc
unwrapped (Some y) d x e = cc

-- a constant of the term's sort
abbrev pub IsFor : Symbol × Term → Type 0
IsFor p = (p.0.args ≡ []) × ((to : Sort) → sort_of p.1 ≡ Some to → p.0.result ≡ to)

pub draws-constants : DrawsConstants
draws-constants [] s = All-nil IsFor
draws-constants (t ∷ ts) s =
    All-cons IsFor (fresh_constant (unwrap_or (sort_of t) bool) s, t) (draw_each ts (after_draw s)).symbols
    (refl, λ to has. unwrapped (sort_of t) bool to has)
    (draws-constants ts (after_draw s))

-- ---- their names

pub draws-later : DrawingGivesLater
draws-later [] s n never = never
draws-later (t ∷ ts) s n never = draws-later ts (after_draw s) n (never-after s n never)

pub draws-new_names : DrawsNewNames
draws-new_names [] s n never = refl
draws-new_names (t ∷ ts) s n never =
    or_false (name_eq (next_name s) n) (name_among (drawn_names ts (after_draw s)) n)
    (names_differ (next_name s) n (λ e. never-next s n never (sym e)))
    (draws-new_names ts (after_draw s) n (never-after s n never))

-- equality of names is told in either order
turned : (m n : Name) → name_eq m n ≡ false → name_eq n m ≡ false
turned m n e = names_differ n m (λ same. contrary (name_eq m n) (ap (λ k. name_eq m k) same ∙ name_itself m) e)

-- the two tests of names in lists agree where there is none
pub has_name-among : (n : Name) (ns : List Name) → name_among ns n ≡ false → has_name n ns ≡ false
has_name-among n [] h = refl
has_name-among n (m ∷ ms) h =
    let parts = both_false (name_eq m n) (name_among ms n) h in
    or_false (name_eq n m) (has_name n ms) (turned m n parts.0) (has_name-among n ms parts.1)

pub draws-apart : DrawsApart
draws-apart [] s = refl
draws-apart (t ∷ ts) s =
    and_true (not (has_name (next_name s) (drawn_names ts (after_draw s)))) (are_distinct (drawn_names ts (after_draw s)))
    (ap not (has_name-among (next_name s) (drawn_names ts (after_draw s)) (draws-new_names ts (after_draw s) (next_name s) (never-drawn s))))
    (draws-apart ts (after_draw s))

pub draws-gone : DrawnAreGone
draws-gone [] s n among = absurd cc
draws-gone (t ∷ ts) s n among = go (either_true (name_eq (next_name s) n) (name_among (drawn_names ts (after_draw s)) n) among) (draws-gone ts (after_draw s) n)
  where
    go : (name_eq (next_name s) n ≡ true) ⊎ (name_among (drawn_names ts (after_draw s)) n ≡ true)
        → (name_among (drawn_names ts (after_draw s)) n ≡ true → NeverGives (draw_each ts (after_draw s)).names n)
        → NeverGives (draw_each ts (after_draw s)).names n
    go (inl here) below = draws-later ts (after_draw s) n (carry (NeverGives (after_draw s)) (name_same (next_name s) n here) (never-drawn s))
    go (inr there) below = below there

pub constants-are_new : ConstantsAreNew
constants-are_new = record {
  each = draws-for_each;
  constants = draws-constants;
  new = draws-new_names;
  apart = draws-apart;
  gone = draws-gone;
  later = draws-later;
}

-- what was drawn gives the names that it didn't give before, nor those of what was drawn
pub draws-spare : (ts : List Term) (s : Supply) → GivesNone (draw_each ts s).names (drawn_names ts s)
draws-spare ts s n among = draws-gone ts s n among

-- ---- drawing for more terms

pub draws-more : (ts us : List Term) (s : Supply) → (draw_each (ts ++ us) s).symbols ≡ (draw_each ts s).symbols ++ (draw_each us (draw_each ts s).names).symbols
draws-more [] us s = refl
draws-more (t ∷ ts) us s = ap (λ ps. (fresh_constant (unwrap_or (sort_of t) bool) s, t) ∷ ps) (draws-more ts us (after_draw s))

pub draws-more_names : (ts us : List Term) (s : Supply) → (draw_each (ts ++ us) s).names ≡ (draw_each us (draw_each ts s).names).names
draws-more_names [] us s = refl
draws-more_names (t ∷ ts) us s = draws-more_names ts us (after_draw s)

-- ---- symbols that stand elsewhere

pub symbol-named : (fs : List Symbol) (f : Symbol) → is_among fs f ≡ true → name_among (names_of fs) f.name ≡ true
symbol-named [] f among = absurd cc
symbol-named (g ∷ gs) f among = go (either_true (symbol_eq g f) (is_among gs f) among) (symbol-named gs f)
  where
    go : (symbol_eq g f ≡ true) ⊎ (is_among gs f ≡ true) → (is_among gs f ≡ true → name_among (names_of gs) f.name ≡ true) → name_among (names_of (g ∷ gs)) f.name ≡ true
    go (inl here) below =
        let same : g ≡ f = (Decides-symbol_eq g f).0 here in
        left_true (name_eq g.name f.name) (name_among (names_of gs) f.name) (ap (λ h. name_eq h.name f.name) same ∙ name_itself f.name)
    go (inr there) below = right_true (name_eq g.name f.name) (name_among (names_of gs) f.name) (below there)

-- a symbol whose name the supply doesn't give isn't drawn
pub draws-others : (ts : List Term) (s : Supply) (f : Symbol) → NeverGives s f.name → is_among (symbols_of (draw_each ts s).symbols) f ≡ false
draws-others ts s f never = go (is_among (symbols_of (draw_each ts s).symbols) f) refl
  where
    go : (b : Bool) → is_among (symbols_of (draw_each ts s).symbols) f ≡ b → b ≡ false
    go true among = contrary (name_among (drawn_names ts s) f.name) (symbol-named (symbols_of (draw_each ts s).symbols) f among) (draws-new_names ts s f.name never)
    go false e = refl
