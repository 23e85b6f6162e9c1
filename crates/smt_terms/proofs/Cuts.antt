-- Maps that are cut down to some symbols, and the names in their images.
use Rattle.std.proofs.Common.{◌≡◌, Bool, true, false, not, cond, ◌&&◌, ◌||◌, List, [], ◌∷◌, ◌++◌, map, Option, Some, None, refl, ap, sym, ◌∙◌}
use Rattle.std.specs.Prelude.{⊤, option_map}
use Rattle.std.specs.List.{cons_option}
use Rattle.smt_terms.specs.Sorts.{Name, Symbol, Variable}
use Rattle.smt_terms.specs.Term.{Term, constant_of}
use Rattle.smt_terms.specs.Equal.{name_eq, symbol_eq, term_eq}
use Rattle.smt_terms.specs.Free.{is_among, name_among, names_of, without, free}
use Rattle.smt_terms.specs.Fresh.{Supply}
use Rattle.smt_terms.specs.Subst.{Map, image, cut_to, names_in, map_eq}
use Rattle.smt_terms.specs.SubstLaws.{HaveSorts, GivesNoImage}
use Rattle.smt_terms.proofs.Tests.{both_true, left_true, right_true}
use Rattle.smt_terms.proofs.Equal.{Decides-symbol_eq, Decides-term_eq}
use Rattle.smt_terms.proofs.Among.{is_among-without}
use Rattle.smt_terms.proofs.Runs.{NoneNamed, ImagesApart, KeysFree}

pub name_among-append : (ms ns : List Name) (n : Name) → name_among (ms ++ ns) n ≡ (name_among ms n || name_among ns n)
name_among-append [] ns n = refl
name_among-append (m ∷ ms) ns n = ap (λ b. name_eq m n || b) (name_among-append ms ns n) ∙ grouped (name_eq m n) (name_among ms n) (name_among ns n)
  where
    grouped : (a b c : Bool) → (a || (b || c)) ≡ ((a || b) || c)
    grouped true b c = refl
    grouped false b c = refl

-- ---- the images of a map that is cut

first-image : (b : Bool) (g f : Symbol) (u : Term) (rest : Map) → symbol_eq g f ≡ b → image ((g, u) ∷ rest) f ≡ cond b (Some u) (image rest f)
first-image b g f u rest e = ap (λ c. cond c (Some u) (image rest f)) e

pub image-cut : (fs : List Symbol) (m : Map) (f : Symbol) → image (cut_to fs m) f ≡ cond (is_among fs f) (image m f) None
image-cut [] m f = refl
image-cut (g ∷ fs) m f = go (image m g) refl (symbol_eq g f) refl (image-cut fs m f)
  where
    nothing : (a : Bool) (o : Option Term) → o ≡ None → cond a o None ≡ o
    nothing true o e = refl
    nothing false o e = sym e

    go : (o : Option Term) → image m g ≡ o → (b : Bool) → symbol_eq g f ≡ b → image (cut_to fs m) f ≡ cond (is_among fs f) (image m f) None → image (cons_option (option_map (λ t. (g, t)) o) (cut_to fs m)) f ≡ cond (b || is_among fs f) (image m f) None
    go None e true here below =
        let same : image m f ≡ None = ap (image m) (sym ((Decides-symbol_eq g f).0 here)) ∙ e in
        below ∙ nothing (is_among fs f) (image m f) same
    go None e false other below = below
    go (Some u) e true here below =
        first-image true g f u (cut_to fs m) here ∙ sym e ∙ ap (image m) ((Decides-symbol_eq g f).0 here)
    go (Some u) e false other below = first-image false g f u (cut_to fs m) other ∙ below

pub cut-image : (fs : List Symbol) (m : Map) (f : Symbol) (u : Term) → image (cut_to fs m) f ≡ Some u → (is_among fs f ≡ true) × (image m f ≡ Some u)
cut-image fs m f u found = go (is_among fs f) refl (sym (image-cut fs m f) ∙ found)
  where
    go : (b : Bool) → is_among fs f ≡ b → cond b (image m f) None ≡ Some u → (is_among fs f ≡ true) × (image m f ≡ Some u)
    go true e h = (e, h)
    go false e h = absurd cc

pub cut-sorts : (fs : List Symbol) (m : Map) → HaveSorts m → HaveSorts (cut_to fs m)
cut-sorts fs m have g u found = have g u (cut-image fs m g u found).1

pub cut-spared : (s : Supply) (fs : List Symbol) (m : Map) → GivesNoImage s m → GivesNoImage s (cut_to fs m)
cut-spared s fs m none g u found = none g u (cut-image fs m g u found).1

-- ---- names in images

image-names : (m : Map) (g : Symbol) (u : Term) → image m g ≡ Some u → (n : Name) → name_among (names_of (free u)) n ≡ true → name_among (names_in m) n ≡ true
image-names [] g u found n among = absurd cc
image-names (p ∷ ps) g u found n among = name_among-append (names_of (free p.1)) (names_in ps) n ∙ go (symbol_eq p.0 g) found (image-names ps g u)
  where
    go : (b : Bool) → cond b (Some p.1) (image ps g) ≡ Some u → (image ps g ≡ Some u → (k : Name) → name_among (names_of (free u)) k ≡ true → name_among (names_in ps) k ≡ true) → (name_among (names_of (free p.1)) n || name_among (names_in ps) n) ≡ true
    go true e below =
        let same : p.1 ≡ u = cc in
        left_true (name_among (names_of (free p.1)) n) (name_among (names_in ps) n) (ap (λ t. name_among (names_of (free t)) n) same ∙ among)
    go false e below = right_true (name_among (names_of (free p.1)) n) (name_among (names_in ps) n) (below e n among)

captured-unnamed : (c : List Name) (xs : List Variable) (n : Name) → name_among c n ≡ true → NoneNamed c xs n
captured-unnamed c [] n among = tt
captured-unnamed c (x ∷ xs) n among = (λ kept same. not_both (sym (ap (name_among c) same) ∙ kept), captured-unnamed c xs n among)
  where
    not_both : name_among c n ≡ false → ⊥
    not_both kept = absurd cc

pub names-apart : (xs : List Variable) (m : Map) → ImagesApart (names_in m) xs m
names-apart xs m g u found n among = captured-unnamed (names_in m) xs n (image-names m g u found n among)

-- ---- bound variables have no image

AllBound : List Variable → List Variable → Type 0
AllBound zs [] = ⊤
AllBound zs (x ∷ xs) = (is_among (map constant_of zs) (constant_of x) ≡ true) × AllBound zs xs

one-more : (z : Variable) (zs xs : List Variable) → AllBound zs xs → AllBound (z ∷ zs) xs
unfolding AllBound
one-more z zs [] bound = tt
one-more z zs (x ∷ xs) bound = (right_true (symbol_eq (constant_of z) (constant_of x)) (is_among (map constant_of zs) (constant_of x)) bound.0, one-more z zs xs bound.1)

all-bound : (xs : List Variable) → AllBound xs xs
unfolding AllBound
all-bound [] = tt
all-bound (x ∷ xs) =
    (left_true (symbol_eq (constant_of x) (constant_of x)) (is_among (map constant_of xs) (constant_of x)) ((Decides-symbol_eq (constant_of x) (constant_of x)).1 refl), one-more x xs xs (all-bound xs))

bound-keys : (c : List Name) (zs xs : List Variable) (fs : List Symbol) (m : Map) → AllBound zs xs → KeysFree c (cut_to (without zs fs) m) xs
unfolding AllBound
bound-keys c zs [] fs m bound = tt
bound-keys c zs (x ∷ xs) fs m bound = (λ kept. none_there (is_among (without zs fs) (constant_of x)) gone, bound-keys c zs xs fs m bound.1)
  where
    hidden : (a b : Bool) → b ≡ true → (a && not b) ≡ false
    hidden true true e = refl
    hidden false b e = refl
    hidden true false e = absurd cc

    gone : is_among (without zs fs) (constant_of x) ≡ false
    gone = is_among-without zs fs (constant_of x) ∙ hidden (is_among fs (constant_of x)) (is_among (map constant_of zs) (constant_of x)) bound.0

    none_there : (b : Bool) → is_among (without zs fs) (constant_of x) ≡ false → image (cut_to (without zs fs) m) (constant_of x) ≡ None
    none_there b e = image-cut (without zs fs) m (constant_of x) ∙ ap (λ c. cond c (image m (constant_of x)) None) e

pub keys-free : (c : List Name) (xs : List Variable) (fs : List Symbol) (m : Map) → KeysFree c (cut_to (without xs fs) m) xs
keys-free c xs fs m = bound-keys c xs xs fs m (all-bound xs)

-- ---- the test of equality of maps

pub map-same : (m n : Map) → map_eq m n ≡ true → m ≡ n
map-same [] [] e = refl
map-same (p ∷ ps) (q ∷ qs) e =
    let parts = both_true (symbol_eq p.0 q.0) (term_eq p.1 q.1 && map_eq ps qs) e in
    let rest = both_true (term_eq p.1 q.1) (map_eq ps qs) parts.1 in
    let key : p.0 ≡ q.0 = (Decides-symbol_eq p.0 q.0).0 parts.0 in
    let term : p.1 ≡ q.1 = (Decides-term_eq p.1 q.1).0 rest.0 in
    let others : ps ≡ qs = map-same ps qs rest.1 in
    λ i. (key i, term i) ∷ others i
map-same _ _ e = absurd cc
