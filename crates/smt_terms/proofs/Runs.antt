-- A quantifier runs over its renamed variables as it did over the old ones: what its body says under the map is what it said
-- before.
use Rattle.std.proofs.Common.{◌≡◌, ◌≢◌, Bool, true, false, not, cond, ◌||◌, ◌⊎◌, inl, inr, List, [], ◌∷◌, map, Option, Some, None, refl, ap, sym, ◌∙◌, subst}
use Rattle.std.specs.Prelude.{unwrap_or, ⊤}
use Rattle.smt_terms.specs.Sorts.{Name, Symbol, Variable}
use Rattle.smt_terms.specs.Term.{Quantifier, Term, constant_of, variable}
use Rattle.smt_terms.specs.Equal.{name_eq, symbol_eq}
use Rattle.smt_terms.specs.Free.{is_among, name_among, without, free, names_of}
use Rattle.smt_terms.specs.Values.{Value, Sizes, over_values}
use Rattle.smt_terms.specs.Models.{Model, symbol_value}
use Rattle.smt_terms.specs.Val.{Env, assign, runs, val}
use Rattle.smt_terms.specs.Fresh.{Supply, next_name, after_draw, fresh_for, NeverGives}
use Rattle.smt_terms.specs.Subst.{Map, image, bind, renaming}
use Rattle.smt_terms.specs.SubstLaws.{value_or, under, GivesNoImage}
use Rattle.smt_terms.proofs.Tests.{both_true, left_true, right_true, either_true}
use Rattle.smt_terms.proofs.Among.{is_among-without}
use Rattle.smt_terms.proofs.Equal.{Decides-name_eq, Decides-symbol_eq}
use Rattle.smt_terms.proofs.Fresh.{never-next, never-after, never-drawn}
use Rattle.smt_terms.proofs.Agree.{SameAt, still_free, same_without-none, val_same}
use Rattle.smt_terms.proofs.Renaming.{VariablesSpared, spared-later, after-later, images-later, front-spared, only_name}

-- ---- names that variables don't have

-- no variable that keeps its name has this one
abbrev pub NoneNamed : List Name → List Variable → Name → Type 0
NoneNamed c [] n = ⊤
NoneNamed c (x ∷ xs) n = (name_among c x.name ≡ false → x.name ≢ n) × NoneNamed c xs n

-- nor any name that is free in an image
abbrev pub ImagesApart : List Name → List Variable → Map → Type 0
ImagesApart c xs f = (g : Symbol) (u : Term) → image f g ≡ Some u → (n : Name) → name_among (names_of (free u)) n ≡ true → NoneNamed c xs n

-- a variable that keeps its name has no image
abbrev pub KeysFree : List Name → Map → List Variable → Type 0
KeysFree c f [] = ⊤
KeysFree c f (x ∷ xs) = (name_among c x.name ≡ false → image f (constant_of x) ≡ None) × KeysFree c f xs

abbrev pub SymbolsSpared : Supply → List Symbol → Type 0
SymbolsSpared s fs = (g : Symbol) → is_among fs g ≡ true → NeverGives s g.name

pub fresh-unnamed : (c : List Name) (s : Supply) (xs : List Variable) → VariablesSpared s xs → NoneNamed c xs (next_name s)
fresh-unnamed c s [] spared = tt
fresh-unnamed c s (x ∷ xs) spared = (λ kept. never-next s x.name spared.0, fresh-unnamed c s xs spared.1)

pub front-apart : (c : List Name) (x y : Variable) (xs : List Variable) (f : Map) → NoneNamed c xs y.name → ImagesApart c (x ∷ xs) f → ImagesApart c xs ((constant_of x, variable y) ∷ f)
front-apart c x y xs f unnamed apart g u found n among = go (symbol_eq (constant_of x) g) found
  where
    go : (b : Bool) → cond b (Some (variable y)) (image f g) ≡ Some u → NoneNamed c xs n
    go true e =
        let same : variable y ≡ u = cc in
        let here : y.name ≡ n = only_name y n (ap (λ t. name_among (names_of (free t)) n) same ∙ among) in
        subst (NoneNamed c xs) here unnamed
    go false e = (apart g u e n among).1

pub front-keys : (c : List Name) (x : Variable) (u : Term) (xs : List Variable) (f : Map) → name_among c x.name ≡ true → KeysFree c f xs → KeysFree c ((constant_of x, u) ∷ f) xs
front-keys c x u [] f captured keys = tt
front-keys c x u (y ∷ xs) f captured keys = (λ kept. go (symbol_eq (constant_of x) (constant_of y)) refl kept, front-keys c x u xs f captured keys.1)
  where
    go : (b : Bool) → symbol_eq (constant_of x) (constant_of y) ≡ b → name_among c y.name ≡ false → cond b (Some u) (image f (constant_of y)) ≡ None
    go true here kept =
        let same : constant_of x ≡ constant_of y = (Decides-symbol_eq (constant_of x) (constant_of y)).0 here in
        let name : x.name ≡ y.name = ap (λ (h : Symbol). h.name) same in
        let both : name_among c y.name ≡ true = ap (name_among c) (sym name) ∙ captured in
        absurd cc
    go false other kept = keys.0 kept

-- ---- one variable more

pub among-name : (fs : List Symbol) (h : Symbol) → is_among fs h ≡ true → name_among (names_of fs) h.name ≡ true
among-name [] h among = absurd cc
among-name (g ∷ fs) h among = go (either_true (symbol_eq g h) (is_among fs h) among) (among-name fs h)
  where
    go : (symbol_eq g h ≡ true) ⊎ (is_among fs h ≡ true) → (is_among fs h ≡ true → name_among (names_of fs) h.name ≡ true) → (name_eq g.name h.name || name_among (names_of fs) h.name) ≡ true
    go (inl here) below =
        let same : g.name ≡ h.name = ap (λ (k : Symbol). k.name) ((Decides-symbol_eq g h).0 here) in
        left_true (name_eq g.name h.name) (name_among (names_of fs) h.name) ((Decides-name_eq g.name h.name).1 same)
    go (inr there) below = right_true (name_eq g.name h.name) (name_among (names_of fs) h.name) (below there)

-- what a variable is makes no difference to a term in which its name isn't free
val-unnamed : (m : Model) (u : Term) (y : Variable) (v : Value) (d : Env) → (name_among (names_of (free u)) y.name ≡ true → ⊥) → val m u (assign y v d) ≡ val m u d
val-unnamed m u y v d apart = val_same u m (assign y v d) d (λ h among. go h among (symbol_eq (constant_of y) h) refl)
  where
    go : (h : Symbol) → is_among (free u) h ≡ true → (b : Bool) → symbol_eq (constant_of y) h ≡ b → cond b (Some v) (d h) ≡ d h
    go h among true here =
        let same : h.name ≡ y.name = sym (ap (λ (k : Symbol). k.name) ((Decides-symbol_eq (constant_of y) h).0 here)) in
        absurd (apart (ap (name_among (names_of (free u))) (sym same) ∙ among-name (free u) h among))
    go h among false other = refl

under-assign : (m : Model) (f : Map) (y : Variable) (v : Value) (d : Env) (g : Symbol) → ((u : Term) → image f g ≡ Some u → name_among (names_of (free u)) y.name ≡ true → ⊥) → symbol_eq (constant_of y) g ≡ false → under m f (assign y v d) g ≡ under m f d g
under-assign m f y v d g apart other = go (image f g) refl
  where
    go : (o : Option Term) → image f g ≡ o → value_or m o (assign y v d) g ≡ value_or m o d g
    go None e = ap (λ b. cond b (Some v) (d g)) other
    go (Some u) e = ap Some (val-unnamed m u y v d (apart u e))

-- ---- the new variable stands for the old one

without-among : (xs : List Variable) (fs : List Symbol) (g : Symbol) → is_among (without xs fs) g ≡ true → is_among fs g ≡ true
without-among xs fs g among = (both_true (is_among fs g) (not (is_among (map constant_of xs) g)) (sym (is_among-without xs fs g) ∙ among)).0

-- the value of the new variable is what was assigned to it
new-value : (m : Model) (y : Variable) (v : Value) (d : Env) → val m (variable y) (assign y v d) ≡ v
new-value m y v d = ap (λ b. unwrap_or (cond b (Some v) (d (constant_of y))) (symbol_value m (constant_of y) [])) ((Decides-symbol_eq (constant_of y) (constant_of y)).1 refl)

not-fresh : (s : Supply) (x : Variable) (g : Symbol) → NeverGives s g.name → symbol_eq (constant_of (fresh_for x s)) g ≡ false
not-fresh s x g never = go (symbol_eq (constant_of (fresh_for x s)) g) refl
  where
    go : (b : Bool) → symbol_eq (constant_of (fresh_for x s)) g ≡ b → b ≡ false
    go true here = absurd (never-next s g.name never (sym (ap (λ (k : Symbol). k.name) ((Decides-symbol_eq (constant_of (fresh_for x s)) g).0 here))))
    go false other = refl

same-renamed : (s : Supply) (x : Variable) (xs : List Variable) (f : Map) (m : Model) (fs : List Symbol) (d e : Env) (v : Value) → GivesNoImage s f → SymbolsSpared s fs → SameAt (without (x ∷ xs) fs) (under m f d) e → SameAt (without xs fs) (under m ((constant_of x, variable (fresh_for x s)) ∷ f) (assign (fresh_for x s) v d)) (assign x v e)
same-renamed s x xs f m fs d e v none spared same g among = go (symbol_eq (constant_of x) g) refl
  where
    go : (b : Bool) → symbol_eq (constant_of x) g ≡ b → value_or m (cond b (Some (variable (fresh_for x s))) (image f g)) (assign (fresh_for x s) v d) g ≡ cond b (Some v) (e g)
    go true here = ap Some (new-value m (fresh_for x s) v d)
    go false other =
        under-assign m f (fresh_for x s) v d g (λ u found there. absurd (never-next s (next_name s) (none g u found (next_name s) there) refl)) (not-fresh s x g (spared g (without-among xs fs g among)))
        ∙ same g (still_free x xs fs g among other)

same-kept : (c : List Name) (x : Variable) (xs : List Variable) (f : Map) (m : Model) (fs : List Symbol) (d e : Env) (v : Value) → name_among c x.name ≡ false → ImagesApart c (x ∷ xs) f → KeysFree c f (x ∷ xs) → SameAt (without (x ∷ xs) fs) (under m f d) e → SameAt (without xs fs) (under m f (assign x v d)) (assign x v e)
same-kept c x xs f m fs d e v kept apart keys same g among = go (symbol_eq (constant_of x) g) refl
  where
    at_key : (o : Option Term) → o ≡ None → symbol_eq (constant_of x) g ≡ true → value_or m o (assign x v d) g ≡ Some v
    at_key None none here = ap (λ b. cond b (Some v) (d g)) here
    at_key (Some u) none here = absurd cc

    go : (b : Bool) → symbol_eq (constant_of x) g ≡ b → under m f (assign x v d) g ≡ cond b (Some v) (e g)
    go true here =
        let key : constant_of x ≡ g = (Decides-symbol_eq (constant_of x) g).0 here in
        at_key (image f g) (ap (image f) (sym key) ∙ keys.0 kept) here
    go false other =
        under-assign m f x v d g (λ u found there. absurd ((apart g u found x.name there).0 kept refl)) other
        ∙ same g (still_free x xs fs g among other)

-- ---- the quantifier

bind-runs : (b : Bool) (c : List Name) (x : Variable) (xs : List Variable) (f : Map) (s : Supply) (q : Quantifier) (sizes : Sizes) (m : Model) (fs : List Symbol) (A : Env → Bool) → name_among c x.name ≡ b
    → ((g : Map) (t : Supply) (d e : Env) → ImagesApart c xs g → KeysFree c g xs → VariablesSpared t xs → GivesNoImage t g → SymbolsSpared t fs → SameAt (without xs fs) (under m g d) e → runs q (renaming c xs g t).variables sizes (λ k. A (under m (renaming c xs g t).map k)) d ≡ runs q xs sizes A e)
    → (d e : Env) → ImagesApart c (x ∷ xs) f → KeysFree c f (x ∷ xs) → VariablesSpared s (x ∷ xs) → GivesNoImage s f → SymbolsSpared s fs → SameAt (without (x ∷ xs) fs) (under m f d) e
    → runs q (bind b x f s (λ g t. renaming c xs g t)).variables sizes (λ k. A (under m (bind b x f s (λ g t. renaming c xs g t)).map k)) d ≡ runs q (x ∷ xs) sizes A e
bind-runs true c x xs f s q sizes m fs A captured below d e apart keys variables none symbols same =
    ap (over_values q x.sort sizes) (λ i v. below ((constant_of x, variable (fresh_for x s)) ∷ f) (after_draw s) (assign (fresh_for x s) v d) (assign x v e)
    (front-apart c x (fresh_for x s) xs f (fresh-unnamed c s xs variables.1) apart)
    (front-keys c x (variable (fresh_for x s)) xs f captured keys.1)
    (spared-later s (after_draw s) xs (after-later s) variables.1)
    (front-spared (after_draw s) x (fresh_for x s) f (never-drawn s) (images-later s (after_draw s) f (after-later s) none))
    (λ g among. never-after s g.name (symbols g among))
    (same-renamed s x xs f m fs d e v none symbols same) i)
bind-runs false c x xs f s q sizes m fs A kept below d e apart keys variables none symbols same =
    ap (over_values q x.sort sizes) (λ i v. below f s (assign x v d) (assign x v e)
    (λ g u found n among. (apart g u found n among).1)
    keys.1 variables.1 none symbols
    (same-kept c x xs f m fs d e v kept apart keys same) i)

pub renaming-runs : (c : List Name) (xs : List Variable) (f : Map) (s : Supply) (q : Quantifier) (sizes : Sizes) (m : Model) (fs : List Symbol) (A : Env → Bool) → ((d e : Env) → SameAt fs d e → A d ≡ A e) → (d e : Env) → ImagesApart c xs f → KeysFree c f xs → VariablesSpared s xs → GivesNoImage s f → SymbolsSpared s fs → SameAt (without xs fs) (under m f d) e → runs q (renaming c xs f s).variables sizes (λ k. A (under m (renaming c xs f s).map k)) d ≡ runs q xs sizes A e
renaming-runs c [] f s q sizes m fs A alike d e apart keys variables none symbols same = alike (under m f d) e (same_without-none fs (under m f d) e same)
renaming-runs c (x ∷ xs) f s q sizes m fs A alike d e apart keys variables none symbols same =
    bind-runs (name_among c x.name) c x xs f s q sizes m fs A refl (λ g t d' e' ap' ks vs no sy sa. renaming-runs c xs g t q sizes m fs A alike d' e' ap' ks vs no sy sa) d e apart keys variables none symbols same
