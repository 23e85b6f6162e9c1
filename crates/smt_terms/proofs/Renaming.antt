-- The renaming of a quantifier's variables: the names that it leaves, the sorts of what it maps to, and that the quantifier
-- over the new variables runs as the old one did.
use Rattle.std.proofs.Common.{◌≡◌, Bool, true, false, not, cond, ◌&&◌, ◌⊎◌, inl, inr, List, [], ◌∷◌, map, Some, refl, ap, sym, ◌∙◌, subst}
use Rattle.std.specs.Prelude.{⊤}
use Rattle.std.specs.List.{list_all}
use Rattle.smt_terms.specs.Sorts.{Name, Variable}
use Rattle.smt_terms.specs.Term.{constant_of, constant, variable}
use Rattle.smt_terms.specs.Equal.{name_eq, symbol_eq}
use Rattle.smt_terms.specs.Free.{name_among, free, names_of}
use Rattle.smt_terms.specs.Rank.{has_name, are_distinct, is_quantifiable, are_bindable, rank, sort_of}
use Rattle.smt_terms.specs.Fresh.{Supply, next_name, after_draw, fresh_for, NeverGives}
use Rattle.smt_terms.specs.Subst.{Map, image, Renamed, bind, renaming}
use Rattle.smt_terms.specs.SubstLaws.{HaveSorts, GivesNone, GivesNoImage, Later}
use Rattle.smt_terms.proofs.Tests.{both_true, and_true, either_true, both_false, or_false, not_true}
use Rattle.smt_terms.proofs.Equal.{Decides-name_eq, names_differ, Decides-symbol_eq}
use Rattle.smt_terms.proofs.Fresh.{never-next, never-after, never-drawn}

-- ---- names and tests

not_and : (a b : Bool) → a ≡ false → b ≡ true → (not a && b) ≡ true
not_and false b h k = k
not_and true b h k = absurd cc

-- the one name that is free in a variable
pub only_name : (y : Variable) (n : Name) → name_among (names_of (free (variable y))) n ≡ true → y.name ≡ n
only_name y n among = go (either_true (name_eq y.name n) false among)
  where
    go : (name_eq y.name n ≡ true) ⊎ (false ≡ true) → y.name ≡ n
    go (inl here) = (Decides-name_eq y.name n).0 here
    go (inr never) = absurd cc

-- ---- what is left

-- the names of the variables, none of which the supply gives
abbrev pub VariablesSpared : Supply → List Variable → Type 0
VariablesSpared s [] = ⊤
VariablesSpared s (x ∷ xs) = NeverGives s x.name × VariablesSpared s xs

pub spared-later : (s t : Supply) (xs : List Variable) → Later s t → VariablesSpared s xs → VariablesSpared t xs
spared-later s t [] later spared = tt
spared-later s t (x ∷ xs) later spared = (later x.name spared.0, spared-later s t xs later spared.1)

pub after-later : (s : Supply) → Later s (after_draw s)
after-later s n never = never-after s n never

bind-later : (b : Bool) (x : Variable) (f : Map) (s : Supply) (below : Map → Supply → Renamed) → ((g : Map) (t : Supply) → Later t (below g t).names) → Later s (bind b x f s below).names
bind-later true x f s below later n never = later ((constant_of x, variable (fresh_for x s)) ∷ f) (after_draw s) n (never-after s n never)
bind-later false x f s below later n never = later f s n never

pub renaming-later : (c : List Name) (xs : List Variable) (f : Map) (s : Supply) → Later s (renaming c xs f s).names
renaming-later c [] f s n never = never
renaming-later c (x ∷ xs) f s n never = bind-later (name_among c x.name) x f s (λ g t. renaming c xs g t) (λ g t. renaming-later c xs g t) n never

-- ---- the sorts of the images

-- a variable of another name has the same sort
same_sort : (x : Variable) (s : Supply) → sort_of (variable (fresh_for x s)) ≡ sort_of (variable x)
unfolding rank
same_sort x s = refl

-- a variable in front of a map, where it has the sort of what it stands for
front-sorts : (x y : Variable) (f : Map) → sort_of (variable y) ≡ sort_of (variable x) → HaveSorts f → HaveSorts ((constant_of x, variable y) ∷ f)
front-sorts x y f sorts have g u found = go (symbol_eq (constant_of x) g) refl found
  where
    go : (b : Bool) → symbol_eq (constant_of x) g ≡ b → cond b (Some (variable y)) (image f g) ≡ Some u → sort_of u ≡ sort_of (constant g)
    go true here e =
        let same : variable y ≡ u = cc in
        let key : constant_of x ≡ g = (Decides-symbol_eq (constant_of x) g).0 here in
        ap sort_of (sym same) ∙ sorts ∙ ap (λ h. sort_of (constant h)) key
    go false other e = have g u e

bind-sorts : (b : Bool) (x : Variable) (f : Map) (s : Supply) (below : Map → Supply → Renamed) → ((g : Map) (t : Supply) → HaveSorts g → HaveSorts (below g t).map) → HaveSorts f → HaveSorts (bind b x f s below).map
bind-sorts true x f s below sorts have = sorts ((constant_of x, variable (fresh_for x s)) ∷ f) (after_draw s) (front-sorts x (fresh_for x s) f (same_sort x s) have)
bind-sorts false x f s below sorts have = sorts f s have

pub renaming-sorts : (c : List Name) (xs : List Variable) (f : Map) (s : Supply) → HaveSorts f → HaveSorts (renaming c xs f s).map
renaming-sorts c [] f s have = have
renaming-sorts c (x ∷ xs) f s have = bind-sorts (name_among c x.name) x f s (λ g t. renaming c xs g t) (λ g t h. renaming-sorts c xs g t h) have

-- ---- the names of the images

-- a variable that the rest of the supply doesn't give, in front of a map
pub front-spared : (s : Supply) (x y : Variable) (f : Map) → NeverGives s y.name → GivesNoImage s f → GivesNoImage s ((constant_of x, variable y) ∷ f)
front-spared s x y f never none g u found = go (symbol_eq (constant_of x) g) found
  where
    go : (b : Bool) → cond b (Some (variable y)) (image f g) ≡ Some u → GivesNone s (names_of (free u))
    go true e n among =
        let same : variable y ≡ u = cc in
        let back : name_among (names_of (free (variable y))) n ≡ true = ap (λ t. name_among (names_of (free t)) n) same ∙ among in
        let here : y.name ≡ n = only_name y n back in
        subst (λ m. NeverGives s m) here never
    go false e n among = none g u e n among

pub images-later : (s t : Supply) (f : Map) → Later s t → GivesNoImage s f → GivesNoImage t f
images-later s t f later none g u found n among = later n (none g u found n among)

bind-spared : (b : Bool) (x : Variable) (f : Map) (s : Supply) (below : Map → Supply → Renamed) → ((g : Map) (t : Supply) → GivesNoImage t g → GivesNoImage (below g t).names (below g t).map) → GivesNoImage s f → GivesNoImage (bind b x f s below).names (bind b x f s below).map
bind-spared true x f s below spared none =
    spared ((constant_of x, variable (fresh_for x s)) ∷ f) (after_draw s)
    (front-spared (after_draw s) x (fresh_for x s) f (never-drawn s) (images-later s (after_draw s) f (after-later s) none))
bind-spared false x f s below spared none = spared f s none

pub renaming-spared : (c : List Name) (xs : List Variable) (f : Map) (s : Supply) → GivesNoImage s f → GivesNoImage (renaming c xs f s).names (renaming c xs f s).map
renaming-spared c [] f s none = none
renaming-spared c (x ∷ xs) f s none = bind-spared (name_among c x.name) x f s (λ g t. renaming c xs g t) (λ g t h. renaming-spared c xs g t h) none

-- ---- the new variables may be bound where the old ones may

-- a name that isn't among the old names and isn't given isn't among the new ones
bind-apart : (b : Bool) (n : Name) (x : Variable) (f : Map) (s : Supply) (below : Map → Supply → Renamed) → ((g : Map) (t : Supply) → NeverGives t n → has_name n (map (λ y. y.name) (below g t).variables) ≡ false) → name_eq n x.name ≡ false → NeverGives s n → has_name n (map (λ y. y.name) (bind b x f s below).variables) ≡ false
bind-apart true n x f s below apart other never =
    or_false (name_eq n (next_name s)) (has_name n (map (λ y. y.name) (below ((constant_of x, variable (fresh_for x s)) ∷ f) (after_draw s)).variables))
    (names_differ n (next_name s) (never-next s n never)) (apart ((constant_of x, variable (fresh_for x s)) ∷ f) (after_draw s) (never-after s n never))
bind-apart false n x f s below apart other never =
    or_false (name_eq n x.name) (has_name n (map (λ y. y.name) (below f s).variables)) other (apart f s never)

renaming-apart : (c : List Name) (n : Name) (xs : List Variable) (f : Map) (s : Supply) → has_name n (map (λ y. y.name) xs) ≡ false → NeverGives s n → has_name n (map (λ y. y.name) (renaming c xs f s).variables) ≡ false
renaming-apart c n [] f s apart never = refl
renaming-apart c n (x ∷ xs) f s apart never =
    let parts = both_false (name_eq n x.name) (has_name n (map (λ y. y.name) xs)) apart in
    bind-apart (name_among c x.name) n x f s (λ g t. renaming c xs g t) (λ g t h. renaming-apart c n xs g t parts.1 h) parts.0 never

-- a drawn name isn't among names that aren't given
spared-apart : (s : Supply) (xs : List Variable) → VariablesSpared s xs → has_name (next_name s) (map (λ y. y.name) xs) ≡ false
spared-apart s [] spared = refl
spared-apart s (x ∷ xs) spared =
    or_false (name_eq (next_name s) x.name) (has_name (next_name s) (map (λ y. y.name) xs))
    (names_differ (next_name s) x.name (λ e. never-next s x.name spared.0 (sym e))) (spared-apart s xs spared.1)

bind-distinct : (b : Bool) (c : List Name) (x : Variable) (xs : List Variable) (f : Map) (s : Supply) → ((g : Map) (t : Supply) → VariablesSpared t xs → are_distinct (map (λ y. y.name) (renaming c xs g t).variables) ≡ true) → has_name x.name (map (λ y. y.name) xs) ≡ false → VariablesSpared s (x ∷ xs) → are_distinct (map (λ y. y.name) (bind b x f s (λ g t. renaming c xs g t)).variables) ≡ true
bind-distinct true c x xs f s distinct apart spared =
    let g : Map = (constant_of x, variable (fresh_for x s)) ∷ f in
    not_and (has_name (next_name s) (map (λ y. y.name) (renaming c xs g (after_draw s)).variables)) (are_distinct (map (λ y. y.name) (renaming c xs g (after_draw s)).variables))
    (renaming-apart c (next_name s) xs g (after_draw s) (spared-apart s xs spared.1) (never-drawn s))
    (distinct g (after_draw s) (spared-later s (after_draw s) xs (after-later s) spared.1))
bind-distinct false c x xs f s distinct apart spared =
    not_and (has_name x.name (map (λ y. y.name) (renaming c xs f s).variables)) (are_distinct (map (λ y. y.name) (renaming c xs f s).variables))
    (renaming-apart c x.name xs f s apart spared.0)
    (distinct f s spared.1)

renaming-distinct : (c : List Name) (xs : List Variable) (f : Map) (s : Supply) → are_distinct (map (λ y. y.name) xs) ≡ true → VariablesSpared s xs → are_distinct (map (λ y. y.name) (renaming c xs f s).variables) ≡ true
renaming-distinct c [] f s distinct spared = refl
renaming-distinct c (x ∷ xs) f s distinct spared =
    let parts = both_true (not (has_name x.name (map (λ y. y.name) xs))) (are_distinct (map (λ y. y.name) xs)) distinct in
    bind-distinct (name_among c x.name) c x xs f s (λ g t h. renaming-distinct c xs g t parts.1 h) (not_true (has_name x.name (map (λ y. y.name) xs)) parts.0) spared

quantifiable : List Variable → Bool
quantifiable xs = list_all (λ x. is_quantifiable x.sort) xs

bind-quantifiable : (b : Bool) (x : Variable) (f : Map) (s : Supply) (below : Map → Supply → Renamed) → is_quantifiable x.sort ≡ true → ((g : Map) (t : Supply) → quantifiable (below g t).variables ≡ true) → quantifiable (bind b x f s below).variables ≡ true
unfolding quantifiable
bind-quantifiable true x f s below here others = and_true (is_quantifiable x.sort) _ here (others ((constant_of x, variable (fresh_for x s)) ∷ f) (after_draw s))
bind-quantifiable false x f s below here others = and_true (is_quantifiable x.sort) _ here (others f s)

renaming-quantifiable : (c : List Name) (xs : List Variable) (f : Map) (s : Supply) → quantifiable xs ≡ true → quantifiable (renaming c xs f s).variables ≡ true
unfolding quantifiable
renaming-quantifiable c [] f s all = refl
renaming-quantifiable c (x ∷ xs) f s all =
    let parts = both_true (is_quantifiable x.sort) (list_all (λ y. is_quantifiable y.sort) xs) all in
    bind-quantifiable (name_among c x.name) x f s (λ g t. renaming c xs g t) parts.0 (λ g t. renaming-quantifiable c xs g t parts.1)

-- the first variable makes a list that isn't empty
bindable-from : (y : Variable) (ys : List Variable) → are_distinct (map (λ z. z.name) (y ∷ ys)) ≡ true → quantifiable (y ∷ ys) ≡ true → are_bindable (y ∷ ys) ≡ true
unfolding quantifiable
bindable-from y ys distinct all = and_true _ _ distinct all

bind-bindable : (b : Bool) (x : Variable) (f : Map) (s : Supply) (below : Map → Supply → Renamed) → are_distinct (map (λ z. z.name) (bind b x f s below).variables) ≡ true → quantifiable (bind b x f s below).variables ≡ true → are_bindable (bind b x f s below).variables ≡ true
bind-bindable true x f s below distinct all = bindable-from (fresh_for x s) (below ((constant_of x, variable (fresh_for x s)) ∷ f) (after_draw s)).variables distinct all
bind-bindable false x f s below distinct all = bindable-from x (below f s).variables distinct all

pub renaming-bindable : (c : List Name) (xs : List Variable) (f : Map) (s : Supply) → are_bindable xs ≡ true → VariablesSpared s xs → are_bindable (renaming c xs f s).variables ≡ true
unfolding quantifiable
renaming-bindable c [] f s bindable spared = absurd cc
renaming-bindable c (x ∷ xs) f s bindable spared =
    let parts = both_true (are_distinct (map (λ y. y.name) (x ∷ xs))) (list_all (λ y. is_quantifiable y.sort) (x ∷ xs)) bindable in
    bind-bindable (name_among c x.name) x f s (λ g t. renaming c xs g t)
    (renaming-distinct c (x ∷ xs) f s parts.0 spared)
    (renaming-quantifiable c (x ∷ xs) f s parts.1)
