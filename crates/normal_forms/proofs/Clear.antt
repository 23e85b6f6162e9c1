-- Clear terms, said without what is bound above: below each quantifier, a free symbol with a variable's name is that
-- variable; and no two free symbols of the term have one name.
use Rattle.std.proofs.Common.{◌≡◌, Bool, true, false, not, cond, ◌&&◌, ◌||◌, ◌⊎◌, inl, inr, List, [], ◌∷◌, ◌++◌, map, reverse, Some, refl, ap, sym, ◌∙◌}
use Rattle.std.specs.Prelude.{⊤, filter}
use Rattle.std.specs.List.{list_all}
use mathlib.Core.List.{reverse_aux-eq}
use Rattle.smt_terms.specs.Sorts.{Name, Sort, bool, Symbol, Variable}
use Rattle.smt_terms.specs.Term.{Head, op, symbol, const_array, Term, apply, quantified, Terms, none, ◌⨾◌, constant_of}
use Rattle.smt_terms.specs.Equal.{name_eq, symbol_eq}
use Rattle.smt_terms.specs.Free.{is_among, names_of, with_more, without, head_symbols, free, free_of}
use Rattle.smt_terms.specs.Rank.{has_name, are_distinct, are_bindable, is_quantifiable, sort_of, sorts_of}
use Rattle.smt_terms.specs.Shapes.{is_seen, is_head_seen, is_clear_below, are_clear_below, is_clear}
use Rattle.smt_terms.proofs.Tests.{both_true, and_true, either_true, left_true, right_true, both_false, not_true}
use Rattle.smt_terms.proofs.Equal.{Decides-name_eq, Decides-symbol_eq}
use Rattle.smt_terms.proofs.Among.{is_among-append, is_among-filter, is_among-with_more, is_among-without}
use Rattle.smt_terms.proofs.Sorted.{applied, sorted, quantified_sort}

-- a symbol with the name of one of these variables is that variable
abbrev pub Sees : List Variable → Symbol → Type 0
Sees [] g = ⊤
Sees (x ∷ xs) g = (x.name ≡ g.name → constant_of x ≡ g) × Sees xs g

abbrev mutual
  pub Clear : Term → Type 0
  Clear (apply h ts) = ClearEach ts
  Clear (quantified q xs body) = ((g : Symbol) → is_among (free body) g ≡ true → Sees xs g) × Clear body

  pub ClearEach : Terms → Type 0
  ClearEach none = ⊤
  ClearEach (t ⨾ ts) = Clear t × ClearEach ts

-- ---- one variable more above

abbrev Unnamed : List Variable → Symbol → Type 0
Unnamed [] g = ⊤
Unnamed (x ∷ xs) g = (x.name ≡ g.name → ⊥) × Unnamed xs g

onto : (y : Variable) (ys zs : List Variable) → reverse (y ∷ ys) ++ zs ≡ reverse ys ++ (y ∷ zs)
onto y ys zs = sym (reverse_aux-eq (y ∷ ys) zs) ∙ reverse_aux-eq ys (y ∷ zs)

-- what a variable of another name leaves to those above it
passed : (y : Variable) (zs : List Variable) (g : Symbol) → (y.name ≡ g.name → ⊥) → is_seen (y ∷ zs) g ≡ true → is_seen zs g ≡ true
passed y zs g other = go (name_eq y.name g.name) refl
  where
    go : (b : Bool) → name_eq y.name g.name ≡ b → elim b [ true ↦ symbol_eq (constant_of y) g | false ↦ is_seen zs g ] ≡ true → is_seen zs g ≡ true
    go true e h = absurd (other ((Decides-name_eq y.name g.name).0 e))
    go false e h = h

met : (y : Variable) (zs : List Variable) (g : Symbol) → y.name ≡ g.name → is_seen (y ∷ zs) g ≡ true → constant_of y ≡ g
met y zs g same = go (name_eq y.name g.name) refl
  where
    go : (b : Bool) → name_eq y.name g.name ≡ b → elim b [ true ↦ symbol_eq (constant_of y) g | false ↦ is_seen zs g ] ≡ true → constant_of y ≡ g
    go true e h = (Decides-symbol_eq (constant_of y) g).0 h
    go false e h = let yes : name_eq y.name g.name ≡ true = (Decides-name_eq y.name g.name).1 same in absurd cc

seen-front : (y : Variable) (zs : List Variable) (g : Symbol) → (y.name ≡ g.name → constant_of y ≡ g) → ((y.name ≡ g.name → ⊥) → is_seen zs g ≡ true) → is_seen (y ∷ zs) g ≡ true
seen-front y zs g here above = go (name_eq y.name g.name) refl
  where
    go : (b : Bool) → name_eq y.name g.name ≡ b → elim b [ true ↦ symbol_eq (constant_of y) g | false ↦ is_seen zs g ] ≡ true
    go true e = (Decides-symbol_eq (constant_of y) g).1 (here ((Decides-name_eq y.name g.name).0 e))
    go false e = above (λ same. differ e ((Decides-name_eq y.name g.name).1 same))
      where
        differ : name_eq y.name g.name ≡ false → name_eq y.name g.name ≡ true → ⊥
        differ h k = absurd cc

distinct-unnamed : (n : Name) (ys : List Variable) (g : Symbol) → has_name n (map (λ y. y.name) ys) ≡ false → n ≡ g.name → Unnamed ys g
distinct-unnamed n [] g apart same = tt
distinct-unnamed n (y ∷ ys) g apart same =
    let parts = both_false (name_eq n y.name) (has_name n (map (λ z. z.name) ys)) apart in
    ((λ e. differ parts.0 ((Decides-name_eq n y.name).1 (same ∙ sym e))), distinct-unnamed n ys g parts.1 same)
  where
    differ : name_eq n y.name ≡ false → name_eq n y.name ≡ true → ⊥
    differ e h = absurd cc

-- from what is seen below these variables
seen-sees : (ys zs : List Variable) (g : Symbol) → are_distinct (map (λ y. y.name) ys) ≡ true → is_seen (reverse ys ++ zs) g ≡ true → Sees ys g × (Unnamed ys g → is_seen zs g ≡ true)
seen-sees [] zs g distinct seen = (tt, λ u. seen)
seen-sees (y ∷ ys) zs g distinct seen =
    let parts = both_true (not (has_name y.name (map (λ z. z.name) ys))) (are_distinct (map (λ z. z.name) ys)) distinct in
    let rest : Sees ys g × (Unnamed ys g → is_seen (y ∷ zs) g ≡ true) = seen-sees ys (y ∷ zs) g parts.1 (ap (λ vs. is_seen vs g) (sym (onto y ys zs)) ∙ seen) in
    (((λ same. met y zs g same (rest.1 (distinct-unnamed y.name ys g (not_true (has_name y.name (map (λ z. z.name) ys)) parts.0) same))), rest.0), λ u. passed y zs g u.0 (rest.1 u.1))

sees-seen : (ys zs : List Variable) (g : Symbol) → Sees ys g → (is_among (map constant_of ys) g ≡ true) ⊎ (is_seen zs g ≡ true) → is_seen (reverse ys ++ zs) g ≡ true
sees-seen [] zs g sees (inl never) = absurd cc
sees-seen [] zs g sees (inr seen) = seen
sees-seen (y ∷ ys) zs g sees given = ap (λ vs. is_seen vs g) (onto y ys zs) ∙ sees-seen ys (y ∷ zs) g sees.1 (step given)
  where
    bound : (symbol_eq (constant_of y) g ≡ true) ⊎ (is_among (map constant_of ys) g ≡ true) → (is_among (map constant_of ys) g ≡ true) ⊎ (is_seen (y ∷ zs) g ≡ true)
    bound (inl here) =
        let same : constant_of y ≡ g = (Decides-symbol_eq (constant_of y) g).0 here in
        inr (seen-front y zs g (λ e. same) (λ other. absurd (other (ap (λ (f : Symbol). f.name) same))))
    bound (inr there) = inl there

    step : (is_among (map constant_of (y ∷ ys)) g ≡ true) ⊎ (is_seen zs g ≡ true) → (is_among (map constant_of ys) g ≡ true) ⊎ (is_seen (y ∷ zs) g ≡ true)
    step (inl among) = bound (either_true (symbol_eq (constant_of y) g) (is_among (map constant_of ys) g) among)
    step (inr seen) = inr (seen-front y zs g sees.0 (λ other. seen))

-- a symbol that is seen and that no variable is has another name than each
sees-unnamed : (ys : List Variable) (g : Symbol) → Sees ys g → is_among (map constant_of ys) g ≡ false → Unnamed ys g
sees-unnamed [] g sees apart = tt
sees-unnamed (y ∷ ys) g sees apart =
    let parts = both_false (symbol_eq (constant_of y) g) (is_among (map constant_of ys) g) apart in
    ((λ same. differ parts.0 ((Decides-symbol_eq (constant_of y) g).1 (sees.0 same))), sees-unnamed ys g sees.1 parts.1)
  where
    differ : symbol_eq (constant_of y) g ≡ false → symbol_eq (constant_of y) g ≡ true → ⊥
    differ e h = absurd cc

-- ---- all terms

pub bindable-parts : (xs : List Variable) → are_bindable xs ≡ true → (are_distinct (map (λ x. x.name) xs) ≡ true) × (list_all (λ x. is_quantifiable x.sort) xs ≡ true)
bindable-parts [] e = absurd cc
bindable-parts (x ∷ xs) e = both_true (are_distinct (map (λ y. y.name) (x ∷ xs))) (list_all (λ y. is_quantifiable y.sort) (x ∷ xs)) e

head-seen : (zs : List Variable) (h : Head) (g : Symbol) → is_head_seen zs h ≡ true → is_among (head_symbols h) g ≡ true → is_seen zs g ≡ true
head-seen zs (symbol f) g seen among = go (either_true (symbol_eq f g) false among)
  where
    go : (symbol_eq f g ≡ true) ⊎ (false ≡ true) → is_seen zs g ≡ true
    go (inl here) = ap (is_seen zs) (sym ((Decides-symbol_eq f g).0 here)) ∙ seen
    go (inr never) = absurd cc
head-seen zs (op o) g seen among = absurd cc
head-seen zs (const_array s) g seen among = absurd cc

seen-head : (zs : List Variable) (h : Head) → ((g : Symbol) → is_among (head_symbols h) g ≡ true → is_seen zs g ≡ true) → is_head_seen zs h ≡ true
seen-head zs (symbol f) seen = seen f (left_true (symbol_eq f f) false ((Decides-symbol_eq f f).1 refl))
seen-head zs (op o) seen = refl
seen-head zs (const_array s) seen = refl

pub in-more : (fs gs : List Symbol) (g : Symbol) → is_among (with_more fs gs) g ≡ true → (is_among fs g ≡ true) ⊎ (is_among gs g ≡ true)
in-more fs gs g among = either_true (is_among fs g) (is_among gs g) (sym (is_among-with_more fs gs g) ∙ among)

pub in-first : (fs gs : List Symbol) (g : Symbol) → is_among fs g ≡ true → is_among (with_more fs gs) g ≡ true
in-first fs gs g among = is_among-with_more fs gs g ∙ left_true (is_among fs g) (is_among gs g) among

pub in-second : (fs gs : List Symbol) (g : Symbol) → is_among gs g ≡ true → is_among (with_more fs gs) g ≡ true
in-second fs gs g among = is_among-with_more fs gs g ∙ right_true (is_among fs g) (is_among gs g) among

pub in-without : (xs : List Variable) (fs : List Symbol) (g : Symbol) → is_among (without xs fs) g ≡ true → (is_among fs g ≡ true) × (is_among (map constant_of xs) g ≡ false)
in-without xs fs g among =
    let parts = both_true (is_among fs g) (not (is_among (map constant_of xs) g)) (sym (is_among-without xs fs g) ∙ among) in
    (parts.0, not_true (is_among (map constant_of xs) g) parts.1)

pub to-without : (xs : List Variable) (fs : List Symbol) (g : Symbol) → is_among fs g ≡ true → is_among (map constant_of xs) g ≡ false → is_among (without xs fs) g ≡ true
to-without xs fs g among apart = is_among-without xs fs g ∙ and_true (is_among fs g) (not (is_among (map constant_of xs) g)) among (ap not apart)

abbrev SeenFree : List Variable → List Symbol → Type 0
SeenFree zs fs = (g : Symbol) → is_among fs g ≡ true → is_seen zs g ≡ true

both-seen : (zs : List Variable) (fs gs : List Symbol) → SeenFree zs fs → SeenFree zs gs → SeenFree zs (with_more fs gs)
both-seen zs fs gs a b g among = go (in-more fs gs g among)
  where
    go : (is_among fs g ≡ true) ⊎ (is_among gs g ≡ true) → is_seen zs g ≡ true
    go (inl h) = a g h
    go (inr h) = b g h

mutual
  clear-from : (t : Term) (s : Sort) (zs : List Variable) → sort_of t ≡ Some s → is_clear_below zs t ≡ true → Clear t × SeenFree zs (free t)
  clear-from (apply h ts) s zs has clear =
      let a = applied h ts s has in
      let parts = both_true (is_head_seen zs h) (are_clear_below zs ts) clear in
      let rest : ClearEach ts × SeenFree zs (free_of ts) = clear-each ts a.sorts zs a.operands parts.1 in
      (rest.0, both-seen zs (head_symbols h) (free_of ts) (λ g. head-seen zs h g parts.0) rest.1)
  clear-from (quantified q ys body) s zs has clear =
      let a = quantified_sort q ys body s has in
      let below : Clear body × SeenFree (reverse ys ++ zs) (free body) = clear-from body bool (reverse ys ++ zs) a.body clear in
      let sees : (g : Symbol) → is_among (free body) g ≡ true → Sees ys g × (Unnamed ys g → is_seen zs g ≡ true) = λ g among. seen-sees ys zs g (bindable-parts ys a.bindable).0 (below.1 g among) in
      (((λ g among. (sees g among).0), below.0), λ g among. let parts = in-without ys (free body) g among in (sees g parts.0).1 (sees-unnamed ys g (sees g parts.0).0 parts.1))

  clear-each : (ts : Terms) (ss : List Sort) (zs : List Variable) → sorts_of ts ≡ Some ss → are_clear_below zs ts ≡ true → ClearEach ts × SeenFree zs (free_of ts)
  clear-each none ss zs has clear = (tt, λ g among. absurd cc)
  clear-each (t ⨾ ts) ss zs has clear =
      let a = sorted t ts ss has in
      let parts = both_true (is_clear_below zs t) (are_clear_below zs ts) clear in
      let first : Clear t × SeenFree zs (free t) = clear-from t a.sort zs a.first parts.0 in
      let rest : ClearEach ts × SeenFree zs (free_of ts) = clear-each ts a.sorts zs a.others parts.1 in
      ((first.0, rest.0), both-seen zs (free t) (free_of ts) first.1 rest.1)

mutual
  clear-back : (t : Term) (zs : List Variable) → Clear t → SeenFree zs (free t) → is_clear_below zs t ≡ true
  clear-back (apply h ts) zs clear seen =
      and_true (is_head_seen zs h) (are_clear_below zs ts) (seen-head zs h (λ g among. seen g (in-first (head_symbols h) (free_of ts) g among)))
      (clears-back ts zs clear (λ g among. seen g (in-second (head_symbols h) (free_of ts) g among)))
  clear-back (quantified q ys body) zs clear seen = clear-back body (reverse ys ++ zs) clear.1 (λ g among. sees-seen ys zs g (clear.0 g among) (go g among (is_among (map constant_of ys) g) refl))
    where
      go : (g : Symbol) → is_among (free body) g ≡ true → (b : Bool) → is_among (map constant_of ys) g ≡ b → (is_among (map constant_of ys) g ≡ true) ⊎ (is_seen zs g ≡ true)
      go g among true e = inl e
      go g among false e = inr (seen g (to-without ys (free body) g among e))

  clears-back : (ts : Terms) (zs : List Variable) → ClearEach ts → SeenFree zs (free_of ts) → are_clear_below zs ts ≡ true
  clears-back none zs clear seen = refl
  clears-back (t ⨾ ts) zs clear seen =
      and_true (is_clear_below zs t) (are_clear_below zs ts) (clear-back t zs clear.0 (λ g among. seen g (in-first (free t) (free_of ts) g among)))
      (clears-back ts zs clear.1 (λ g among. seen g (in-second (free t) (free_of ts) g among)))

-- ---- names of free symbols: each symbol stands in the list once

abbrev Once : List Symbol → Type 0
Once [] = ⊤
Once (f ∷ fs) = (is_among fs f ≡ false) × Once fs

filter-once : (p : Symbol → Bool) (fs : List Symbol) → Once fs → Once (filter p fs)
filter-once p [] once = tt
filter-once p (f ∷ fs) once = go (p f) (filter-once p fs once.1)
  where
    gone : (a b : Bool) → a ≡ false → (a && b) ≡ false
    gone false b e = refl
    gone true b e = absurd cc

    go : (b : Bool) → Once (filter p fs) → Once (cond b (f ∷ filter p fs) (filter p fs))
    go true rest = (is_among-filter p fs f ∙ gone (is_among fs f) (p f) once.0, rest)
    go false rest = rest

append-once : (fs gs : List Symbol) → Once fs → Once gs → ((g : Symbol) → is_among fs g ≡ true → is_among gs g ≡ false) → Once (fs ++ gs)
append-once [] gs a b apart = b
append-once (f ∷ fs) gs a b apart = (
  is_among-append fs gs f ∙ neither (is_among fs f) (is_among gs f) a.0 (apart f (left_true (symbol_eq f f) (is_among fs f) ((Decides-symbol_eq f f).1 refl))),
  append-once fs gs a.1 b (λ g among. apart g (right_true (symbol_eq f g) (is_among fs g) among)),
)
  where
    neither : (a b : Bool) → a ≡ false → b ≡ false → (a || b) ≡ false
    neither a b h k = cc

more-once : (fs gs : List Symbol) → Once fs → Once gs → Once (with_more fs gs)
more-once fs gs a b = append-once fs (filter (λ g. not (is_among fs g)) gs) a (filter-once (λ g. not (is_among fs g)) gs b) (λ g among. is_among-filter (λ k. not (is_among fs k)) gs g ∙ hidden (is_among gs g) (is_among fs g) among)
  where
    hidden : (a b : Bool) → b ≡ true → (a && not b) ≡ false
    hidden true true e = refl
    hidden false b e = refl
    hidden true false e = absurd cc

head-once : (h : Head) → Once (head_symbols h)
head-once (op o) = tt
head-once (symbol f) = (refl, tt)
head-once (const_array s) = tt

mutual
  free-once : (t : Term) → Once (free t)
  free-once (apply h ts) = more-once (head_symbols h) (free_of ts) (head-once h) (frees-once ts)
  free-once (quantified q xs body) = filter-once (λ f. not (is_among (map constant_of xs) f)) (free body) (free-once body)

  frees-once : (ts : Terms) → Once (free_of ts)
  frees-once none = tt
  frees-once (t ⨾ ts) = more-once (free t) (free_of ts) (free-once t) (frees-once ts)

-- no two of them have one name
abbrev Apart : List Symbol → Type 0
Apart fs = (f g : Symbol) → is_among fs f ≡ true → is_among fs g ≡ true → f.name ≡ g.name → f ≡ g

named-one : (n : Name) (fs : List Symbol) → has_name n (names_of fs) ≡ true → (g : Symbol) × (is_among fs g ≡ true) × (n ≡ g.name)
named-one n [] named = absurd cc
named-one n (f ∷ fs) named = go (either_true (name_eq n f.name) (has_name n (names_of fs)) named) (named-one n fs)
  where
    go : (name_eq n f.name ≡ true) ⊎ (has_name n (names_of fs) ≡ true) → (has_name n (names_of fs) ≡ true → (g : Symbol) × (is_among fs g ≡ true) × (n ≡ g.name)) → (g : Symbol) × (is_among (f ∷ fs) g ≡ true) × (n ≡ g.name)
    go (inl here) below = (f, left_true (symbol_eq f f) (is_among fs f) ((Decides-symbol_eq f f).1 refl), (Decides-name_eq n f.name).0 here)
    go (inr there) below = let found = below there in (found.0, right_true (symbol_eq f found.0) (is_among fs found.0) found.1, found.2)

has-named : (n : Name) (fs : List Symbol) (g : Symbol) → is_among fs g ≡ true → n ≡ g.name → has_name n (names_of fs) ≡ true
has-named n [] g among same = absurd cc
has-named n (f ∷ fs) g among same = go (either_true (symbol_eq f g) (is_among fs g) among) (λ there. has-named n fs g there same)
  where
    go : (symbol_eq f g ≡ true) ⊎ (is_among fs g ≡ true) → (is_among fs g ≡ true → has_name n (names_of fs) ≡ true) → has_name n (names_of (f ∷ fs)) ≡ true
    go (inl here) below = left_true (name_eq n f.name) (has_name n (names_of fs)) ((Decides-name_eq n f.name).1 (same ∙ sym (ap (λ (k : Symbol). k.name) ((Decides-symbol_eq f g).0 here))))
    go (inr there) below = right_true (name_eq n f.name) (has_name n (names_of fs)) (below there)

distinct-apart : (fs : List Symbol) → are_distinct (names_of fs) ≡ true → Apart fs
distinct-apart [] distinct f g a b same = absurd cc
distinct-apart (k ∷ fs) distinct f g a b same = go (either_true (symbol_eq k f) (is_among fs f) a) (either_true (symbol_eq k g) (is_among fs g) b) (distinct-apart fs (both_true (not (has_name k.name (names_of fs))) (are_distinct (names_of fs)) distinct).1 f g)
  where
    parts : (not (has_name k.name (names_of fs)) ≡ true) × (are_distinct (names_of fs) ≡ true)
    parts = both_true (not (has_name k.name (names_of fs))) (are_distinct (names_of fs)) distinct

    never : (h : Symbol) → is_among fs h ≡ true → k.name ≡ h.name → ⊥
    never h among e = let yes : not true ≡ true = ap not (sym (has-named k.name fs h among e)) ∙ parts.0 in absurd cc

    go : (symbol_eq k f ≡ true) ⊎ (is_among fs f ≡ true) → (symbol_eq k g ≡ true) ⊎ (is_among fs g ≡ true) → (is_among fs f ≡ true → is_among fs g ≡ true → f.name ≡ g.name → f ≡ g) → f ≡ g
    go (inl p) (inl q) below = sym ((Decides-symbol_eq k f).0 p) ∙ (Decides-symbol_eq k g).0 q
    go (inl p) (inr q) below = absurd (never g q (ap (λ (h : Symbol). h.name) ((Decides-symbol_eq k f).0 p) ∙ same))
    go (inr p) (inl q) below = absurd (never f p (ap (λ (h : Symbol). h.name) ((Decides-symbol_eq k g).0 q) ∙ sym same))
    go (inr p) (inr q) below = below p q same

apart-distinct : (fs : List Symbol) → Once fs → Apart fs → are_distinct (names_of fs) ≡ true
apart-distinct [] once apart = refl
apart-distinct (f ∷ fs) once apart =
    and_true (not (has_name f.name (names_of fs))) (are_distinct (names_of fs)) (ap not (go (has_name f.name (names_of fs)) refl))
    (apart-distinct fs once.1 (λ g h a b same. apart g h (right_true (symbol_eq f g) (is_among fs g) a) (right_true (symbol_eq f h) (is_among fs h) b) same))
  where
    go : (b : Bool) → has_name f.name (names_of fs) ≡ b → b ≡ false
    go false e = refl
    go true e =
        let found = named-one f.name fs e in
        let same : f ≡ found.0 = apart f found.0 (left_true (symbol_eq f f) (is_among fs f) ((Decides-symbol_eq f f).1 refl)) (right_true (symbol_eq f found.0) (is_among fs found.0) found.1) found.2 in
        let here : is_among fs f ≡ true = ap (is_among fs) same ∙ found.1 in
        let gone : is_among fs f ≡ false = once.0 in
        absurd cc

-- ---- what stays clear

pub stays-clear : (t r : Term) (s : Sort) → sort_of t ≡ Some s → ((g : Symbol) → is_among (free r) g ≡ true → is_among (free t) g ≡ true) → (Clear t → Clear r) → is_clear t ≡ true → is_clear r ≡ true
stays-clear t r s has symbols clear given =
    let parts = both_true (is_clear_below [] t) (are_distinct (names_of (free t))) given in
    and_true (is_clear_below [] r) (are_distinct (names_of (free r)))
    (clear-back r [] (clear (clear-from t s [] has parts.0).0) (λ g among. refl))
    (apart-distinct (free r) (free-once r) (λ f g a b same. distinct-apart (free t) parts.1 f g (symbols f a) (symbols g b) same))
