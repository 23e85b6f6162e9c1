-- Variables of quantifiers as they were read: their names under which they may be bound, and the constants of these.
use Rattle.std.proofs.Common.{◌≡◌, ℕ, suc, ◌+◌, Bool, true, false, ◌||◌, List, [], ◌∷◌, map, length, drop, All, Option, Some, None, option_map, Ok, refl, ap, sym, ◌∙◌, subst, arith}
use Rattle.std.specs.List.{list_all}
use Rattle.std.proofs.lemmas.List.{length-map, drop-drop}
use Rattle.std.proofs.lemmas.List.Elements.{All-cons, All-head, All-tail}
use Rattle.smt_lex.specs.Lex.{Token}
use Rattle.smt_lex.specs.Names.{Name}
use Rattle.smt_lex.specs.Forms.{Forms}
use Rattle.smt_terms.specs.declared.ids.SortId.{SortId}
use Rattle.smt_terms.specs.Equal.{name_eq}
use Rattle.smt_terms.specs.Free.{name_among}
use Rattle.smt_terms.specs.Fresh.{Supply, after_draw}
use Rattle.smt_terms.specs.Rank.{is_sort, are_bindable}
use Rattle.smt_terms.specs.Sorts.{Sort, Variable}
use Rattle.smt_terms.specs.SubstLaws.{GivesNone}
use Rattle.smt_terms.specs.Term.{constant_of}
use Rattle.smt_terms.proofs.Equal.{name_itself}
use Rattle.smt_values.specs.SortIds.{sort_at, IsSortId, IsSortList}
use Rattle.smt_values.proofs.SortIds.{sort_is}
use Rattle.term_table.specs.Formulas.{Formulas, symbol_at}
use Rattle.script_terms.specs.declared.binders.SortedName.{SortedName}
use Rattle.script_terms.specs.declared.locals.Constant.{Constant}
use Rattle.script_terms.specs.declared.locals.Local.TheVariants.{Quantified}
use Rattle.script_terms.specs.Scope.{or_later}
use Rattle.script_terms.specs.SortForms.{Sorts}
use Rattle.script_terms.specs.Variables.{quantifier_binder, may_have, variables_in}
use Rattle.script_terms.specs.Reading.{ReadLocal, quantified_as}
use Rattle.script_terms.specs.Read.{is_empty, name_drawn_if, constant_names, renamed, with_quantified}
use Rattle.script_terms.specs.TextNames.{names_with_all}
use Rattle.script_terms.specs.Known.{Scoping, Scoped, find, sorts_known, IsScopedSort, AreScopedSorts, IsConstant, IsOwnName}
use Rattle.script_terms.specs.Bound.{LocalNames, quantified_meant, locals_shown, IsLocal, ShowsLocals, name_at, variable_seen, variables_seen, symbols_seen, variable_for, variables_of, entered}
use Rattle.script_terms.specs.BinderClauses.{IsSortedName, AreSortedNames}
use Rattle.script_terms.specs.Places.{SparesText}
use Rattle.script_terms.proofs.NameFacts.{spared_first, spared_none, all_within_text}
use Rattle.script_terms.proofs.QuantifiedNames.{names_bindable}
use Rattle.script_terms.proofs.SortFacts.{SortsFine, VariablesSound, variables_read, variables_some}

-- ---- sorts

found_sort : (ss : List Sort) (bs : List (Scoped SortId)) (n : Name) (k : SortId) → AreScopedSorts ss bs → find bs n ≡ Some k → IsSortId ss k
found_sort ss [] n k all is = absurd (cc)
found_sort ss (None ∷ bs) n k all is = found_sort ss bs n k (All-tail (IsScopedSort ss) None bs all) is
found_sort ss (Some p ∷ bs) n k all is = by (name_eq p.0 n) is (All-head (IsScopedSort ss) (Some p) bs all) (found_sort ss bs n k (All-tail (IsScopedSort ss) (Some p) bs all))
  where
    by : (b : Bool) → or_later b p.1 (find bs n) ≡ Some k → IsSortId ss p.1 → (find bs n ≡ Some k → IsSortId ss k) → IsSortId ss k
    by true is here further = let same : p.1 ≡ k = cc in subst (IsSortId ss) same here
    by false is here further = further is

pub known_fine : (t : Formulas) (s : Scoping) → IsSortList t.sorts → AreScopedSorts t.sorts s.sorts → SortsFine (sorts_known t s)
known_fine t s are all n r is = by (find s.sorts n) refl is
  where
    by : (o : Option SortId) → find s.sorts n ≡ o → option_map (sort_at t.sorts) o ≡ Some r → is_sort r ≡ true
    by None found is = absurd (cc)
    by (Some k) found is = let same : sort_at t.sorts k ≡ r = cc in ap is_sort (sym same) ∙ sort_is t.sorts are k.0 (found_sort t.sorts s.sorts n k all found)

-- ---- names

abbrev AmongAll : List Name → List Variable → Type 0
AmongAll ms [] = Unit {0}
AmongAll ms (x ∷ xs) = (name_among ms x.name ≡ true) × AmongAll ms xs

either_true : (b : Bool) → (b || true) ≡ true
either_true true = refl
either_true false = refl

among_more : (m : Name) (ms : List Name) (xs : List Variable) → AmongAll ms xs → AmongAll (m ∷ ms) xs
among_more m ms [] all = tt
among_more m ms (x ∷ xs) all = (ap (λ b. name_eq m x.name || b) all.0 ∙ either_true (name_eq m x.name), among_more m ms xs all.1)

among_own : (xs : List Variable) → AmongAll (map (λ x. x.name) xs) xs
among_own [] = tt
among_own (x ∷ xs) = (ap (λ b. b || name_among (map (λ y. y.name) xs) x.name) (name_itself x.name), among_more x.name (map (λ y. y.name) xs) xs (among_own xs))

own_names : (ns ms earlier : List Name) (xs : List Variable) → AmongAll ms xs → VariablesSound ns earlier xs → VariablesSound ms earlier xs
own_names ns ms earlier [] among sound = tt
own_names ns ms earlier (x ∷ xs) among sound = (record { text = among.0; allowed = sound.0.allowed; fine = sound.0.fine }, sound.1, own_names ns ms (x.name ∷ earlier) xs among.1 sound.2)

names_spared : (t : Formulas) (ts : List Token) (s : Supply) (vs : List SortedName) → SparesText ts s → AreSortedNames t ts vs → GivesNone s (map (λ x. x.name) (variables_seen t ts vs))
names_spared t ts s [] text are = spared_none s
names_spared t ts s (v ∷ vs) text are =
    let first = All-head (IsSortedName t ts) v vs are in
    spared_first s (name_at ts v.name) (map (λ x. x.name) (variables_seen t ts vs)) (text v.name (name_at ts v.name) first.token first.symbol) (names_spared t ts s vs text (All-tail (IsSortedName t ts) v vs are))

pub drawn_bindable : (t : Formulas) (ts : List Token) (s : Supply) (live : Sorts) (fs : Forms) (vs : List SortedName) (taken : Name → Bool) → SortsFine live → SparesText ts s → AreSortedNames t ts vs → is_empty fs ≡ false
    → variables_in quantifier_binder live [] fs ≡ Ok (variables_seen t ts vs) → are_bindable (renamed (variables_seen t ts vs) (constant_names taken (variables_seen t ts vs) s).0) ≡ true
drawn_bindable t ts s live fs vs taken fine text are some is =
    let xs = variables_seen t ts vs in
    let read = variables_read (names_with_all [] fs) quantifier_binder live [] fs xs fine (all_within_text fs) is in
    let sound = own_names (names_with_all [] fs) (map (λ x. x.name) xs) [] xs (among_own xs) read.sound in
    let found = variables_some quantifier_binder live [] fs xs some is in
    subst (λ ys. GivesNone s (map (λ x. x.name) ys) → VariablesSound (map (λ x. x.name) ys) [] ys → list_all (λ y. may_have quantifier_binder y.sort) ys ≡ true → are_bindable (renamed ys (constant_names taken ys s).0) ≡ true) found.2
    (λ spared v k. names_bindable (map (λ x. x.name) (found.0 ∷ found.1)) taken found.0 found.1 s spared v k)
    (names_spared t ts s vs text are) sound read.kinds

-- ---- as many names as variables

named_length : (b : Bool) (n : Name) (s : Supply) (more : Supply → List Name × Supply) (m : ℕ) → ((t : Supply) → length (more t).0 ≡ m) → length (name_drawn_if b n s more).0 ≡ suc m
named_length true n s more m is = ap suc (is (after_draw s))
named_length false n s more m is = ap suc (is s)

names_length : (taken : Name → Bool) (xs : List Variable) (s : Supply) → length (constant_names taken xs s).0 ≡ length xs
names_length taken [] s = refl
names_length taken (x ∷ xs) s = named_length (taken x.name) x.name s (λ t. constant_names taken xs t) (length xs) (names_length taken xs)

renamed_length : (xs : List Variable) (ns : List Name) → length ns ≡ length xs → length (renamed xs ns) ≡ length xs
renamed_length [] ns same = refl
renamed_length (x ∷ xs) [] same = omega (arith, same)
renamed_length (x ∷ xs) (n ∷ ns) same = ap suc (renamed_length xs ns (omega (arith, same)))

-- the variables of drawn constants
module _ (u : Formulas) (cs : List Constant) (ys : List Variable) (are : symbols_seen u cs ≡ map constant_of ys) where
  pub drawn_length : length cs ≡ length ys
  drawn_length = sym (length-map cs (λ c. symbol_at u c.symbol)) ∙ ap length are ∙ length-map ys constant_of

  back : (zs : List Variable) → map variable_for (map constant_of zs) ≡ zs
  back [] = refl
  back (z ∷ zs) = ap (λ ws. z ∷ ws) (back zs)

  apart : (ds : List Constant) → variables_of u ds ≡ map variable_for (symbols_seen u ds)
  apart [] = refl
  apart (d ∷ ds) = ap (λ ws. variable_for (symbol_at u d.symbol) ∷ ws) (apart ds)

  pub drawn_variables : variables_of u cs ≡ ys
  drawn_variables = apart cs ∙ ap (map variable_for) are ∙ back ys

pub drawn_count : (t u : Formulas) (ts : List Token) (s : Supply) (taken : Name → Bool) (vs : List SortedName) (cs : List Constant)
    → symbols_seen u cs ≡ map constant_of (renamed (variables_seen t ts vs) (constant_names taken (variables_seen t ts vs) s).0) → length vs ≡ length cs
drawn_count t u ts s taken vs cs are =
    let xs = variables_seen t ts vs in
    sym (drawn_length u cs (renamed xs (constant_names taken xs s).0) are ∙ renamed_length xs (constant_names taken xs s).0 (names_length taken xs s) ∙ length-map vs (variable_seen t ts))

-- ---- the names are bound

same_tail : {A : Type 0} (x y : A) (xs ys : List A) → x ∷ xs ≡ y ∷ ys → xs ≡ ys
same_tail x y xs ys is = cc

same_head : {A : Type 0} (x y : A) (xs ys : List A) → x ∷ xs ≡ y ∷ ys → x ≡ y
same_head x y xs ys is = cc

module _ (t u : Formulas) (ts : List Token) (s : Supply) where
  pub entered_shows : (vs : List SortedName) (ns : List Name) (cs : List Constant) (ps : LocalNames) (ls : List ReadLocal)
      → symbols_seen u cs ≡ map constant_of (renamed (variables_seen t ts vs) ns) → All (IsConstant u s) cs → All (λ v. IsOwnName (name_at ts v.name)) vs → ShowsLocals u s ps ls
      → ShowsLocals u s (entered ts vs cs ps) (with_quantified (variables_seen t ts vs) ns ls)
  entered_shows [] ns cs ps ls are constants own shows = shows
  entered_shows (v ∷ vs) [] [] ps ls are constants own shows = shows
  entered_shows (v ∷ vs) [] (c ∷ cs) ps ls are constants own shows = absurd (cc)
  entered_shows (v ∷ vs) (n ∷ ns) [] ps ls are constants own shows = absurd (cc)
  entered_shows (v ∷ vs) (n ∷ ns) (c ∷ cs) ps ls are constants own shows =
      let y : Variable = record { name = n; sort = (variable_seen t ts v).sort } in
      let here = same_head (symbol_at u c.symbol) (constant_of y) (symbols_seen u cs) (map constant_of (renamed (variables_seen t ts vs) ns)) are in
      let rest = same_tail (symbol_at u c.symbol) (constant_of y) (symbols_seen u cs) (map constant_of (renamed (variables_seen t ts vs) ns)) are in
      entered_shows vs ns cs ((name_at ts v.name, Quantified c) ∷ ps) (quantified_as (variable_seen t ts v) n ∷ ls) rest (All-tail (IsConstant u s) c cs constants) (All-tail (λ w. IsOwnName (name_at ts w.name)) v vs own)
      (record {
        names = ap (λ f. (name_at ts v.name, quantified_meant f) ∷ locals_shown u ps) here ∙ ap (λ qs. (name_at ts v.name, quantified_meant (constant_of y)) ∷ qs) shows.names;
        numbers = All-cons (λ p. IsLocal u s p.1) (name_at ts v.name, Quantified c) ps (All-head (IsConstant u s) c cs constants) shows.numbers;
        own = All-cons (λ p. IsOwnName p.0) (name_at ts v.name, Quantified c) ps (All-head (λ w. IsOwnName (name_at ts w.name)) v vs own) shows.own;
      })

pub entered_length : (ts : List Token) (vs : List SortedName) (cs : List Constant) (ps : LocalNames) → length vs ≡ length cs → length (entered ts vs cs ps) ≡ length cs + length ps
entered_length ts [] [] ps same = omega arith
entered_length ts [] (c ∷ cs) ps same = omega (arith, same)
entered_length ts (v ∷ vs) [] ps same = omega (arith, same)
entered_length ts (v ∷ vs) (c ∷ cs) ps same =
    let rest = entered_length ts vs cs ((name_at ts v.name, Quantified c) ∷ ps) (omega (arith, same)) in omega (arith, rest)

pub entered_leaves : (ts : List Token) (vs : List SortedName) (cs : List Constant) (ps : LocalNames) → length vs ≡ length cs → drop (length cs) (entered ts vs cs ps) ≡ ps
entered_leaves ts [] [] ps same = refl
entered_leaves ts [] (c ∷ cs) ps same = absurd (let h : 0 ≡ suc (length cs) = same in omega (arith, h))
entered_leaves ts (v ∷ vs) [] ps same = absurd (let h : suc (length vs) ≡ 0 = same in omega (arith, h))
entered_leaves ts (v ∷ vs) (c ∷ cs) ps same =
    let all = entered ts vs cs ((name_at ts v.name, Quantified c) ∷ ps) in
    let one : suc (length cs) ≡ length cs + 1 = omega arith in
    ap (λ n. drop n all) one ∙ sym (drop-drop 1 (length cs) all) ∙ ap (drop 1) (entered_leaves ts vs cs ((name_at ts v.name, Quantified c) ∷ ps) (omega (arith, same)))
