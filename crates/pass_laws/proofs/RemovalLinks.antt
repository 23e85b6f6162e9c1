-- The replacements of live assertions as a chain of removals: each was made when those before it were live, and no others. What
-- a level declares serves the assertions on it and above.
use Rattle.std.proofs.Common.{◌≡◌, ◌∙◌, sym, ap, refl, subst, ℕ, zero, suc, Bool, true, false, ◌&&◌, ◌||◌, List, [], ◌∷◌, ◌++◌, map, flat_map, drop, replicate, append_assoc, append-nil, Some, All}
use Rattle.std.specs.List.{list_all}
use Rattle.std.proofs.lemmas.List.Elements.{All-nil, All-cons, All-append, All-push, All-weaker}
use Rattle.std.proofs.lemmas.List.Concat.{flat_map-append}
use Rattle.smt_lex.specs.Names.{is_among as is_among_names}
use Rattle.smt_terms.specs.Free.{free, is_among, names_of}
use Rattle.smt_terms.specs.Fresh.{Supply}
use Rattle.smt_terms.specs.Groups.{Named, draw_each, with_constants}
use Rattle.smt_terms.specs.Rank.{sort_of, IsWellSorted}
use Rattle.smt_terms.specs.Shapes.{is_clear_below}
use Rattle.smt_terms.specs.Sorts.{Name, Sort, bool, int, bit_vector, array, free_sort, Symbol, Variable}
use Rattle.smt_terms.specs.SubstLaws.{names_within, GivesNone, Later}
use Rattle.smt_terms.specs.Term.{Term, apply, quantified, Terms, none, ◌⨾◌}
use Rattle.smt_terms.proofs.Tests.{both_true, and_true}
use Rattle.term_groups.specs.Grouping.{symbols_of}
use Rattle.ackermann.specs.Ackermann.{applications, has_quantified_use, without_constant, pairs}
use Rattle.ackermann.specs.Removals.{Removal, all_inputs, all_symbols, all_asserts}
use Rattle.script_read.specs.Commands.{Level, empty_level, throughout, on_latest, with_sort, with_symbol, with_assertion, with_declarations, folded, levels_popped, levels_emptied}
use Rattle.script_read.specs.Printable.{sort_is_live, head_sorts, all_within, all_within_each, is_usable}
use Rattle.pass_laws.specs.Passed.{Replacement}
use Rattle.pass_laws.proofs.ReadyLevels.{among_left}

-- ---- as removals

abbrev pub removal : Replacement → Removal
removal x = record { input = x.term; symbols = x.group.symbols; asserts = x.group.asserts }

abbrev pub removals : List Replacement → List Removal
removals xs = map removal xs

-- their constants, each with its application
abbrev pub pairs_of : List Replacement → Named
pairs_of xs = flat_map (λ x. x.group.symbols) xs

pub inputs_are : (xs : List Replacement) → all_inputs (removals xs) ≡ map (λ x. x.term) xs
inputs_are [] = refl
inputs_are (x ∷ xs) = ap (λ ts. x.term ∷ ts) (inputs_are xs)

pub symbols_are : (xs : List Replacement) → all_symbols (removals xs) ≡ pairs_of xs
symbols_are [] = refl
symbols_are (x ∷ xs) = ap (λ ns. x.group.symbols ++ ns) (symbols_are xs)

pub asserts_are : (xs : List Replacement) → all_asserts (removals xs) ≡ flat_map (λ x. x.group.asserts) xs
asserts_are [] = refl
asserts_are (x ∷ xs) = ap (λ ts. x.group.asserts ++ ts) (asserts_are xs)

pub pairs-append : (xs ys : List Replacement) → pairs_of (xs ++ ys) ≡ pairs_of xs ++ pairs_of ys
pairs-append xs ys = flat_map-append (λ x. x.group.symbols) xs ys

pub pairs-push : (xs : List Replacement) (x : Replacement) → pairs_of (xs ++ x ∷ []) ≡ pairs_of xs ++ x.group.symbols
pairs-push xs x = pairs-append xs (x ∷ []) ∙ ap (λ ns. pairs_of xs ++ ns) (append-nil x.group.symbols)

-- ---- one removal, behind the live applications with their constants, with names from p, where q is left

pub record IsAcked (earlier : Named) (x : Replacement) (p q : Supply) : Type 0 where
  pub apart : GivesNone p (names_of (symbols_of earlier))
  pub symbols : x.group.symbols ≡ (draw_each (without_constant earlier (applications x.term)) p).symbols
  pub names : q ≡ (draw_each (without_constant earlier (applications x.term)) p).names
  pub asserts : x.group.asserts ≡ pairs (earlier ++ x.group.symbols) earlier x.group.symbols ++ with_constants (earlier ++ x.group.symbols) x.term ∷ []

-- s was there first
pub record IsLink (s : Supply) (earlier : Named) (x : Replacement) : Type 0 where
  pub before : Supply
  pub behind : Supply
  pub later : Later s before
  pub is : IsAcked earlier x before behind

abbrev pub AreLinks : Supply → Named → List Replacement → Type 0
AreLinks s earlier [] = Unit {0}
AreLinks s earlier (x ∷ xs) = IsLink s earlier x × AreLinks s (earlier ++ x.group.symbols) xs

-- ---- what is asserted where these sorts and symbols are live

pub record IsInput (s : Supply) (ds : List Name) (fs : List Symbol) (t : Term) : Type 0 where
  pub sort : sort_of t ≡ Some bool
  pub sorted : IsWellSorted t
  pub outside : has_quantified_use t ≡ false
  pub names : GivesNone s (names_within t)
  pub clear : is_clear_below [] t ≡ true
  pub symbols : (f : Symbol) → is_among (free t) f ≡ true → is_among fs f ≡ true
  pub within : all_within (sort_is_live ds) is_usable t ≡ true

abbrev NamesStay : List Name → List Name → Type 0
NamesStay ds es = (n : Name) → is_among_names ds n ≡ true → is_among_names es n ≡ true

abbrev SymbolsStay : List Symbol → List Symbol → Type 0
SymbolsStay fs gs = (f : Symbol) → is_among fs f ≡ true → is_among gs f ≡ true

names_first : (ds es : List Name) → NamesStay ds (ds ++ es)
names_first [] es n h = absurd cc
names_first (d ∷ ds) es n h = go _ (names_first ds es n) h
  where
    go : (b : Bool) {c e : Bool} → (c ≡ true → e ≡ true) → (b || c) ≡ true → (b || e) ≡ true
    go true more h = refl
    go false more h = more h

module _ (ds es : List Name) (more : NamesStay ds es) where
  sort_more : (s : Sort) → sort_is_live ds s ≡ true → sort_is_live es s ≡ true
  sort_more bool h = refl
  sort_more int h = refl
  sort_more (bit_vector w) h = refl
  sort_more (array i e) h = let parts = both_true (sort_is_live ds i) (sort_is_live ds e) h in and_true (sort_is_live es i) (sort_is_live es e) (sort_more i parts.0) (sort_more e parts.1)
  sort_more (free_sort n) h = more n h

  sorts_more : (ss : List Sort) → list_all (sort_is_live ds) ss ≡ true → list_all (sort_is_live es) ss ≡ true
  sorts_more [] h = refl
  sorts_more (s ∷ ss) h = let parts = both_true (sort_is_live ds s) (list_all (sort_is_live ds) ss) h in and_true (sort_is_live es s) (list_all (sort_is_live es) ss) (sort_more s parts.0) (sorts_more ss parts.1)

  binders_more : (xs : List Variable) → list_all (λ x. sort_is_live ds x.sort && is_usable x.name) xs ≡ true → list_all (λ x. sort_is_live es x.sort && is_usable x.name) xs ≡ true
  binders_more [] h = refl
  binders_more (x ∷ xs) h =
      let parts = both_true (sort_is_live ds x.sort && is_usable x.name) (list_all (λ x. sort_is_live ds x.sort && is_usable x.name) xs) h in
      let here = both_true (sort_is_live ds x.sort) (is_usable x.name) parts.0 in
      and_true (sort_is_live es x.sort && is_usable x.name) (list_all (λ x. sort_is_live es x.sort && is_usable x.name) xs) (and_true (sort_is_live es x.sort) (is_usable x.name) (sort_more x.sort here.0) here.1) (binders_more xs parts.1)

  mutual
    term_more : (t : Term) → all_within (sort_is_live ds) is_usable t ≡ true → all_within (sort_is_live es) is_usable t ≡ true
    term_more (apply h ts) fine =
        let parts = both_true (list_all (sort_is_live ds) (head_sorts h)) (all_within_each (sort_is_live ds) is_usable ts) fine in
        and_true (list_all (sort_is_live es) (head_sorts h)) (all_within_each (sort_is_live es) is_usable ts) (sorts_more (head_sorts h) parts.0) (terms_more ts parts.1)
    term_more (quantified q xs t) fine =
        let parts = both_true (list_all (λ x. sort_is_live ds x.sort && is_usable x.name) xs) (all_within (sort_is_live ds) is_usable t) fine in
        and_true (list_all (λ x. sort_is_live es x.sort && is_usable x.name) xs) (all_within (sort_is_live es) is_usable t) (binders_more xs parts.0) (term_more t parts.1)

    terms_more : (ts : Terms) → all_within_each (sort_is_live ds) is_usable ts ≡ true → all_within_each (sort_is_live es) is_usable ts ≡ true
    terms_more none fine = refl
    terms_more (t ⨾ ts) fine =
        let parts = both_true (all_within (sort_is_live ds) is_usable t) (all_within_each (sort_is_live ds) is_usable ts) fine in
        and_true (all_within (sort_is_live es) is_usable t) (all_within_each (sort_is_live es) is_usable ts) (term_more t parts.0) (terms_more ts parts.1)

module _ (s : Supply) where
  input_more : (ds es : List Name) (fs gs : List Symbol) → NamesStay ds es → SymbolsStay fs gs → (t : Term) → IsInput s ds fs t → IsInput s es gs t
  input_more ds es fs gs names symbols t is = record {
    sort = is.sort;
    sorted = is.sorted;
    outside = is.outside;
    names = is.names;
    clear = is.clear;
    symbols = λ f among. symbols f (is.symbols f among);
    within = term_more ds es names t is.within;
  }

  all_more : (ds es : List Name) (fs gs : List Symbol) → NamesStay ds es → SymbolsStay fs gs → (xs : List Replacement) → All (λ (x : Replacement). IsInput s ds fs x.term) xs → All (λ (x : Replacement). IsInput s es gs x.term) xs
  all_more ds es fs gs names symbols xs all = All-weaker (λ (x : Replacement). IsInput s ds fs x.term) (λ (x : Replacement). IsInput s es gs x.term) (λ x is. input_more ds es fs gs names symbols x.term is) xs all

  -- ---- links of fewer and of more replacements

  pub links_first : (earlier : Named) (xs ys : List Replacement) → AreLinks s earlier (xs ++ ys) → AreLinks s earlier xs
  links_first earlier [] ys h = tt
  links_first earlier (x ∷ xs) ys h = (h.0, links_first (earlier ++ x.group.symbols) xs ys h.1)

  pub links_push : (earlier : Named) (xs : List Replacement) (x : Replacement) → AreLinks s earlier xs → IsLink s (earlier ++ pairs_of xs) x → AreLinks s earlier (xs ++ x ∷ [])
  links_push earlier [] x h link = (subst (λ ns. IsLink s ns x) (append-nil earlier) link, tt)
  links_push earlier (y ∷ xs) x h link =
      (h.0, links_push (earlier ++ y.group.symbols) xs x h.1 (subst (λ ns. IsLink s ns x) (sym (append_assoc earlier y.group.symbols (pairs_of xs))) link))

  -- ---- levels

  abbrev sorts_on : List (Level Replacement) → List Name
  sorts_on ls = throughout (λ l. l.sorts) ls

  abbrev symbols_on : List (Level Replacement) → List Symbol
  symbols_on ls = throughout (λ l. l.symbols) ls

  abbrev asserted_on : List (Level Replacement) → List Replacement
  asserted_on ls = throughout (λ l. l.asserted) ls

  abbrev AreInputsOn : List (Level Replacement) → List Replacement → Type 0
  AreInputsOn ls xs = All (λ (x : Replacement). IsInput s (sorts_on ls) (symbols_on ls) x.term) xs

  -- each level's assertions, where the sorts and symbols of that level and of those below are live
  abbrev pub AreInputs : List (Level Replacement) → Type 0
  AreInputs [] = Unit {0}
  AreInputs (l ∷ ls) = AreInputsOn (l ∷ ls) l.asserted × AreInputs ls

  pub all_inputs_of : (ls : List (Level Replacement)) → AreInputs ls → AreInputsOn ls (asserted_on ls)
  all_inputs_of [] h = All-nil _
  all_inputs_of (l ∷ ls) h =
      All-append (λ (x : Replacement). IsInput s (sorts_on (l ∷ ls)) (symbols_on (l ∷ ls)) x.term) (asserted_on ls) l.asserted
      (all_more (sorts_on ls) (sorts_on (l ∷ ls)) (symbols_on ls) (symbols_on (l ∷ ls)) (names_first (sorts_on ls) l.sorts) (λ f among. among_left (symbols_on ls) l.symbols f among) (asserted_on ls) (all_inputs_of ls h.1))
      h.0

  -- a level with more sorts and symbols
  wider_level : (k l : Level Replacement) (ls : List (Level Replacement)) → l.asserted ≡ k.asserted → NamesStay (sorts_on (k ∷ ls)) (sorts_on (l ∷ ls)) → SymbolsStay (symbols_on (k ∷ ls)) (symbols_on (l ∷ ls)) → AreInputs (k ∷ ls) → AreInputs (l ∷ ls)
  wider_level k l ls same names symbols h =
      (subst (AreInputsOn (l ∷ ls)) (sym same) (all_more (sorts_on (k ∷ ls)) (sorts_on (l ∷ ls)) (symbols_on (k ∷ ls)) (symbols_on (l ∷ ls)) names symbols k.asserted h.0), h.1)

  names_longer : (ds es more : List Name) → NamesStay (ds ++ es) (ds ++ (es ++ more))
  names_longer ds es more n h = ap (λ ns. is_among_names ns n) (sym (append_assoc ds es more)) ∙ names_first (ds ++ es) more n h

  symbols_longer : (fs gs more : List Symbol) → SymbolsStay (fs ++ gs) (fs ++ (gs ++ more))
  symbols_longer fs gs more f h = ap (λ hs. is_among hs f) (sym (append_assoc fs gs more)) ∙ among_left (fs ++ gs) more f h

  pub inputs_sort : (n : Name) (ls : List (Level Replacement)) → AreInputs ls → AreInputs (on_latest (with_sort n) ls)
  inputs_sort n [] h = (All-nil _, tt)
  inputs_sort n (l ∷ ls) h = wider_level l (with_sort n l) ls refl (names_longer (sorts_on ls) l.sorts (n ∷ [])) (λ f among. among) h

  pub inputs_symbol : (f : Symbol) (ls : List (Level Replacement)) → AreInputs ls → AreInputs (on_latest (with_symbol f) ls)
  inputs_symbol f [] h = (All-nil _, tt)
  inputs_symbol f (l ∷ ls) h = wider_level l (with_symbol f l) ls refl (λ n among. among) (symbols_longer (symbols_on ls) l.symbols (f ∷ [])) h

  pub inputs_assertion : (x : Replacement) (ls : List (Level Replacement)) → IsInput s (sorts_on ls) (symbols_on ls) x.term → AreInputs ls → AreInputs (on_latest (with_assertion x) ls)
  inputs_assertion x [] is h = (All-cons (λ (y : Replacement). IsInput s [] [] y.term) x [] is (All-nil _), tt)
  inputs_assertion x (l ∷ ls) is h = (All-push (λ (y : Replacement). IsInput s (sorts_on (l ∷ ls)) (symbols_on (l ∷ ls)) y.term) l.asserted x h.0 is, h.1)

  pub inputs_pushed : (n : ℕ) (ls : List (Level Replacement)) → AreInputs ls → AreInputs (replicate n empty_level ++ ls)
  inputs_pushed zero ls h = h
  inputs_pushed (suc n) ls h = (All-nil _, inputs_pushed n ls h)

  inputs_dropped : (n : ℕ) (ls : List (Level Replacement)) → AreInputs ls → AreInputs (drop n ls)
  inputs_dropped zero ls h = h
  inputs_dropped (suc n) [] h = tt
  inputs_dropped (suc n) (l ∷ ls) h = inputs_dropped n ls h.1

  inputs_folded : (n : ℕ) (ls : List (Level Replacement)) → AreInputs ls → AreInputs (folded n ls)
  inputs_folded zero ls h = h
  inputs_folded (suc n) [] h = tt
  inputs_folded (suc n) (l ∷ []) h = h
  inputs_folded (suc n) (k ∷ l ∷ ls) h =
      inputs_folded n (with_declarations k l ∷ ls) (wider_level l (with_declarations k l) ls refl (names_longer (sorts_on ls) l.sorts k.sorts) (symbols_longer (symbols_on ls) l.symbols k.symbols) h.1)

  pub inputs_popped : (b : Bool) (n : ℕ) (ls : List (Level Replacement)) → AreInputs ls → AreInputs (levels_popped b n ls)
  inputs_popped true n ls h = inputs_folded n ls h
  inputs_popped false n ls h = inputs_dropped n ls h

  pub inputs_emptied : (b : Bool) (ls : List (Level Replacement)) → AreInputs (levels_emptied b ls)
  inputs_emptied true ls = (All-nil _, tt)
  inputs_emptied false ls = (All-nil _, tt)

-- ---- what holds of all that is asserted, and of the first of it

module _ (P : List Replacement → Type 0) (first : (xs ys : List Replacement) → P (xs ++ ys) → P xs) (empty : P []) where
  abbrev On : List (Level Replacement) → Type 0
  On ls = P (throughout (λ l. l.asserted) ls)

  pub on_latest_kept : (change : Level Replacement → Level Replacement) → ((l : Level Replacement) → (change l).asserted ≡ l.asserted) → (ls : List (Level Replacement)) → On ls → On (on_latest change ls)
  on_latest_kept change same [] h = subst P (sym (same empty_level)) empty
  on_latest_kept change same (l ∷ ls) h = subst P (ap (λ xs. throughout (λ k. k.asserted) ls ++ xs) (sym (same l))) h

  pub on_pushed : (n : ℕ) (ls : List (Level Replacement)) → On ls → On (replicate n empty_level ++ ls)
  on_pushed zero ls h = h
  on_pushed (suc n) ls h = subst P (sym (append-nil (throughout (λ k. k.asserted) (replicate n empty_level ++ ls)))) (on_pushed n ls h)

  on_dropped : (n : ℕ) (ls : List (Level Replacement)) → On ls → On (drop n ls)
  on_dropped zero ls h = h
  on_dropped (suc n) [] h = h
  on_dropped (suc n) (l ∷ ls) h = on_dropped n ls (first (throughout (λ k. k.asserted) ls) l.asserted h)

  on_folded : (n : ℕ) (ls : List (Level Replacement)) → On ls → On (folded n ls)
  on_folded zero ls h = h
  on_folded (suc n) [] h = h
  on_folded (suc n) (l ∷ []) h = h
  on_folded (suc n) (k ∷ l ∷ ls) h = on_folded n (with_declarations k l ∷ ls) (first (throughout (λ k. k.asserted) (l ∷ ls)) k.asserted h)

  pub on_popped : (b : Bool) (n : ℕ) (ls : List (Level Replacement)) → On ls → On (levels_popped b n ls)
  on_popped true n ls h = on_folded n ls h
  on_popped false n ls h = on_dropped n ls h

  pub on_emptied : (b : Bool) (ls : List (Level Replacement)) → On (levels_emptied b ls)
  on_emptied true ls = empty
  on_emptied false ls = empty

pub asserted_push : (x : Replacement) (ls : List (Level Replacement)) → throughout (λ l. l.asserted) (on_latest (with_assertion x) ls) ≡ throughout (λ l. l.asserted) ls ++ x ∷ []
asserted_push x [] = refl
asserted_push x (l ∷ ls) = sym (append_assoc (throughout (λ l. l.asserted) ls) l.asserted (x ∷ []))
