-- The live bindings of a text that is read, as the levels of a state: its declared sorts and symbols, level by level.
use Rattle.std.proofs.Common.{◌≡◌, ℕ, zero, suc, ◌+◌, ◌<◌, ◌≤◌, Bool, true, false, cond, ◌⊎◌, inl, inr, Option, Some, List, [], ◌∷◌, ◌++◌, length, map, drop, replicate, refl, ap, sym, ◌∙◌, arith, append_assoc, append-nil}
use Rattle.std.specs.Prelude.{count_by, is_some}
use Rattle.std.proofs.lemmas.List.{drop-map, map-append}
use Rattle.std.proofs.lemmas.List.Sums.{sum_by-cons}
use Rattle.smt_lex.specs.Names.{is_among}
use Rattle.smt_terms.specs.Equal.{name_eq, sort_eq, symbol_eq}
use Rattle.smt_terms.specs.Free.{is_among as is_among_symbols, names_of}
use Rattle.smt_terms.specs.Sorts.{Name, Sort, free_sort, Symbol}
use Rattle.script_read.specs.Commands.{Level, empty_level, throughout, on_latest, with_sort, with_symbol, with_declarations, folded, levels_popped, levels_emptied}
use Rattle.script_terms.specs.Reading.{ReadBinding, sort_known, function_known, definition_as, named_as, level_known, is_level_known, Entry, symbol_entry, definition_entry, term_entry, entry_of, live_sorts}
use Rattle.script_terms.specs.Scope.{or_later, opened, closed, merged, flattened, popped, emptied}
use Rattle.smt_terms.proofs.Among.{is_among-append}
use Rattle.smt_terms.proofs.Equal.{Decides-symbol_eq}
use Rattle.smt_terms.proofs.Tests.{either_true, left_true, right_true}
use Rattle.script_read.proofs.Fitting.{declared_of}
use Rattle.script_terms.proofs.NameFacts.{name_turned}

abbrev pub Bare : Type 0
Bare = Level (Unit {0})

-- a level without what it asserts
abbrev pub bare_level : {A : Type 0} → Level A → Bare
bare_level l = record { sorts = l.sorts; symbols = l.symbols; asserted = [] }

abbrev pub bare_levels : {A : Type 0} → List (Level A) → List Bare
bare_levels ls = map bare_level ls

-- the sort is the one that a declaration of this name gives
abbrev pub is_own : Name → Sort → Bool
is_own n s = sort_eq s (free_sort n)

abbrev pub with_sort_if : Bool → Name → List Bare → List Bare
with_sort_if true n ls = on_latest (with_sort n) ls
with_sort_if false n ls = ls

-- the levels that bindings show, the latest first; a name that is defined isn't shown
abbrev pub levels_of : List ReadBinding → List Bare
levels_of [] = empty_level ∷ []
levels_of (level_known ∷ bs) = empty_level ∷ levels_of bs
levels_of (sort_known n s ∷ bs) = with_sort_if (is_own n s) n (levels_of bs)
levels_of (function_known f ∷ bs) = on_latest (with_symbol f) (levels_of bs)
levels_of (definition_as n xs f t ∷ bs) = levels_of bs
levels_of (named_as ns f t ls ∷ bs) = levels_of bs

-- ---- levels without what they assert

pub bare_sort : {A : Type 0} (n : Name) (ls : List (Level A)) → bare_levels (on_latest (with_sort n) ls) ≡ on_latest (with_sort n) (bare_levels ls)
bare_sort n [] = refl
bare_sort n (l ∷ ls) = refl

pub bare_symbol : {A : Type 0} (f : Symbol) (ls : List (Level A)) → bare_levels (on_latest (with_symbol f) ls) ≡ on_latest (with_symbol f) (bare_levels ls)
bare_symbol f [] = refl
bare_symbol f (l ∷ ls) = refl

pub bare_pushed : {A : Type 0} (n : ℕ) (ls : List (Level A)) → bare_levels (replicate n empty_level ++ ls) ≡ replicate n empty_level ++ bare_levels ls
bare_pushed zero ls = refl
bare_pushed (suc n) ls = ap (λ ks. empty_level ∷ ks) (bare_pushed n ls)

pub bare_folded : {A : Type 0} (n : ℕ) (ls : List (Level A)) → bare_levels (folded n ls) ≡ folded n (bare_levels ls)
bare_folded zero ls = refl
bare_folded (suc n) [] = refl
bare_folded (suc n) (l ∷ []) = refl
bare_folded (suc n) (above ∷ l ∷ ls) = bare_folded n (with_declarations above l ∷ ls)

pub bare_popped : {A : Type 0} (b : Bool) (n : ℕ) (ls : List (Level A)) → bare_levels (levels_popped b n ls) ≡ levels_popped b n (bare_levels ls)
bare_popped true n ls = bare_folded n ls
bare_popped false n ls = sym (drop-map bare_level n ls)

pub bare_sorts : {A : Type 0} (ls : List (Level A)) → throughout (λ l. l.sorts) (bare_levels ls) ≡ throughout (λ l. l.sorts) ls
bare_sorts [] = refl
bare_sorts (l ∷ ls) = ap (λ ns. ns ++ l.sorts) (bare_sorts ls)

pub bare_symbols : {A : Type 0} (ls : List (Level A)) → throughout (λ l. l.symbols) (bare_levels ls) ≡ throughout (λ l. l.symbols) ls
bare_symbols [] = refl
bare_symbols (l ∷ ls) = ap (λ fs. fs ++ l.symbols) (bare_symbols ls)

abbrev level_from : List Name → List Symbol → Bare
level_from ns fs = record { sorts = ns; symbols = fs; asserted = [] }

pub bare_emptied : {A : Type 0} (b : Bool) (ls : List (Level A)) → bare_levels (levels_emptied b ls) ≡ levels_emptied b (bare_levels ls)
bare_emptied true ls =
    ap (λ ns. level_from ns (throughout (λ l. l.symbols) ls) ∷ []) (sym (bare_sorts ls)) ∙ ap (λ fs. level_from (throughout (λ l. l.sorts) (bare_levels ls)) fs ∷ []) (sym (bare_symbols ls))
bare_emptied false ls = refl

-- ---- levels that bindings show

latest_some : (change : Bare → Bare) (ls : List Bare) → 0 < length (on_latest change ls)
latest_some change [] = omega arith
latest_some change (l ∷ ls) = omega arith

sort_some : (b : Bool) (n : Name) (ls : List Bare) → 0 < length ls → 0 < length (with_sort_if b n ls)
sort_some true n ls some = latest_some (with_sort n) ls
sort_some false n ls some = some

pub levels_some : (bs : List ReadBinding) → 0 < length (levels_of bs)
levels_some [] = omega arith
levels_some (level_known ∷ bs) = omega arith
levels_some (sort_known n s ∷ bs) = sort_some (is_own n s) n (levels_of bs) (levels_some bs)
levels_some (function_known f ∷ bs) = latest_some (with_symbol f) (levels_of bs)
levels_some (definition_as n xs f t ∷ bs) = levels_some bs
levels_some (named_as ns f t ls ∷ bs) = levels_some bs

pub levels_opened : (n : ℕ) (bs : List ReadBinding) → levels_of (opened level_known n bs) ≡ replicate n empty_level ++ levels_of bs
levels_opened zero bs = refl
levels_opened (suc n) bs = ap (λ ls. empty_level ∷ ls) (levels_opened n bs)

dropped_latest : (n : ℕ) (change : Bare → Bare) (ls : List Bare) → 0 < length ls → drop (suc n) (on_latest change ls) ≡ drop (suc n) ls
dropped_latest n change [] some = absurd (omega arith)
dropped_latest n change (l ∷ ls) some = refl

dropped_sort : (n : ℕ) (b : Bool) (m : Name) (ls : List Bare) → 0 < length ls → drop (suc n) (with_sort_if b m ls) ≡ drop (suc n) ls
dropped_sort n true m ls some = dropped_latest n (with_sort m) ls some
dropped_sort n false m ls some = refl

one_more_mark : (bs : List ReadBinding) → count_by is_level_known (level_known ∷ bs) ≡ 1 + count_by is_level_known bs
one_more_mark bs = sum_by-cons (λ b. cond (is_level_known b) 1 0) level_known bs

levels_closed : (n : ℕ) (bs : List ReadBinding) → n ≤ count_by is_level_known bs → levels_of (closed is_level_known n bs) ≡ drop n (levels_of bs)
levels_closed zero [] few = refl
levels_closed (suc n) [] few = absurd (omega arith)
levels_closed zero (b ∷ bs) few = refl
levels_closed (suc n) (level_known ∷ bs) few = levels_closed n bs (let e = one_more_mark bs in omega (arith, few, e))
levels_closed (suc n) (sort_known m s ∷ bs) few = levels_closed (suc n) bs (omega (arith, few)) ∙ sym (dropped_sort n (is_own m s) m (levels_of bs) (levels_some bs))
levels_closed (suc n) (function_known f ∷ bs) few = levels_closed (suc n) bs (omega (arith, few)) ∙ sym (dropped_latest n (with_symbol f) (levels_of bs) (levels_some bs))
levels_closed (suc n) (definition_as m xs f t ∷ bs) few = levels_closed (suc n) bs (omega (arith, few))
levels_closed (suc n) (named_as ns f t ls ∷ bs) few = levels_closed (suc n) bs (omega (arith, few))

folded_sort : (m : Name) (n : ℕ) (ls : List Bare) → folded n (on_latest (with_sort m) ls) ≡ on_latest (with_sort m) (folded n ls)
folded_sort m zero ls = refl
folded_sort m (suc n) [] = refl
folded_sort m (suc n) (l ∷ []) = refl
folded_sort m (suc n) (a ∷ l ∷ ls) =
    ap (λ ns. folded n (record { sorts = ns; symbols = l.symbols ++ a.symbols; asserted = l.asserted } ∷ ls)) (sym (append_assoc l.sorts a.sorts (m ∷ []))) ∙ folded_sort m n (with_declarations a l ∷ ls)

folded_sort_if : (b : Bool) (m : Name) (n : ℕ) (ls : List Bare) → folded n (with_sort_if b m ls) ≡ with_sort_if b m (folded n ls)
folded_sort_if true m n ls = folded_sort m n ls
folded_sort_if false m n ls = refl

folded_symbol : (f : Symbol) (n : ℕ) (ls : List Bare) → folded n (on_latest (with_symbol f) ls) ≡ on_latest (with_symbol f) (folded n ls)
folded_symbol f zero ls = refl
folded_symbol f (suc n) [] = refl
folded_symbol f (suc n) (l ∷ []) = refl
folded_symbol f (suc n) (a ∷ l ∷ ls) =
    ap (λ fs. folded n (record { sorts = l.sorts ++ a.sorts; symbols = fs; asserted = l.asserted } ∷ ls)) (sym (append_assoc l.symbols a.symbols (f ∷ []))) ∙ folded_symbol f n (with_declarations a l ∷ ls)

folded_empty : (n : ℕ) (ls : List Bare) → 0 < length ls → folded (suc n) (empty_level ∷ ls) ≡ folded n ls
folded_empty n [] some = absurd (omega arith)
folded_empty n (l ∷ ls) some =
    ap (λ ns. folded n (record { sorts = ns; symbols = l.symbols ++ []; asserted = l.asserted } ∷ ls)) (append-nil l.sorts)
    ∙ ap (λ fs. folded n (record { sorts = l.sorts; symbols = fs; asserted = l.asserted } ∷ ls)) (append-nil l.symbols)

levels_merged : (n : ℕ) (bs : List ReadBinding) → levels_of (merged is_level_known n bs) ≡ folded n (levels_of bs)
levels_merged zero [] = refl
levels_merged (suc n) [] = refl
levels_merged zero (b ∷ bs) = refl
levels_merged (suc n) (level_known ∷ bs) = levels_merged n bs ∙ sym (folded_empty n (levels_of bs) (levels_some bs))
levels_merged (suc n) (sort_known m s ∷ bs) = ap (with_sort_if (is_own m s) m) (levels_merged (suc n) bs) ∙ sym (folded_sort_if (is_own m s) m (suc n) (levels_of bs))
levels_merged (suc n) (function_known f ∷ bs) = ap (on_latest (with_symbol f)) (levels_merged (suc n) bs) ∙ sym (folded_symbol f (suc n) (levels_of bs))
levels_merged (suc n) (definition_as m xs f t ∷ bs) = levels_merged (suc n) bs
levels_merged (suc n) (named_as ns f t ls ∷ bs) = levels_merged (suc n) bs

pub levels_of_popped : (b : Bool) (n : ℕ) (bs : List ReadBinding) → n ≤ count_by is_level_known bs → levels_of (popped is_level_known b n bs) ≡ levels_popped b n (levels_of bs)
levels_of_popped true n bs few = levels_merged n bs
levels_of_popped false n bs few = levels_closed n bs few

-- ---- all sorts and symbols

abbrev pub name_last_if : Bool → Name → List Name → List Name
name_last_if true n ns = ns ++ n ∷ []
name_last_if false n ns = ns

latest_sorts : (b : Bool) (n : Name) (ls : List Bare) → throughout (λ l. l.sorts) (with_sort_if b n ls) ≡ name_last_if b n (throughout (λ l. l.sorts) ls)
latest_sorts true n [] = refl
latest_sorts true n (l ∷ ls) = sym (append_assoc (throughout (λ l. l.sorts) ls) l.sorts (n ∷ []))
latest_sorts false n ls = refl

latest_symbols : (f : Symbol) (ls : List Bare) → throughout (λ l. l.symbols) (on_latest (with_symbol f) ls) ≡ throughout (λ l. l.symbols) ls ++ f ∷ []
latest_symbols f [] = refl
latest_symbols f (l ∷ ls) = sym (append_assoc (throughout (λ l. l.symbols) ls) l.symbols (f ∷ []))

same_sorts : (f : Symbol) (ls : List Bare) → throughout (λ l. l.sorts) (on_latest (with_symbol f) ls) ≡ throughout (λ l. l.sorts) ls
same_sorts f [] = refl
same_sorts f (l ∷ ls) = refl

same_symbols : (b : Bool) (n : Name) (ls : List Bare) → throughout (λ l. l.symbols) (with_sort_if b n ls) ≡ throughout (λ l. l.symbols) ls
same_symbols true n [] = refl
same_symbols true n (l ∷ ls) = refl
same_symbols false n ls = refl

-- the sorts and symbols that are declared, the latest last
abbrev pub sorts_known : List ReadBinding → List Name
sorts_known [] = []
sorts_known (sort_known n s ∷ bs) = name_last_if (is_own n s) n (sorts_known bs)
sorts_known (_ ∷ bs) = sorts_known bs

abbrev pub symbols_known : List ReadBinding → List Symbol
symbols_known [] = []
symbols_known (function_known f ∷ bs) = symbols_known bs ++ f ∷ []
symbols_known (_ ∷ bs) = symbols_known bs

pub known_sorts : (bs : List ReadBinding) → throughout (λ l. l.sorts) (levels_of bs) ≡ sorts_known bs
known_sorts [] = refl
known_sorts (level_known ∷ bs) = append-nil (throughout (λ l. l.sorts) (levels_of bs)) ∙ known_sorts bs
known_sorts (sort_known n s ∷ bs) = latest_sorts (is_own n s) n (levels_of bs) ∙ ap (name_last_if (is_own n s) n) (known_sorts bs)
known_sorts (function_known f ∷ bs) = same_sorts f (levels_of bs) ∙ known_sorts bs
known_sorts (definition_as n xs f t ∷ bs) = known_sorts bs
known_sorts (named_as ns f t ls ∷ bs) = known_sorts bs

pub known_symbols : (bs : List ReadBinding) → throughout (λ l. l.symbols) (levels_of bs) ≡ symbols_known bs
known_symbols [] = refl
known_symbols (level_known ∷ bs) = append-nil (throughout (λ l. l.symbols) (levels_of bs)) ∙ known_symbols bs
known_symbols (sort_known n s ∷ bs) = same_symbols (is_own n s) n (levels_of bs) ∙ known_symbols bs
known_symbols (function_known f ∷ bs) = latest_symbols f (levels_of bs) ∙ ap (λ fs. fs ++ f ∷ []) (known_symbols bs)
known_symbols (definition_as n xs f t ∷ bs) = known_symbols bs
known_symbols (named_as ns f t ls ∷ bs) = known_symbols bs

flat_sort : (b : Bool) (n : Name) (ns : List Name) (fs : List Symbol) → with_sort_if b n (level_from ns fs ∷ []) ≡ level_from (name_last_if b n ns) fs ∷ []
flat_sort true n ns fs = refl
flat_sort false n ns fs = refl

levels_flat : (bs : List ReadBinding) → levels_of (flattened is_level_known bs) ≡ level_from (sorts_known bs) (symbols_known bs) ∷ []
levels_flat [] = refl
levels_flat (level_known ∷ bs) = levels_flat bs
levels_flat (sort_known n s ∷ bs) = ap (with_sort_if (is_own n s) n) (levels_flat bs) ∙ flat_sort (is_own n s) n (sorts_known bs) (symbols_known bs)
levels_flat (function_known f ∷ bs) = ap (on_latest (with_symbol f)) (levels_flat bs)
levels_flat (definition_as n xs f t ∷ bs) = levels_flat bs
levels_flat (named_as ns f t ls ∷ bs) = levels_flat bs

pub levels_of_emptied : (b : Bool) (bs : List ReadBinding) → levels_of (emptied is_level_known b bs) ≡ levels_emptied b (levels_of bs)
levels_of_emptied true bs =
    levels_flat bs ∙ ap (λ ns. level_from ns (symbols_known bs) ∷ []) (sym (known_sorts bs)) ∙ ap (λ fs. level_from (throughout (λ l. l.sorts) (levels_of bs)) fs ∷ []) (sym (known_symbols bs))
levels_of_emptied false bs = refl

-- ---- how many levels are open

latest_length : (change : Bare → Bare) (ls : List Bare) → 0 < length ls → length (on_latest change ls) ≡ length ls
latest_length change [] some = absurd (omega arith)
latest_length change (l ∷ ls) some = refl

sort_length : (b : Bool) (n : Name) (ls : List Bare) → 0 < length ls → length (with_sort_if b n ls) ≡ length ls
sort_length true n ls some = latest_length (with_sort n) ls some
sort_length false n ls some = refl

pub levels_length : (bs : List ReadBinding) → length (levels_of bs) ≡ suc (count_by is_level_known bs)
levels_length [] = refl
levels_length (level_known ∷ bs) = let h = levels_length bs in let e = one_more_mark bs in omega (arith, h, e)
levels_length (sort_known n s ∷ bs) = let e = sort_length (is_own n s) n (levels_of bs) (levels_some bs) in let h = levels_length bs in omega (arith, e, h)
levels_length (function_known f ∷ bs) = let e = latest_length (with_symbol f) (levels_of bs) (levels_some bs) in let h = levels_length bs in omega (arith, e, h)
levels_length (definition_as n xs f t ∷ bs) = let h = levels_length bs in omega (arith, h)
levels_length (named_as ns f t ls ∷ bs) = let h = levels_length bs in omega (arith, h)

-- ---- what is shown is live

some_later : {A : Type 0} (b : Bool) (y : A) (o : Option A) → is_some o ≡ true → is_some (or_later b y o) ≡ true
some_later true y o h = refl
some_later false y o h = h

some_here : {A : Type 0} (b : Bool) (y : A) (o : Option A) → b ≡ true → is_some (or_later b y o) ≡ true
some_here true y o h = refl
some_here false y o h = absurd cc

last_or_before : (ns : List Name) (m n : Name) → is_among (ns ++ m ∷ []) n ≡ true → (is_among ns n ≡ true) ⊎ (name_eq n m ≡ true)
last_or_before [] m n h = elim (either_true (name_eq n m) false h) [ inl here ↦ inr here | inr wrong ↦ absurd (cc) ]
last_or_before (k ∷ ns) m n h = elim (either_true (name_eq n k) (is_among (ns ++ m ∷ []) n) h) [
  | inl here ↦ inl (left_true (name_eq n k) (is_among ns n) here)
  | inr behind ↦ elim (last_or_before ns m n behind) [ inl before ↦ inl (right_true (name_eq n k) (is_among ns n) before) | inr last ↦ inr last ]
]

-- a declared sort's name is live
pub known_live : (bs : List ReadBinding) (n : Name) → is_among (sorts_known bs) n ≡ true → is_some (live_sorts bs n) ≡ true
known_live [] n h = absurd (cc)
known_live (sort_known m s ∷ bs) n h = go (is_own m s) h (known_live bs n)
  where
    go : (b : Bool) → is_among (name_last_if b m (sorts_known bs)) n ≡ true → (is_among (sorts_known bs) n ≡ true → is_some (live_sorts bs n) ≡ true) → is_some (or_later (name_eq m n) s (live_sorts bs n)) ≡ true
    go true k below = elim (last_or_before (sorts_known bs) m n k) [
      | inl before ↦ some_later (name_eq m n) s (live_sorts bs n) (below before)
      | inr last ↦ some_here (name_eq m n) s (live_sorts bs n) (name_turned m n ∙ last)
    ]
    go false k below = some_later (name_eq m n) s (live_sorts bs n) (below k)
known_live (function_known f ∷ bs) n h = known_live bs n h
known_live (definition_as m xs f t ∷ bs) n h = known_live bs n h
known_live (named_as ns f t ls ∷ bs) n h = known_live bs n h
known_live (level_known ∷ bs) n h = known_live bs n h

-- a declared symbol's name is live
pub named_live : (bs : List ReadBinding) (n : Name) → is_among (names_of (symbols_known bs)) n ≡ true → is_some (entry_of bs n) ≡ true
named_live [] n h = absurd (cc)
named_live (sort_known m s ∷ bs) n h = named_live bs n h
named_live (function_known f ∷ bs) n h =
    elim (last_or_before (names_of (symbols_known bs)) f.name n (sym (ap (λ ns. is_among ns n) (map-append (λ (k : Symbol). k.name) (symbols_known bs) (f ∷ []))) ∙ h)) [
      | inl before ↦ some_later (name_eq f.name n) (symbol_entry f) (entry_of bs n) (named_live bs n before)
      | inr last ↦ some_here (name_eq f.name n) (symbol_entry f) (entry_of bs n) (name_turned f.name n ∙ last)
    ]
named_live (definition_as m xs f t ∷ bs) n h = some_later (name_eq m n) (definition_entry xs t) (entry_of bs n) (named_live bs n h)
named_live (named_as ns f t ls ∷ bs) n h = some_later (is_among ns n) (term_entry t) (entry_of bs n) (named_live bs n h)
named_live (level_known ∷ bs) n h = named_live bs n h

among_first : (fs : List Symbol) (f g : Symbol) → is_among_symbols fs g ≡ true → is_among_symbols (fs ++ f ∷ []) g ≡ true
among_first fs f g h = is_among-append fs (f ∷ []) g ∙ left_true (is_among_symbols fs g) (is_among_symbols (f ∷ []) g) h

-- a symbol that is declared is shown
pub declared_known : (bs : List ReadBinding) (g : Symbol) → is_among_symbols (declared_of bs) g ≡ true → is_among_symbols (symbols_known bs) g ≡ true
declared_known [] g h = absurd (cc)
declared_known (sort_known m s ∷ bs) g h = declared_known bs g h
declared_known (function_known f ∷ bs) g h = elim (either_true (symbol_eq f g) (is_among_symbols (declared_of bs) g) h) [
  | inl here ↦ is_among-append (symbols_known bs) (f ∷ []) g ∙ right_true (is_among_symbols (symbols_known bs) g) (is_among_symbols (f ∷ []) g) (left_true (symbol_eq f g) false here)
  | inr later ↦ among_first (symbols_known bs) f g (declared_known bs g later)
]
declared_known (definition_as m xs f t ∷ bs) g h = declared_known bs g h
declared_known (named_as ns f t ls ∷ bs) g h = declared_known bs g h
declared_known (level_known ∷ bs) g h = declared_known bs g h

front_known : (fs : List Symbol) (y : Entry) (g : Symbol) (b : Bool) (o : Option Entry) → or_later b y o ≡ Some (symbol_entry g) → (y ≡ symbol_entry g → is_among_symbols fs g ≡ true) → (o ≡ Some (symbol_entry g) → is_among_symbols fs g ≡ true) → is_among_symbols fs g ≡ true
front_known fs y g true o h here below = here cc
front_known fs y g false o h here below = below h

-- a symbol that a live name stands for is shown
pub entry_known : (bs : List ReadBinding) (n : Name) (g : Symbol) → entry_of bs n ≡ Some (symbol_entry g) → is_among_symbols (symbols_known bs) g ≡ true
entry_known [] n g h = absurd (cc)
entry_known (sort_known m s ∷ bs) n g h = entry_known bs n g h
entry_known (function_known f ∷ bs) n g h =
    front_known (symbols_known bs ++ f ∷ []) (symbol_entry f) g (name_eq f.name n) (entry_of bs n) h
    (λ same. let is : f ≡ g = cc in is_among-append (symbols_known bs) (f ∷ []) g ∙ right_true (is_among_symbols (symbols_known bs) g) (is_among_symbols (f ∷ []) g) (left_true (symbol_eq f g) false ((Decides-symbol_eq f g).1 is)))
    (λ k. among_first (symbols_known bs) f g (entry_known bs n g k))
entry_known (definition_as m xs f t ∷ bs) n g h = front_known (symbols_known bs) (definition_entry xs t) g (name_eq m n) (entry_of bs n) h (λ same. absurd cc) (λ k. entry_known bs n g k)
entry_known (named_as ns f t ls ∷ bs) n g h = front_known (symbols_known bs) (term_entry t) g (is_among ns n) (entry_of bs n) h (λ same. absurd cc) (λ k. entry_known bs n g k)
entry_known (level_known ∷ bs) n g h = entry_known bs n g h
