-- What a scope shows of the live bindings: names of sorts, of functions, of definitions and of terms, and levels; also when
-- a binding comes in front, when levels are opened and closed, and when the table gains and names are drawn.
use Rattle.std.proofs.Common.{◌≡◌, ℕ, zero, suc, ◌+◌, ◌<◌, Bool, true, false, not, cond, ◌&&◌, ◌||◌, List, [], ◌∷◌, ◌++◌, map, length, get_or, count_by, All, Option, Some, None, option_map, refl, ap, sym, ◌∙◌, subst, arith}
use Rattle.std.proofs.lemmas.List.{get_or_append_left}
use Rattle.std.proofs.lemmas.List.Elements.{All-nil, All-head, All-tail, All-cons, All-push, All-filter, All-weaker}
use Rattle.std.proofs.lemmas.List.Recursion.{is_count_by}
use Rattle.std.proofs.Math.ListN.{length-append}
use Rattle.std.proofs.Math.Path.{fun_ext}
use Rattle.std.proofs.Math.Seq.{get_or-append_seam}
use Rattle.smt_lex.specs.Names.{Name, is_among}
use Rattle.smt_lex.specs.Forms.{Form}
use Rattle.smt_terms.specs.declared.ids.NodeId.{NodeId}
use Rattle.smt_terms.specs.declared.ids.SymId.{SymId}
use Rattle.smt_terms.specs.declared.ids.SortId.{SortId}
use Rattle.smt_terms.specs.Equal.{name_eq}
use Rattle.smt_terms.specs.Fresh.{Supply, NeverGives}
use Rattle.smt_terms.specs.Sorts.{Sort, Symbol, Variable}
use Rattle.smt_terms.specs.SubstLaws.{names_within, GivesNone}
use Rattle.smt_terms.specs.Term.{Term, constant}
use Rattle.smt_values.specs.SortIds.{sort_at, IsSortId}
use Rattle.term_table.specs.Formulas.{Formulas, tree, symbol_at, IsSymbol}
use Rattle.term_walk.specs.Walking.{GrowsTo}
use Rattle.term_subst.specs.Substituting.{IsLater}
use Rattle.term_subst.specs.declared.maps.Definition.{Definition}
use Rattle.script_terms.specs.declared.locals.Constant.{Constant}
use Rattle.script_terms.specs.declared.scopes.Entry.{Entry}
use Rattle.script_terms.specs.declared.scopes.Entry.TheVariants.{Symbol as SymbolEntry, Constant as ConstantEntry, Definition as DefinitionEntry, Term as TermEntry}
use Rattle.script_terms.specs.Known.{Scoped, is_mark, find, scoped, Scoping, nothing_known, with_entry, with_sort, with_definition, is_symbol_entry, declared_among, levels_in, Meant, symbol_meant, definition_meant, term_meant, no_definition, parameter_sorts, meant_by, terms_shown, sorts_shown, sorts_known, parameters_of, IsSpared, IsDefinition, IsConstant, IsFunction, IsOwnName, HasOwnName, IsEntry, IsScopedEntry, IsScopedSort, AreScopedSorts, IsScoping, names_meant, terms_live, sorts_live, Shows}
use Rattle.script_terms.specs.Scope.{or_later, opened, closed, merged, flattened, popped, emptied}
use Rattle.script_terms.specs.Reading.{ReadBinding, sort_known, function_known, definition_as, named_as, level_known, live_sorts, is_level_known, is_declared, Entry as LiveEntry, symbol_entry, definition_entry, term_entry, entry_of}
use Rattle.script_terms.proofs.Grown.{same_map, node_stays, tree_stays, symbol_within, symbol_stays, sort_within, sort_stays, never_later, none_later, later_self}
use Rattle.script_terms.proofs.NameFacts.{name_turned, spared_first, spared_none}

-- ---- names, in lists with marks

found_scoped : {A B : Type 0} (f : A → B) (b : Bool) (a : A) (later : Option B) (found : Option A) → later ≡ option_map f found → or_later b (f a) later ≡ option_map f (or_later b a found)
found_scoped f true a later found same = refl
found_scoped f false a later found same = same

pub find_scoped : {A B : Type 0} (f : A → B) (bs : List (Scoped A)) (n : Name) → find (map (scoped f) bs) n ≡ option_map f (find bs n)
find_scoped f [] n = refl
find_scoped f (None ∷ bs) n = find_scoped f bs n
find_scoped f (Some p ∷ bs) n = found_scoped f (name_eq p.0 n) p.1 (find (map (scoped f) bs) n) (find bs n) (find_scoped f bs n)

-- ---- sorts

find_sorts : (live : List ReadBinding) (n : Name) → find (sorts_live live) n ≡ live_sorts live n
find_sorts [] n = refl
find_sorts (sort_known m s ∷ bs) n = ap (or_later (name_eq m n) s) (find_sorts bs n)
find_sorts (function_known f ∷ bs) n = find_sorts bs n
find_sorts (definition_as m xs body t ∷ bs) n = find_sorts bs n
find_sorts (named_as ns f t ls ∷ bs) n = find_sorts bs n
find_sorts (level_known ∷ bs) n = find_sorts bs n

module _ (t : Formulas) (s : Scoping) (live : List ReadBinding) (shown : sorts_shown t s ≡ sorts_live live) where
  pub sort_found : (n : Name) → sorts_known t s n ≡ live_sorts live n
  sort_found n = sym (find_scoped (sort_at t.sorts) s.sorts n) ∙ ap (λ bs. find bs n) shown ∙ find_sorts live n

  pub sorts_found : sorts_known t s ≡ live_sorts live
  sorts_found = fun_ext sort_found

-- ---- functions, definitions and names of terms

abbrev pub entry_meant : LiveEntry → Meant
entry_meant (symbol_entry f) = symbol_meant f
entry_meant (definition_entry xs t) = definition_meant (map (λ x. x.sort) xs) t
entry_meant (term_entry t) = term_meant t

found_first : {A : Type 0} (here among : Bool) (a : A) (later : Option A) → or_later among a (or_later here a later) ≡ or_later (here || among) a later
found_first true true a later = refl
found_first true false a later = refl
found_first false true a later = refl
found_first false false a later = refl

find_named : (ns : List Name) (t : Term) (bs : List (Scoped Meant)) (n : Name) → find (names_meant ns t bs) n ≡ or_later (is_among ns n) (term_meant t) (find bs n)
find_named [] t bs n = refl
find_named (m ∷ ns) t bs n =
    find_named ns t (Some (m, term_meant t) ∷ bs) n
    ∙ ap (λ here. or_later (is_among ns n) (term_meant t) (or_later here (term_meant t) (find bs n))) (name_turned m n)
    ∙ found_first (name_eq n m) (is_among ns n) (term_meant t) (find bs n)

find_terms : (live : List ReadBinding) (n : Name) → find (terms_live live) n ≡ option_map entry_meant (entry_of live n)
find_terms [] n = refl
find_terms (sort_known m s ∷ bs) n = find_terms bs n
find_terms (function_known f ∷ bs) n = found_scoped entry_meant (name_eq f.name n) (symbol_entry f) (find (terms_live bs) n) (entry_of bs n) (find_terms bs n)
find_terms (definition_as m xs body t ∷ bs) n = found_scoped entry_meant (name_eq m n) (definition_entry xs t) (find (terms_live bs) n) (entry_of bs n) (find_terms bs n)
find_terms (named_as ns f t ls ∷ bs) n =
    find_named ns t (terms_live bs) n
    ∙ found_scoped entry_meant (is_among ns n) (term_entry t) (find (terms_live bs) n) (entry_of bs n) (find_terms bs n)
find_terms (level_known ∷ bs) n = find_terms bs n

is_symbol_meant : Meant → Bool
is_symbol_meant (symbol_meant f) = true
is_symbol_meant _ = false

declared_meant : List (Scoped Meant) → Name → Bool
declared_meant [] n = false
declared_meant (Some p ∷ bs) n = (is_symbol_meant p.1 && name_eq p.0 n) || declared_meant bs n
declared_meant (None ∷ bs) n = declared_meant bs n

meant_symbol : (t : Formulas) (ds : List Definition) (e : Entry) → is_symbol_meant (meant_by t ds e) ≡ is_symbol_entry e
unfolding is_symbol_meant
meant_symbol t ds (SymbolEntry f) = refl
meant_symbol t ds (ConstantEntry c) = refl
meant_symbol t ds (DefinitionEntry k) = refl
meant_symbol t ds (TermEntry k) = refl

declared_shown : (t : Formulas) (ds : List Definition) (bs : List (Scoped Entry)) (n : Name) → declared_meant (map (scoped (meant_by t ds)) bs) n ≡ declared_among bs n
unfolding declared_meant
declared_shown t ds [] n = refl
declared_shown t ds (None ∷ bs) n = declared_shown t ds bs n
declared_shown t ds (Some p ∷ bs) n =
    ap (λ b. (b && name_eq p.0 n) || declared_meant (map (scoped (meant_by t ds)) bs) n) (meant_symbol t ds p.1)
    ∙ ap (λ b. (is_symbol_entry p.1 && name_eq p.0 n) || b) (declared_shown t ds bs n)

declared_named : (ns : List Name) (t : Term) (bs : List (Scoped Meant)) (n : Name) → declared_meant (names_meant ns t bs) n ≡ declared_meant bs n
unfolding declared_meant is_symbol_meant
declared_named [] t bs n = refl
declared_named (m ∷ ns) t bs n = declared_named ns t (Some (m, term_meant t) ∷ bs) n

declared_live : (live : List ReadBinding) (n : Name) → declared_meant (terms_live live) n ≡ is_declared live n
unfolding declared_meant is_symbol_meant
declared_live [] n = refl
declared_live (sort_known m s ∷ bs) n = declared_live bs n
declared_live (function_known f ∷ bs) n = ap (λ b. name_eq f.name n || b) (declared_live bs n)
declared_live (definition_as m xs body t ∷ bs) n = declared_live bs n
declared_live (named_as ns f t ls ∷ bs) n = declared_named ns t (terms_live bs) n ∙ declared_live bs n
declared_live (level_known ∷ bs) n = declared_live bs n

-- ---- levels

marks : {A : Type 0} → List (Scoped A) → ℕ
marks [] = 0
marks (None ∷ bs) = 1 + marks bs
marks (Some p ∷ bs) = marks bs

one_mark : {A : Type 0} (b : Scoped A) (bs : List (Scoped A)) → marks (b ∷ bs) ≡ cond (is_mark b) (1 + marks bs) (marks bs)
unfolding marks
one_mark None bs = refl
one_mark (Some p) bs = refl

marks_counted : {A : Type 0} (bs : List (Scoped A)) → marks bs ≡ count_by is_mark bs
unfolding marks
marks_counted bs = is_count_by marks is_mark refl one_mark bs

marks_scoped : {A B : Type 0} (f : A → B) (bs : List (Scoped A)) → marks (map (scoped f) bs) ≡ marks bs
unfolding marks
marks_scoped f [] = refl
marks_scoped f (None ∷ bs) = ap (λ n. 1 + n) (marks_scoped f bs)
marks_scoped f (Some p ∷ bs) = marks_scoped f bs

marks_named : (ns : List Name) (t : Term) (bs : List (Scoped Meant)) → marks (names_meant ns t bs) ≡ marks bs
unfolding marks
marks_named [] t bs = refl
marks_named (m ∷ ns) t bs = marks_named ns t (Some (m, term_meant t) ∷ bs)

one_level : (b : ReadBinding) (bs : List ReadBinding) → marks (terms_live (b ∷ bs)) ≡ cond (is_level_known b) (1 + marks (terms_live bs)) (marks (terms_live bs))
unfolding marks
one_level (sort_known m s) bs = refl
one_level (function_known f) bs = refl
one_level (definition_as m xs body t) bs = refl
one_level (named_as ns f t ls) bs = marks_named ns t (terms_live bs)
one_level level_known bs = refl

levels_counted : (live : List ReadBinding) → marks (terms_live live) ≡ count_by is_level_known live
unfolding marks
levels_counted live = is_count_by (λ bs. marks (terms_live bs)) is_level_known refl one_level live

-- ---- what callers look up

module _ (t : Formulas) (s : Scoping) (live : List ReadBinding) (shown : terms_shown t s ≡ terms_live live) where
  pub entry_found : (n : Name) → option_map (meant_by t s.definitions) (find s.terms n) ≡ option_map entry_meant (entry_of live n)
  entry_found n = sym (find_scoped (meant_by t s.definitions) s.terms n) ∙ ap (λ bs. find bs n) shown ∙ find_terms live n

  pub declared_found : (n : Name) → declared_among s.terms n ≡ is_declared live n
  declared_found n = sym (declared_shown t s.definitions s.terms n) ∙ ap (λ bs. declared_meant bs n) shown ∙ declared_live live n

  pub levels_found : levels_in s ≡ count_by is_level_known live
  levels_found =
      sym (marks_counted s.terms) ∙ sym (marks_scoped (meant_by t s.definitions) s.terms) ∙ ap marks shown ∙ levels_counted live

-- ---- levels that are closed

module _ {A B : Type 0} (f : A → B) where
  closed_scoped : (n : ℕ) (bs : List (Scoped A)) → map (scoped f) (closed is_mark n bs) ≡ closed is_mark n (map (scoped f) bs)
  closed_scoped n [] = refl
  closed_scoped zero (b ∷ bs) = refl
  closed_scoped (suc n) (None ∷ bs) = closed_scoped n bs
  closed_scoped (suc n) (Some p ∷ bs) = closed_scoped (suc n) bs

  merged_scoped : (n : ℕ) (bs : List (Scoped A)) → map (scoped f) (merged is_mark n bs) ≡ merged is_mark n (map (scoped f) bs)
  merged_scoped n [] = refl
  merged_scoped zero (b ∷ bs) = refl
  merged_scoped (suc n) (None ∷ bs) = merged_scoped n bs
  merged_scoped (suc n) (Some p ∷ bs) = ap (λ cs. Some (p.0, f p.1) ∷ cs) (merged_scoped (suc n) bs)

  flattened_scoped : (bs : List (Scoped A)) → map (scoped f) (flattened is_mark bs) ≡ flattened is_mark (map (scoped f) bs)
  flattened_scoped [] = refl
  flattened_scoped (None ∷ bs) = flattened_scoped bs
  flattened_scoped (Some p ∷ bs) = ap (λ cs. Some (p.0, f p.1) ∷ cs) (flattened_scoped bs)

  opened_scoped : (n : ℕ) (bs : List (Scoped A)) → map (scoped f) (opened None n bs) ≡ opened None n (map (scoped f) bs)
  opened_scoped zero bs = refl
  opened_scoped (suc n) bs = ap (λ cs. None ∷ cs) (opened_scoped n bs)

  popped_scoped : (global : Bool) (n : ℕ) (bs : List (Scoped A)) → map (scoped f) (popped is_mark global n bs) ≡ popped is_mark global n (map (scoped f) bs)
  popped_scoped true n bs = merged_scoped n bs
  popped_scoped false n bs = closed_scoped n bs

  emptied_scoped : (global : Bool) (bs : List (Scoped A)) → map (scoped f) (emptied is_mark global bs) ≡ emptied is_mark global (map (scoped f) bs)
  emptied_scoped true bs = flattened_scoped bs
  emptied_scoped false bs = refl

-- what holds of each element holds of each that stays
module _ {A : Type 0} (P : Scoped A → Type 0) where
  closed_all : (n : ℕ) (bs : List (Scoped A)) → All P bs → All P (closed is_mark n bs)
  closed_all n [] all = all
  closed_all zero (b ∷ bs) all = all
  closed_all (suc n) (None ∷ bs) all = closed_all n bs (All-tail P None bs all)
  closed_all (suc n) (Some p ∷ bs) all = closed_all (suc n) bs (All-tail P (Some p) bs all)

  merged_all : (n : ℕ) (bs : List (Scoped A)) → All P bs → All P (merged is_mark n bs)
  merged_all n [] all = all
  merged_all zero (b ∷ bs) all = all
  merged_all (suc n) (None ∷ bs) all = merged_all n bs (All-tail P None bs all)
  merged_all (suc n) (Some p ∷ bs) all =
      All-cons P (Some p) (merged is_mark (suc n) bs) (All-head P (Some p) bs all) (merged_all (suc n) bs (All-tail P (Some p) bs all))

  opened_all : (n : ℕ) (bs : List (Scoped A)) → P None → All P bs → All P (opened None n bs)
  opened_all zero bs mark all = all
  opened_all (suc n) bs mark all = All-cons P None (opened None n bs) mark (opened_all n bs mark all)

  popped_all : (global : Bool) (n : ℕ) (bs : List (Scoped A)) → All P bs → All P (popped is_mark global n bs)
  popped_all true n bs all = merged_all n bs all
  popped_all false n bs all = closed_all n bs all

  emptied_all : (global : Bool) (bs : List (Scoped A)) → All P bs → All P (emptied is_mark global bs)
  emptied_all true bs all = All-filter (λ b. not (is_mark b)) P bs all
  emptied_all false bs all = All-nil P

-- names of one term go or stay together
named_closed : (n : ℕ) (ns : List Name) (t : Term) (bs : List (Scoped Meant)) → closed is_mark (suc n) (names_meant ns t bs) ≡ closed is_mark (suc n) bs
named_closed n [] t bs = refl
named_closed n (m ∷ ns) t bs = named_closed n ns t (Some (m, term_meant t) ∷ bs)

named_merged : (n : ℕ) (ns : List Name) (t : Term) (bs : List (Scoped Meant)) → merged is_mark (suc n) (names_meant ns t bs) ≡ names_meant ns t (merged is_mark (suc n) bs)
named_merged n [] t bs = refl
named_merged n (m ∷ ns) t bs = named_merged n ns t (Some (m, term_meant t) ∷ bs)

named_flattened : (ns : List Name) (t : Term) (bs : List (Scoped Meant)) → flattened is_mark (names_meant ns t bs) ≡ names_meant ns t (flattened is_mark bs)
named_flattened [] t bs = refl
named_flattened (m ∷ ns) t bs = named_flattened ns t (Some (m, term_meant t) ∷ bs)

closed_zero : {B : Type 0} (is_end : B → Bool) (bs : List B) → closed is_end zero bs ≡ bs
closed_zero is_end [] = refl
closed_zero is_end (b ∷ bs) = refl

merged_zero : {B : Type 0} (is_end : B → Bool) (bs : List B) → merged is_end zero bs ≡ bs
merged_zero is_end [] = refl
merged_zero is_end (b ∷ bs) = refl

terms_closed : (n : ℕ) (live : List ReadBinding) → closed is_mark n (terms_live live) ≡ terms_live (closed is_level_known n live)
terms_closed n [] = refl
terms_closed zero (b ∷ bs) = closed_zero is_mark (terms_live (b ∷ bs))
terms_closed (suc n) (sort_known m s ∷ bs) = terms_closed (suc n) bs
terms_closed (suc n) (function_known f ∷ bs) = terms_closed (suc n) bs
terms_closed (suc n) (definition_as m xs body t ∷ bs) = terms_closed (suc n) bs
terms_closed (suc n) (named_as ns f t ls ∷ bs) = named_closed n ns t (terms_live bs) ∙ terms_closed (suc n) bs
terms_closed (suc n) (level_known ∷ bs) = terms_closed n bs

terms_merged : (n : ℕ) (live : List ReadBinding) → merged is_mark n (terms_live live) ≡ terms_live (merged is_level_known n live)
terms_merged n [] = refl
terms_merged zero (b ∷ bs) = merged_zero is_mark (terms_live (b ∷ bs))
terms_merged (suc n) (sort_known m s ∷ bs) = terms_merged (suc n) bs
terms_merged (suc n) (function_known f ∷ bs) = ap (λ cs. Some (f.name, symbol_meant f) ∷ cs) (terms_merged (suc n) bs)
terms_merged (suc n) (definition_as m xs body t ∷ bs) = ap (λ cs. Some (m, definition_meant (map (λ x. x.sort) xs) t) ∷ cs) (terms_merged (suc n) bs)
terms_merged (suc n) (named_as ns f t ls ∷ bs) = named_merged n ns t (terms_live bs) ∙ ap (names_meant ns t) (terms_merged (suc n) bs)
terms_merged (suc n) (level_known ∷ bs) = terms_merged n bs

terms_flattened : (live : List ReadBinding) → flattened is_mark (terms_live live) ≡ terms_live (flattened is_level_known live)
terms_flattened [] = refl
terms_flattened (sort_known m s ∷ bs) = terms_flattened bs
terms_flattened (function_known f ∷ bs) = ap (λ cs. Some (f.name, symbol_meant f) ∷ cs) (terms_flattened bs)
terms_flattened (definition_as m xs body t ∷ bs) = ap (λ cs. Some (m, definition_meant (map (λ x. x.sort) xs) t) ∷ cs) (terms_flattened bs)
terms_flattened (named_as ns f t ls ∷ bs) = named_flattened ns t (terms_live bs) ∙ ap (names_meant ns t) (terms_flattened bs)
terms_flattened (level_known ∷ bs) = terms_flattened bs

terms_opened : (n : ℕ) (live : List ReadBinding) → opened None n (terms_live live) ≡ terms_live (opened level_known n live)
terms_opened zero live = refl
terms_opened (suc n) live = ap (λ cs. None ∷ cs) (terms_opened n live)

terms_popped : (global : Bool) (n : ℕ) (live : List ReadBinding) → popped is_mark global n (terms_live live) ≡ terms_live (popped is_level_known global n live)
terms_popped true n live = terms_merged n live
terms_popped false n live = terms_closed n live

terms_emptied : (global : Bool) (live : List ReadBinding) → emptied is_mark global (terms_live live) ≡ terms_live (emptied is_level_known global live)
terms_emptied true live = terms_flattened live
terms_emptied false live = refl

sorts_closed : (n : ℕ) (live : List ReadBinding) → closed is_mark n (sorts_live live) ≡ sorts_live (closed is_level_known n live)
sorts_closed n [] = refl
sorts_closed zero (b ∷ bs) = closed_zero is_mark (sorts_live (b ∷ bs))
sorts_closed (suc n) (sort_known m s ∷ bs) = sorts_closed (suc n) bs
sorts_closed (suc n) (function_known f ∷ bs) = sorts_closed (suc n) bs
sorts_closed (suc n) (definition_as m xs body t ∷ bs) = sorts_closed (suc n) bs
sorts_closed (suc n) (named_as ns f t ls ∷ bs) = sorts_closed (suc n) bs
sorts_closed (suc n) (level_known ∷ bs) = sorts_closed n bs

sorts_merged : (n : ℕ) (live : List ReadBinding) → merged is_mark n (sorts_live live) ≡ sorts_live (merged is_level_known n live)
sorts_merged n [] = refl
sorts_merged zero (b ∷ bs) = merged_zero is_mark (sorts_live (b ∷ bs))
sorts_merged (suc n) (sort_known m s ∷ bs) = ap (λ cs. Some (m, s) ∷ cs) (sorts_merged (suc n) bs)
sorts_merged (suc n) (function_known f ∷ bs) = sorts_merged (suc n) bs
sorts_merged (suc n) (definition_as m xs body t ∷ bs) = sorts_merged (suc n) bs
sorts_merged (suc n) (named_as ns f t ls ∷ bs) = sorts_merged (suc n) bs
sorts_merged (suc n) (level_known ∷ bs) = sorts_merged n bs

sorts_flattened : (live : List ReadBinding) → flattened is_mark (sorts_live live) ≡ sorts_live (flattened is_level_known live)
sorts_flattened [] = refl
sorts_flattened (sort_known m s ∷ bs) = ap (λ cs. Some (m, s) ∷ cs) (sorts_flattened bs)
sorts_flattened (function_known f ∷ bs) = sorts_flattened bs
sorts_flattened (definition_as m xs body t ∷ bs) = sorts_flattened bs
sorts_flattened (named_as ns f t ls ∷ bs) = sorts_flattened bs
sorts_flattened (level_known ∷ bs) = sorts_flattened bs

sorts_opened : (n : ℕ) (live : List ReadBinding) → opened None n (sorts_live live) ≡ sorts_live (opened level_known n live)
sorts_opened zero live = refl
sorts_opened (suc n) live = ap (λ cs. None ∷ cs) (sorts_opened n live)

sorts_popped : (global : Bool) (n : ℕ) (live : List ReadBinding) → popped is_mark global n (sorts_live live) ≡ sorts_live (popped is_level_known global n live)
sorts_popped true n live = sorts_merged n live
sorts_popped false n live = sorts_closed n live

sorts_emptied : (global : Bool) (live : List ReadBinding) → emptied is_mark global (sorts_live live) ≡ sorts_live (emptied is_level_known global live)
sorts_emptied true live = sorts_flattened live
sorts_emptied false live = refl

-- ---- a scope with levels opened and closed

module _ (t : Formulas) (supply : Supply) (s : Scoping) (live : List ReadBinding) (shows : Shows t supply s live) where
  pub shows_opened : (n : ℕ) → Shows t supply (record { terms = opened None n s.terms; sorts = opened None n s.sorts; definitions = s.definitions }) (opened level_known n live)
  shows_opened n = record {
    terms = opened_scoped (meant_by t s.definitions) n s.terms ∙ ap (opened None n) shows.terms ∙ terms_opened n live;
    sorts = opened_scoped (sort_at t.sorts) n s.sorts ∙ ap (opened None n) shows.sorts ∙ sorts_opened n live;
    numbers = record {
      terms = opened_all (IsScopedEntry t supply s.definitions) n s.terms tt shows.numbers.terms;
      names = opened_all HasOwnName n s.terms tt shows.numbers.names;
      sorts = opened_all (IsScopedSort t.sorts) n s.sorts tt shows.numbers.sorts;
      definitions = shows.numbers.definitions;
    };
  }

  pub shows_popped : (global : Bool) (n : ℕ) → Shows t supply (record { terms = popped is_mark global n s.terms; sorts = popped is_mark global n s.sorts; definitions = s.definitions }) (popped is_level_known global n live)
  shows_popped global n = record {
    terms = popped_scoped (meant_by t s.definitions) global n s.terms ∙ ap (popped is_mark global n) shows.terms ∙ terms_popped global n live;
    sorts = popped_scoped (sort_at t.sorts) global n s.sorts ∙ ap (popped is_mark global n) shows.sorts ∙ sorts_popped global n live;
    numbers = record {
      terms = popped_all (IsScopedEntry t supply s.definitions) global n s.terms shows.numbers.terms;
      names = popped_all HasOwnName global n s.terms shows.numbers.names;
      sorts = popped_all (IsScopedSort t.sorts) global n s.sorts shows.numbers.sorts;
      definitions = shows.numbers.definitions;
    };
  }

  pub shows_emptied : (global : Bool) → Shows t supply (record { terms = emptied is_mark global s.terms; sorts = emptied is_mark global s.sorts; definitions = s.definitions }) (emptied is_level_known global live)
  shows_emptied global = record {
    terms = emptied_scoped (meant_by t s.definitions) global s.terms ∙ ap (emptied is_mark global) shows.terms ∙ terms_emptied global live;
    sorts = emptied_scoped (sort_at t.sorts) global s.sorts ∙ ap (emptied is_mark global) shows.sorts ∙ sorts_emptied global live;
    numbers = record {
      terms = emptied_all (IsScopedEntry t supply s.definitions) global s.terms shows.numbers.terms;
      names = emptied_all HasOwnName global s.terms shows.numbers.names;
      sorts = emptied_all (IsScopedSort t.sorts) global s.sorts shows.numbers.sorts;
      definitions = shows.numbers.definitions;
    };
  }

-- ---- nothing is known, and one binding more

pub shows_nothing : (t : Formulas) (supply : Supply) → Shows t supply nothing_known []
shows_nothing t supply = record {
  terms = refl;
  sorts = refl;
  numbers = record { terms = All-nil (IsScopedEntry t supply []); names = All-nil HasOwnName; sorts = All-nil (IsScopedSort t.sorts); definitions = All-nil (IsDefinition t supply) };
}

module _ (t : Formulas) (supply : Supply) (s : Scoping) (live : List ReadBinding) (shows : Shows t supply s live) where
  pub shows_sort : (n : Name) (k : SortId) (to : Sort) → IsSortId t.sorts k → sort_at t.sorts k ≡ to → Shows t supply (with_sort n k s) (sort_known n to ∷ live)
  shows_sort n k to within is = record {
    terms = shows.terms;
    sorts = ap (λ r. Some (n, r) ∷ sorts_shown t s) is ∙ ap (λ bs. Some (n, to) ∷ bs) shows.sorts;
    numbers = record {
      terms = shows.numbers.terms;
      names = shows.numbers.names;
      sorts = All-cons (IsScopedSort t.sorts) (Some (n, k)) s.sorts within shows.numbers.sorts;
      definitions = shows.numbers.definitions;
    };
  }

  pub shows_symbol : (n : Name) (e : Entry) (f : Symbol) → IsEntry t supply s.definitions n e → meant_by t s.definitions e ≡ symbol_meant f → f.name ≡ n → IsOwnName n → Shows t supply (with_entry n e s) (function_known f ∷ live)
  shows_symbol n e f is meant named own = record {
    terms = ap (λ m. Some (n, m) ∷ terms_shown t s) meant ∙ ap (λ m. Some (m, symbol_meant f) ∷ terms_shown t s) (sym named) ∙ ap (λ bs. Some (f.name, symbol_meant f) ∷ bs) shows.terms;
    sorts = shows.sorts;
    numbers = record {
      terms = All-cons (IsScopedEntry t supply s.definitions) (Some (n, e)) s.terms is shows.numbers.terms;
      names = All-cons HasOwnName (Some (n, e)) s.terms own shows.numbers.names;
      sorts = shows.numbers.sorts;
      definitions = shows.numbers.definitions;
    };
  }

-- ---- one definition more

module _ (t : Formulas) (supply : Supply) (ds : List Definition) (d : Definition) where
  entry_more : (n : Name) (e : Entry) → IsEntry t supply ds n e → IsEntry t supply (ds ++ d ∷ []) n e
  entry_more n (SymbolEntry f) is = is
  entry_more n (ConstantEntry c) is = is
  entry_more n (DefinitionEntry k) is = let more : length (ds ++ d ∷ []) ≡ length ds + 1 = length-append ds (d ∷ []) in omega (arith, is)
  entry_more n (TermEntry k) is = is

  scoped_more : (b : Scoped Entry) → IsScopedEntry t supply ds b → IsScopedEntry t supply (ds ++ d ∷ []) b
  scoped_more None is = tt
  scoped_more (Some p) is = entry_more p.0 p.1 is

  meant_more : (n : Name) (e : Entry) → IsEntry t supply ds n e → meant_by t (ds ++ d ∷ []) e ≡ meant_by t ds e
  meant_more n (SymbolEntry f) is = refl
  meant_more n (ConstantEntry c) is = refl
  meant_more n (DefinitionEntry k) is =
      ap (λ c. definition_meant (parameter_sorts t c) (tree t c.body)) (get_or_append_left ds (d ∷ []) no_definition k is)
  meant_more n (TermEntry k) is = refl

  shown_more : (b : Scoped Entry) → IsScopedEntry t supply ds b → scoped (meant_by t (ds ++ d ∷ [])) b ≡ scoped (meant_by t ds) b
  shown_more None is = refl
  shown_more (Some p) is = ap (λ m. Some (p.0, m)) (meant_more p.0 p.1 is)

pub shows_definition : (t : Formulas) (supply : Supply) (s : Scoping) (live : List ReadBinding) → Shows t supply s live → (n : Name) (d : Definition) (xs : List Variable) (f : Form) (body : Term) → IsDefinition t supply d → parameter_sorts t d ≡ map (λ x. x.sort) xs → tree t d.body ≡ body → IsOwnName n → Shows t supply (with_definition n d s) (definition_as n xs f body ∷ live)
shows_definition t supply s live shows n d xs f body is sorts term own = record {
  terms =
      (λ i. Some (n, here i) ∷ same_map (scoped (meant_by t (s.definitions ++ d ∷ []))) (scoped (meant_by t s.definitions)) s.terms (All-weaker (IsScopedEntry t supply s.definitions) (λ b. scoped (meant_by t (s.definitions ++ d ∷ [])) b ≡ scoped (meant_by t s.definitions) b) (shown_more t supply s.definitions d) s.terms shows.numbers.terms) i)
      ∙ ap (λ bs. Some (n, definition_meant (map (λ x. x.sort) xs) body) ∷ bs) shows.terms;
  sorts = shows.sorts;
  numbers = record {
    terms = All-cons (IsScopedEntry t supply (s.definitions ++ d ∷ [])) (Some (n, DefinitionEntry (length s.definitions))) s.terms last (All-weaker (IsScopedEntry t supply s.definitions) (IsScopedEntry t supply (s.definitions ++ d ∷ [])) (scoped_more t supply s.definitions d) s.terms shows.numbers.terms);
    names = All-cons HasOwnName (Some (n, DefinitionEntry (length s.definitions))) s.terms own shows.numbers.names;
    sorts = shows.numbers.sorts;
    definitions = All-push (IsDefinition t supply) s.definitions d shows.numbers.definitions is;
  };
}
  where
    here : meant_by t (s.definitions ++ d ∷ []) (DefinitionEntry (length s.definitions)) ≡ definition_meant (map (λ x. x.sort) xs) body
    here =
        ap (λ c. definition_meant (parameter_sorts t c) (tree t c.body)) (get_or-append_seam s.definitions d [] no_definition)
        ∙ ap (λ ss. definition_meant ss (tree t d.body)) sorts
        ∙ ap (definition_meant (map (λ x. x.sort) xs)) term

    last : length s.definitions < length (s.definitions ++ d ∷ [])
    last = let more : length (s.definitions ++ d ∷ []) ≡ length s.definitions + 1 = length-append s.definitions (d ∷ []) in omega arith

-- ---- a table that gained, and a later supply

pub constant_spared : (t : Formulas) (supply : Supply) (c : Constant) → IsConstant t supply c → IsSpared t supply c.node
constant_spared t supply c is = record {
  node = is.node;
  spared = subst (λ u. GivesNone supply (names_within u)) (sym is.term) (spared_first supply (symbol_at t c.symbol).name [] is.spared (spared_none supply));
}

module _ (t u : Formulas) (supply left : Supply) (grows : GrowsTo t u) (later : IsLater supply left) where
  pub spared_stays : (k : NodeId) → IsSpared t supply k → IsSpared u left k
  spared_stays k is = record {
    node = node_stays t u grows k is.node;
    spared = subst (λ body. GivesNone left (names_within body)) (sym (tree_stays t u grows k is.node)) (none_later supply left later (names_within (tree t k)) is.spared);
  }

  parameter_sorts_stay : (d : Definition) → IsDefinition t supply d → parameter_sorts u d ≡ parameter_sorts t d
  parameter_sorts_stay d is =
      same_map (λ f. (symbol_at u f).result) (λ f. (symbol_at t f).result) d.params
      (All-weaker (IsSymbol t) (λ f. (symbol_at u f).result ≡ (symbol_at t f).result) (λ f within. ap (λ (g : Symbol). g.result) (symbol_stays t u grows f within)) d.params is.symbols)

  definition_stays : (d : Definition) → IsDefinition t supply d → IsDefinition u left d
  definition_stays d is = record {
    body = spared_stays d.body is.body;
    symbols = All-weaker (IsSymbol t) (IsSymbol u) (symbol_within t u grows) d.params is.symbols;
    params =
        same_map (symbol_at u) (symbol_at t) d.params (All-weaker (IsSymbol t) (λ f. symbol_at u f ≡ symbol_at t f) (symbol_stays t u grows) d.params is.symbols)
        ∙ is.params ∙ ap (parameters_of 0) (sym (parameter_sorts_stay d is));
  }

  pub constant_stays : (c : Constant) → IsConstant t supply c → IsConstant u left c
  constant_stays c is =
      let same = symbol_stays t u grows c.symbol is.symbol in
      record {
        symbol = symbol_within t u grows c.symbol is.symbol;
        node = node_stays t u grows c.node is.node;
        term = tree_stays t u grows c.node is.node ∙ is.term ∙ ap constant (sym same);
        args = ap (λ f. f.args) same ∙ is.args;
        spared = subst (λ f. NeverGives left f.name) (sym same) (never_later supply left later (symbol_at t c.symbol).name is.spared);
      }

  function_stays : (n : Name) (f : SymId) → IsFunction t supply n f → IsFunction u left n f
  function_stays n f is =
      let same = symbol_stays t u grows f is.symbol in
      record {
        symbol = symbol_within t u grows f is.symbol;
        args = λ none. is.args (sym (ap (λ (g : Symbol). g.args) same) ∙ none);
        name = ap (λ (g : Symbol). g.name) same ∙ is.name;
        spared = never_later supply left later n is.spared;
      }

  entry_stays : (ds : List Definition) (n : Name) (e : Entry) → IsEntry t supply ds n e → IsEntry u left ds n e
  entry_stays ds n (SymbolEntry f) is = function_stays n f is
  entry_stays ds n (ConstantEntry c) is = record {
    constant = constant_stays c is.constant;
    name = ap (λ (g : Symbol). g.name) (symbol_stays t u grows c.symbol is.constant.symbol) ∙ is.name;
  }
  entry_stays ds n (DefinitionEntry k) is = is
  entry_stays ds n (TermEntry k) is = spared_stays k is

  scoped_stays : (ds : List Definition) (b : Scoped Entry) → IsScopedEntry t supply ds b → IsScopedEntry u left ds b
  scoped_stays ds None is = tt
  scoped_stays ds (Some p) is = entry_stays ds p.0 p.1 is

  scoped_sort_stays : (b : Scoped SortId) → IsScopedSort t.sorts b → IsScopedSort u.sorts b
  scoped_sort_stays None is = tt
  scoped_sort_stays (Some p) is = sort_within t.sorts u.sorts grows.sorts p.1 is

  pub meant_stays : (ds : List Definition) (n : Name) (e : Entry) → All (IsDefinition t supply) ds → IsEntry t supply ds n e → meant_by u ds e ≡ meant_by t ds e
  meant_stays ds n (SymbolEntry f) all is = ap symbol_meant (symbol_stays t u grows f is.symbol)
  meant_stays ds n (ConstantEntry c) all is = ap symbol_meant (symbol_stays t u grows c.symbol is.constant.symbol)
  meant_stays ds n (DefinitionEntry k) all is =
      let d : Definition = get_or ds k no_definition in
      let held : IsDefinition t supply d = all k no_definition is in
      (λ i. definition_meant (parameter_sorts_stay d held i) (tree_stays t u grows d.body held.body.node i))
  meant_stays ds n (TermEntry k) all is = ap term_meant (tree_stays t u grows k is.node)

  shown_stays : (ds : List Definition) → All (IsDefinition t supply) ds → (b : Scoped Entry) → IsScopedEntry t supply ds b → scoped (meant_by u ds) b ≡ scoped (meant_by t ds) b
  shown_stays ds all None is = refl
  shown_stays ds all (Some p) is = ap (λ m. Some (p.0, m)) (meant_stays ds p.0 p.1 all is)

  shown_sort_stays : (b : Scoped SortId) → IsScopedSort t.sorts b → scoped (sort_at u.sorts) b ≡ scoped (sort_at t.sorts) b
  shown_sort_stays None is = refl
  shown_sort_stays (Some p) is = ap (λ s. Some (p.0, s)) (sort_stays t.sorts u.sorts grows.sorts p.1 is)

  pub scoping_stays : (s : Scoping) → IsScoping t supply s → IsScoping u left s
  scoping_stays s is = record {
    terms = All-weaker (IsScopedEntry t supply s.definitions) (IsScopedEntry u left s.definitions) (scoped_stays s.definitions) s.terms is.terms;
    names = is.names;
    sorts = All-weaker (IsScopedSort t.sorts) (IsScopedSort u.sorts) scoped_sort_stays s.sorts is.sorts;
    definitions = All-weaker (IsDefinition t supply) (IsDefinition u left) definition_stays s.definitions is.definitions;
  }

  pub terms_shown_stay : (s : Scoping) → IsScoping t supply s → terms_shown u s ≡ terms_shown t s
  terms_shown_stay s is =
      same_map (scoped (meant_by u s.definitions)) (scoped (meant_by t s.definitions)) s.terms
      (All-weaker (IsScopedEntry t supply s.definitions) (λ b. scoped (meant_by u s.definitions) b ≡ scoped (meant_by t s.definitions) b) (shown_stays s.definitions is.definitions) s.terms is.terms)

  pub sorts_shown_stay : (s : Scoping) → AreScopedSorts t.sorts s.sorts → sorts_shown u s ≡ sorts_shown t s
  sorts_shown_stay s are =
      same_map (scoped (sort_at u.sorts)) (scoped (sort_at t.sorts)) s.sorts
      (All-weaker (IsScopedSort t.sorts) (λ b. scoped (sort_at u.sorts) b ≡ scoped (sort_at t.sorts) b) shown_sort_stays s.sorts are)

  pub shows_stays : (s : Scoping) (live : List ReadBinding) → Shows t supply s live → Shows u left s live
  shows_stays s live shows = record {
    terms = terms_shown_stay s shows.numbers ∙ shows.terms;
    sorts = sorts_shown_stay s shows.numbers.sorts ∙ shows.sorts;
    numbers = scoping_stays s shows.numbers;
  }

  -- the same sorts are known
  pub sorts_known_stay : (s : Scoping) (live : List ReadBinding) → Shows t supply s live → sorts_known u s ≡ live_sorts live
  sorts_known_stay s live shows = sorts_found u s live (sorts_shown_stay s shows.numbers.sorts ∙ shows.sorts)

  pub scoped_sorts_stay : (s : Scoping) → AreScopedSorts t.sorts s.sorts → AreScopedSorts u.sorts s.sorts
  scoped_sorts_stay s are = All-weaker (IsScopedSort t.sorts) (IsScopedSort u.sorts) scoped_sort_stays s.sorts are

-- a grown table knows the same sorts, whatever is live
pub known_alike : (t u : Formulas) (s : Scoping) → GrowsTo t u → AreScopedSorts t.sorts s.sorts → sorts_known u s ≡ sorts_known t s
known_alike t u s grows are =
    fun_ext (λ n.
    sym (find_scoped (sort_at u.sorts) s.sorts n)
    ∙ ap (λ bs. find bs n) (sorts_shown_stay t u (record { taken = []; number = 0 }) (record { taken = []; number = 0 }) grows (later_self (record { taken = []; number = 0 })) s are)
    ∙ find_scoped (sort_at t.sorts) s.sorts n)
