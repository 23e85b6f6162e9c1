-- What entries give, by what stands in them.
use Rattle.std.proofs.Common.{◌≡◌, ◌∙◌, sym, ap, subst, refl, ℕ, suc, ◌+◌, ◌<◌, length, drop, get_or, slice_get, All, Bool, true, false, if◌then◌else◌, ◌&&◌, ◌||◌, List, [], ◌∷◌, ◌++◌, map, Option, Some, None, true≢false}
use Rattle.std.specs.Borrow.{Bor}
use Rattle.std.specs.Map.{lookup}
use Rattle.std.specs.Prelude.{is_some}
use Rattle.std.specs.Str.{bytes_eq}
use Rattle.std.proofs.lemmas.List.{drop-map, drop_more}
use Rattle.std.proofs.lemmas.List.Elements.{All-get_or}
use Rattle.std.proofs.lemmas.Option.{same_Some, get_or_from_slice_get}
use Rattle.smt_lex.specs.Names.{is_among}
use Rattle.smt_lex.specs.Lex.{Token, name_of}
use Rattle.smt_lex.specs.Forms.{atom, node, Forms}
use Rattle.smt_terms.specs.Sorts.{Name, Sort, free_sort, Symbol}
use Rattle.smt_terms.specs.declared.ids.SortId.{SortId}
use Rattle.smt_values.specs.SortIds.{sort_at}
use Rattle.script_terms.specs.Places.{IsForm, form_from}
use Rattle.smt_terms.proofs.Equal.{name_same}
use Rattle.script_read.specs.Commands.{Signature}
use Rattle.model_texts.specs.Entries.{Parameter, have_sorts, symbol_named, symbol_among, table_symbol, Given as GivenBefore, elements_met, sort_given}
use Rattle.model_texts.specs.GivenEntries.{NamedTables, table_given, tables_given}
use Rattle.model_texts.specs.GivenParameters.{NamedSorts, parameter_of, parameters_of}
use Rattle.model_texts.specs.Proper.{is_table_name}
use Rattle.model_texts.specs.Reading.{gives}
use Rattle.model_texts.specs.ValueForms.{is_sort_form}
use Rattle.model_texts.specs.declared.entries.Given.{Given}
use Rattle.model_texts.proofs.GivenModels.{found_symbol}
use Rattle.model_texts.proofs.MetNames.{turned}
use Rattle.model_texts.proofs.SortTokens.{free_form}

-- ---- elements of a sort

pub no_sort_named : (ns : List Name) (place : ℕ) (fs : Forms) (vs : Forms) (gs : List GivenBefore) → sort_given ns (node place fs) vs gs ≡ gives gs
no_sort_named [] place fs vs gs = refl
no_sort_named (n ∷ ns) place fs vs gs =
    ap (λ b. if b then elements_met (free_sort n) vs gs else sort_given ns (node place fs) vs gs) (free_form n (node place fs)) ∙ no_sort_named ns place fs vs gs

pub sort_named : (ns : List Name) (t : Token) (vs : Forms) (gs : List GivenBefore)
    → sort_given ns (atom t) vs gs ≡ (if is_among ns (name_of t) then elements_met (free_sort (name_of t)) vs gs else gives gs)
sort_named [] t vs gs = refl
sort_named (n ∷ ns) t vs gs =
    ap (λ b. if b then elements_met (free_sort n) vs gs else sort_given ns (atom t) vs gs) (free_form n (atom t) ∙ turned n (name_of t))
    ∙ by (bytes_eq (name_of t) n) refl (sort_named ns t vs gs)
  where
    by : (b : Bool) → bytes_eq (name_of t) n ≡ b
        → sort_given ns (atom t) vs gs ≡ (if is_among ns (name_of t) then elements_met (free_sort (name_of t)) vs gs else gives gs)
        → (if b then elements_met (free_sort n) vs gs else sort_given ns (atom t) vs gs) ≡ (if b || is_among ns (name_of t) then elements_met (free_sort (name_of t)) vs gs else gives gs)
    by true e rest = ap (λ m. elements_met (free_sort m) vs gs) (sym (name_same (name_of t) n e))
    by false e rest = rest

-- ---- names of symbols

-- a symbol that is found by a name has it
pub name_of_named : (sig : Signature) (n : Name) (f : Symbol) → symbol_named sig n ≡ Some f → f.name ≡ n
name_of_named sig n f is = by (is_table_name n) is
  where
    by : (b : Bool) → (if b then Some (table_symbol n) else symbol_among sig.symbols n) ≡ Some f → f.name ≡ n
    by true h = ap (λ (g : Symbol). g.name) (sym (same_Some (table_symbol n) f h))
    by false h = (found_symbol sig.symbols n f h).0

-- ---- tables by their names

pub listed : (es : NamedTables) (k : Bor (List ℕ)) → is_some (lookup (λ (j : Bor (List ℕ)). bytes_eq k.now j.now) es) ≡ is_among (map (λ (g : GivenBefore). g.name) (tables_given es)) k.now
listed [] k = refl
listed (e ∷ es) k = by (bytes_eq k.now e.0.now) (listed es k)
  where
    by : (b : Bool) → is_some (lookup (λ (j : Bor (List ℕ)). bytes_eq k.now j.now) es) ≡ is_among (map (λ (g : GivenBefore). g.name) (tables_given es)) k.now
        → is_some (if b then Some e.1 else lookup (λ (j : Bor (List ℕ)). bytes_eq k.now j.now) es) ≡ (b || is_among (map (λ (g : GivenBefore). g.name) (tables_given es)) k.now)
    by true rest = refl
    by false rest = rest

pub none_listed : {A : Type 0} (o : Option A) → is_some o ≡ false → o ≡ None
none_listed None is = refl
none_listed (Some a) is = absurd (true≢false is)

pub one_table_more : (es : NamedTables) (e : Bor (List ℕ) × Given) → tables_given (es ++ e ∷ []) ≡ tables_given es ++ table_given e ∷ []
one_table_more [] e = refl
one_table_more (d ∷ es) e = ap (λ gs. table_given d ∷ gs) (one_table_more es e)

-- ---- the sorts of parameters

no_more : (b : Bool) → (b && false) ≡ false
no_more true = refl
no_more false = refl

pub lengths_differ : (ss : List Sort) (ps : List Parameter) → (length ss ≡ length ps → ⊥) → have_sorts ss ps ≡ false
lengths_differ [] [] differ = absurd (differ refl)
lengths_differ [] (p ∷ ps) differ = refl
lengths_differ (s ∷ ss) [] differ = refl
lengths_differ (s ∷ ss) (p ∷ ps) differ = ap (λ b. is_sort_form s p.sort && b) (lengths_differ ss ps (λ e. differ (ap suc e))) ∙ no_more (is_sort_form s p.sort)

pub parameter_form : (ts : List Token) (ps : NamedSorts) (k : ℕ) (p : Name × ℕ) → k < length ps → All (λ (q : Name × ℕ). IsForm ts q.1) ps → slice_get ps k ≡ Some p → IsForm ts p.1
parameter_form ts ps k p within all is =
    subst (λ (q : Name × ℕ). IsForm ts q.1) (get_or_from_slice_get ps k p p is) (All-get_or (λ (q : Name × ℕ). IsForm ts q.1) ps k p within all)

module _ (ss : List Sort) (ts : List Token) (sorts : List SortId) (ps : NamedSorts) (k : ℕ) (p : Name × ℕ) (d : SortId) (sort : k < length sorts) (parameter : k < length ps) (is : slice_get ps k ≡ Some p) where
  sorts_here : have_sorts (drop k (map (sort_at ss) sorts)) (drop k (parameters_of ts ps))
      ≡ (is_sort_form (sort_at ss (get_or sorts k d)) (form_from ts p.1) && have_sorts (drop (k + 1) (map (sort_at ss) sorts)) (drop (k + 1) (parameters_of ts ps)))
  sorts_here =
      let left : drop k (map (sort_at ss) sorts) ≡ sort_at ss (get_or sorts k d) ∷ drop (k + 1) (map (sort_at ss) sorts) =
      drop-map (sort_at ss) k sorts ∙ ap (map (sort_at ss)) (drop_more sorts k d sort) ∙ ap (λ us. sort_at ss (get_or sorts k d) ∷ us) (sym (drop-map (sort_at ss) (k + 1) sorts)) in
      let right : drop k (parameters_of ts ps) ≡ parameter_of ts p ∷ drop (k + 1) (parameters_of ts ps) =
      drop-map (parameter_of ts) k ps ∙ ap (map (parameter_of ts)) (drop_more ps k p parameter) ∙ ap (λ q. parameter_of ts q ∷ map (parameter_of ts) (drop (k + 1) ps)) (get_or_from_slice_get ps k p p is)
      ∙ ap (λ qs. parameter_of ts p ∷ qs) (sym (drop-map (parameter_of ts) (k + 1) ps)) in
      λ j. have_sorts (left j) (right j)

  pub sort_differs : (whole : Bool) → whole ≡ have_sorts (drop k (map (sort_at ss) sorts)) (drop k (parameters_of ts ps)) → is_sort_form (sort_at ss (get_or sorts k d)) (form_from ts p.1) ≡ false → false ≡ whole
  sort_differs whole so_far fails = sym (so_far ∙ sorts_here ∙ ap (λ b. b && have_sorts (drop (k + 1) (map (sort_at ss) sorts)) (drop (k + 1) (parameters_of ts ps))) fails)

  pub sort_agrees : (whole : Bool) → whole ≡ have_sorts (drop k (map (sort_at ss) sorts)) (drop k (parameters_of ts ps)) → is_sort_form (sort_at ss (get_or sorts k d)) (form_from ts p.1) ≡ true
      → whole ≡ have_sorts (drop (k + 1) (map (sort_at ss) sorts)) (drop (k + 1) (parameters_of ts ps))
  sort_agrees whole so_far passes = so_far ∙ sorts_here ∙ ap (λ b. b && have_sorts (drop (k + 1) (map (sort_at ss) sorts)) (drop (k + 1) (parameters_of ts ps))) passes
