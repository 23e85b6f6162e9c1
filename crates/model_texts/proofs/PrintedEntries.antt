-- The texts of entries: the elements of a sort, and lines one by one.
use Rattle.std.proofs.Common.{◌≡◌, ℕ, suc, ◌+◌, ◌-◌, ◌<◌, ◌≤◌, nat_lt, Bool, true, false, List, [], ◌∷◌, ◌++◌, map, length, get_or, drop, Option, Some, None, refl, ap, sym, ◌∙◌, subst, arith, append_assoc, append-nil, true≢false}
use Rattle.std.specs.Prelude.{codes, flat_map, All, IsTrue, IsSome, IfSome, unwrap_or}
use Rattle.std.specs.List.{list_any}
use Rattle.std.proofs.lemmas.Bool.{ltb-true, ltb-false}
use Rattle.std.proofs.lemmas.List.{drop_more, drop_all, length-map, get_or-map}
use Rattle.std.proofs.lemmas.List.Concat.{flat_map-append}
use Rattle.std.proofs.lemmas.List.Folds.{list_any_at}
use Rattle.smt_lex.specs.Forms.{Form, forms_of_list}
use Rattle.smt_lex.specs.FormText.{form_text, further_text}
use Rattle.smt_lex.specs.Names.{printed_symbol}
use Rattle.smt_terms.specs.declared.ids.SortId.{SortId}
use Rattle.smt_terms.specs.declared.ids.SymId.{SymId}
use Rattle.smt_terms.specs.Equal.{symbol_eq}
use Rattle.smt_terms.specs.Models.{Graph, Model, is_graph, IsModelOver}
use Rattle.smt_terms.specs.Sorts.{Name, Sort, free_sort, Symbol}
use Rattle.smt_terms.proofs.Equal.{symbol_itself}
use Rattle.smt_values.specs.SizeTable.{size_at, sizes_by}
use Rattle.smt_values.specs.SortIds.{sort_at, IsSortId, IsSortList}
use Rattle.smt_values.proofs.Numbered.{sizes_by-sort, not_declared}
use Rattle.term_table.specs.Formulas.{Formulas, no_symbol, symbol_at}
use Rattle.term_table.specs.WrittenForms.{list_form, word_form, symbol_form}
use Rattle.script_read.specs.CommandLists.{free_name}
use Rattle.script_read.specs.Commands.{Signature}
use Rattle.models.specs.GraphRows.{default_graph}
use Rattle.model_texts.specs.Entries.{division_table, modulus_table}
use Rattle.model_texts.specs.ModelLines.{element_form, elements_from, sort_entry, symbol_entry, function_form, table_entries, line_of, model_lines}
use Rattle.model_texts.specs.Printing.{HasGraph, IsGraphOf}

-- ---- elements

-- the elements that are left from a number on
abbrev pub elements_left : Name → ℕ → ℕ → List ℕ
elements_left n i size = further_text (forms_of_list (elements_from n i (size - i))) ++ 41 ∷ []

abbrev pub elements_form : Name → ℕ → Form
elements_form n size = list_form (word_form (codes "@sort") ∷ symbol_form n ∷ elements_from n 0 size)

pub elements-begin : (n : Name) (size : ℕ) (old a now : List ℕ) → a ≡ old ++ codes "(@sort " → now ≡ a ++ printed_symbol n → now ++ elements_left n 0 size ≡ old ++ form_text (elements_form n size)
elements-begin n size old a now is_a is_now =
    let whole : size - 0 ≡ size = omega arith in
    ap (λ ys. ys ++ elements_left n 0 size) (is_now ∙ ap (λ ys. ys ++ printed_symbol n) is_a)
    ∙ joined old (codes "(@sort ") (printed_symbol n) (further_text (forms_of_list (elements_from n 0 (size - 0))))
    ∙ ap (λ k. old ++ (codes "(@sort " ++ ((printed_symbol n ++ further_text (forms_of_list (elements_from n 0 k))) ++ 41 ∷ []))) whole
  where
    joined : (old a b c : List ℕ) → ((old ++ a) ++ b) ++ (c ++ 41 ∷ []) ≡ old ++ (a ++ ((b ++ c) ++ 41 ∷ []))
    joined old a b c = simp append_assoc

pub elements-more : (n : Name) (i size : ℕ) (now a new whole : List ℕ) → i < size → a ≡ now ++ 32 ∷ [] → new ≡ a ++ form_text (element_form n i) → now ++ elements_left n i size ≡ whole
    → new ++ elements_left n (i + 1) size ≡ whole
elements-more n i size now a new whole lt is_a is_new before =
    let one : i + 1 ≡ suc i = omega arith in
    let more : size - i ≡ suc (size - suc i) = omega arith in
    ap (λ k. new ++ elements_left n k size) one
    ∙ ap (λ ys. ys ++ elements_left n (suc i) size) (is_new ∙ ap (λ ys. ys ++ form_text (element_form n i)) is_a)
    ∙ joined now (form_text (element_form n i)) (further_text (forms_of_list (elements_from n (suc i) (size - suc i))))
    ∙ ap (λ k. now ++ (further_text (forms_of_list (elements_from n i k)) ++ 41 ∷ [])) (sym more) ∙ before
  where
    joined : (now a rest : List ℕ) → ((now ++ 32 ∷ []) ++ a) ++ (rest ++ 41 ∷ []) ≡ now ++ ((32 ∷ (a ++ rest)) ++ 41 ∷ [])
    joined now a rest = simp append_assoc

pub elements-end : (n : Name) (i size : ℕ) (now new whole : List ℕ) → size ≤ i → now ++ elements_left n i size ≡ whole → new ≡ now ++ 41 ∷ [] → new ≡ whole
elements-end n i size now new whole past before is =
    let none : size - i ≡ 0 = omega arith in
    is ∙ ap (λ k. now ++ (further_text (forms_of_list (elements_from n i k)) ++ 41 ∷ [])) (sym none) ∙ before

-- ---- the size of a declared sort

composed : (ss : List Sort) (s : SortId) (n : Name) → sort_at ss s ≡ free_sort n → 129 < s.0
composed ss s n is = by (nat_lt s.0 130) refl
  where
    by : (b : Bool) → nat_lt s.0 130 ≡ b → 129 < s.0
    by true e = absurd (not_declared ss s.0 n (ltb-true s.0 130 e) is)
    by false e = let le = ltb-false s.0 130 e in omega (arith, le)

pub entry_of_sort : (ss ts : List Sort) (sizes : List (SortId × ℕ)) (s : SortId) (n : Name) → ss ≡ ts → IsSortList ss → IsSortId ts s → sort_at ss s ≡ free_sort n
    → elements_form n (size_at sizes s) ≡ sort_entry (sizes_by ts sizes) (free_name (sort_at ts s))
entry_of_sort ss ts sizes s n same table within is =
    let there : sort_at ts s ≡ free_sort n = ap (λ us. sort_at us s) (sym same) ∙ is in
    let listed : IsSortList ts = subst IsSortList same table in
    ap (elements_form n) (sym (sizes_by-sort ts sizes listed s n (composed ts s n there) within there)) ∙ ap (λ t. sort_entry (sizes_by ts sizes) (free_name t)) (sym there)

-- ---- lines

module _ {X Y : Type 0} (entry : Y → Form) (of : X → Y) (xs : List X) where
  -- the lines that are left from a place on
  abbrev pub lines_left : ℕ → List ℕ
  lines_left i = flat_map line_of (map entry (map of (drop i xs)))

  pub line-more : (i : ℕ) (d : X) (now a new whole : List ℕ) → i < length xs → a ≡ now ++ form_text (entry (of (get_or xs i d))) → new ≡ a ++ 10 ∷ [] → now ++ lines_left i ≡ whole → new ++ lines_left (i + 1) ≡ whole
  line-more i d now a new whole lt is_a is_new before =
      let f = entry (of (get_or xs i d)) in
      ap (λ ys. ys ++ lines_left (i + 1)) (is_new ∙ ap (λ ys. ys ++ 10 ∷ []) is_a) ∙ joined now (form_text f) (lines_left (i + 1))
      ∙ ap (λ ys. now ++ flat_map line_of (map entry (map of ys))) (sym (drop_more xs i d lt)) ∙ before
    where
      joined : (now f rest : List ℕ) → ((now ++ f) ++ 10 ∷ []) ++ rest ≡ now ++ ((f ++ 10 ∷ []) ++ rest)
      joined now f rest = simp append_assoc

  pub lines-end : (i : ℕ) (now whole : List ℕ) → length xs ≤ i → now ++ lines_left i ≡ whole → now ≡ whole
  lines-end i now whole past before = sym (append-nil now) ∙ ap (λ ys. now ++ flat_map line_of (map entry (map of ys))) (sym (drop_all i xs past)) ∙ before

-- ---- functions of symbols

pub graph_there : (m : Model) (f : Symbol) (g : Graph) → HasGraph m f → Some g ≡ m.graphs f → IsGraphOf f g
graph_there m f g has is = subst (λ o. IfSome o (IsGraphOf f)) (sym is) has.1

pub no_graph : (m : Model) (f : Symbol) → HasGraph m f → None ≡ m.graphs f → ⊥
no_graph m f has is = true≢false (sym (subst IsSome (sym is) has.0))

pub entry_of_symbol : (m : Model) (f : Symbol) (g : Graph) → Some g ≡ m.graphs f → function_form f g ≡ symbol_entry m f
entry_of_symbol m f g is = ap (λ o. function_form f (unwrap_or o (default_graph f.result))) is

-- each symbol of a model has a function
pub all_there : (t : Formulas) (m : Model) (names : List Name) (symbols : List SymId) → IsModelOver names (map (symbol_at t) symbols) m → All (λ s. HasGraph m (symbol_at t s)) symbols
all_there t m names symbols over i d lt =
    let f = symbol_at t (get_or symbols i d) in
    let listed : list_any (symbol_eq f) (map (symbol_at t) symbols) ≡ true =
    list_any_at (symbol_eq f) (map (symbol_at t) symbols) i no_symbol (let long = length-map symbols (symbol_at t) in omega (arith, long, lt))
    (ap (symbol_eq f) (get_or-map (symbol_at t) symbols i d no_symbol lt) ∙ symbol_itself f)
    in
    (over.graphs f ∙ listed, by f (m.graphs f) (over.valid.graphs f))
  where
    by : (f : Symbol) (o : Option Graph) → IfSome o (λ g. IsTrue (is_graph f m.sizes g)) → IfSome o (IsGraphOf f)
    by f None h = tt
    by f (Some g) h = (m.sizes, h)

-- ---- whole texts

pub whole_text : (m : Model) (sig : Signature) (a b c d e new : List ℕ) → a ≡ codes "(\n" → b ≡ a ++ flat_map line_of (map (sort_entry m.sizes) sig.sorts) → c ≡ b ++ flat_map line_of (map (symbol_entry m) sig.symbols)
    → d ≡ c ++ flat_map line_of (table_entries division_table m.div_by_zero) → e ≡ d ++ flat_map line_of (table_entries modulus_table m.mod_by_zero) → new ≡ e ++ codes ")\n" → new ≡ model_lines m sig
whole_text m sig a b c d e new is_a is_b is_c is_d is_e is_new =
    let sorts = map (sort_entry m.sizes) sig.sorts in
    let symbols = map (symbol_entry m) sig.symbols in
    let divisions = table_entries division_table m.div_by_zero in
    let remainders = table_entries modulus_table m.mod_by_zero in
    is_new
    ∙ ap (λ ys. ys ++ codes ")\n") (is_e ∙ ap (λ ys. ys ++ flat_map line_of remainders) (is_d ∙ ap (λ ys. ys ++ flat_map line_of divisions) (is_c ∙ ap (λ ys. ys ++ flat_map line_of symbols) (is_b ∙ ap (λ ys. ys ++ flat_map line_of sorts) is_a))))
    ∙ joined (codes "(\n") (flat_map line_of sorts) (flat_map line_of symbols) (flat_map line_of divisions) (flat_map line_of remainders) (codes ")\n")
    ∙ ap (λ ys. (codes "(\n" ++ ys) ++ codes ")\n") (sym (
    flat_map-append line_of ((sorts ++ symbols) ++ divisions) remainders
    ∙ ap (λ ys. ys ++ flat_map line_of remainders) (flat_map-append line_of (sorts ++ symbols) divisions ∙ ap (λ ys. ys ++ flat_map line_of divisions) (flat_map-append line_of sorts symbols))))
  where
    joined : (a b c d e f : List ℕ) → ((((a ++ b) ++ c) ++ d) ++ e) ++ f ≡ (a ++ (((b ++ c) ++ d) ++ e)) ++ f
    joined a b c d e f = simp append_assoc
