-- The entries of a printed model give its elements and its tables.
use Rattle.std.proofs.Common.{◌≡◌, ◌≢◌, ℕ, zero, suc, ◌+◌, inl, inr, ◌⊎◌, true, false, not, if◌then◌else◌, Ok, Some, List, [], ◌∷◌, ◌++◌, map, refl, ap, sym, ◌∙◌, subst, arith, append_assoc, append-nil}
use Rattle.std.specs.Prelude.{codes}
use Rattle.smt_lex.specs.Forms.{Form, Forms, none, ◌⨾◌, forms_of_list}
use Rattle.smt_lex.specs.declared.items.Item.TheVariants.{Quoted}
use Rattle.smt_lex.specs.Lexicon.{bar}
use Rattle.smt_lex.specs.Lex.{name_by, symbol_by}
use Rattle.smt_lex.specs.Names.{is_among, is_simple, is_syntax_word, is_command_word, printed_symbol}
use Rattle.smt_terms.specs.Equal.{name_eq}
use Rattle.smt_terms.specs.Models.{Graph}
use Rattle.smt_terms.specs.Sorts.{Name, free_sort, Symbol}
use Rattle.smt_terms.specs.Values.{Sizes}
use Rattle.smt_terms.proofs.Equal.{name_itself, name_same, names_differ}
use Rattle.smt_terms.proofs.Tests.{true_or_false, both_true, both_false, not_true, or_false, left_true, right_true, contrary}
use Rattle.script_terms.specs.Parts.{place_of}
use Rattle.script_read.proofs.FormTexts.{end_of, placed, placed_behind}
use Rattle.script_read.specs.Commands.{Signature}
use Rattle.term_table.specs.WrittenForms.{word_form, symbol_form}
use Rattle.smt_print.proofs.SymbolsRead.{symbol_item, symbol_read}
use Rattle.model_texts.specs.Proper.{are_distinct}
use Rattle.model_texts.specs.Reading.{Element, names_in, continued, gives}
use Rattle.model_texts.specs.ValueForms.{is_sort_form}
use Rattle.model_texts.specs.Entries.{entry_in, symbol_named, Given, elements_met, sort_given, entry_given, entries_given}
use Rattle.model_texts.specs.ModelLines.{element_name, element_form, elements_from, sort_entry, function_form}
use Rattle.model_texts.proofs.FunctionsRead.{IsRead, function_gives}
use Rattle.model_texts.proofs.Knowing.{names_from, names_from-more, names_in-here, names_in-elsewhere, IsFull, AllKnown, met_again, met_next, Gives, gives_it, gives_next}
use Rattle.model_texts.proofs.ValuesRead.{element_meets}

-- forms one line after the other, from a place on
abbrev pub on_lines : ℕ → List Form → Forms
on_lines p [] = none
on_lines p (f ∷ fs) = placed p f ⨾ on_lines (suc (end_of p f)) fs

-- ---- elements of a sort

-- the same but for one sort
abbrev pub IsElsewhere : Name → List Element → List Element → Type 0
IsElsewhere s es after = (t : Name) → s ≢ t → names_in after t ≡ names_in es t

record Filled (s : Name) (n : ℕ) (fs : Forms) (gs : List Given) (es : List Element) : Type 0 where
  after : List Element
  read : elements_met (free_sort s) fs gs es ≡ Ok (gs, after)
  full : names_in after s ≡ names_from s 0 n
  elsewhere : IsElsewhere s es after

abbrev element_forms : Name → ℕ → ℕ → Forms
element_forms s i n = forms_of_list (elements_from s i n)

-- behind the first i of them
fill : (s : Name) (more i : ℕ) (p : ℕ) (gs : List Given) (es : List Element) → names_in es s ≡ names_from s 0 i → Filled s (i + more) (placed_behind p (element_forms s i more) none) gs es
fill s zero i p gs es so_far = record { after = es; read = refl; full = so_far ∙ ap (names_from s 0) (omega arith); elsewhere = λ t apart. refl }
fill s (suc more) i p gs es so_far =
    let q = end_of (suc p) (element_form s i) in
    let next : List Element = es ++ record { sort = s; name = element_name s i } ∷ [] in
    let there : names_in next s ≡ names_from s 0 (suc i) = names_in-here es s (element_name s i) ∙ ap (λ ns. ns ++ element_name s i ∷ []) so_far ∙ names_from-more s i 0 i (omega arith) in
    let rest = fill s more (suc i) q gs next there in
    record {
      after = rest.after;
      read =
          ap (continued (λ v. elements_met (free_sort s) (placed_behind q (element_forms s (suc i) more) none) gs)) (ap (λ r. r es) (element_meets s i (suc p)) ∙ met_next es s i so_far)
          ∙ rest.read;
      full = rest.full ∙ ap (names_from s 0) (omega arith);
      elsewhere = λ t apart. rest.elsewhere t apart ∙ names_in-elsewhere es s t (element_name s i) apart;
    }

-- where all were met
again : (s : Name) (n more i : ℕ) (p : ℕ) (gs : List Given) (es : List Element) → names_in es s ≡ names_from s 0 n → i + more ≡ n
    → elements_met (free_sort s) (placed_behind p (element_forms s i more) none) gs es ≡ Ok (gs, es)
again s n zero i p gs es full is = refl
again s n (suc more) i p gs es full is =
    let q = end_of (suc p) (element_form s i) in
    ap (continued (λ v. elements_met (free_sort s) (placed_behind q (element_forms s (suc i) more) none) gs))
    (ap (λ r. r es) (element_meets s i (suc p)) ∙ met_again es s n i full (omega (arith, is)))
    ∙ again s n more (suc i) q gs es full (omega (arith, is))

-- ---- sorts

symbol_name : (n : Name) → name_by (symbol_item n) (printed_symbol n) ≡ n
symbol_name n = elim (true_or_false (is_simple n)) [ inl simple ↦ rw simple refl | inr quoted ↦ let is : symbol_by Quoted (bar ∷ (n ++ bar ∷ [])) ≡ Some n = rw quoted at (symbol_read n) in rw quoted (inside is) ]
  where
    inside : {m : Name} → Some m ≡ Some n → m ≡ n
    inside is = cc

-- the form of a free sort is that of another one where the names are the same
other_sort : (n s : Name) (p : ℕ) → is_sort_form (free_sort n) (placed p (symbol_form s)) ≡ name_eq n s
other_sort n s p = ap (λ m. name_eq m (name_by (symbol_item s) (printed_symbol s))) (symbol_name n) ∙ ap (name_eq n) (symbol_name s)

-- the entry of a live sort
sort_found : (ns : List Name) (s : Name) (p : ℕ) (vs : Forms) (gs : List Given) → is_among ns s ≡ true → sort_given ns (placed p (symbol_form s)) vs gs ≡ elements_met (free_sort s) vs gs
sort_found [] s p vs gs there = absurd cc
sort_found (n ∷ ns) s p vs gs there =
    ap (λ b. if b then elements_met (free_sort n) vs gs else sort_given ns (placed p (symbol_form s)) vs gs) (other_sort n s p)
    ∙ elim (true_or_false (name_eq n s)) [
      | inl same ↦ rw same (ap (λ n. elements_met (free_sort n) vs gs) (name_same n s same))
      | inr other ↦
          let apart : name_eq s n ≡ false = names_differ s n (λ same. contrary (name_eq n s) (ap (name_eq n) same ∙ name_itself n) other) in
          let behind : is_among ns s ≡ true = rw apart at there in
          rw other (sort_found ns s p vs gs behind)
    ]

abbrev pub AreLive : List Name → List Name → Type 0
AreLive live [] = Unit {0}
AreLive live (n ∷ ns) = (is_among live n ≡ true) × AreLive live ns

pub all_live : (ns : List Name) → AreLive ns ns
all_live [] = tt
all_live (n ∷ ns) = (left_true (name_eq n n) (is_among ns n) (name_itself n), live_behind ns ns (all_live ns))
  where
    live_behind : (live ms : List Name) → AreLive live ms → AreLive (n ∷ live) ms
    live_behind live [] are = tt
    live_behind live (m ∷ ms) are = (right_true (name_eq m n) (is_among live m) are.0, live_behind live ms are.1)

module _ (sizes : Sizes) where
  -- all elements were met, or none of the only one or of a sort whose entry comes
  abbrev IsPending : List Name → List Element → Name → Type 0
  IsPending ns es s = IsFull sizes es s ⊎ ((names_in es s ≡ []) × ((sizes s ≡ 1) ⊎ (is_among ns s ≡ true)))

  abbrev pub AllPending : List Name → List Element → Type 0
  AllPending ns es = (s : Name) → IsPending ns es s

  none_pending : (es : List Element) → AllPending [] es → AllKnown sizes es
  none_pending es pending s = elim (pending s) [
    | inl full ↦ inl full
    | inr empty ↦ elim (empty.1) [ inl one ↦ inr (empty.0, one) | inr listed ↦ absurd (let no : false ≡ true = listed in cc) ]
  ]

  -- behind the entry of a sort
  less_pending : (s : Name) (ns : List Name) (es after : List Element) → IsFull sizes after s → IsElsewhere s es after → AllPending (s ∷ ns) es → AllPending ns after
  less_pending s ns es after full elsewhere pending t = elim (true_or_false (name_eq t s)) [
    | inl same ↦ inl (subst (IsFull sizes after) (sym (name_same t s same)) full)
    | inr other ↦
        let stays : names_in after t ≡ names_in es t = elsewhere t (λ same. contrary (name_eq t s) (ap (name_eq t) same ∙ name_itself t) other) in
        elim (pending t) [
          | inl whole ↦ inl (stays ∙ whole)
          | inr empty ↦ inr (stays ∙ empty.0, elim (empty.1) [ inl one ↦ inl one | inr listed ↦ inr (let there : is_among ns t ≡ true = rw other at listed in there) ])
        ]
  ]

  record SortRead (sig : Signature) (gs : List Given) (p : ℕ) (s : Name) (ns : List Name) (es : List Element) : Type 0 where
    after : List Element
    read : entry_given sig gs (place_of (placed p (sort_entry sizes s))) (entry_in (placed p (sort_entry sizes s))) es ≡ Ok (gs, after)
    pending : AllPending ns after

  sort_read : (sig : Signature) (gs : List Given) (p : ℕ) (s : Name) (ns : List Name) (es : List Element) → is_among sig.sorts s ≡ true → AllPending (s ∷ ns) es → SortRead sig gs p s ns es
  unfolding is_syntax_word is_command_word
  sort_read sig gs p s ns es live pending =
      let first = suc (end_of (suc p) (word_form (codes "@sort"))) in
      let second = end_of first (symbol_form s) in
      let vs = placed_behind second (element_forms s 0 (sizes s)) none in
      let entry : entry_given sig gs p (entry_in (placed p (sort_entry sizes s))) es ≡ elements_met (free_sort s) vs gs es = ap (λ r. r es) (sort_found sig.sorts s first vs gs live) in
      elim (pending s) [
        | inl full ↦ record {
          after = es;
          read = entry ∙ again s (sizes s) (sizes s) 0 second gs es full (omega arith);
          pending = less_pending s ns es es full (λ t apart. refl) pending;
        }
        | inr empty ↦
            let f = fill s (sizes s) 0 second gs es (empty.0) in
            let full : IsFull sizes f.after s = f.full ∙ ap (names_from s 0) (omega arith) in
            record { after = f.after; read = entry ∙ f.read; pending = less_pending s ns es f.after full f.elsewhere pending }
      ]

  pub sorts_read : (sig : Signature) (gs hs : List Given) (ns : List Name) (fs : List Form) → AreLive sig.sorts ns → ((p : ℕ) → Gives sizes (entries_given sig gs (on_lines p fs)) hs)
      → (p : ℕ) (es : List Element) → AllPending ns es
      → (after : List Element) × (entries_given sig gs (on_lines p (map (sort_entry sizes) ns ++ fs)) es ≡ Ok (hs, after)) × AllKnown sizes after
  sorts_read sig gs hs [] fs live rest p es pending = rest p es (none_pending es pending)
  sorts_read sig gs hs (s ∷ ns) fs live rest p es pending =
      let q = suc (end_of p (sort_entry sizes s)) in
      let here = sort_read sig gs p s ns es live.0 pending in
      let behind = sorts_read sig gs hs ns fs live.1 rest q here.after here.pending in
      (behind.0, ap (continued (λ ks. entries_given sig ks (on_lines q (map (sort_entry sizes) ns ++ fs)))) here.read ∙ behind.1, behind.2)

-- ---- functions

-- a symbol with its table
abbrev pub Table : Type 0
Table = Symbol × Graph

abbrev pub table_form : Table → Form
table_form t = function_form t.0 t.1

abbrev pub given_by : Table → Given
given_by t = record { name = t.0.name; graph = t.1 }

abbrev pub table_names : List Table → List Name
table_names ts = map (λ t. t.0.name) ts

abbrev pub given_names : List Given → List Name
given_names gs = map (λ g. g.name) gs

module _ (sizes : Sizes) (sig : Signature) where
  -- tables that are read
  abbrev pub AreRead : List Table → Type 0
  AreRead [] = Unit {0}
  AreRead (t ∷ ts) = (symbol_named sig t.0.name ≡ Some t.0) × IsRead sizes t.0 t.1 × AreRead ts

  abbrev AreNew : List Given → List Table → Type 0
  AreNew gs [] = Unit {0}
  AreNew gs (t ∷ ts) = (is_among (given_names gs) t.0.name ≡ false) × AreNew gs ts

  still_new : (gs : List Given) (t : Table) (ts : List Table) → AreNew gs ts → is_among (table_names ts) t.0.name ≡ false → AreNew (gs ++ given_by t ∷ []) ts
  still_new gs t [] new other = tt
  still_new gs t (u ∷ ts) new other =
      let parts = both_false (name_eq t.0.name u.0.name) (is_among (table_names ts) t.0.name) other in
      let apart : name_eq u.0.name t.0.name ≡ false = names_differ u.0.name t.0.name (λ same. contrary (name_eq t.0.name u.0.name) (ap (name_eq t.0.name) same ∙ name_itself t.0.name) parts.0) in
      (not_given gs u.0.name apart new.0, still_new gs t ts new.1 parts.1)
    where
      not_given : (gs : List Given) (n : Name) → name_eq n t.0.name ≡ false → is_among (given_names gs) n ≡ false → is_among (given_names (gs ++ given_by t ∷ [])) n ≡ false
      not_given [] n apart new = rw apart refl
      not_given (g ∷ gs) n apart new =
          let parts = both_false (name_eq n g.name) (is_among (given_names gs) n) new in
          or_false (name_eq n g.name) (is_among (given_names (gs ++ given_by t ∷ [])) n) parts.0 (not_given gs n apart parts.1)

  tables_read : (gs : List Given) (ts : List Table) → AreRead ts → AreNew gs ts → are_distinct (table_names ts) ≡ true
      → (p : ℕ) → Gives sizes (entries_given sig gs (on_lines p (map table_form ts))) (gs ++ map given_by ts)
  tables_read gs [] are new distinct p = subst (Gives sizes (gives gs)) (sym (append-nil gs)) (gives_it sizes gs)
  tables_read gs (t ∷ ts) are new distinct p =
      let apart = both_true (not (is_among (table_names ts) t.0.name)) (are_distinct (table_names ts)) distinct in
      let more : List Given = gs ++ given_by t ∷ [] in
      let q = suc (end_of p (table_form t)) in
      let behind = tables_read more ts are.2 (still_new gs t ts new.1 (not_true (is_among (table_names ts) t.0.name) apart.0)) apart.1 q in
      gives_next sizes (entry_given sig gs (place_of (placed p (table_form t))) (entry_in (placed p (table_form t)))) (λ hs. entries_given sig hs (on_lines q (map table_form ts))) more (gs ++ map given_by (t ∷ ts))
      (function_gives sizes sig t.0 t.1 p gs are.0 new.0 are.1)
      (subst (Gives sizes (entries_given sig more (on_lines q (map table_form ts)))) (append_assoc gs (given_by t ∷ []) (map given_by ts)) behind)

  pub all_tables_read : (ts : List Table) → AreRead ts → are_distinct (table_names ts) ≡ true → (p : ℕ) → Gives sizes (entries_given sig [] (on_lines p (map table_form ts))) (map given_by ts)
  all_tables_read ts are distinct p = tables_read [] ts are (all_new ts) distinct p
    where
      all_new : (ts : List Table) → AreNew [] ts
      all_new [] = tt
      all_new (t ∷ ts) = (refl, all_new ts)
