-- What live bindings of declarations say of names.
use Rattle.std.proofs.Common.{◌≡◌, ℕ, zero, suc, inl, inr, ◌⊎◌, Bool, true, false, cond, Some, None, List, [], ◌∷◌, ◌++◌, refl, ap, sym, subst, ◌∙◌}
use Rattle.std.specs.Prelude.{bytes_eq}
use Rattle.std.specs.List.{list_any}
use Rattle.std.proofs.lemmas.List.{map-append}
use Rattle.smt_lex.specs.Names.{Name, IsName, is_among, is_theory_name, is_theory_sort}
use Rattle.smt_terms.specs.Equal.{name_eq, symbol_eq}
use Rattle.smt_terms.specs.Free.{is_among as is_among_symbols, names_of}
use Rattle.smt_terms.specs.Models.{Model}
use Rattle.smt_terms.specs.Sorts.{free_sort, Symbol}
use Rattle.smt_terms.specs.Val.{no_variables}
use Rattle.smt_terms.proofs.Among.{is_among-append}
use Rattle.smt_terms.proofs.Equal.{Decides-name_eq, Decides-symbol_eq}
use Rattle.smt_terms.proofs.Tests.{either_true, left_true, right_true, both_false, or_false}
use Rattle.script_read.specs.Commands.{Signature}
use Rattle.script_read.specs.Mean.{over_symbol, meaning}
use Rattle.script_read.specs.Printable.{is_usable}
use Rattle.script_terms.specs.Reading.{ReadBinding, sort_known, function_known, definition_as, named_as, level_known, is_level_known, as_bindings, Entry, symbol_entry, entry_of, live_sorts}
use Rattle.script_terms.specs.Scope.{or_later, opened, closed, merged, flattened, popped, emptied}
use Rattle.smt_print.proofs.Contexts.{LiveRead, InScope, LiveMeant, MeantScope, other_name, same_name}
use Rattle.smt_print.proofs.Levels.{sorts_known, symbols_known}
use Rattle.smt_print.proofs.Printables.{IsUsual, usable_parts}
use Rattle.smt_print.proofs.Scopes.{free_no_theory, behind_other, at_first, first_none, here_or_later}

-- bindings of declarations alone, each of a new name that may be declared
abbrev pub AreDeclared : List ReadBinding → Type 0
AreDeclared [] = Unit {0}
AreDeclared (sort_known n s ∷ bs) = (s ≡ free_sort n) × (is_theory_sort n ≡ false) × IsName n × (live_sorts bs n ≡ None) × AreDeclared bs
AreDeclared (function_known f ∷ bs) = (is_usable f.name ≡ true) × (entry_of bs f.name ≡ None) × AreDeclared bs
AreDeclared (level_known ∷ bs) = AreDeclared bs
AreDeclared (definition_as n xs f t ∷ bs) = ⊥
AreDeclared (named_as ns f t ls ∷ bs) = ⊥

-- ---- names among others

last_or_before : {A : Type 0} (test : A → Bool) (xs : List A) (y : A) → list_any test (xs ++ y ∷ []) ≡ true → (list_any test xs ≡ true) ⊎ (test y ≡ true)
last_or_before test [] y h = elim (either_true (test y) false h) [ inl here ↦ inr here | inr wrong ↦ absurd (cc) ]
last_or_before test (x ∷ xs) y h = elim (either_true (test x) (list_any test (xs ++ y ∷ [])) h) [
  | inl here ↦ inl (left_true (test x) (list_any test xs) here)
  | inr behind ↦ elim (last_or_before test xs y behind) [ inl before ↦ inl (right_true (test x) (list_any test xs) before) | inr last ↦ inr last ]
]

neither : {A : Type 0} (test : A → Bool) (xs : List A) (y : A) → list_any test (xs ++ y ∷ []) ≡ false → (list_any test xs ≡ false) × (test y ≡ false)
neither test [] y h = (refl, (both_false (test y) false h).0)
neither test (x ∷ xs) y h =
    let parts = both_false (test x) (list_any test (xs ++ y ∷ [])) h in
    let r = neither test xs y parts.1 in
    (or_false (test x) (list_any test xs) parts.0 r.0, r.1)

symbol_last : (fs : List Symbol) (g f : Symbol) → is_among_symbols (fs ++ g ∷ []) f ≡ true → (is_among_symbols fs f ≡ true) ⊎ (g ≡ f)
symbol_last fs g f h = elim (either_true (is_among_symbols fs f) (is_among_symbols (g ∷ []) f) (sym (is_among-append fs (g ∷ []) f) ∙ h)) [
  | inl before ↦ inl before
  | inr last ↦ elim (either_true (symbol_eq g f) false last) [ inl same ↦ inr ((Decides-symbol_eq g f).0 same) | inr wrong ↦ absurd (cc) ]
]

-- ---- reading

still_there : (n : Name) (a : Entry) (bs : List ReadBinding) (f : Symbol) → entry_of bs n ≡ None → entry_of bs f.name ≡ Some (symbol_entry f) → or_later (name_eq n f.name) a (entry_of bs f.name) ≡ Some (symbol_entry f)
still_there n a bs f new found =
    behind_other (name_eq n f.name) a (entry_of bs f.name) (other_name n f.name (λ same. absurd (let old : entry_of bs n ≡ Some (symbol_entry f) = ap (entry_of bs) same ∙ found in cc))) ∙ found

pub known_symbol : (bs : List ReadBinding) (f : Symbol) → AreDeclared bs → is_among_symbols (symbols_known bs) f ≡ true → entry_of bs f.name ≡ Some (symbol_entry f)
known_symbol [] f are h = absurd (cc)
known_symbol (sort_known n s ∷ bs) f are h = known_symbol bs f are.4 h
known_symbol (function_known g ∷ bs) f are h = elim (symbol_last (symbols_known bs) g f h) [
  | inl before ↦ still_there g.name (symbol_entry g) bs f are.1 (known_symbol bs f are.2 before)
  | inr same ↦ at_first (name_eq g.name f.name) (symbol_entry g) (entry_of bs f.name) (same_name g.name f.name (ap (λ k. k.name) same)) ∙ ap (λ k. Some (symbol_entry k)) same
]
known_symbol (level_known ∷ bs) f are h = known_symbol bs f are h
known_symbol (definition_as n xs g t ∷ bs) f are h = absurd are
known_symbol (named_as ns g t ls ∷ bs) f are h = absurd are

pub known_sort : (bs : List ReadBinding) (n : Name) → AreDeclared bs → is_among (sorts_known bs) n ≡ true → live_sorts bs n ≡ Some (free_sort n)
known_sort [] n are h = absurd (cc)
known_sort (sort_known m s ∷ bs) n are h = elim (last_or_before (λ k. bytes_eq n k) (sorts_known bs) m h) [
  | inl before ↦
      let found = known_sort bs n are.4 before in
      behind_other (name_eq m n) s (live_sorts bs n) (other_name m n (λ same. absurd (let old : live_sorts bs m ≡ Some (free_sort n) = ap (live_sorts bs) same ∙ found in let new : live_sorts bs m ≡ None = are.3 in cc))) ∙ found
  | inr last ↦
      let same : n ≡ m = (Decides-name_eq n m).0 last in
      at_first (name_eq m n) s (live_sorts bs n) (same_name m n (sym same)) ∙ ap Some (are.0 ∙ ap free_sort (sym same))
]
known_sort (function_known g ∷ bs) n are h = known_sort bs n are.2 h
known_sort (level_known ∷ bs) n are h = known_sort bs n are h
known_sort (definition_as m xs g t ∷ bs) n are h = absurd are
known_sort (named_as ns g t ls ∷ bs) n are h = absurd are

usable_no_theory : (m n : Name) → is_usable m ≡ true → is_theory_name n ≡ true → name_eq m n ≡ false
usable_no_theory m n usable theory =
    other_name m n (λ same. absurd (let no : is_theory_name n ≡ false = subst (λ k. is_theory_name k ≡ false) same (free_no_theory m (usable_parts m usable).1) in cc))

no_theory : (bs : List ReadBinding) (n : Name) → AreDeclared bs → is_theory_name n ≡ true → entry_of bs n ≡ None
no_theory [] n are theory = refl
no_theory (sort_known m s ∷ bs) n are theory = no_theory bs n are.4 theory
no_theory (function_known g ∷ bs) n are theory = behind_other (name_eq g.name n) (symbol_entry g) (entry_of bs n) (usable_no_theory g.name n are.0 theory) ∙ no_theory bs n are.2 theory
no_theory (level_known ∷ bs) n are theory = no_theory bs n are theory
no_theory (definition_as m xs g t ∷ bs) n are theory = absurd are
no_theory (named_as ns g t ls ∷ bs) n are theory = absurd are

-- a name that no live symbol has, and one that no live sort has
pub new_symbol : (bs : List ReadBinding) (n : Name) → AreDeclared bs → is_among (names_of (symbols_known bs)) n ≡ false → entry_of bs n ≡ None
new_symbol [] n are h = refl
new_symbol (sort_known m s ∷ bs) n are h = new_symbol bs n are.4 h
new_symbol (function_known g ∷ bs) n are h =
    let parts = neither (λ k. bytes_eq n k) (names_of (symbols_known bs)) g.name (sym (ap (λ ns. is_among ns n) (map-append (λ (k : Symbol). k.name) (symbols_known bs) (g ∷ []))) ∙ h) in
    let other : name_eq g.name n ≡ false = other_name g.name n (λ same. absurd (let there : bytes_eq n g.name ≡ true = (Decides-name_eq n g.name).1 (sym same) in let no_name : bytes_eq n g.name ≡ false = parts.1 in cc)) in
    behind_other (name_eq g.name n) (symbol_entry g) (entry_of bs n) other ∙ new_symbol bs n are.2 parts.0
new_symbol (level_known ∷ bs) n are h = new_symbol bs n are h
new_symbol (definition_as m xs g t ∷ bs) n are h = absurd are
new_symbol (named_as ns g t ls ∷ bs) n are h = absurd are

pub new_sort : (bs : List ReadBinding) (n : Name) → AreDeclared bs → is_among (sorts_known bs) n ≡ false → live_sorts bs n ≡ None
new_sort [] n are h = refl
new_sort (sort_known m s ∷ bs) n are h =
    let parts = neither (λ k. bytes_eq n k) (sorts_known bs) m h in
    let other : name_eq m n ≡ false = other_name m n (λ same. absurd (let there : bytes_eq n m ≡ true = (Decides-name_eq n m).1 (sym same) in let no_name : bytes_eq n m ≡ false = parts.1 in cc)) in
    behind_other (name_eq m n) s (live_sorts bs n) other ∙ new_sort bs n are.4 parts.0
new_sort (function_known g ∷ bs) n are h = new_sort bs n are.2 h
new_sort (level_known ∷ bs) n are h = new_sort bs n are h
new_sort (definition_as m xs g t ∷ bs) n are h = absurd are
new_sort (named_as ns g t ls ∷ bs) n are h = absurd are

known_usable : (bs : List ReadBinding) (f : Symbol) → AreDeclared bs → is_among_symbols (symbols_known bs) f ≡ true → is_usable f.name ≡ true
known_usable [] f are h = absurd (cc)
known_usable (sort_known n s ∷ bs) f are h = known_usable bs f are.4 h
known_usable (function_known g ∷ bs) f are h = elim (symbol_last (symbols_known bs) g f h) [
  | inl before ↦ known_usable bs f are.2 before
  | inr same ↦ subst (λ k. is_usable k.name ≡ true) same are.0
]
known_usable (level_known ∷ bs) f are h = known_usable bs f are h
known_usable (definition_as n xs g t ∷ bs) f are h = absurd are
known_usable (named_as ns g t ls ∷ bs) f are h = absurd are

known_usual : (bs : List ReadBinding) (n : Name) → AreDeclared bs → is_among (sorts_known bs) n ≡ true → (is_theory_sort n ≡ false) × IsName n
known_usual [] n are h = absurd (cc)
known_usual (sort_known m s ∷ bs) n are h = elim (last_or_before (λ k. bytes_eq n k) (sorts_known bs) m h) [
  | inl before ↦ known_usual bs n are.4 before
  | inr last ↦ subst (λ k. (is_theory_sort k ≡ false) × IsName k) (sym ((Decides-name_eq n m).0 last)) (are.1, are.2)
]
known_usual (function_known g ∷ bs) n are h = known_usual bs n are.2 h
known_usual (level_known ∷ bs) n are h = known_usual bs n are h
known_usual (definition_as m xs g t ∷ bs) n are h = absurd are
known_usual (named_as ns g t ls ∷ bs) n are h = absurd are

-- ---- what bindings show

abbrev pub shown : List ReadBinding → Signature
shown bs = record { sorts = sorts_known bs; symbols = symbols_known bs }

pub shown_usual : (bs : List ReadBinding) → AreDeclared bs → IsUsual (shown bs)
shown_usual bs are = record { symbols = λ f h. known_usable bs f are h; sorts = λ n h. known_usual bs n are h }

pub shown_read : (bs : List ReadBinding) → AreDeclared bs → LiveRead (shown bs) bs
shown_read bs are = record { symbols = λ f h. known_symbol bs f are h; sorts = λ n h. known_sort bs n are h; theories = λ n h. no_theory bs n are h }

pub nothing_around : InScope [] [] []
nothing_around = record { theories = λ n h. refl; unbound = λ n outer h. refl; bound = λ n x outer h. absurd (cc); definitions = tt }

-- ---- meaning

meant_entry : (bs : List ReadBinding) (m : Model) (n : Name) (f : Symbol) → AreDeclared bs → entry_of bs n ≡ Some (symbol_entry f) → (meaning (as_bindings bs) m).live n ≡ Some (over_symbol m f)
meant_entry [] m n f are h = absurd (cc)
meant_entry (sort_known k s ∷ bs) m n f are h = meant_entry bs m n f are.4 h
meant_entry (function_known g ∷ bs) m n f are h = elim (here_or_later (name_eq g.name n) (symbol_entry g) (symbol_entry f) (entry_of bs n) h) [
  | inl here ↦
      let same : g ≡ f = let e : symbol_entry g ≡ symbol_entry f = here.1 in cc in
      at_first (name_eq g.name n) (over_symbol m g) ((meaning (as_bindings bs) m).live n) here.0 ∙ ap (λ k. Some (over_symbol m k)) same
  | inr later ↦ behind_other (name_eq g.name n) (over_symbol m g) ((meaning (as_bindings bs) m).live n) later.0 ∙ meant_entry bs m n f are.2 later.1
]
meant_entry (level_known ∷ bs) m n f are h = meant_entry bs m n f are h
meant_entry (definition_as k xs g t ∷ bs) m n f are h = absurd are
meant_entry (named_as ns g t ls ∷ bs) m n f are h = absurd are

meant_none : (bs : List ReadBinding) (m : Model) (n : Name) → AreDeclared bs → entry_of bs n ≡ None → (meaning (as_bindings bs) m).live n ≡ None
meant_none [] m n are h = refl
meant_none (sort_known k s ∷ bs) m n are h = meant_none bs m n are.4 h
meant_none (function_known g ∷ bs) m n are h =
    let parts = first_none (name_eq g.name n) (symbol_entry g) (entry_of bs n) h in
    behind_other (name_eq g.name n) (over_symbol m g) ((meaning (as_bindings bs) m).live n) parts.0 ∙ meant_none bs m n are.2 parts.1
meant_none (level_known ∷ bs) m n are h = meant_none bs m n are h
meant_none (definition_as k xs g t ∷ bs) m n are h = absurd are
meant_none (named_as ns g t ls ∷ bs) m n are h = absurd are

meant_sorts : (bs : List ReadBinding) (m : Model) (n : Name) → AreDeclared bs → (meaning (as_bindings bs) m).sorts n ≡ live_sorts bs n
meant_sorts [] m n are = refl
meant_sorts (sort_known k s ∷ bs) m n are = ap (λ o. cond (name_eq k n) (Some s) o) (meant_sorts bs m n are.4)
meant_sorts (function_known g ∷ bs) m n are = meant_sorts bs m n are.2
meant_sorts (level_known ∷ bs) m n are = meant_sorts bs m n are
meant_sorts (definition_as k xs g t ∷ bs) m n are = absurd are
meant_sorts (named_as ns g t ls ∷ bs) m n are = absurd are

none_bound : (bs : List ReadBinding) (m : Model) (n : Name) → AreDeclared bs → (meaning (as_bindings bs) m).bound n ≡ None
none_bound [] m n are = refl
none_bound (sort_known k s ∷ bs) m n are = none_bound bs m n are.4
none_bound (function_known g ∷ bs) m n are = none_bound bs m n are.2
none_bound (level_known ∷ bs) m n are = none_bound bs m n are
none_bound (definition_as k xs g t ∷ bs) m n are = absurd are
none_bound (named_as ns g t ls ∷ bs) m n are = absurd are

pub shown_meant : (bs : List ReadBinding) (m : Model) → AreDeclared bs → LiveMeant (shown bs) m (meaning (as_bindings bs) m)
shown_meant bs m are = record {
  symbols = λ f h. meant_entry bs m f.name f are (known_symbol bs f are h);
  sorts = λ n h. meant_sorts bs m n are ∙ known_sort bs n are h;
  theories = λ n h. meant_none bs m n are (no_theory bs n are h);
}

pub nothing_meant : (bs : List ReadBinding) (m : Model) → AreDeclared bs → MeantScope m [] [] (meaning (as_bindings bs) m) no_variables
nothing_meant bs m are = record { theories = λ n h. refl; unbound = λ n outer h. none_bound bs m n are; bound = λ n x outer h. absurd (cc); free = λ f h. refl; definitions = tt }

-- ---- levels that are opened and closed

pub declared_opened : (n : ℕ) (bs : List ReadBinding) → AreDeclared bs → AreDeclared (opened level_known n bs)
declared_opened zero bs are = are
declared_opened (suc n) bs are = declared_opened n bs are

declared_closed : (n : ℕ) (bs : List ReadBinding) → AreDeclared bs → AreDeclared (closed is_level_known n bs)
declared_closed zero [] are = tt
declared_closed (suc n) [] are = tt
declared_closed zero (b ∷ bs) are = are
declared_closed (suc n) (level_known ∷ bs) are = declared_closed n bs are
declared_closed (suc n) (sort_known m s ∷ bs) are = declared_closed (suc n) bs are.4
declared_closed (suc n) (function_known f ∷ bs) are = declared_closed (suc n) bs are.2
declared_closed (suc n) (definition_as m xs f t ∷ bs) are = absurd are
declared_closed (suc n) (named_as ns f t ls ∷ bs) are = absurd are

merged_entry : (n : ℕ) (bs : List ReadBinding) (k : Name) → AreDeclared bs → entry_of (merged is_level_known n bs) k ≡ entry_of bs k
merged_entry zero [] k are = refl
merged_entry (suc n) [] k are = refl
merged_entry zero (b ∷ bs) k are = refl
merged_entry (suc n) (level_known ∷ bs) k are = merged_entry n bs k are
merged_entry (suc n) (sort_known m s ∷ bs) k are = merged_entry (suc n) bs k are.4
merged_entry (suc n) (function_known f ∷ bs) k are = ap (or_later (name_eq f.name k) (symbol_entry f)) (merged_entry (suc n) bs k are.2)
merged_entry (suc n) (definition_as m xs f t ∷ bs) k are = absurd are
merged_entry (suc n) (named_as ns f t ls ∷ bs) k are = absurd are

merged_sorts : (n : ℕ) (bs : List ReadBinding) (k : Name) → AreDeclared bs → live_sorts (merged is_level_known n bs) k ≡ live_sorts bs k
merged_sorts zero [] k are = refl
merged_sorts (suc n) [] k are = refl
merged_sorts zero (b ∷ bs) k are = refl
merged_sorts (suc n) (level_known ∷ bs) k are = merged_sorts n bs k are
merged_sorts (suc n) (sort_known m s ∷ bs) k are = ap (or_later (name_eq m k) s) (merged_sorts (suc n) bs k are.4)
merged_sorts (suc n) (function_known f ∷ bs) k are = merged_sorts (suc n) bs k are.2
merged_sorts (suc n) (definition_as m xs f t ∷ bs) k are = absurd are
merged_sorts (suc n) (named_as ns f t ls ∷ bs) k are = absurd are

declared_merged : (n : ℕ) (bs : List ReadBinding) → AreDeclared bs → AreDeclared (merged is_level_known n bs)
declared_merged zero [] are = tt
declared_merged (suc n) [] are = tt
declared_merged zero (b ∷ bs) are = are
declared_merged (suc n) (level_known ∷ bs) are = declared_merged n bs are
declared_merged (suc n) (sort_known m s ∷ bs) are = (are.0, are.1, are.2, merged_sorts (suc n) bs m are.4 ∙ are.3, declared_merged (suc n) bs are.4)
declared_merged (suc n) (function_known f ∷ bs) are = (are.0, merged_entry (suc n) bs f.name are.2 ∙ are.1, declared_merged (suc n) bs are.2)
declared_merged (suc n) (definition_as m xs f t ∷ bs) are = absurd are
declared_merged (suc n) (named_as ns f t ls ∷ bs) are = absurd are

flat_entry : (bs : List ReadBinding) (k : Name) → AreDeclared bs → entry_of (flattened is_level_known bs) k ≡ entry_of bs k
flat_entry [] k are = refl
flat_entry (level_known ∷ bs) k are = flat_entry bs k are
flat_entry (sort_known m s ∷ bs) k are = flat_entry bs k are.4
flat_entry (function_known f ∷ bs) k are = ap (or_later (name_eq f.name k) (symbol_entry f)) (flat_entry bs k are.2)
flat_entry (definition_as m xs f t ∷ bs) k are = absurd are
flat_entry (named_as ns f t ls ∷ bs) k are = absurd are

flat_sorts : (bs : List ReadBinding) (k : Name) → AreDeclared bs → live_sorts (flattened is_level_known bs) k ≡ live_sorts bs k
flat_sorts [] k are = refl
flat_sorts (level_known ∷ bs) k are = flat_sorts bs k are
flat_sorts (sort_known m s ∷ bs) k are = ap (or_later (name_eq m k) s) (flat_sorts bs k are.4)
flat_sorts (function_known f ∷ bs) k are = flat_sorts bs k are.2
flat_sorts (definition_as m xs f t ∷ bs) k are = absurd are
flat_sorts (named_as ns f t ls ∷ bs) k are = absurd are

declared_flat : (bs : List ReadBinding) → AreDeclared bs → AreDeclared (flattened is_level_known bs)
declared_flat [] are = tt
declared_flat (level_known ∷ bs) are = declared_flat bs are
declared_flat (sort_known m s ∷ bs) are = (are.0, are.1, are.2, flat_sorts bs m are.4 ∙ are.3, declared_flat bs are.4)
declared_flat (function_known f ∷ bs) are = (are.0, flat_entry bs f.name are.2 ∙ are.1, declared_flat bs are.2)
declared_flat (definition_as m xs f t ∷ bs) are = absurd are
declared_flat (named_as ns f t ls ∷ bs) are = absurd are

pub declared_popped : (b : Bool) (n : ℕ) (bs : List ReadBinding) → AreDeclared bs → AreDeclared (popped is_level_known b n bs)
declared_popped true n bs are = declared_merged n bs are
declared_popped false n bs are = declared_closed n bs are

pub declared_emptied : (b : Bool) (bs : List ReadBinding) → AreDeclared bs → AreDeclared (emptied is_level_known b bs)
declared_emptied true bs are = declared_flat bs are
declared_emptied false bs are = tt
