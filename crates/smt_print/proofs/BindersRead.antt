-- Printed quantifiers, `let` and names of definitions are read.
use Rattle.std.proofs.Common.{◌≡◌, ℕ, suc, inl, inr, Bool, true, false, not, Ok, Option, Some, None, List, [], ◌∷◌, length, map, refl, ap, sym, subst, ◌∙◌}
use Rattle.std.specs.Prelude.{bytes_eq, codes}
use Rattle.smt_lex.specs.declared.items.Item.TheVariants.{Word}
use Rattle.smt_lex.specs.Lex.{Token, symbol_by, symbol_of}
use Rattle.smt_lex.specs.Names.{Name, is_among, is_reserved, is_syntax_word, is_command_word, is_theory_name, is_reserved_for_let}
use Rattle.smt_lex.specs.Forms.{Form, node, Forms, none, ◌⨾◌, forms_of_list}
use Rattle.smt_terms.specs.Equal.{name_eq, term_eq}
use Rattle.smt_terms.specs.Free.{name_among}
use Rattle.smt_terms.specs.Fresh.{Supply, after_draw}
use Rattle.smt_terms.specs.Rank.{has_name, are_distinct, are_bindable, sort_of}
use Rattle.smt_terms.specs.Sorts.{Sort, bool, Variable}
use Rattle.smt_terms.specs.Term.{Quantifier, universal, existential, Term, quantified}
use Rattle.smt_terms.proofs.Equal.{Decides-name_eq, Decides-term_eq}
use Rattle.smt_terms.proofs.Sorted.{sort_of-quantified}
use Rattle.smt_terms.proofs.Tests.{true_or_false, both_true, both_false, or_false, not_true}
use Rattle.script_read.specs.Commands.{Signature}
use Rattle.script_terms.specs.Heads.{atom_term, atom_by, name_or_other, symbol_term}
use Rattle.script_terms.specs.Parts.{constant_by, let_word, opening, quantifier_word as quantifier_opening}
use Rattle.script_terms.specs.Read.{constant_names, let_name, with_local, is_taken, below_quantifier, renamed, has_sort, is_of_sort, read}
use Rattle.script_terms.specs.Reading.{ReadLocal, lets_as, ReadBinding, entry_of, beside, bound_as}
use Rattle.script_terms.specs.Refusals.{and_then, mapped}
use Rattle.script_terms.specs.SortForms.{Sorts, sort_in}
use Rattle.script_terms.specs.Variables.{quantifier_binder, variable_of, variable_in, variables_in}
use Rattle.term_table.specs.WrittenForms.{word_form, symbol_form, sort_form, variable_form, list_form}
use Rattle.smt_print.specs.TermForms.{Definition, definition_name, is_defined, defined_name, quantifier_word, quantified_form, let_form}
use Rattle.smt_print.proofs.Contexts.{pushed, IsTaken, AllTaken, EachTaken, IsReadAs, AreRead}
use Rattle.smt_print.proofs.DrawnNames.{names_in, AreAmong, bindable_parts, renamed_bindable}
use Rattle.smt_print.proofs.FormTexts.{end_of, token_at, placed, placed_in, placed_behind}
use Rattle.smt_print.proofs.Readings.{knowing, Reads, names_for, quantified_steps, let_steps}
use Rattle.smt_print.proofs.Scopes.{IsUsable, AreUsable, in_variables, in_let}
use Rattle.smt_print.proofs.SortsRead.{KnowsSorts, sort_read}
use Rattle.smt_print.proofs.SymbolsRead.{symbol_read, word_symbol}

-- ---- lists of variables

-- each name is other than those before it
abbrev AreNew : List Name → List Variable → Type 0
AreNew earlier [] = Unit {0}
AreNew earlier (x ∷ xs) = (is_among earlier x.name ≡ false) × AreNew (x.name ∷ earlier) xs

abbrev AreOther : List Name → List Variable → Type 0
AreOther earlier [] = Unit {0}
AreOther earlier (x ∷ xs) = (is_among earlier x.name ≡ false) × AreOther earlier xs

other_way : (m n : Name) → name_eq m n ≡ false → bytes_eq n m ≡ false
other_way m n other = elim (true_or_false (bytes_eq n m)) [
  | inl same ↦ absurd (let back : name_eq m n ≡ true = (Decides-name_eq m n).1 (sym ((Decides-name_eq n m).0 same)) in cc)
  | inr apart ↦ apart
]

one_more_other : (n : Name) (earlier : List Name) (xs : List Variable) → has_name n (names_in xs) ≡ false → AreOther earlier xs → AreOther (n ∷ earlier) xs
one_more_other n earlier [] free others = tt
one_more_other n earlier (x ∷ xs) free others =
    let parts = both_false (name_eq n x.name) (has_name n (names_in xs)) free in
    (or_false (bytes_eq x.name n) (is_among earlier x.name) (other_way n x.name parts.0) others.0, one_more_other n earlier xs parts.1 others.1)

all_new : (earlier : List Name) (xs : List Variable) → are_distinct (names_in xs) ≡ true → AreOther earlier xs → AreNew earlier xs
all_new earlier [] distinct others = tt
all_new earlier (x ∷ xs) distinct others =
    let parts = both_true (not (has_name x.name (names_in xs))) (are_distinct (names_in xs)) distinct in
    (others.0, all_new (x.name ∷ earlier) xs parts.1 (one_more_other x.name earlier xs (not_true (has_name x.name (names_in xs)) parts.0) others.1))

none_before : (xs : List Variable) → AreOther [] xs
none_before [] = tt
none_before (x ∷ xs) = (refl, none_before xs)

variable_read : (g : Signature) (live : Sorts) → KnowsSorts g live → (earlier : List Name) (x : Variable) (p : ℕ) → IsUsable g x → is_among earlier x.name ≡ false
    → variable_in quantifier_binder live earlier (placed p (variable_form x)) ≡ Ok x
variable_read g live knows earlier x p usable new =
    let q = suc (end_of (suc p) (symbol_form x.name)) in
    let sort : sort_in live (placed q (sort_form x.sort)) ≡ Ok x.sort = sort_read g live knows x.sort q usable.sort in
    ap (variable_of quantifier_binder live earlier p (suc p) (placed q (sort_form x.sort))) (symbol_read x.name)
    ∙ rw (usable.free, new) (rw sort (rw usable.quantifiable refl))

next_variable : (live : Sorts) (earlier : List Name) (f : Form) (fs : Forms) (x : Variable) (xs : List Variable) → variable_in quantifier_binder live earlier f ≡ Ok x → variables_in quantifier_binder live (x.name ∷ earlier) fs ≡ Ok xs
    → variables_in quantifier_binder live earlier (f ⨾ fs) ≡ Ok (x ∷ xs)
next_variable live earlier f fs x xs here behind =
    ap (and_then (λ x. mapped (λ xs. x ∷ xs) (variables_in quantifier_binder live (x.name ∷ earlier) fs))) here ∙ ap (mapped (λ xs. x ∷ xs)) behind

variables_behind : (g : Signature) (live : Sorts) → KnowsSorts g live → (xs : List Variable) (earlier : List Name) (p : ℕ) → AreUsable g xs → AreNew earlier xs
    → variables_in quantifier_binder live earlier (placed_behind p (forms_of_list (map variable_form xs)) none) ≡ Ok xs
variables_behind g live knows [] earlier p usable new = refl
variables_behind g live knows (x ∷ xs) earlier p usable new =
    next_variable live earlier (placed (suc p) (variable_form x)) (placed_behind (end_of (suc p) (variable_form x)) (forms_of_list (map variable_form xs)) none) x xs
    (variable_read g live knows earlier x (suc p) usable.0 new.0) (variables_behind g live knows xs (x.name ∷ earlier) (end_of (suc p) (variable_form x)) usable.1 new.1)

pub variables_read : (g : Signature) (live : Sorts) → KnowsSorts g live → (x : Variable) (xs : List Variable) (p : ℕ) → AreUsable g (x ∷ xs) → are_distinct (names_in (x ∷ xs)) ≡ true
    → variables_in quantifier_binder live [] (placed_in p (forms_of_list (map variable_form (x ∷ xs))) none) ≡ Ok (x ∷ xs)
variables_read g live knows x xs p usable distinct =
    let new : AreNew [] (x ∷ xs) = all_new [] (x ∷ xs) distinct (none_before (x ∷ xs)) in
    next_variable live [] (placed p (variable_form x)) (placed_behind (end_of p (variable_form x)) (forms_of_list (map variable_form xs)) none) x xs
    (variable_read g live knows [] x p usable.0 new.0) (variables_behind g live knows xs (x.name ∷ []) (end_of p (variable_form x)) usable.1 new.1)

-- ---- the names of a quantifier are names of the text

taken_name : (taken : List Name) (n : Name) → AllTaken taken (symbol_form n) → name_among taken n ≡ true
taken_name taken n h = subst (IsTaken taken) (symbol_read n) h

names_taken : (taken : List Name) (xs : List Variable) → EachTaken taken (forms_of_list (map variable_form xs)) → AreAmong taken xs
names_taken taken [] all = tt
names_taken taken (x ∷ xs) all = (taken_name taken x.name all.0.0, names_taken taken xs all.1)

-- ---- quantifiers

-- drawing leaves the names that are taken
drawn_taken : (is_taken : Name → Bool) (xs : List Variable) (s : Supply) → (constant_names is_taken xs s).1.taken ≡ s.taken
drawn_taken is_taken [] s = refl
drawn_taken is_taken (x ∷ xs) s = elim (true_or_false (is_taken x.name)) [
  | inl drawn ↦ rw drawn (drawn_taken is_taken xs (after_draw s))
  | inr kept ↦ rw kept (drawn_taken is_taken xs s)
]

pub word_begins : (q : Quantifier) (p : ℕ) → opening (placed p (quantifier_word q)) ≡ quantifier_opening q
unfolding is_syntax_word is_command_word
word_begins universal p = refl
word_begins existential p = refl

bool_term : (t : Term) → sort_of t ≡ Some bool → has_sort bool t ≡ true
bool_term t is = ap (is_of_sort bool) is

pub reads_quantified : (g : Signature) (scope : List Variable) (ds : List Definition) (q : Quantifier) (x : Variable) (xs : List Variable) (f : Form) → AreUsable g (x ∷ xs) → are_bindable (x ∷ xs) ≡ true
    → Reads g (pushed (x ∷ xs) scope) [] f (Some bool) → Reads g scope ds (quantified_form q (x ∷ xs) f) (Some bool)
reads_quantified g scope ds q x xs f usable distinct body = record {
  reads = λ bs taken c p i live known all.
      let part = suc (end_of (suc p) (quantifier_word q)) in
      let inner = suc (end_of part (list_form (map variable_form (x ∷ xs)))) in
      let names = names_for c (x ∷ xs) (knowing bs taken i) in
      let there = names_taken taken (x ∷ xs) all.1.0 in
      let read_body = body.reads bs taken (below_quantifier (x ∷ xs) names.0 c) inner names.1.number live
      (in_variables g (is_taken c.locals bs) (x ∷ xs) (knowing bs taken i).supply scope ds c.locals usable known) all.1.1.0 in (
        quantified q (renamed (x ∷ xs) names.0) read_body.0,
        read_body.1,
        quantified_steps (placed (suc p) (quantifier_word q)) (placed inner f) (placed_in (suc part) (forms_of_list (map variable_form (x ∷ xs))) none) q part p c (knowing bs taken i) (knowing bs taken read_body.1)
            (x ∷ xs) read_body.0 (word_begins q (suc p)) refl (variables_read g _ live.sorts x xs (suc part) usable (bindable_parts x xs distinct).0)
            (ap (λ ts. read (placed inner f) (below_quantifier (x ∷ xs) names.0 c) (record { live = bs; supply = record { taken = ts; number = names.1.number } })) (drawn_taken (is_taken c.locals bs) (x ∷ xs) (knowing bs taken i).supply) ∙ read_body.2)
            (bool_term read_body.0 read_body.3),
        sort_of-quantified q (renamed (x ∷ xs) names.0) read_body.0 (renamed_bindable (is_taken c.locals bs) x xs (knowing bs taken i).supply distinct there) read_body.3,
      );
}

-- ---- `let`

pub let_begins : (p : ℕ) → opening (placed p (word_form (codes "let"))) ≡ let_word
unfolding is_syntax_word is_command_word
let_begins p = refl

pub definition_unreserved : (k : ℕ) → is_reserved (definition_name k) ≡ false
unfolding is_syntax_word is_command_word
definition_unreserved k = refl

definition_no_theory : (k : ℕ) → is_theory_name (definition_name k) ≡ false
unfolding is_theory_name
definition_no_theory k = refl

let_name_read : (part place k : ℕ) → let_name [] part place (symbol_by Word (definition_name k)) ≡ Ok (definition_name k)
unfolding is_reserved_for_let
let_name_read part place k =
    ap (let_name [] part place) (word_symbol (definition_name k) (definition_unreserved k)) ∙ rw (definition_no_theory k) refl

pub reads_let : (g : Signature) (scope : List Variable) (d : Definition) (ds : List Definition) (f : Form) (s : Option Sort) → Reads g scope ds d.form (sort_of d.term) → Reads g scope (d ∷ ds) f s
    → Reads g scope ds (let_form (definition_name (length ds)) d.form f) s
reads_let g scope d ds f s first body = record {
  reads = λ bs taken c p i live known all.
      let n = definition_name (length ds) in
      let part = suc (end_of (suc p) (word_form (codes "let"))) in
      let inner = suc part in
      let value = suc (end_of (suc inner) (word_form n)) in
      let last = suc (end_of part (list_form (list_form (word_form n ∷ d.form ∷ []) ∷ []))) in
      let read_first = first.reads bs taken c value i live known all.1.0.0.1.0 in
      let local = lets_as (node inner (placed (suc inner) (word_form n) ⨾ placed value d.form ⨾ none) ⨾ none) ((n, read_first.0) ∷ []) in
      let read_body = body.reads bs taken (with_local local c) last read_first.1 live
      (in_let scope d ds c.locals (node inner (placed (suc inner) (word_form n) ⨾ placed value d.form ⨾ none) ⨾ none) read_first.0 read_first.3 known) all.1.1.0 in (
        read_body.0,
        read_body.1,
        let_steps (placed (suc p) (word_form (codes "let"))) (placed (suc inner) (word_form n)) (placed value d.form) (placed last f) p part inner c n (knowing bs taken i) (knowing bs taken read_first.1) (knowing bs taken read_body.1)
            read_first.0 read_body.0 (let_begins (suc p)) (let_name_read inner (suc inner) (length ds)) read_first.2 read_body.2,
        read_body.3,
      );
}

-- ---- names of definitions

pub defined_is : (ds : List Definition) (t : Term) → (k : ℕ) × (defined_name ds t ≡ definition_name k)
defined_is [] t = (0, refl)
defined_is (d ∷ ds) t = elim (true_or_false (term_eq d.term t)) [
  | inl here ↦ (length ds, rw here refl)
  | inr behind ↦ rw behind (defined_is ds t)
]

definition_read : (ds : List Definition) (t : Term) (ls : List ReadLocal) → is_defined ds t ≡ true → AreRead ds ls → IsReadAs ls (defined_name ds t) (sort_of t)
definition_read [] t ls there are = absurd (cc)
definition_read (d ∷ ds) t ls there are = elim (true_or_false (term_eq d.term t)) [
  | inl here ↦ rw here (are.0.0, are.0.1, are.0.2 ∙ ap sort_of ((Decides-term_eq d.term t).0 here))
  | inr behind ↦ rw behind (definition_read ds t ls (rw behind at there) are.1)
]

-- a symbol that is bound locally
pub bound_atom : (ls : List ReadLocal) (bs : List ReadBinding) (t : Token) (n : Name) (u : Term) → constant_by t.item t.text ≡ None → symbol_of t ≡ Some n → bound_as ls n ≡ Some u → atom_term ls t bs ≡ Ok u
bound_atom ls bs t n u other is bound = ap (atom_by ls bs t) other ∙ ap (name_or_other ls bs t) is ∙ ap (λ o. symbol_term t.start n o (entry_of bs n)) bound

pub reads_defined : (g : Signature) (scope : List Variable) (ds : List Definition) (t : Term) → is_defined ds t ≡ true → Reads g scope ds (word_form (defined_name ds t)) (sort_of t)
reads_defined g scope ds t there = record {
  reads = λ bs taken c p i live known all.
      let found = definition_read ds t c.locals there known.definitions in
      let named = defined_is ds t in
      let free : is_reserved (defined_name ds t) ≡ false = ap is_reserved named.1 ∙ definition_unreserved named.0 in (
        found.0,
        i,
        ap (beside (knowing bs taken i)) (bound_atom c.locals bs (token_at p Word (defined_name ds t)) (defined_name ds t) found.0 refl (word_symbol (defined_name ds t) free) found.1),
        found.2,
      );
}
