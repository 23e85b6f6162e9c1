-- The names of a text's supply are those of all its symbols.
use Rattle.std.proofs.Common.{◌≡◌, ℕ, suc, inl, inr, true, false, Option, Some, None, List, [], ◌∷◌, ◌++◌, refl, sym}
use Rattle.std.specs.Prelude.{bytes_eq}
use Rattle.smt_lex.specs.Lex.{symbol_of}
use Rattle.smt_lex.specs.Names.{Name, is_among}
use Rattle.smt_lex.specs.Forms.{Form, atom, node, Forms, none, ◌⨾◌}
use Rattle.smt_terms.specs.Equal.{name_eq}
use Rattle.smt_terms.specs.Free.{name_among}
use Rattle.smt_terms.proofs.Equal.{Decides-name_eq}
use Rattle.smt_terms.proofs.Tests.{true_or_false, either_true, left_true, right_true}
use Rattle.script_terms.specs.TextNames.{with_name, names_with, names_with_all}
use Rattle.smt_print.proofs.Contexts.{IsTaken, AllTaken, EachTaken}
use Rattle.smt_print.proofs.FormTexts.{end_of, placed, placed_in, placed_behind}

-- the first names are among the second
abbrev pub Within : List Name → List Name → Type 0
Within ms ns = (n : Name) → name_among ms n ≡ true → name_among ns n ≡ true

among_first : (ms ns : List Name) → Within ms (ms ++ ns)
among_first [] ns n h = absurd (cc)
among_first (m ∷ ms) ns n h = elim (either_true (name_eq m n) (name_among ms n) h) [
  | inl here ↦ left_true (name_eq m n) (name_among (ms ++ ns) n) here
  | inr behind ↦ right_true (name_eq m n) (name_among (ms ++ ns) n) (among_first ms ns n behind)
]

among_last : (ms : List Name) (n : Name) → name_among (ms ++ n ∷ []) n ≡ true
among_last [] n = left_true (name_eq n n) false ((Decides-name_eq n n).1 refl)
among_last (m ∷ ms) n = right_true (name_eq m n) (name_among (ms ++ n ∷ []) n) (among_last ms n)

other_test : (ns : List Name) (n : Name) → is_among ns n ≡ true → name_among ns n ≡ true
other_test [] n h = absurd (cc)
other_test (m ∷ ms) n h = elim (either_true (bytes_eq n m) (is_among ms n) h) [
  | inl here ↦ left_true (name_eq m n) (name_among ms n) ((Decides-name_eq m n).1 (sym ((Decides-name_eq n m).0 here)))
  | inr behind ↦ right_true (name_eq m n) (name_among ms n) (other_test ms n behind)
]

with_name_grows : (ns : List Name) (o : Option Name) → Within ns (with_name ns o)
with_name_grows ns None n h = h
with_name_grows ns (Some m) n h = elim (true_or_false (is_among ns m)) [ inl there ↦ rw there h | inr new ↦ rw new (among_first ns (m ∷ []) n h) ]

with_name_has : (ns : List Name) (o : Option Name) → IsTaken (with_name ns o) o
with_name_has ns None = tt
with_name_has ns (Some m) = elim (true_or_false (is_among ns m)) [ inl there ↦ rw there (other_test ns m there) | inr new ↦ rw new (among_last ns m) ]

mutual
  names_grow : (f : Form) (ns : List Name) → Within ns (names_with ns f)
  names_grow (atom t) ns n h = with_name_grows ns (symbol_of t) n h
  names_grow (node place fs) ns n h = all_names_grow fs ns n h

  all_names_grow : (fs : Forms) (ns : List Name) → Within ns (names_with_all ns fs)
  all_names_grow none ns n h = h
  all_names_grow (f ⨾ fs) ns n h = all_names_grow fs (names_with ns f) n (names_grow f ns n h)

more_taken : (ms ns : List Name) (o : Option Name) → Within ms ns → IsTaken ms o → IsTaken ns o
more_taken ms ns None within taken = tt
more_taken ms ns (Some n) within taken = within n taken

mutual
  all_within : (f : Form) (ms ns : List Name) → Within ms ns → AllTaken ms f → AllTaken ns f
  all_within (atom t) ms ns within taken = more_taken ms ns (symbol_of t) within taken
  all_within (node place fs) ms ns within taken = each_within fs ms ns within taken

  each_within : (fs : Forms) (ms ns : List Name) → Within ms ns → EachTaken ms fs → EachTaken ns fs
  each_within none ms ns within taken = tt
  each_within (f ⨾ fs) ms ns within taken = (all_within f ms ns within taken.0, each_within fs ms ns within taken.1)

mutual
  form_taken : (f : Form) (ns : List Name) → AllTaken (names_with ns f) f
  form_taken (atom t) ns = with_name_has ns (symbol_of t)
  form_taken (node place fs) ns = forms_taken fs ns

  pub forms_taken : (fs : Forms) (ns : List Name) → EachTaken (names_with_all ns fs) fs
  forms_taken none ns = tt
  forms_taken (f ⨾ fs) ns = (all_within f (names_with ns f) (names_with_all (names_with ns f) fs) (all_names_grow fs (names_with ns f)) (form_taken f ns), forms_taken fs (names_with ns f))

-- ---- places don't matter

mutual
  pub unplaced : (f : Form) (p : ℕ) (ns : List Name) → AllTaken ns (placed p f) → AllTaken ns f
  unplaced (atom t) p ns taken = taken
  unplaced (node place fs) p ns taken = unplaced_in fs (suc p) ns taken

  unplaced_in : (fs : Forms) (p : ℕ) (ns : List Name) → EachTaken ns (placed_in p fs none) → EachTaken ns fs
  unplaced_in none p ns taken = tt
  unplaced_in (f ⨾ fs) p ns taken = (unplaced f p ns taken.0, unplaced_behind fs (end_of p f) ns taken.1)

  unplaced_behind : (fs : Forms) (p : ℕ) (ns : List Name) → EachTaken ns (placed_behind p fs none) → EachTaken ns fs
  unplaced_behind none p ns taken = tt
  unplaced_behind (f ⨾ fs) p ns taken = (unplaced f (suc p) ns taken.0, unplaced_behind fs (end_of (suc p) f) ns taken.1)
