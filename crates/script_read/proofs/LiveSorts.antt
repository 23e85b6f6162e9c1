-- The sorts that forms are and those of the variables that lists of them are: the declared sorts in them are live; and such
-- variables have names that may be quantified.
use Rattle.std.proofs.Common.{◌≡◌, ◌∙◌, sym, ap, subst, refl, ℕ, zero, suc, ◌+◌, ◌/◌, ◌%◌, ◌<◌, nat_lt, Bool, true, false, eqb, not, List, [], ◌∷◌, Option, Some, None, Result, Ok, arith}
use Rattle.std.specs.Prelude.{⊤, ◌&&◌, ◌==◌, codes, bytes_eq, if◌then◌else◌}
use Rattle.std.specs.List.{list_all}
use Rattle.std.proofs.lemmas.Bool.{ltb-true, ne_eqb}
use Rattle.std.proofs.Math.Nat.{mod-lt}
use Rattle.smt_lex.specs.Lexicon.{bar, backslash}
use Rattle.smt_lex.specs.Names.{Name, is_among, is_theory_sort, is_theory_name, is_reserved_for_declaring}
use Rattle.smt_lex.specs.Forms.{Form, atom, node, Forms, none, ◌⨾◌}
use Rattle.smt_terms.specs.Equal.{sort_eq}
use Rattle.smt_terms.specs.Free.{name_among}
use Rattle.smt_terms.specs.Fresh.{Supply, numbered_name, next_number, next_name, after_draw}
use Rattle.smt_terms.specs.Numeral.{digits_before, numeral}
use Rattle.smt_terms.specs.Rank.{most_bits, is_array}
use Rattle.smt_terms.specs.Sorts.{Sort, bool, int, bit_vector, array, free_sort, Variable}
use Rattle.smt_terms.proofs.Tests.{and_true, both_true}
use Rattle.script_terms.specs.declared.causes.Cause.TheVariants.{QuantifiedSort, ReservedName, Redeclared, WidthLimit, BadIndex, IndexSort, BadForm, RealSort, SortArity}
use Rattle.script_terms.specs.Parts.{place_of, symbol_in, word_in, is_name, numeral_in}
use Rattle.script_read.specs.Printable.{is_writable, is_usable, sort_is_live}
use Rattle.script_terms.specs.Read.{name_drawn_if, constant_names, renamed}
use Rattle.script_terms.specs.Refusals.{Refused, at, and_then, unless, mapped}
use Rattle.script_terms.specs.SortForms.{Sorts, live_or_unknown, sort_of_name, sort_of_symbol, vectors_of, indexed_sort, Part, array_sort, applied_name, applied_sort, sort_of_list, sort_in, parts_in, all_sorts, sorts_in}
use Rattle.script_terms.specs.Variables.{Binder, may_have, variable_of, variable_in, variables_in}
use Rattle.script_terms.proofs.NameFacts.{Within, AllWithin}
use Rattle.script_terms.proofs.Outcomes.{and_then_ok, mapped_ok, ok_same}
use Rattle.script_terms.proofs.SortFacts.{unless_passed}
use Rattle.script_read.proofs.WritableText.{NamesFit}

-- ---- names that are drawn

digits_pass : (test : ℕ → Bool) (room n : ℕ) (after : List ℕ) → ((d : ℕ) → d < 10 → test (48 + d) ≡ true) → list_all test after ≡ true → list_all test (digits_before room n after) ≡ true
digits_pass test zero n after passes all = all
digits_pass test (suc room) n after passes all = go (nat_lt n 10) refl (λ k xs. digits_pass test room k xs passes)
  where
    go : (b : Bool) → nat_lt n 10 ≡ b → ((k : ℕ) (xs : List ℕ) → list_all test xs ≡ true → list_all test (digits_before room k xs) ≡ true)
        → list_all test (elim b as (λ _. List ℕ) [ true ↦ (48 + n) ∷ after | false ↦ digits_before room (n / 10) ((48 + n % 10) ∷ after) ]) ≡ true
    go true last below = and_true (test (48 + n)) (list_all test after) (passes n (ltb-true n 10 last)) all
    go false more below = below (n / 10) ((48 + n % 10) ∷ after) (and_true (test (48 + n % 10)) (list_all test after) (passes (n % 10) (mod-lt n (omega arith))) all)

digit_writable : (d : ℕ) → d < 10 → (not (eqb (48 + d) bar) && not (eqb (48 + d) backslash)) ≡ true
digit_writable d few =
    and_true (not (eqb (48 + d) bar)) (not (eqb (48 + d) backslash)) (ap not (ne_eqb (48 + d) bar (λ same. omega (arith, same, few)))) (ap not (ne_eqb (48 + d) backslash (λ same. omega (arith, same, few))))

-- no name that begins so is reserved
drawn_free : (bs : List ℕ) → is_reserved_for_declaring (70 ∷ 86 ∷ bs) ≡ false
unfolding is_reserved_for_declaring is_theory_name
drawn_free bs = refl

pub drawn_usable : (i : ℕ) → is_usable (numbered_name i) ≡ true
drawn_usable i =
    and_true (is_writable (numbered_name i)) (not (is_reserved_for_declaring (numbered_name i)))
    (digits_pass (λ b. not (eqb b bar) && not (eqb b backslash)) (suc i) i [] digit_writable refl) (ap not (drawn_free (numeral i)))

-- ---- sorts

abbrev pub SortsLive : List Name → Sorts → Type 0
SortsLive ds live = (n : Name) (r : Sort) → live n ≡ Some r → sort_is_live ds r ≡ true

module _ (ds : List Name) where
  live_live : (place : ℕ) (o : Option Sort) (r : Sort) → ((s : Sort) → o ≡ Some s → sort_is_live ds s ≡ true) → live_or_unknown place o ≡ Ok r → sort_is_live ds r ≡ true
  live_live place (Some s) r known h = let same : s ≡ r = ok_same s r (Ok s) refl h in ap (sort_is_live ds) (sym same) ∙ known s refl
  live_live place None r known h = absurd cc

  name_live : (live : Sorts) (place : ℕ) (n : Name) (r : Sort) → SortsLive ds live → sort_of_name live place n ≡ Ok r → sort_is_live ds r ≡ true
  name_live live place n r known h = go (bytes_eq n (codes "Bool")) (bytes_eq n (codes "Int")) (bytes_eq n (codes "Real")) (is_theory_sort n) h
    where
      go : (a b c d : Bool) → (if a then Ok bool else (if b then Ok int else (if c then at RealSort place else (if d then at BadForm place else live_or_unknown place (live n))))) ≡ Ok r → sort_is_live ds r ≡ true
      go true b c d e = let same : bool ≡ r = ok_same bool r (Ok bool) refl e in ap (sort_is_live ds) (sym same)
      go false true c d e = let same : int ≡ r = ok_same int r (Ok int) refl e in ap (sort_is_live ds) (sym same)
      go false false true d e = absurd cc
      go false false false true e = absurd cc
      go false false false false e = live_live place (live n) r (known n) e

  symbol_live : (live : Sorts) (place : ℕ) (o : Option Name) (r : Sort) → SortsLive ds live → sort_of_symbol live place o ≡ Ok r → sort_is_live ds r ≡ true
  symbol_live live place None r known h = absurd cc
  symbol_live live place (Some n) r known h = name_live live place n r known h

  vectors_live : (place : ℕ) (o : Option ℕ) (r : Sort) → vectors_of place o ≡ Ok r → sort_is_live ds r ≡ true
  vectors_live place None r h = absurd cc
  vectors_live place (Some w) r h =
      let (some, next) = unless_passed (w == 0) BadIndex place (unless (nat_lt most_bits w) WidthLimit place (Ok (bit_vector w))) r h in
      let (few, last) = unless_passed (nat_lt most_bits w) WidthLimit place (Ok (bit_vector w)) r next in
      let same : bit_vector w ≡ r = ok_same (bit_vector w) r (Ok (bit_vector w)) refl last in
      ap (sort_is_live ds) (sym same)

  indexed_live : (place : ℕ) (fs : Forms) (r : Sort) → indexed_sort place fs ≡ Ok r → sort_is_live ds r ≡ true
  indexed_live place (f ⨾ n ⨾ none) r h = go (is_name (codes "BitVec") (symbol_in f)) h
    where
      go : (b : Bool) → (if b then vectors_of place (numeral_in n) else at BadForm place) ≡ Ok r → sort_is_live ds r ≡ true
      go true e = vectors_live place (numeral_in n) r e
      go false e = absurd cc
  indexed_live place _ r h = absurd cc

  abbrev PartsLive : List Part → Type 0
  PartsLive [] = ⊤
  PartsLive (p ∷ ps) = ((r : Sort) → p.sort ≡ Ok r → sort_is_live ds r ≡ true) × PartsLive ps

  array_live : (place : ℕ) (ps : List Part) (r : Sort) → PartsLive ps → array_sort place ps ≡ Ok r → sort_is_live ds r ≡ true
  array_live place (i ∷ e ∷ []) r known h =
      let (index, first, rest) = and_then_ok (λ index. unless (is_array index) IndexSort i.place (mapped (λ element. array index element) e.sort)) i.sort r h in
      let (scalar, more) = unless_passed (is_array index) IndexSort i.place (mapped (λ element. array index element) e.sort) r rest in
      let (element, second, all) = mapped_ok (λ element. array index element) e.sort r more in
      ap (sort_is_live ds) (sym all) ∙ and_true (sort_is_live ds index) (sort_is_live ds element) (known.0 index first) (known.1.0 element second)
  array_live place _ r known h = absurd cc

  applied_refused : (place : ℕ) (n : Name) (o : Option Sort) (r : Sort) → applied_name place n o ≡ Ok r → ⊥
  applied_refused place n None r h = absurd cc
  applied_refused place n (Some s) r h = go (sort_eq s (free_sort n)) h
    where
      go : (b : Bool) → (if b then at SortArity place else at BadForm place) ≡ Ok r → ⊥
      go true e = absurd cc
      go false e = absurd cc

  applied_live : (live : Sorts) (place : ℕ) (ps : List Part) (o : Option Name) (r : Sort) → PartsLive ps → applied_sort live place ps o ≡ Ok r → sort_is_live ds r ≡ true
  applied_live live place ps None r known h = absurd cc
  applied_live live place ps (Some n) r known h = go (bytes_eq n (codes "Array")) (is_theory_sort n) h
    where
      go : (a b : Bool) → (if a then array_sort place ps else (if b then at BadForm place else applied_name place n (live n))) ≡ Ok r → sort_is_live ds r ≡ true
      go true b e = array_live place ps r known e
      go false true e = absurd cc
      go false false e = absurd (applied_refused place n (live n) r e)

  list_live : (live : Sorts) (place : ℕ) (f : Form) (fs : Forms) (ps : List Part) (r : Sort) → PartsLive ps → sort_of_list live place f fs ps ≡ Ok r → sort_is_live ds r ≡ true
  list_live live place f fs ps r known h = go (is_name (codes "_") (word_in f)) h
    where
      go : (b : Bool) → (if b then indexed_sort place fs else applied_sort live place ps (symbol_in f)) ≡ Ok r → sort_is_live ds r ≡ true
      go true e = indexed_live place fs r e
      go false e = applied_live live place ps (symbol_in f) r known e

  mutual
    pub sort_live : (f : Form) (live : Sorts) (r : Sort) → SortsLive ds live → sort_in live f ≡ Ok r → sort_is_live ds r ≡ true
    sort_live (atom t) live r known h = symbol_live live t.start (symbol_in (atom t)) r known h
    sort_live (node place none) live r known h = absurd cc
    sort_live (node place (f ⨾ fs)) live r known h = list_live live place f fs (parts_in live fs) r (parts_live fs live known) h

    parts_live : (fs : Forms) (live : Sorts) → SortsLive ds live → PartsLive (parts_in live fs)
    parts_live none live known = tt
    parts_live (f ⨾ fs) live known = (λ r h. sort_live f live r known h, parts_live fs live known)

  pub sorts_live : (gs : Forms) (live : Sorts) (rs : List Sort) → SortsLive ds live → sorts_in live gs ≡ Ok rs → list_all (sort_is_live ds) rs ≡ true
  sorts_live none live rs known h = subst (λ qs. list_all (sort_is_live ds) qs ≡ true) (ok_same [] rs (Ok []) refl h) refl
  sorts_live (f ⨾ gs) live rs known h =
      let (r, here, rest) = and_then_ok (λ r. mapped (λ qs. r ∷ qs) (all_sorts (parts_in live gs))) (sort_in live f) rs h in
      let (qs, others, all) = mapped_ok (λ qs. r ∷ qs) (all_sorts (parts_in live gs)) rs rest in
      subst (λ ps. list_all (sort_is_live ds) ps ≡ true) all (and_true (sort_is_live ds r) (list_all (sort_is_live ds) qs) (sort_live f live r known here) (sorts_live gs live qs known others))

  -- ---- variables

  abbrev pub variables_usable : List Variable → Bool
  variables_usable xs = list_all (λ x. sort_is_live ds x.sort && is_usable x.name) xs

  module _ (ns : List Name) (fit : NamesFit ns) where
    abbrev VariableUsable : Variable → Type 0
    VariableUsable x = (sort_is_live ds x.sort && is_usable x.name) ≡ true

    named_variable : (b : Binder) (live : Sorts) (earlier : List Name) (part place : ℕ) (f : Form) (o : Option Name) (y : Variable) → SortsLive ds live → ((n : Name) → o ≡ Some n → name_among ns n ≡ true) → variable_of b live earlier part place f o ≡ Ok y → VariableUsable y
    named_variable b live earlier part place f None y known text h = absurd cc
    named_variable b live earlier part place f (Some n) y known text h =
        let tested : Sort → Result Variable Refused = λ s. unless (not (may_have b s)) QuantifiedSort (place_of f) (Ok (record { name = n; sort = s })) in
        let (allowed, next) = unless_passed (is_reserved_for_declaring n) ReservedName place (unless (is_among earlier n) Redeclared place (and_then tested (sort_in live f))) y h in
        let (other, last) = unless_passed (is_among earlier n) Redeclared place (and_then tested (sort_in live f)) y next in
        let (s, sorted, made) = and_then_ok tested (sort_in live f) y last in
        let (kind, given) = unless_passed (not (may_have b s)) QuantifiedSort (place_of f) (Ok (record { name = n; sort = s })) y made in
        let same : record { name = n; sort = s } ≡ y = ok_same (record { name = n; sort = s }) y (Ok (record { name = n; sort = s })) refl given in
        subst VariableUsable same (and_true (sort_is_live ds s) (is_usable n) (sort_live f live s known sorted) (and_true (is_writable n) (not (is_reserved_for_declaring n)) (fit n (text n refl)) (ap not allowed)))

    variable_usable : (b : Binder) (live : Sorts) (earlier : List Name) (f : Form) (y : Variable) → SortsLive ds live → Within ns f → variable_in b live earlier f ≡ Ok y → VariableUsable y
    variable_usable b live earlier (node part (x ⨾ s ⨾ none)) y known within h = named_variable b live earlier part (place_of x) s (symbol_in x) y known (λ n e. symbol_within x n within.0 e) h
      where
        symbol_within : (g : Form) (n : Name) → Within ns g → symbol_in g ≡ Some n → name_among ns n ≡ true
        symbol_within (atom t) n w e = w n e
        symbol_within (node place fs) n w e = absurd cc
    variable_usable b live earlier f y known within h = absurd cc

    pub variables_are_usable : (b : Binder) (live : Sorts) (earlier : List Name) (fs : Forms) (ys : List Variable) → SortsLive ds live → AllWithin ns fs → variables_in b live earlier fs ≡ Ok ys → list_all (λ x. sort_is_live ds x.sort && is_usable x.name) ys ≡ true
    variables_are_usable b live earlier none ys known within h = ap (list_all (λ x. sort_is_live ds x.sort && is_usable x.name)) (sym (ok_same [] ys (Ok []) refl h))
    variables_are_usable b live earlier (f ⨾ fs) ys known within h =
        let (x, here, rest) = and_then_ok (λ x. mapped (λ xs. x ∷ xs) (variables_in b live (x.name ∷ earlier) fs)) (variable_in b live earlier f) ys h in
        let (xs, others, all) = mapped_ok (λ xs. x ∷ xs) (variables_in b live (x.name ∷ earlier) fs) ys rest in
        ap (list_all (λ x. sort_is_live ds x.sort && is_usable x.name)) (sym all)
        ∙ and_true (sort_is_live ds x.sort && is_usable x.name) (variables_usable xs) (variable_usable b live earlier f x known within.0 here) (variables_are_usable b live (x.name ∷ earlier) fs xs known within.1 others)

  -- the same under the names of the constants that they are read as
  pub renamed_usable : (is_taken : Name → Bool) (xs : List Variable) (s : Supply) → list_all (λ x. sort_is_live ds x.sort && is_usable x.name) xs ≡ true → list_all (λ x. sort_is_live ds x.sort && is_usable x.name) (renamed xs (constant_names is_taken xs s).0) ≡ true
  renamed_usable is_taken [] s fine = refl
  renamed_usable is_taken (x ∷ xs) s fine =
      let parts = both_true (sort_is_live ds x.sort && is_usable x.name) (variables_usable xs) fine in
      go (is_taken x.name) parts.0 (λ t. renamed_usable is_taken xs t parts.1)
    where
      go : (b : Bool) → (sort_is_live ds x.sort && is_usable x.name) ≡ true → ((t : Supply) → variables_usable (renamed xs (constant_names is_taken xs t).0) ≡ true)
          → variables_usable (renamed (x ∷ xs) (name_drawn_if b x.name s (λ t. constant_names is_taken xs t)).0) ≡ true
      go true here below =
          let sort : sort_is_live ds x.sort ≡ true = (both_true (sort_is_live ds x.sort) (is_usable x.name) here).0 in
          and_true (sort_is_live ds x.sort && is_usable (next_name s)) (variables_usable (renamed xs (constant_names is_taken xs (after_draw s)).0)) (and_true (sort_is_live ds x.sort) (is_usable (next_name s)) sort (drawn_usable (next_number s))) (below (after_draw s))
      go false here below = and_true (sort_is_live ds x.sort && is_usable x.name) (variables_usable (renamed xs (constant_names is_taken xs s).0)) here (below s)
