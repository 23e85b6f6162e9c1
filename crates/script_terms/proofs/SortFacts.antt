-- The sorts that forms are, and the variables that lists of them are: well formed, and of names that may be bound.
use Rattle.std.proofs.Common.{◌≡◌, ◌∙◌, sym, ap, subst, refl, ℕ, zero, suc, Bool, true, false, not, ◌&&◌, ◌||◌, ◌==◌, List, [], ◌∷◌, map, Option, Some, None, Result, Ok, arith}
use Rattle.std.specs.Prelude.{⊤, nat_lt, nat_le, codes, bytes_eq, if◌then◌else◌}
use Rattle.std.specs.List.{list_all}
use Rattle.std.proofs.lemmas.Bool.{ltb-false}
use Rattle.smt_lex.specs.Names.{Name, is_among, is_theory_sort, is_reserved_for_declaring}
use Rattle.smt_lex.specs.Forms.{Form, atom, node, Forms, none, ◌⨾◌}
use Rattle.smt_terms.specs.Equal.{name_eq, sort_eq}
use Rattle.smt_terms.specs.Free.{name_among}
use Rattle.smt_terms.specs.Rank.{most_bits, is_array, is_sort, has_name}
use Rattle.smt_terms.specs.Sorts.{Sort, bool, int, bit_vector, array, free_sort, Variable}
use Rattle.smt_terms.proofs.Equal.{name_same}
use Rattle.smt_terms.proofs.Ranked.{le_true}
use Rattle.smt_terms.proofs.Tests.{and_true, right_true, contrary}
use Rattle.script_terms.specs.declared.causes.Cause.{Cause}
use Rattle.script_terms.specs.declared.causes.Cause.TheVariants.{QuantifiedSort, ReservedName, Redeclared, WidthLimit, BadIndex, IndexSort, BadForm, RealSort, SortArity}
use Rattle.script_terms.specs.Parts.{place_of, symbol_in, word_in, is_name, numeral_in}
use Rattle.script_terms.specs.Refusals.{Refused, at, and_then, unless, mapped}
use Rattle.script_terms.specs.SortForms.{Sorts, live_or_unknown, sort_of_name, sort_of_symbol, vectors_of, indexed_sort, Part, array_sort, applied_name, applied_sort, sort_of_list, sort_in, parts_in}
use Rattle.script_terms.specs.Variables.{Binder, may_have, variable_of, variable_in, variables_in}
use Rattle.script_terms.specs.Read.{is_empty}
use Rattle.script_terms.proofs.NameFacts.{Within, AllWithin}
use Rattle.script_terms.proofs.Outcomes.{and_then_ok, mapped_ok, ok_same}

-- ---- tests that were passed

pub unless_passed : {A : Type 0} (test : Bool) (cause : Cause) (place : ℕ) (r : Result A Refused) (a : A) → unless test cause place r ≡ Ok a → (test ≡ false) × (r ≡ Ok a)
unless_passed true cause place r a h = absurd cc
unless_passed false cause place r a h = (refl, h)

-- ---- sorts

abbrev pub SortsFine : Sorts → Type 0
SortsFine live = (n : Name) (r : Sort) → live n ≡ Some r → is_sort r ≡ true

live_fine : (place : ℕ) (o : Option Sort) (r : Sort) → ((s : Sort) → o ≡ Some s → is_sort s ≡ true) → live_or_unknown place o ≡ Ok r → is_sort r ≡ true
live_fine place (Some s) r fine h = let same : s ≡ r = ok_same s r (Ok s) refl h in ap is_sort (sym same) ∙ fine s refl
live_fine place None r fine h = absurd cc

name_fine : (live : Sorts) (place : ℕ) (n : Name) (r : Sort) → SortsFine live → sort_of_name live place n ≡ Ok r → is_sort r ≡ true
name_fine live place n r fine h = go (bytes_eq n (codes "Bool")) (bytes_eq n (codes "Int")) (bytes_eq n (codes "Real")) (is_theory_sort n) h
  where
    go : (a b c d : Bool) → (if a then Ok bool else (if b then Ok int else (if c then at RealSort place else (if d then at BadForm place else live_or_unknown place (live n))))) ≡ Ok r → is_sort r ≡ true
    go true b c d e = let same : bool ≡ r = ok_same bool r (Ok bool) refl e in ap is_sort (sym same)
    go false true c d e = let same : int ≡ r = ok_same int r (Ok int) refl e in ap is_sort (sym same)
    go false false true d e = absurd cc
    go false false false true e = absurd cc
    go false false false false e = live_fine place (live n) r (fine n) e

symbol_fine : (live : Sorts) (place : ℕ) (o : Option Name) (r : Sort) → SortsFine live → sort_of_symbol live place o ≡ Ok r → is_sort r ≡ true
symbol_fine live place None r fine h = absurd cc
symbol_fine live place (Some n) r fine h = name_fine live place n r fine h

one_or_more : (w : ℕ) → (w == 0) ≡ false → nat_le 1 w ≡ true
one_or_more zero h = absurd cc
one_or_more (suc w) h = le_true 1 (suc w) (omega arith)

at_most : (w : ℕ) → nat_lt most_bits w ≡ false → nat_le w most_bits ≡ true
at_most w h = le_true w most_bits (ltb-false most_bits w h)

vectors_fine : (place : ℕ) (o : Option ℕ) (r : Sort) → vectors_of place o ≡ Ok r → is_sort r ≡ true
vectors_fine place None r h = absurd cc
vectors_fine place (Some w) r h =
    let (some, next) = unless_passed (w == 0) BadIndex place (unless (nat_lt most_bits w) WidthLimit place (Ok (bit_vector w))) r h in
    let (few, last) = unless_passed (nat_lt most_bits w) WidthLimit place (Ok (bit_vector w)) r next in
    let same : bit_vector w ≡ r = ok_same (bit_vector w) r (Ok (bit_vector w)) refl last in
    ap is_sort (sym same) ∙ and_true (nat_le 1 w) (nat_le w most_bits) (one_or_more w some) (at_most w few)

indexed_fine : (place : ℕ) (fs : Forms) (r : Sort) → indexed_sort place fs ≡ Ok r → is_sort r ≡ true
indexed_fine place (f ⨾ n ⨾ none) r h = go (is_name (codes "BitVec") (symbol_in f)) h
  where
    go : (b : Bool) → (if b then vectors_of place (numeral_in n) else at BadForm place) ≡ Ok r → is_sort r ≡ true
    go true e = vectors_fine place (numeral_in n) r e
    go false e = absurd cc
indexed_fine place _ r h = absurd cc

abbrev PartsFine : List Part → Type 0
PartsFine [] = ⊤
PartsFine (p ∷ ps) = ((r : Sort) → p.sort ≡ Ok r → is_sort r ≡ true) × PartsFine ps

array_fine : (place : ℕ) (ps : List Part) (r : Sort) → PartsFine ps → array_sort place ps ≡ Ok r → is_sort r ≡ true
array_fine place (i ∷ e ∷ []) r fine h =
    let (index, first, rest) = and_then_ok (λ index. unless (is_array index) IndexSort i.place (mapped (λ element. array index element) e.sort)) i.sort r h in
    let (scalar, more) = unless_passed (is_array index) IndexSort i.place (mapped (λ element. array index element) e.sort) r rest in
    let (element, second, all) = mapped_ok (λ element. array index element) e.sort r more in
    ap is_sort (sym all)
    ∙ and_true (not (is_array index)) (is_sort index && is_sort element) (ap not scalar) (and_true (is_sort index) (is_sort element) (fine.0 index first) (fine.1.0 element second))
array_fine place _ r fine h = absurd cc

applied_refused : (place : ℕ) (n : Name) (o : Option Sort) (r : Sort) → applied_name place n o ≡ Ok r → ⊥
applied_refused place n None r h = absurd cc
applied_refused place n (Some s) r h = go (sort_eq s (free_sort n)) h
  where
    go : (b : Bool) → (if b then at SortArity place else at BadForm place) ≡ Ok r → ⊥
    go true e = absurd cc
    go false e = absurd cc

applied_fine : (live : Sorts) (place : ℕ) (ps : List Part) (o : Option Name) (r : Sort) → PartsFine ps → applied_sort live place ps o ≡ Ok r → is_sort r ≡ true
applied_fine live place ps None r fine h = absurd cc
applied_fine live place ps (Some n) r fine h = go (bytes_eq n (codes "Array")) (is_theory_sort n) h
  where
    go : (a b : Bool) → (if a then array_sort place ps else (if b then at BadForm place else applied_name place n (live n))) ≡ Ok r → is_sort r ≡ true
    go true b e = array_fine place ps r fine e
    go false true e = absurd cc
    go false false e = absurd (applied_refused place n (live n) r e)

list_fine : (live : Sorts) (place : ℕ) (f : Form) (fs : Forms) (ps : List Part) (r : Sort) → PartsFine ps → sort_of_list live place f fs ps ≡ Ok r → is_sort r ≡ true
list_fine live place f fs ps r fine h = go (is_name (codes "_") (word_in f)) h
  where
    go : (b : Bool) → (if b then indexed_sort place fs else applied_sort live place ps (symbol_in f)) ≡ Ok r → is_sort r ≡ true
    go true e = indexed_fine place fs r e
    go false e = applied_fine live place ps (symbol_in f) r fine e

mutual
  pub sort_fine : (f : Form) (live : Sorts) (r : Sort) → SortsFine live → sort_in live f ≡ Ok r → is_sort r ≡ true
  sort_fine (atom t) live r fine h = symbol_fine live t.start (symbol_in (atom t)) r fine h
  sort_fine (node place none) live r fine h = absurd cc
  sort_fine (node place (f ⨾ fs)) live r fine h = list_fine live place f fs (parts_in live fs) r (parts_fine fs live fine) h

  parts_fine : (fs : Forms) (live : Sorts) → SortsFine live → PartsFine (parts_in live fs)
  parts_fine none live fine = tt
  parts_fine (f ⨾ fs) live fine = (λ r h. sort_fine f live r fine h, parts_fine fs live fine)

-- ---- variables

pub record VariableSound (ns : List Name) (x : Variable) : Type 0 where
  pub text : name_among ns x.name ≡ true
  pub allowed : is_reserved_for_declaring x.name ≡ false
  pub fine : is_sort x.sort ≡ true

abbrev pub VariablesSound : List Name → List Name → List Variable → Type 0
VariablesSound ns earlier [] = ⊤
VariablesSound ns earlier (x ∷ xs) = VariableSound ns x × (is_among earlier x.name ≡ false) × VariablesSound ns (x.name ∷ earlier) xs

record VariableRead (ns : List Name) (b : Binder) (earlier : List Name) (x : Variable) : Type 0 where
  sound : VariableSound ns x
  other : is_among earlier x.name ≡ false
  kind : may_have b x.sort ≡ true

named_variable : (ns : List Name) (b : Binder) (live : Sorts) (earlier : List Name) (part place : ℕ) (f : Form) (o : Option Name) (y : Variable) → SortsFine live → ((n : Name) → o ≡ Some n → name_among ns n ≡ true) → variable_of b live earlier part place f o ≡ Ok y → VariableRead ns b earlier y
named_variable ns b live earlier part place f None y fine text h = absurd cc
named_variable ns b live earlier part place f (Some n) y fine text h =
    let tested : Sort → Result Variable Refused = λ s. unless (not (may_have b s)) QuantifiedSort (place_of f) (Ok (record { name = n; sort = s })) in
    let (allowed, next) = unless_passed (is_reserved_for_declaring n) ReservedName place (unless (is_among earlier n) Redeclared place (and_then tested (sort_in live f))) y h in
    let (other, last) = unless_passed (is_among earlier n) Redeclared place (and_then tested (sort_in live f)) y next in
    let (s, sorted, made) = and_then_ok tested (sort_in live f) y last in
    let (kind, given) = unless_passed (not (may_have b s)) QuantifiedSort (place_of f) (Ok (record { name = n; sort = s })) y made in
    let same : record { name = n; sort = s } ≡ y = ok_same (record { name = n; sort = s }) y (Ok (record { name = n; sort = s })) refl given in
    subst (λ x. VariableRead ns b earlier x) same (record {
      sound = record { text = text n refl; allowed = allowed; fine = sort_fine f live s fine sorted };
      other = other;
      kind = not_false (may_have b s) kind;
    })
  where
    not_false : (c : Bool) → not c ≡ false → c ≡ true
    not_false true e = refl
    not_false false e = absurd cc

variable_read : (ns : List Name) (b : Binder) (live : Sorts) (earlier : List Name) (f : Form) (y : Variable) → SortsFine live → Within ns f → variable_in b live earlier f ≡ Ok y → VariableRead ns b earlier y
variable_read ns b live earlier (node part (x ⨾ s ⨾ none)) y fine within h = named_variable ns b live earlier part (place_of x) s (symbol_in x) y fine (λ n e. symbol_within x n within.0 e) h
  where
    symbol_within : (g : Form) (n : Name) → Within ns g → symbol_in g ≡ Some n → name_among ns n ≡ true
    symbol_within (atom t) n w e = w n e
    symbol_within (node place fs) n w e = absurd cc
variable_read ns b live earlier f y fine within h = absurd cc

pub record VariablesRead (ns : List Name) (b : Binder) (earlier : List Name) (xs : List Variable) : Type 0 where
  pub sound : VariablesSound ns earlier xs
  pub kinds : list_all (λ x. may_have b x.sort) xs ≡ true

pub variables_read : (ns : List Name) (b : Binder) (live : Sorts) (earlier : List Name) (fs : Forms) (ys : List Variable) → SortsFine live → AllWithin ns fs → variables_in b live earlier fs ≡ Ok ys → VariablesRead ns b earlier ys
variables_read ns b live earlier none ys fine within h = subst (λ xs. VariablesRead ns b earlier xs) (ok_same [] ys (Ok []) refl h) (record { sound = tt; kinds = refl })
variables_read ns b live earlier (f ⨾ fs) ys fine within h =
    let (x, here, rest) = and_then_ok (λ x. mapped (λ xs. x ∷ xs) (variables_in b live (x.name ∷ earlier) fs)) (variable_in b live earlier f) ys h in
    let (xs, others, all) = mapped_ok (λ xs. x ∷ xs) (variables_in b live (x.name ∷ earlier) fs) ys rest in
    let first : VariableRead ns b earlier x = variable_read ns b live earlier f x fine within.0 here in
    let below : VariablesRead ns b (x.name ∷ earlier) xs = variables_read ns b live (x.name ∷ earlier) fs xs fine within.1 others in
    subst (λ zs. VariablesRead ns b earlier zs) all (record {
      sound = (first.sound, first.other, below.sound);
      kinds = and_true (may_have b x.sort) (list_all (λ z. may_have b z.sort) xs) first.kind below.kinds;
    })

pub variables_some : (b : Binder) (live : Sorts) (earlier : List Name) (fs : Forms) (ys : List Variable) → is_empty fs ≡ false → variables_in b live earlier fs ≡ Ok ys → (x : Variable) × (xs : List Variable) × (x ∷ xs ≡ ys)
variables_some b live earlier none ys some h = absurd cc
variables_some b live earlier (f ⨾ fs) ys some h =
    let (x, here, rest) = and_then_ok (λ x. mapped (λ xs. x ∷ xs) (variables_in b live (x.name ∷ earlier) fs)) (variable_in b live earlier f) ys h in
    let (xs, others, all) = mapped_ok (λ xs. x ∷ xs) (variables_in b live (x.name ∷ earlier) fs) ys rest in
    (x, xs, all)

-- no variable has a name that stands before them
pub earlier_apart : (ns earlier : List Name) (xs : List Variable) (n : Name) → VariablesSound ns earlier xs → is_among earlier n ≡ true → has_name n (map (λ x. x.name) xs) ≡ false
earlier_apart ns earlier [] n sound among = refl
earlier_apart ns earlier (x ∷ xs) n sound among =
    go (name_eq n x.name) refl (earlier_apart ns (x.name ∷ earlier) xs n sound.2 (right_true (bytes_eq n x.name) (is_among earlier n) among))
  where
    go : (b : Bool) → name_eq n x.name ≡ b → has_name n (map (λ y. y.name) xs) ≡ false → (b || has_name n (map (λ y. y.name) xs)) ≡ false
    go true e below = contrary (is_among earlier x.name) (ap (is_among earlier) (sym (name_same n x.name e)) ∙ among) sound.1
    go false e below = below
