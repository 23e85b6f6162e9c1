-- Printable terms fit where they stand.
use Rattle.std.proofs.Common.{◌≡◌, inl, inr, ◌⊎◌, Bool, true, false, not, Option, Some, None, List, [], ◌∷◌, ◌++◌, map, refl, ap, sym, subst, ◌∙◌, append_assoc}
use Rattle.std.specs.Prelude.{◌&&◌, nat_le, reverse, is_some}
use Rattle.std.specs.List.{list_all}
use Rattle.std.proofs.lemmas.Bool.{leb-true}
use Rattle.std.proofs.lemmas.List.{reverse-append}
use Rattle.smt_lex.specs.Names.{Name, IsName, is_among, is_internal, is_reserved_for_declaring, is_theory_sort}
use Rattle.smt_terms.specs.Equal.{name_eq, symbol_eq}
use Rattle.smt_terms.specs.Free.{is_among as is_among_symbols, with_more, without, head_symbols, free, free_of, names_of}
use Rattle.smt_terms.specs.Rank.{most_bits, is_quantifiable, sort_of, sorts_of, are_bindable, are_distinct, is_array, is_sort, has_sorts, is_regular, are_regular, is_well_sorted}
use Rattle.smt_terms.specs.Shapes.{is_seen, is_head_seen, is_clear_below, are_clear_below, is_clear}
use Rattle.smt_terms.specs.Sorts.{Sort, bool, int, bit_vector, array, free_sort, Symbol, Variable}
use Rattle.smt_terms.specs.Term.{Head, op, symbol, const_array, Term, apply, quantified, Terms, none, ◌⨾◌, constant_of}
use Rattle.smt_terms.proofs.Among.{is_among-with_more, is_among-without}
use Rattle.smt_terms.proofs.Equal.{Decides-name_eq, Decides-symbol_eq}
use Rattle.smt_terms.proofs.Sorted.{applied, sorted, quantified_sort}
use Rattle.smt_terms.proofs.SortsOfTerms.{regular}
use Rattle.smt_terms.proofs.Tests.{both_true, and_true, either_true, left_true, right_true, not_true, true_or_false}
use Rattle.script_read.specs.Commands.{State, Signature, sorts_of_state, symbols_of_state}
use Rattle.script_read.specs.Printable.{is_writable, is_usable, sort_is_live, head_sorts, all_within, all_within_each, symbols_are_live, is_printable_term}
use Rattle.script_terms.specs.Scope.{or_later}
use Rattle.smt_print.proofs.Contexts.{lookup, pushed, lookup_name}
use Rattle.smt_print.proofs.DrawnNames.{bindable_parts}
use Rattle.smt_print.proofs.LeavesRead.{SymbolFits, HeadFits}
use Rattle.smt_print.proofs.Scopes.{IsUsable, AreUsable, free_outer}
use Rattle.smt_print.proofs.SortsRead.{SortFits}
use Rattle.smt_print.proofs.Stands.{Fits, AllFit}

-- the names of live symbols and sorts are ones that may be declared
pub record IsUsual (g : Signature) : Type 0 where
  pub symbols : (f : Symbol) → is_among_symbols g.symbols f ≡ true → is_usable f.name ≡ true
  pub sorts : (n : Name) → is_among g.sorts n ≡ true → (is_theory_sort n ≡ false) × IsName n

-- ---- sorts

pub sort_fits : (g : Signature) (s : Sort) → IsUsual g → is_sort s ≡ true → sort_is_live g.sorts s ≡ true → SortFits g s
sort_fits g bool usual is live = tt
sort_fits g int usual is live = tt
sort_fits g (bit_vector w) usual is live =
    let parts = both_true (nat_le 1 w) (nat_le w most_bits) is in
    (leb-true 1 w parts.0, leb-true w most_bits parts.1)
sort_fits g (array i e) usual is live =
    let flat = both_true (not (is_array i)) (is_sort i && is_sort e) is in
    let parts = both_true (is_sort i) (is_sort e) flat.1 in
    let lives = both_true (sort_is_live g.sorts i) (sort_is_live g.sorts e) live in
    (not_true (is_array i) flat.0, sort_fits g i usual parts.0 lives.0, sort_fits g e usual parts.1 lives.1)
sort_fits g (free_sort n) usual is live = let r = usual.sorts n live in (live, r.0, r.1)

-- ---- variables

pub usable_parts : (n : Name) → is_usable n ≡ true → IsName n × (is_reserved_for_declaring n ≡ false)
usable_parts n h = let parts = both_true (is_writable n) (not (is_reserved_for_declaring n)) h in (parts.0, not_true (is_reserved_for_declaring n) parts.1)

variable_usable : (g : Signature) (x : Variable) → IsUsual g → is_sort x.sort ≡ true → (sort_is_live g.sorts x.sort && is_usable x.name) ≡ true → is_quantifiable x.sort ≡ true → IsUsable g x
variable_usable g x usual is within quantifiable =
    let parts = both_true (sort_is_live g.sorts x.sort) (is_usable x.name) within in
    let named = usable_parts x.name parts.1 in
    record { name = named.0; free = named.1; sort = sort_fits g x.sort usual is parts.0; quantifiable = quantifiable }

variables_usable : (g : Signature) (xs : List Variable) → IsUsual g → list_all (λ x. is_sort x.sort) xs ≡ true → list_all (λ x. sort_is_live g.sorts x.sort && is_usable x.name) xs ≡ true
    → list_all (λ x. is_quantifiable x.sort) xs ≡ true → AreUsable g xs
variables_usable g [] usual are within quantifiable = tt
variables_usable g (x ∷ xs) usual are within quantifiable =
    let a = both_true (is_sort x.sort) (list_all (λ x. is_sort x.sort) xs) are in
    let b = both_true (sort_is_live g.sorts x.sort && is_usable x.name) (list_all (λ x. sort_is_live g.sorts x.sort && is_usable x.name) xs) within in
    let c = both_true (is_quantifiable x.sort) (list_all (λ x. is_quantifiable x.sort) xs) quantifiable in
    (variable_usable g x usual a.0 b.0 c.0, variables_usable g xs usual a.1 b.1 c.1)

all_quantifiable : (xs : List Variable) → are_bindable xs ≡ true → list_all (λ x. is_quantifiable x.sort) xs ≡ true
all_quantifiable [] h = refl
all_quantifiable (x ∷ xs) h = (bindable_parts x xs h).1

-- ---- scopes

pub pushed_is : (xs scope : List Variable) → reverse xs ++ scope ≡ pushed xs scope
pushed_is [] scope = refl
pushed_is (x ∷ xs) scope =
    ap (λ ys. ys ++ scope) (reverse-append (x ∷ []) xs) ∙ append_assoc (reverse xs) (x ∷ []) scope ∙ pushed_is xs (x ∷ scope)

more_usable : (g : Signature) (xs scope : List Variable) → AreUsable g xs → AreUsable g scope → AreUsable g (pushed xs scope)
more_usable g [] scope new old = old
more_usable g (x ∷ xs) scope new old = more_usable g xs (x ∷ scope) new.1 (new.0, old)

-- a constant is that of one of the variables
abbrev is_of : List Variable → Symbol → Bool
is_of xs f = is_among_symbols (map constant_of xs) f

still_of : (xs scope : List Variable) (f : Symbol) → is_of scope f ≡ true → is_of (pushed xs scope) f ≡ true
still_of [] scope f h = h
still_of (x ∷ xs) scope f h = still_of xs (x ∷ scope) f (right_true (symbol_eq (constant_of x) f) (is_of scope f) h)

now_of : (xs scope : List Variable) (f : Symbol) → is_of xs f ≡ true → is_of (pushed xs scope) f ≡ true
now_of [] scope f h = absurd (cc)
now_of (x ∷ xs) scope f h = elim (either_true (symbol_eq (constant_of x) f) (is_of xs f) h) [
  | inl here ↦ still_of xs (x ∷ scope) f (left_true (symbol_eq (constant_of x) f) (is_of scope f) here)
  | inr behind ↦ now_of xs (x ∷ scope) f behind
]

-- each free symbol of the term is a quantified variable or live
abbrev FreeFits : Signature → List Variable → List Symbol → Type 0
FreeFits g scope fs = (f : Symbol) → is_among_symbols fs f ≡ true → (is_of scope f ≡ true) ⊎ (is_among_symbols g.symbols f ≡ true)

first_free : (g : Signature) (scope : List Variable) (fs gs : List Symbol) → FreeFits g scope (with_more fs gs) → FreeFits g scope fs
first_free g scope fs gs fits f h = fits f (is_among-with_more fs gs f ∙ left_true (is_among_symbols fs f) (is_among_symbols gs f) h)

second_free : (g : Signature) (scope : List Variable) (fs gs : List Symbol) → FreeFits g scope (with_more fs gs) → FreeFits g scope gs
second_free g scope fs gs fits f h = fits f (is_among-with_more fs gs f ∙ right_true (is_among_symbols fs f) (is_among_symbols gs f) h)

below_free : (g : Signature) (scope xs : List Variable) (fs : List Symbol) → FreeFits g scope (without xs fs) → FreeFits g (pushed xs scope) fs
below_free g scope xs fs fits f h = elim (true_or_false (is_of xs f)) [
  | inl bound ↦ inl (now_of xs scope f bound)
  | inr other ↦
      let there : is_among_symbols (without xs fs) f ≡ true = is_among-without xs fs f ∙ and_true (is_among_symbols fs f) (not (is_of xs f)) h (ap not other) in
      elim (fits f there) [ inl old ↦ inl (still_of xs scope f old) | inr live ↦ inr live ]
]

-- ---- symbols

-- what is found for a name, with the equation
tell_lookup : (o : Option Variable) → ((x : Variable) × (o ≡ Some x)) ⊎ (o ≡ None)
tell_lookup (Some x) = inl (x, refl)
tell_lookup None = inr refl

picked_first : (b x y : Bool) → ◌≡◌ {A = Bool} (elim b [ true ↦ x | false ↦ y ]) true → b ≡ true → x ≡ true
picked_first true x y h is = h
picked_first false x y h is = absurd (cc)

picked_second : (b x y : Bool) → ◌≡◌ {A = Bool} (elim b [ true ↦ x | false ↦ y ]) true → b ≡ false → y ≡ true
picked_second true x y h is = absurd (cc)
picked_second false x y h is = h

seen_constant : (scope : List Variable) (f : Symbol) (x : Variable) → is_seen scope f ≡ true → lookup scope f.name ≡ Some x → f ≡ constant_of x
seen_constant [] f x seen found = absurd (cc)
seen_constant (y ∷ ys) f x seen found = elim (true_or_false (name_eq y.name f.name)) [
  | inl here ↦
      let first : Some y ≡ Some x = sym (ap (λ b. or_later b y (lookup ys f.name)) here) ∙ found in
      let same : y ≡ x = cc in
      let equal : symbol_eq (constant_of y) f ≡ true = picked_first (name_eq y.name f.name) (symbol_eq (constant_of y) f) (is_seen ys f) seen here in
      sym ((Decides-symbol_eq (constant_of y) f).0 equal) ∙ ap constant_of same
  | inr behind ↦ seen_constant ys f x (picked_second (name_eq y.name f.name) (symbol_eq (constant_of y) f) (is_seen ys f) seen behind) (sym (ap (λ b. or_later b y (lookup ys f.name)) behind) ∙ found)
]

unfound_name : (y : Variable) (f : Symbol) → symbol_eq (constant_of y) f ≡ true → name_eq y.name f.name ≡ true
unfound_name y f h = (Decides-name_eq y.name f.name).1 (ap (λ k. k.name) ((Decides-symbol_eq (constant_of y) f).0 h))

not_of : (scope : List Variable) (f : Symbol) → lookup scope f.name ≡ None → is_of scope f ≡ true → ⊥
not_of [] f free h = cc
not_of (y ∷ ys) f free h = elim (either_true (symbol_eq (constant_of y) f) (is_of ys f) h) [
  | inl here ↦ let found : lookup (y ∷ ys) f.name ≡ Some y = ap (λ b. or_later b y (lookup ys f.name)) (unfound_name y f here) in cc
  | inr behind ↦ elim (true_or_false (name_eq y.name f.name)) [
    | inl same ↦ let found : lookup (y ∷ ys) f.name ≡ Some y = ap (λ b. or_later b y (lookup ys f.name)) same in cc
    | inr other ↦ not_of ys f (sym (ap (λ b. or_later b y (lookup ys f.name)) other) ∙ free) behind
  ]
]

symbol_fits : (g : Signature) (scope : List Variable) (f : Symbol) → is_seen scope f ≡ true → ((is_of scope f ≡ true) ⊎ (is_among_symbols g.symbols f ≡ true)) → SymbolFits g scope f
symbol_fits g scope f seen found = elim (tell_lookup (lookup scope f.name)) [
  | inl there ↦ inl (there.0, there.1, seen_constant scope f there.0 seen there.1)
  | inr free ↦ inr (free, elim found [ inl bound ↦ absurd (not_of scope f free bound) | inr live ↦ live ])
]

found_usable : (g : Signature) (scope : List Variable) (x : Variable) (n : Name) → AreUsable g scope → lookup scope n ≡ Some x → IsUsable g x
found_usable g [] x n usable found = absurd (cc)
found_usable g (y ∷ ys) x n usable found = elim (true_or_false (name_eq y.name n)) [
  | inl here ↦
      let first : Some y ≡ Some x = sym (ap (λ b. or_later b y (lookup ys n)) here) ∙ found in
      let same : y ≡ x = cc in
      subst (IsUsable g) same usable.0
  | inr behind ↦ found_usable g ys x n usable.1 (sym (ap (λ b. or_later b y (lookup ys n)) behind) ∙ found)
]

name_fits : (g : Signature) (scope : List Variable) (f : Symbol) → IsUsual g → AreUsable g scope → SymbolFits g scope f → (is_internal f.name ≡ false) × IsName f.name
name_fits g scope f usual usable (inl there) =
    let x = there.0 in
    let is = found_usable g scope x f.name usable there.1 in
    let same : x.name ≡ f.name = lookup_name scope f.name x there.1 in
    subst (λ n. (is_internal n ≡ false) × IsName n) same (free_outer x.name is.free, is.name)
name_fits g scope f usual usable (inr free) = let parts = usable_parts f.name (usual.symbols f free.1) in (free_outer f.name parts.1, parts.0)

head_fits : (g : Signature) (scope : List Variable) (h : Head) → IsUsual g → AreUsable g scope → has_sorts h ≡ true → is_head_seen scope h ≡ true → list_all (sort_is_live g.sorts) (head_sorts h) ≡ true
    → FreeFits g scope (head_symbols h) → HeadFits g scope h
head_fits g scope (op o) usual usable sorts seen live free = tt
head_fits g scope (symbol f) usual usable sorts seen live free =
    let found = symbol_fits g scope f seen (free f (left_true (symbol_eq f f) false ((Decides-symbol_eq f f).1 refl))) in
    let named = name_fits g scope f usual usable found in
    (named.0, found, named.1)
head_fits g scope (const_array a) usual usable sorts seen live free = sort_fits g a usual sorts (both_true (sort_is_live g.sorts a) true live).0

-- ---- terms

mutual
  pub term_fits : (g : Signature) (t : Term) (scope : List Variable) (s : Sort) → IsUsual g → AreUsable g scope → sort_of t ≡ Some s → is_regular t ≡ true → is_clear_below scope t ≡ true
      → all_within (sort_is_live g.sorts) is_usable t ≡ true → FreeFits g scope (free t) → Fits g scope t s
  term_fits g (apply h ts) scope s usual usable sort is clear within frees =
      let r = applied h ts s sort in
      let regulars = regular h ts is in
      let clears = both_true (is_head_seen scope h) (are_clear_below scope ts) clear in
      let withins = both_true (list_all (sort_is_live g.sorts) (head_sorts h)) (all_within_each (sort_is_live g.sorts) is_usable ts) within in (
        r.sorts,
        terms_fit g ts scope r.sorts usual usable r.operands regulars.operands clears.1 withins.1 (second_free g scope (head_symbols h) (free_of ts) frees),
        head_fits g scope h usual usable regulars.head clears.0 withins.0 (first_free g scope (head_symbols h) (free_of ts) frees),
        r.rank,
      )
  term_fits g (quantified q xs t) scope s usual usable sort is clear within frees =
      let r = quantified_sort q xs t s sort in
      let regulars = both_true (list_all (λ x. is_sort x.sort) xs) (is_regular t) is in
      let withins = both_true (list_all (λ x. sort_is_live g.sorts x.sort && is_usable x.name) xs) (all_within (sort_is_live g.sorts) is_usable t) within in
      let new = variables_usable g xs usual regulars.0 withins.0 (all_quantifiable xs r.bindable) in (
        new,
        r.bindable,
        term_fits g t (pushed xs scope) bool usual (more_usable g xs scope new usable) r.body regulars.1 (sym (ap (λ ys. is_clear_below ys t) (pushed_is xs scope)) ∙ clear) withins.1 (below_free g scope xs (free t) frees),
        r.sort,
      )

  terms_fit : (g : Signature) (ts : Terms) (scope : List Variable) (ss : List Sort) → IsUsual g → AreUsable g scope → sorts_of ts ≡ Some ss → are_regular ts ≡ true → are_clear_below scope ts ≡ true
      → all_within_each (sort_is_live g.sorts) is_usable ts ≡ true → FreeFits g scope (free_of ts) → AllFit g scope ts ss
  terms_fit g none scope ss usual usable sorts is clear within frees = cc
  terms_fit g (t ⨾ ts) scope ss usual usable sorts is clear within frees =
      let r = sorted t ts ss sorts in
      let regulars = both_true (is_regular t) (are_regular ts) is in
      let clears = both_true (is_clear_below scope t) (are_clear_below scope ts) clear in
      let withins = both_true (all_within (sort_is_live g.sorts) is_usable t) (all_within_each (sort_is_live g.sorts) is_usable ts) within in (
        r.sort,
        r.sorts,
        term_fits g t scope r.sort usual usable r.first regulars.0 clears.0 withins.0 (first_free g scope (free t) (free_of ts) frees),
        terms_fit g ts scope r.sorts usual usable r.others regulars.1 clears.1 withins.1 (second_free g scope (free t) (free_of ts) frees),
        r.all,
      )

-- what is live in a state
abbrev pub signature_of : {A : Type 0} → State A → Signature
signature_of st = record { sorts = sorts_of_state st; symbols = symbols_of_state st }

live_frees : (g : Signature) (fs : List Symbol) → list_all (λ f. is_among_symbols g.symbols f) fs ≡ true → FreeFits g [] fs
live_frees g [] all f h = absurd (cc)
live_frees g (k ∷ ks) all f h =
    let parts = both_true (is_among_symbols g.symbols k) (list_all (λ f. is_among_symbols g.symbols f) ks) all in
    elim (either_true (symbol_eq k f) (is_among_symbols ks f) h) [
      | inl here ↦ inr (subst (λ j. is_among_symbols g.symbols j ≡ true) ((Decides-symbol_eq k f).0 here) parts.0)
      | inr behind ↦ live_frees g ks parts.1 f behind
    ]

pub printable_fits : (st : State Term) (t : Term) (s : Sort) → IsUsual (signature_of st) → sort_of t ≡ Some s → is_printable_term st t ≡ true → Fits (signature_of st) [] t s
printable_fits st t s usual sort h =
    let a = both_true (is_well_sorted t) (is_clear t && (symbols_are_live st t && all_within (sort_is_live (sorts_of_state st)) is_usable t)) h in
    let b = both_true (is_some (sort_of t)) (is_regular t) a.0 in
    let c = both_true (is_clear t) (symbols_are_live st t && all_within (sort_is_live (sorts_of_state st)) is_usable t) a.1 in
    let d = both_true (is_clear_below [] t) (are_distinct (names_of (free t))) c.0 in
    let e = both_true (symbols_are_live st t) (all_within (sort_is_live (sorts_of_state st)) is_usable t) c.1 in
    term_fits (signature_of st) t [] s usual tt sort b.1 d.0 e.1 (live_frees (signature_of st) (free t) e.0)
