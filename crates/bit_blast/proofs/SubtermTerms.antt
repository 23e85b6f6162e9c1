-- What stands below formulas of bits: formulas of bits alone, and their constants in order of first occurrence.
use Rattle.std.proofs.Common.{◌≡◌, Bool, true, false, not, cond, ◌&&◌, ◌||◌, List, [], ◌∷◌, ◌++◌, append-nil, filter, map, All, Option, Some, None, refl, ap, sym, ◌∙◌}
use Rattle.std.proofs.lemmas.List.{map-append}
use Rattle.std.proofs.lemmas.List.Elements.{All-nil, All-cons, All-head, All-tail, filter-append, filter_agree}
use Rattle.smt_terms.specs.Equal.{symbol_eq, term_eq}
use Rattle.smt_terms.specs.Free.{is_among, with_more, free, free_of}
use Rattle.smt_terms.specs.Groups.{has_term, with_new, where_so}
use Rattle.smt_terms.specs.Rank.{sort_of, sorts_of}
use Rattle.smt_terms.specs.Sorts.{Sort, Symbol}
use Rattle.smt_terms.specs.Term.{op, symbol, const_array, Term, apply, quantified, Terms, none, ◌⨾◌, terms, constant}
use Rattle.smt_terms.proofs.Among.{is_among-filter}
use Rattle.smt_terms.proofs.Equal.{Decides-symbol_eq, Decides-term_eq}
use Rattle.smt_terms.proofs.Ranked.{rank-takes}
use Rattle.smt_terms.proofs.Sorted.{applied, sorted}
use Rattle.smt_terms.proofs.Tests.{both_true, and_true, alike_from}
use Rattle.term_groups.specs.Parts.{collected, collected_of}
use Rattle.bit_blast.specs.Blasted.{is_bits_head, is_bits_sort, is_bits, are_bits, is_vector, vector_constants}
use Rattle.bit_blast.specs.Subterms.{is_open, is_vector_term}

-- ---- below formulas of bits nothing else is met

abbrev pub is_fault : Term → Bool
is_fault t = not (is_bits t)

mutual
  no-faults : (t : Term) → is_bits t ≡ true → collected is_open is_fault t ≡ []
  no-faults (apply h ts) fine =
      let below : collected_of is_open is_fault ts ≡ [] = no-faults_each ts (both_true (is_bits_head h && is_bits_sort (sort_of (apply h ts))) (are_bits ts) fine).1 in
      (λ i. with_new (below i) (where_so (not (fine i)) (apply h ts ∷ [])))
  no-faults (quantified q xs body) fine = absurd cc

  no-faults_each : (ts : Terms) → are_bits ts ≡ true → collected_of is_open is_fault ts ≡ []
  no-faults_each none fine = refl
  no-faults_each (t ⨾ ts) fine =
      let parts = both_true (is_bits t) (are_bits ts) fine in
      let first : collected is_open is_fault t ≡ [] = no-faults t parts.0 in
      let rest : collected_of is_open is_fault ts ≡ [] = no-faults_each ts parts.1 in
      λ i. with_new (first i) (rest i)

-- what has no faults among it
pub all-bits : (ts : List Term) → filter is_fault ts ≡ [] → All (λ u. is_bits u ≡ true) ts
all-bits [] none_there = All-nil (λ u. is_bits u ≡ true)
all-bits (t ∷ ts) none_there = by (is_bits t) refl (all-bits ts)
  where
    by : (b : Bool) → is_bits t ≡ b → (filter is_fault ts ≡ [] → All (λ u. is_bits u ≡ true) ts) → All (λ u. is_bits u ≡ true) (t ∷ ts)
    by true e rest = All-cons (λ u. is_bits u ≡ true) t ts e (rest (ap (λ b. cond (not b) (t ∷ filter is_fault ts) (filter is_fault ts)) (sym e) ∙ none_there))
    by false e rest =
        let there : t ∷ filter is_fault ts ≡ [] = ap (λ b. cond (not b) (t ∷ filter is_fault ts) (filter is_fault ts)) (sym e) ∙ none_there in
        absurd cc

-- ---- constants, as terms and as symbols

same-constant : (f g : Symbol) → term_eq (constant f) (constant g) ≡ symbol_eq f g
same-constant f g =
    alike_from (term_eq (constant f) (constant g)) (symbol_eq f g)
    (λ e. (Decides-symbol_eq f g).1 (let same : constant f ≡ constant g = (Decides-term_eq (constant f) (constant g)).0 e in cc))
    (λ e. (Decides-term_eq (constant f) (constant g)).1 (ap constant ((Decides-symbol_eq f g).0 e)))

has-constant : (fs : List Symbol) (g : Symbol) → has_term (map constant fs) (constant g) ≡ is_among fs g
has-constant [] g = refl
has-constant (f ∷ fs) g = λ i. same-constant f g i || has-constant fs g i

filter-map : (p : Term → Bool) (q : Symbol → Bool) → ((f : Symbol) → p (constant f) ≡ q f) → (fs : List Symbol) → filter p (map constant fs) ≡ map constant (filter q fs)
filter-map p q same [] = refl
filter-map p q same (f ∷ fs) = (λ i. cond (same f i) (constant f ∷ filter-map p q same fs i) (filter-map p q same fs i)) ∙ head (q f)
  where
    head : (b : Bool) → cond b (constant f ∷ map constant (filter q fs)) (map constant (filter q fs)) ≡ map constant (cond b (f ∷ filter q fs) (filter q fs))
    head true = refl
    head false = refl

constants-more : (fs gs : List Symbol) → with_new (map constant fs) (map constant gs) ≡ map constant (with_more fs gs)
constants-more fs gs =
    ap (λ us. map constant fs ++ us) (filter-map (λ u. not (has_term (map constant fs) u)) (λ g. not (is_among fs g)) (λ g. ap not (has-constant fs g)) gs)
    ∙ sym (map-append constant fs (filter (λ g. not (is_among fs g)) gs))

filter-filter : (p q : Symbol → Bool) (fs : List Symbol) → filter p (filter q fs) ≡ filter (λ f. q f && p f) fs
filter-filter p q [] = refl
filter-filter p q (f ∷ fs) = head (q f) ∙ ap (λ gs. cond (q f && p f) (f ∷ gs) gs) (filter-filter p q fs)
  where
    head : (b : Bool) → filter p (cond b (f ∷ filter q fs) (filter q fs)) ≡ cond (b && p f) (f ∷ filter p (filter q fs)) (filter p (filter q fs))
    head true = refl
    head false = refl

filter-more : (p : Symbol → Bool) (fs gs : List Symbol) → filter p (with_more fs gs) ≡ with_more (filter p fs) (filter p gs)
filter-more p fs gs =
    filter-append p fs (filter (λ g. not (is_among fs g)) gs)
    ∙ ap (λ hs. filter p fs ++ hs)
    (filter-filter p (λ g. not (is_among fs g)) gs
    ∙ filter_agree (λ g. not (is_among fs g) && p g) (λ g. p g && not (is_among (filter p fs) g)) (λ g. both (is_among fs g) (p g) ∙ ap (λ b. p g && not b) (sym (is_among-filter p fs g))) gs
    ∙ sym (filter-filter (λ g. not (is_among (filter p fs) g)) p gs))
  where
    both : (a b : Bool) → (not a && b) ≡ (b && not (a && b))
    both true true = refl
    both true false = refl
    both false true = refl
    both false false = refl

-- ---- a formula of bits has the constants of bit vectors that are free in it

-- a symbol without arguments has no operands
no-operands : (ts : Terms) → sorts_of ts ≡ Some [] → ts ≡ none
no-operands none e = refl
no-operands (t ⨾ ts) e =
    let s = sorted t ts [] e in
    let no : [] ≡ s.sort ∷ s.sorts = s.all in
    absurd cc

no_arguments : (ss : List Sort) (f : Symbol) → f.args ≡ ss → is_bits_head (symbol f) ≡ true → ss ≡ []
no_arguments [] f e fine = refl
no_arguments (s ∷ ss) f e fine = let no : false ≡ true = ap (λ us. is_bits_head (symbol (record { name = f.name; args = us; result = f.result }))) (sym e) ∙ fine in absurd cc

some-sort : (o : Option Sort) → is_bits_sort o ≡ true → (s : Sort) × (o ≡ Some s)
some-sort None fine = absurd cc
some-sort (Some s) fine = (s, refl)

pub symbol-alone : (f : Symbol) (ts : Terms) → is_bits (apply (symbol f) ts) ≡ true → (ts ≡ none) × (f.args ≡ [])
symbol-alone f ts fine =
    let parts = both_true (is_bits_head (symbol f)) (is_bits_sort (sort_of (apply (symbol f) ts))) (both_true (is_bits_head (symbol f) && is_bits_sort (sort_of (apply (symbol f) ts))) (are_bits ts) fine).0 in
    let found = some-sort (sort_of (apply (symbol f) ts)) parts.1 in
    let a = applied (symbol f) ts found.0 found.1 in
    let args : f.args ≡ [] = no_arguments f.args f refl parts.0 in
    let takes : a.sorts ≡ f.args = (rank-takes (symbol f) a.sorts found.0 a.rank).0 in
    (no-operands ts (a.operands ∙ ap Some (takes ∙ args)), args)

one-constant : (b : Bool) (f : Symbol) → with_new [] (where_so b (constant f ∷ [])) ≡ map constant (cond b (f ∷ []) [])
one-constant true f = refl
one-constant false f = refl

none-bound : (fs : List Symbol) → with_more [] fs ≡ fs
none-bound [] = refl
none-bound (f ∷ fs) = ap (λ gs. f ∷ gs) (none-bound fs)

-- those of a term, and those of its operands
abbrev vectors_in : List Symbol → List Term
vectors_in fs = map constant (filter is_vector fs)

mutual
  constants-met : (t : Term) → is_bits t ≡ true → collected is_open is_vector_term t ≡ vectors_in (free t)
  constants-met (apply (symbol f) ts) fine =
      let alone = (symbol-alone f ts fine).0 in
      ap (λ us. with_new (collected_of is_open is_vector_term us) (where_so (is_vector f) (apply (symbol f) us ∷ []))) alone
      ∙ one-constant (is_vector f) f
      ∙ ap (λ us. vectors_in (with_more (f ∷ []) (free_of us))) (sym alone)
  constants-met (apply (op o) ts) fine =
      append-nil (collected_of is_open is_vector_term ts)
      ∙ constants-met_each ts (both_true (is_bits_head (op o) && is_bits_sort (sort_of (apply (op o) ts))) (are_bits ts) fine).1
      ∙ ap vectors_in (sym (none-bound (free_of ts)))
  constants-met (apply (const_array s) ts) fine =
      append-nil (collected_of is_open is_vector_term ts)
      ∙ constants-met_each ts (both_true (is_bits_head (const_array s) && is_bits_sort (sort_of (apply (const_array s) ts))) (are_bits ts) fine).1
      ∙ ap vectors_in (sym (none-bound (free_of ts)))
  constants-met (quantified q xs body) fine = absurd cc

  constants-met_each : (ts : Terms) → are_bits ts ≡ true → collected_of is_open is_vector_term ts ≡ vectors_in (free_of ts)
  constants-met_each none fine = refl
  constants-met_each (t ⨾ ts) fine =
      let parts = both_true (is_bits t) (are_bits ts) fine in
      let first : collected is_open is_vector_term t ≡ vectors_in (free t) = constants-met t parts.0 in
      let rest : collected_of is_open is_vector_term ts ≡ vectors_in (free_of ts) = constants-met_each ts parts.1 in
      (λ i. with_new (first i) (rest i))
      ∙ constants-more (filter is_vector (free t)) (filter is_vector (free_of ts))
      ∙ ap (map constant) (sym (filter-more is_vector (free t) (free_of ts)))

-- those of several formulas
pub each-bits : (ts : List Term) → All (λ u. is_bits u ≡ true) ts → are_bits (terms ts) ≡ true
each-bits [] all = refl
each-bits (t ∷ ts) all = and_true (is_bits t) (are_bits (terms ts)) (All-head (λ u. is_bits u ≡ true) t ts all) (each-bits ts (All-tail (λ u. is_bits u ≡ true) t ts all))

pub roots-constants : (roots : List Term) → All (λ u. is_bits u ≡ true) roots → collected_of is_open is_vector_term (terms roots) ≡ map constant (vector_constants roots)
roots-constants roots all = constants-met_each (terms roots) (each-bits roots all)

pub roots-no_faults : (roots : List Term) → All (λ u. is_bits u ≡ true) roots → collected_of is_open is_fault (terms roots) ≡ []
roots-no_faults roots all = no-faults_each (terms roots) (each-bits roots all)
