-- When a quantifier's node has a rank: its operands are constants that it may bind, and its body.
use Rattle.std.proofs.Common.{◌≡◌, ℕ, suc, ◌+◌, ◌≤◌, Bool, true, false, not, cond, ◌&&◌, inl, inr, nat_le, List, [], ◌∷◌, ◌++◌, map, length, Result, Ok, Err, refl, ap, sym, ◌∙◌, arith, length-append}
use Rattle.std.specs.List.{list_all}
use Rattle.std.proofs.lemmas.Bool.{leb-true}
use Rattle.std.proofs.lemmas.Bool.Decides.{nat_tests}
use Rattle.std.proofs.lemmas.List.{length-map}
use Rattle.smt_terms.specs.Sorts.{Name, Sort, bool, Variable}
use Rattle.smt_terms.specs.Term.{op, symbol, const_array, Term, apply, quantified, none, ◌⨾◌, variable}
use Rattle.smt_terms.specs.Equal.{name_eq, sort_eq}
use Rattle.smt_terms.specs.Rank.{Fault, wrong_arity, wrong_sort, is_quantifiable, has_name, are_distinct, is_empty, may_bind, symbol_name, rank_bound, rank_quantifier, are_bindable}
use Rattle.smt_terms.specs.Laws.{IsBinder}
use Rattle.smt_terms.proofs.Tests.{both_true, and_true, both_false, or_false, not_true, true_or_false}
use Rattle.smt_terms.proofs.Equal.{Decides-name_eq, Decides-sort_eq}

-- the names of variables, and a test that none is among others
abbrev names : List Variable → List Name
names xs = map (λ x. x.name) xs

abbrev are_new : List Name → List Variable → Bool
are_new earlier xs = list_all (λ x. not (has_name x.name earlier)) xs

abbrev may_all : List Variable → Bool
may_all xs = list_all (λ x. is_quantifiable x.sort) xs

-- operands that are constants to be bound, and a body
record Bound (earlier : List Name) (ts : List Term) (ss : List Sort) (s : Sort) : Type 0 where
  variables : List Variable
  body : Term
  sorts : List Sort
  operands : ts ≡ map variable variables ++ body ∷ []
  operand_sorts : ss ≡ sorts ++ bool ∷ []
  number : length sorts ≡ length variables
  new : are_new earlier variables ≡ true
  distinct : are_distinct (names variables) ≡ true
  allowed : may_all variables ≡ true
  result : s ≡ bool

cond_bound : (b : Bool) (r : Result Sort Fault) (f : Fault) (s : Sort) → cond b r (Err f) ≡ Ok s → (b ≡ true) × (r ≡ Ok s)
cond_bound true r f s h = (refl, h)
cond_bound false r f s h = absurd cc

no_args : (ss : List Sort) → is_empty ss ≡ true → ss ≡ []
no_args [] h = refl
no_args (s ∷ ss) h = absurd cc

-- what a test of one operand says
record Binds (earlier : List Name) (t : Term) : Type 0 where
  variable_of : Variable
  is : t ≡ variable variable_of
  allowed : is_quantifiable variable_of.sort ≡ true
  new : not (has_name variable_of.name earlier) ≡ true

binds : (earlier : List Name) (t : Term) → may_bind earlier t ≡ true → Binds earlier t
binds earlier (apply (symbol f) none) h =
    let all = both_true (is_empty f.args) (is_quantifiable f.result && not (has_name f.name earlier)) h in
    let rest = both_true (is_quantifiable f.result) (not (has_name f.name earlier)) all.1 in
    record {
      variable_of = record { name = f.name; sort = f.result };
      is = λ i. apply (symbol (record { name = f.name; args = no_args f.args all.0 i; result = f.result })) none;
      allowed = rest.0;
      new = rest.1;
    }
binds earlier (apply (symbol f) (t ⨾ ts)) h = absurd cc
binds earlier (apply (op o) ts) h = absurd cc
binds earlier (apply (const_array s) ts) h = absurd cc
binds earlier (quantified q xs t) h = absurd cc

turned : (m k : Name) → name_eq k m ≡ false → name_eq m k ≡ false
turned m k e =
    elim (true_or_false (name_eq m k)) [
      | inl same ↦ let back : name_eq k m ≡ true = (Decides-name_eq k m).1 (sym ((Decides-name_eq m k).0 same)) in absurd cc
      | inr other ↦ other
    ]

-- names that are new after one more name differ from it
apart : (n : Name) (earlier : List Name) (xs : List Variable) → are_new (n ∷ earlier) xs ≡ true → (are_new earlier xs ≡ true) × (has_name n (names xs) ≡ false)
apart n earlier [] h = (refl, refl)
apart n earlier (x ∷ xs) h =
    let all = both_true (not (has_name x.name (n ∷ earlier))) (are_new (n ∷ earlier) xs) h in
    let here = both_false (name_eq x.name n) (has_name x.name earlier) (not_true (has_name x.name (n ∷ earlier)) all.0) in
    let rest = apart n earlier xs all.1 in (
      and_true (not (has_name x.name earlier)) (are_new earlier xs) (ap not here.1) rest.0,
      or_false (name_eq n x.name) (has_name n (names xs)) (turned n x.name here.0) rest.1,
    )

no_operand : (k : ℕ) (earlier : List Name) (t : Term) (u v : Sort) (ss : List Sort) (s : Sort) → rank_bound k earlier (t ∷ []) (u ∷ v ∷ ss) ≡ Ok s → ⊥
no_operand k earlier t u v ss s h =
    let told = cond_bound (may_bind earlier t) (rank_bound (suc k) (symbol_name t ∷ earlier) [] (v ∷ ss)) (wrong_sort k u bool) s h in
    let none_left : Err wrong_arity ≡ Ok s = told.1 in
    absurd cc

bound_ok : (k : ℕ) (earlier : List Name) (ts : List Term) (ss : List Sort) (s : Sort) → rank_bound k earlier ts ss ≡ Ok s → Bound earlier ts ss s
bound_ok k earlier [] ss s h = absurd cc
bound_ok k earlier (t ∷ []) [] s h = absurd cc
bound_ok k earlier (t ∷ t' ∷ ts) [] s h = absurd cc
bound_ok k earlier (t ∷ []) (u ∷ []) s h =
    let told = cond_bound (sort_eq u bool) (Ok bool) (wrong_sort k u bool) s h in
    let result : s ≡ bool = cc in
    record {
      variables = [];
      body = t;
      sorts = [];
      operands = refl;
      operand_sorts = ap (λ v. v ∷ []) ((Decides-sort_eq u bool).0 told.0);
      number = refl;
      new = refl;
      distinct = refl;
      allowed = refl;
      result = result;
    }
bound_ok k earlier (t ∷ []) (u ∷ v ∷ ss) s h = absurd (no_operand k earlier t u v ss s h)
bound_ok k earlier (t ∷ t' ∷ ts) (u ∷ ss) s h =
    let told = cond_bound (may_bind earlier t) (rank_bound (suc k) (symbol_name t ∷ earlier) (t' ∷ ts) ss) (wrong_sort k u bool) s h in
    let here = binds earlier t told.0 in
    let name : symbol_name t ≡ here.variable_of.name = ap symbol_name here.is in
    let rest = bound_ok (suc k) (here.variable_of.name ∷ earlier) (t' ∷ ts) ss s (ap (λ n. rank_bound (suc k) (n ∷ earlier) (t' ∷ ts) ss) (sym name) ∙ told.1) in
    let others = apart here.variable_of.name earlier rest.variables rest.new in
    record {
      variables = here.variable_of ∷ rest.variables;
      body = rest.body;
      sorts = u ∷ rest.sorts;
      operands = (λ i. here.is i ∷ rest.operands i);
      operand_sorts = ap (λ us. u ∷ us) rest.operand_sorts;
      number = ap suc rest.number;
      new = and_true (not (has_name here.variable_of.name earlier)) (are_new earlier rest.variables) here.new others.0;
      distinct = and_true (not (has_name here.variable_of.name (names rest.variables))) (are_distinct (names rest.variables)) (ap not others.1) rest.distinct;
      allowed = and_true (is_quantifiable here.variable_of.sort) (may_all rest.variables) here.allowed rest.allowed;
      result = rest.result;
    }

-- ---- the law

some_bindable : (xs : List Variable) → 1 ≤ length xs → are_distinct (names xs) ≡ true → may_all xs ≡ true → are_bindable xs ≡ true
some_bindable [] some distinct allowed = absurd (omega arith)
some_bindable (x ∷ xs) some distinct allowed = and_true (are_distinct (names (x ∷ xs))) (may_all (x ∷ xs)) distinct allowed

pub rank_quantifier-ok : (ts : List Term) (ss : List Sort) (s : Sort) → rank_quantifier ts ss ≡ Ok s → IsBinder ts ss s
rank_quantifier-ok ts ss s h =
    let told = cond_bound (nat_le 2 (length ts)) (rank_bound 0 [] ts ss) wrong_arity s h in
    let found = bound_ok 0 [] ts ss s told.1 in
    let two : 2 ≤ length ts = leb-true 2 (length ts) told.0 in
    let number : length ts ≡ length found.variables + 1 = ap length found.operands ∙ length-append (map variable found.variables) (found.body ∷ []) ∙ ap (λ n. n + 1) (length-map found.variables variable) in
    record {
      variables = found.variables;
      body = found.body;
      sorts = found.sorts;
      operands = found.operands;
      operand_sorts = found.operand_sorts;
      number = found.number;
      bindable = some_bindable found.variables (omega arith) found.distinct found.allowed;
      result = found.result;
    }

-- ---- and back

not_false : (a : Bool) → a ≡ false → not a ≡ true
not_false a h = ap not h

one_more : (n : Name) (earlier : List Name) (xs : List Variable) → are_new earlier xs ≡ true → has_name n (names xs) ≡ false → are_new (n ∷ earlier) xs ≡ true
one_more n earlier [] new absent = refl
one_more n earlier (x ∷ xs) new absent =
    let here = both_true (not (has_name x.name earlier)) (are_new earlier xs) new in
    let other = both_false (name_eq n x.name) (has_name n (names xs)) absent in
    and_true (not (has_name x.name (n ∷ earlier))) (are_new (n ∷ earlier) xs)
    (not_false (has_name x.name (n ∷ earlier)) (or_false (name_eq x.name n) (has_name x.name earlier) (turned x.name n other.0) (not_true (has_name x.name earlier) here.0)))
    (one_more n earlier xs here.1 other.1)

may_bind-variable : (earlier : List Name) (x : Variable) → is_quantifiable x.sort ≡ true → not (has_name x.name earlier) ≡ true → may_bind earlier (variable x) ≡ true
may_bind-variable earlier x allowed new = and_true (is_quantifiable x.sort) (not (has_name x.name earlier)) allowed new

bound_back : (k : ℕ) (earlier : List Name) (xs : List Variable) (t : Term) (us : List Sort) → length us ≡ length xs → are_new earlier xs ≡ true → are_distinct (names xs) ≡ true → may_all xs ≡ true → rank_bound k earlier (map variable xs ++ t ∷ []) (us ++ bool ∷ []) ≡ Ok bool
bound_back k earlier [] t [] e new distinct allowed = refl
bound_back k earlier [] t (u ∷ us) e new distinct allowed = absurd (omega arith)
bound_back k earlier (x ∷ xs) t [] e new distinct allowed = absurd (omega arith)
bound_back k earlier (x ∷ []) t (u ∷ us) e new distinct allowed =
    let fresh = both_true (not (has_name x.name earlier)) true new in
    let fine = both_true (is_quantifiable x.sort) true allowed in
    ap (λ b. cond b (rank_bound (suc k) (x.name ∷ earlier) (t ∷ []) (us ++ bool ∷ [])) (Err (wrong_sort k u bool))) (may_bind-variable earlier x fine.0 fresh.0)
    ∙ bound_back (suc k) (x.name ∷ earlier) [] t us (omega arith) refl refl refl
bound_back k earlier (x ∷ y ∷ xs) t (u ∷ us) e new distinct allowed =
    let fresh = both_true (not (has_name x.name earlier)) (are_new earlier (y ∷ xs)) new in
    let fine = both_true (is_quantifiable x.sort) (may_all (y ∷ xs)) allowed in
    let other = both_true (not (has_name x.name (names (y ∷ xs)))) (are_distinct (names (y ∷ xs))) distinct in
    ap (λ b. cond b (rank_bound (suc k) (x.name ∷ earlier) (map variable (y ∷ xs) ++ t ∷ []) (us ++ bool ∷ [])) (Err (wrong_sort k u bool))) (may_bind-variable earlier x fine.0 fresh.0)
    ∙ bound_back (suc k) (x.name ∷ earlier) (y ∷ xs) t us (omega arith) (one_more x.name earlier (y ∷ xs) fresh.1 (not_true (has_name x.name (names (y ∷ xs))) other.0)) other.1 fine.1

all_new : (xs : List Variable) → are_new [] xs ≡ true
all_new [] = refl
all_new (x ∷ xs) = all_new xs

pub rank_quantifier-binder : (xs : List Variable) (t : Term) (us : List Sort) → length us ≡ length xs → are_bindable xs ≡ true → rank_quantifier (map variable xs ++ t ∷ []) (us ++ bool ∷ []) ≡ Ok bool
rank_quantifier-binder [] t us e h = absurd cc
rank_quantifier-binder (x ∷ xs) t us e h =
    let parts = both_true (are_distinct (names (x ∷ xs))) (may_all (x ∷ xs)) h in
    let number : length (map variable (x ∷ xs) ++ t ∷ []) ≡ length (x ∷ xs) + 1 = length-append (map variable (x ∷ xs)) (t ∷ []) ∙ ap (λ n. n + 1) (length-map (x ∷ xs) variable) in
    let two : nat_le 2 (length (map variable (x ∷ xs) ++ t ∷ [])) ≡ true = enough (length (map variable (x ∷ xs) ++ t ∷ [])) (omega arith) in
    ap (λ b. cond b (rank_bound 0 [] (map variable (x ∷ xs) ++ t ∷ []) (us ++ bool ∷ [])) (Err wrong_arity)) two
    ∙ bound_back 0 [] (x ∷ xs) t us e (all_new (x ∷ xs)) parts.0 parts.1
  where
    enough : (n : ℕ) → 2 ≤ n → nat_le 2 n ≡ true
    enough n h = grind (arith, nat_tests)

pub binder-rank_quantifier : (ts : List Term) (ss : List Sort) (s : Sort) → IsBinder ts ss s → rank_quantifier ts ss ≡ Ok s
binder-rank_quantifier ts ss s b =
    (λ i. rank_quantifier (b.operands i) (b.operand_sorts i)) ∙ rank_quantifier-binder b.variables b.body b.sorts b.number b.bindable ∙ ap (λ t. Ok t) (sym b.result)
