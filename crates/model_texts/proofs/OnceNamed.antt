-- Whether equations name each parameter once.
use Rattle.std.proofs.Common.{◌≡◌, ◌≢◌, ◌∙◌, sym, ap, subst, refl, ℕ, zero, suc, ◌+◌, ◌<◌, ◌≤◌, ◌==◌, ◌↔◌, Bool, true, false, cond, if◌then◌else◌, List, [], ◌∷◌, map, length, get_or, set, replicate, count_by, Option, Some, None, All, arith}
use Rattle.std.specs.Prelude.{option_and_then, IsTrue}
use Rattle.std.specs.List.{list_all}
use Rattle.std.proofs.lemmas.Bool.Decides.{Decides-eqb}
use Rattle.std.proofs.lemmas.List.{length-map, length-set, length-replicate, get_or-replicate, get_or-set_same, get_or-set_other, take_all}
use Rattle.std.proofs.lemmas.List.Sums.{sum_by-cons}
use Rattle.smt_lex.specs.Lex.{Token}
use Rattle.smt_terms.specs.Equal.{name_eq}
use Rattle.smt_terms.specs.Sorts.{Variable}
use Rattle.smt_terms.specs.declared.ids.SortId.{SortId}
use Rattle.smt_terms.proofs.Equal.{name_itself}
use Rattle.smt_terms.proofs.Tests.{both_true, and_true, alike_from, contrary}
use Rattle.smt_values.specs.SortIds.{sort_at}
use Rattle.term_table.specs.Formulas.{Formulas}
use Rattle.model_texts.specs.Conditions.{no_variable, equation_at, equations_at, IsEquationAt, NamesEachOnce, AreVariablesOf, GivesEquations}
use Rattle.model_texts.specs.GivenParameters.{NamedSorts, variables_at}
use Rattle.model_texts.specs.Proper.{are_distinct}
use Rattle.model_texts.specs.Tables as plain
use Rattle.model_texts.specs.Tables.{names_each_once, where_each_once}
use Rattle.model_texts.specs.declared.conditions.Equation.{Equation}
use Rattle.model_texts.proofs.EquationsFound.{sorts_of_variables, names_of_variables}
use Rattle.model_texts.proofs.KeysRead.{no_equation, times, more_times, same_times, not_before, names_apart}

-- ---- tests of all of a list

all_at : {A : Type 0} (test : A → Bool) (xs : List A) (d : A) → list_all test xs ≡ true → (i : ℕ) → i < length xs → test (get_or xs i d) ≡ true
all_at test [] d h i less = absurd (omega (arith, less))
all_at test (x ∷ xs) d h zero less = (both_true (test x) (list_all test xs) h).0
all_at test (x ∷ xs) d h (suc i) less = all_at test xs d (both_true (test x) (list_all test xs) h).1 i (omega (arith, less))

each_all : {A : Type 0} (test : A → Bool) (xs : List A) (d : A) → ((i : ℕ) → i < length xs → test (get_or xs i d) ≡ true) → list_all test xs ≡ true
each_all test [] d h = refl
each_all test (x ∷ xs) d h = and_true (test x) (list_all test xs) (h zero (omega arith)) (each_all test xs d (λ i less. h (suc i) (omega (arith, less))))

pub within_either : {A : Type 0} (xs : List A) (i : ℕ) (d e : A) → i < length xs → get_or xs i d ≡ get_or xs i e
within_either [] i d e less = absurd (omega (arith, less))
within_either (x ∷ xs) zero d e less = refl
within_either (x ∷ xs) (suc i) d e less = within_either xs i d e (omega (arith, less))

-- ---- which are named so far

pub record Named (n : ℕ) (es : List Equation) (k : ℕ) (bs : List Bool) : Type 0 where
  pub size : length bs ≡ n
  pub counts : (i : ℕ) → i < n → times es k i ≡ (if get_or bs i false then 1 else 0)

pub named_begins : (n : ℕ) (es : List Equation) (bs : List Bool) → bs ≡ replicate n false → Named n es 0 bs
named_begins n es bs made = record {
  size = ap length made ∙ length-replicate n false;
  counts = λ i less. sym (ap (λ (b : Bool). if b then 1 else 0) (ap (λ cs. get_or cs i false) made ∙ get_or-replicate n i false false less));
}

module _ (n : ℕ) (es : List Equation) (k : ℕ) (bs : List Bool) (so_far : Named n es k bs) where
  module _ (less : k < length es) (within : (get_or es k no_equation).parameter < n) where
    abbrev pub p : ℕ
    p = (get_or es k no_equation).parameter

    pub named_twice : get_or bs p false ≡ true → NamesEachOnce n es → ⊥
    named_twice there once =
        let before = not_before n es k once less within in
        let again : times es k p ≡ 1 = so_far.counts p within ∙ ap (λ (b : Bool). if b then 1 else 0) there in
        omega (arith, before, again)

    pub named_more : (cs : List Bool) → get_or bs p false ≡ false → cs ≡ set bs p true → Named n es (k + 1) cs
    named_more cs new put = record {
      size = ap length put ∙ length-set bs p true ∙ so_far.size;
      counts = λ i few. by i few (p == i) refl;
    }
      where
        by : (i : ℕ) → i < n → (b : Bool) → (p == i) ≡ b → times es (k + 1) i ≡ (if get_or cs i false then 1 else 0)
        by i few true h =
            let is : p ≡ i = (Decides-eqb p i).0 h in
            let more = more_times es k i less h in
            let none : times es k i ≡ 0 = so_far.counts i few ∙ ap (λ (b : Bool). if b then 1 else 0) (ap (λ j. get_or bs j false) (sym is) ∙ new) in
            let one : times es (k + 1) i ≡ 1 = omega (arith, more, none) in
            let now : get_or cs i false ≡ true =
            ap (λ ds. get_or ds i false) put ∙ ap (λ j. get_or (set bs p true) j false) (sym is) ∙ get_or-set_same bs p true false (subst (λ m. p < m) (sym so_far.size) within) in
            one ∙ sym (ap (λ (b : Bool). if b then 1 else 0) now)
        by i few false h =
            let other : i ≢ p = λ e. contrary (p == i) ((Decides-eqb p i).1 (sym e)) h in
            same_times es k i less h ∙ so_far.counts i few
            ∙ ap (λ (b : Bool). if b then 1 else 0) (sym (ap (λ ds. get_or ds i false) put ∙ get_or-set_other bs p i true false other))

  pub named_all : length es ≤ k → (r : Bool) → r ≡ list_all (λ b. b) bs → IsTrue r ↔ NamesEachOnce n es
  named_all end r is = (
    λ yes i few.
        ap (count_by (λ e. e.parameter == i)) (sym (take_all k es end)) ∙ so_far.counts i few
        ∙ ap (λ (b : Bool). if b then 1 else 0) (all_at (λ b. b) bs false (sym is ∙ yes) i (subst (λ m. i < m) (sym so_far.size) few)),
    λ once. is ∙ each_all (λ b. b) bs false (λ i less.
        let few : i < n = subst (λ m. i < m) so_far.size less in
        one_true (get_or bs i false) (sym (so_far.counts i few) ∙ ap (count_by (λ e. e.parameter == i)) (take_all k es end) ∙ once i few)),
  )
    where
      one_true : (b : Bool) → ◌≡◌ {A = ℕ} (if b then 1 else 0) 1 → b ≡ true
      one_true true h = refl
      one_true false h = absurd (omega (arith, h))

-- ---- by names

module _ (ts : List Token) (args : List SortId) (xs : List Variable) (many : length args ≡ length xs) (distinct : are_distinct (map (λ x. x.name) xs) ≡ true) where
  abbrev about : ℕ → plain.Equation → Bool
  about i e = name_eq e.parameter.name (get_or xs i no_variable).name

  one_test : (i j : ℕ) → i < length xs → j < length xs → name_eq (get_or xs j no_variable).name (get_or xs i no_variable).name ≡ (j == i)
  one_test i j few least = by (j == i) refl
    where
      by : (b : Bool) → (j == i) ≡ b → name_eq (get_or xs j no_variable).name (get_or xs i no_variable).name ≡ b
      by true h = ap (λ m. name_eq (get_or xs m no_variable).name (get_or xs i no_variable).name) ((Decides-eqb j i).0 h) ∙ name_itself (get_or xs i no_variable).name
      by false h = names_apart xs j i distinct least few (λ e. contrary (j == i) ((Decides-eqb j i).1 e) h)

  counted : (es : List Equation) (i : ℕ) → All (IsEquationAt ts args) es → i < length xs → count_by (about i) (equations_at ts xs es) ≡ count_by (λ e. e.parameter == i) es
  counted [] i all few = refl
  counted (e ∷ es) i all few =
      let here : e.parameter < length xs = subst (λ n. e.parameter < n) many (all zero e (omega arith)).within in
      sum_by-cons (λ (d : plain.Equation). cond (about i d) 1 0) (equation_at ts xs e) (equations_at ts xs es)
      ∙ ap (λ b. cond b 1 0 + count_by (about i) (equations_at ts xs es)) (one_test i e.parameter few here)
      ∙ ap (λ n. cond (e.parameter == i) 1 0 + n) (counted es i (λ k d less. all (suc k) d (omega (arith, less))) few)
      ∙ sym (sum_by-cons (λ (d : Equation). cond (d.parameter == i) 1 0) e es)

  once_by_name : (es : List Equation) → All (IsEquationAt ts args) es → (b : Bool) → IsTrue b ↔ NamesEachOnce (length xs) es → names_each_once xs (equations_at ts xs es) ≡ b
  once_by_name es all b says =
      alike_from (names_each_once xs (equations_at ts xs es)) b
      (λ h. says.1 (λ i few. sym (counted es i all few)
      ∙ (Decides-eqb (count_by (about i) (equations_at ts xs es)) 1).0 (all_at (λ (x : Variable). count_by (λ (e : plain.Equation). name_eq e.parameter.name x.name) (equations_at ts xs es) == 1) xs no_variable h i few)))
      (λ h. each_all (λ (x : Variable). count_by (λ (e : plain.Equation). name_eq e.parameter.name x.name) (equations_at ts xs es) == 1) xs no_variable (λ i few.
      (Decides-eqb (count_by (about i) (equations_at ts xs es)) 1).1 (counted es i all few ∙ says.0 h i few)))

-- ---- the variables of a condition

module _ (ts : List Token) (args : List SortId) (ps : NamedSorts) (count : length args ≡ length ps) (distinct : are_distinct (map (λ p. p.0) ps) ≡ true) where
  pub are_variables : (t : Formulas) → AreVariablesOf t.sorts args (variables_at t ts args ps)
  are_variables t =
      let many = length-map args (sort_at t.sorts) ∙ count in
      record {
        sorts = sorts_of_variables ts (map (sort_at t.sorts) args) ps many;
        distinct = ap are_distinct (names_of_variables ts (map (sort_at t.sorts) args) ps many) ∙ distinct;
      }

  abbrev vars : Formulas → List Variable
  vars t = variables_at t ts args ps

  as_many : (t : Formulas) → length args ≡ length (vars t)
  as_many t =
      let a = length-map (vars t) (λ (x : Variable). x.sort) in
      let b = length-map args (sort_at t.sorts) in
      let c = ap length (are_variables t).sorts in
      omega (arith, a, b, c)

  module _ (read : List Variable → Option (List plain.Equation)) (es : List Equation) (gives : GivesEquations ts args ps read (Some es)) (n : ℕ) (size : n ≡ length args) (b : Bool) (says : IsTrue b ↔ NamesEachOnce n es) where
    test : (t : Formulas) → names_each_once (vars t) (equations_at ts (vars t) es) ≡ b
    test t = once_by_name ts args (vars t) (as_many t) (are_variables t).distinct es gives.held b (subst (λ m. IsTrue b ↔ NamesEachOnce m es) (size ∙ as_many t) says)

    pub named_once : b ≡ true → GivesEquations ts args ps (λ ys. option_and_then (where_each_once ys) (read ys)) (Some es)
    named_once is_so = record {
      equations = λ t s. ap (option_and_then (where_each_once (vars t))) (gives.equations t s) ∙ ap (λ (c : Bool). if c then Some (equations_at ts (vars t) es) else None) (test t ∙ is_so);
      held = gives.held;
    }

    pub not_named_once : b ≡ false → GivesEquations ts args ps (λ ys. option_and_then (where_each_once ys) (read ys)) None
    not_named_once is_not = record {
      equations = λ t s. ap (option_and_then (where_each_once (vars t))) (gives.equations t s) ∙ ap (λ (c : Bool). if c then Some (equations_at ts (vars t) es) else None) (test t ∙ is_not);
      held = tt;
    }
