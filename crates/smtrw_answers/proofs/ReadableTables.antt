-- Tables of functions whose applications gave way to constants: they can be read where the operands that are evaluated lie in
-- the range.
use Rattle.std.proofs.Common.{◌≡◌, refl, Bool, true, false, cond, List, [], ◌∷◌, ◌++◌}
use Rattle.std.specs.Prelude.{flat_map}
use Rattle.std.specs.List.{list_all, list_any}
use Rattle.smt_terms.specs.Groups.{Named, with_constants_each}
use Rattle.smt_terms.specs.Models.{Row, Model}
use Rattle.smt_terms.specs.Sorts.{Sort, Symbol}
use Rattle.smt_terms.specs.Term.{Term, apply, quantified, Terms, none, ◌⨾◌, list, constant}
use Rattle.smt_terms.specs.Val.{no_variables, val, vals, fits, fit}
use Rattle.smt_terms.specs.Values.{Sizes, all_same, default_value}
use Rattle.smt_terms.proofs.Tests.{both_true, and_true, either_way}
use Rattle.ackermann.specs.Tables.{applies, operands_of, application_row, with_row, with_rows, application_graph}
use Rattle.model_texts.specs.Laws.{is_readable, is_readable_row, is_readable_graph}
use Rattle.smtrw_answers.proofs.ReadableValues.{of_sort_readable, IsReadableModel, constant_readable, vals_readable}

-- the row of an application with its constant v
abbrev use_row : Model → Named → Symbol → Terms → Row
use_row m ns v ts = record { keys = vals m (with_constants_each ns ts) no_variables; result = val m (constant v) no_variables }

-- ---- they can be read

pub all_both : {A : Type 0} (test : A → Bool) (xs ys : List A) → list_all test xs ≡ true → list_all test ys ≡ true → list_all test (xs ++ ys) ≡ true
all_both test [] ys first second = second
all_both test (x ∷ xs) ys first second =
    let a = both_true (test x) (list_all test xs) first in
    and_true (test x) (list_all test (xs ++ ys)) a.0 (all_both test xs ys a.1 second)

each_fits : (m : Model) (ts : Terms) → list_all (λ (t : Term). fits m t no_variables) (list ts) ≡ true → fit m ts no_variables ≡ true
each_fits m none all = refl
each_fits m (t ⨾ ts) all =
    let a = both_true (fits m t no_variables) (list_all (λ (u : Term). fits m u no_variables) (list ts)) all in
    and_true (fits m t no_variables) (fit m ts no_variables) a.0 (each_fits m ts a.1)

-- the operands of an application lie in the range
abbrev pub operands_fit : Model → Named → Symbol × Term → Bool
operands_fit m ns n = list_all (λ t. fits m t no_variables) (operands_of ns n.1)

module _ (m : Model) (is : IsReadableModel m) (ns : Named) (f : Symbol) where
  row_readable : (v : Symbol) (t : Term) → list_all (λ (u : Term). fits m u no_variables) (operands_of ns t) ≡ true → list_all is_readable_row (application_row m ns f v t) ≡ true
  row_readable v (apply h ts) all = by (applies f h)
    where
      keys : list_all is_readable (vals m (with_constants_each ns ts) no_variables) ≡ true
      keys = vals_readable m is (with_constants_each ns ts) (each_fits m (with_constants_each ns ts) all)

      by : (b : Bool) → list_all is_readable_row (cond b (use_row m ns v ts ∷ []) []) ≡ true
      by true =
          let r = use_row m ns v ts in
          and_true (is_readable_row r) true (and_true (list_all is_readable r.keys) (is_readable r.result) keys (constant_readable m is v)) refl
      by false = refl
  row_readable v (quantified q xs t) all = refl

  rows_readable : (ks : Named) → list_all (operands_fit m ns) ks ≡ true → list_all is_readable_row (flat_map (λ (n : Symbol × Term). application_row m ns f n.0 n.1) ks) ≡ true
  rows_readable [] all = refl
  rows_readable (k ∷ ks) all =
      let a = both_true (operands_fit m ns k) (list_all (operands_fit m ns) ks) all in
      all_both is_readable_row (application_row m ns f k.0 k.1) (flat_map (λ (n : Symbol × Term). application_row m ns f n.0 n.1) ks) (row_readable k.0 k.1 a.0) (rows_readable ks a.1)

more_readable : (args : List Sort) (sizes : Sizes) (rows : List Row) (r : Row) → list_all is_readable_row rows ≡ true → is_readable_row r ≡ true → list_all is_readable_row (with_row args sizes rows r) ≡ true
more_readable args sizes rows r old new =
    either_way (list_all is_readable_row) (list_any (λ (q : Row). all_same args sizes q.keys r.keys) rows) rows (rows ++ r ∷ []) true
    (λ e. old) (λ e. all_both is_readable_row rows (r ∷ []) old (and_true (is_readable_row r) true new refl))

all_readable : (args : List Sort) (sizes : Sizes) (rows rs : List Row) → list_all is_readable_row rows ≡ true → list_all is_readable_row rs ≡ true → list_all is_readable_row (with_rows args sizes rows rs) ≡ true
all_readable args sizes rows [] old new = old
all_readable args sizes rows (r ∷ rs) old new =
    let a = both_true (is_readable_row r) (list_all is_readable_row rs) new in
    all_readable args sizes (with_row args sizes rows r) rs (more_readable args sizes rows r old a.0) a.1

pub table_readable : (m : Model) → IsReadableModel m → (ns : Named) (f : Symbol) → list_all (operands_fit m ns) ns ≡ true → is_readable_graph (application_graph m ns f) ≡ true
table_readable m is ns f all =
    let made = flat_map (λ (n : Symbol × Term). application_row m ns f n.0 n.1) ns in
    and_true (list_all is_readable_row (with_rows f.args m.sizes [] made)) (is_readable (default_value f.result))
    (all_readable f.args m.sizes [] made refl (rows_readable m is ns f ns all)) (of_sort_readable f.result)
