-- Terms made of well-sorted operands are well sorted.
use Rattle.std.proofs.Common.{◌≡◌, true, false, not, ◌&&◌, List, [], ◌∷◌, ◌++◌, map, length, Some, Ok, refl, ap, sym, ◌∙◌, arith}
use Rattle.std.specs.Prelude.{is_some}
use Rattle.std.specs.List.{list_all}
use Rattle.std.proofs.lemmas.List.{length-map}
use Rattle.std.proofs.lemmas.List.Folds.{list_all-append}
use Rattle.smt_terms.specs.Sorts.{Sort, bool, Variable}
use Rattle.smt_terms.specs.Term.{Quantifier, Head, symbol, Term, apply, quantified, none, terms, variable, constant_of}
use Rattle.smt_terms.specs.Rank.{rank, sort_of, sorts_of, is_sort, has_sorts, is_minus_of, is_regular, are_regular, is_well_sorted}
use Rattle.smt_terms.specs.Laws.{IsBinder}
use Rattle.smt_terms.specs.NodeLaws.{HasSort, OperandsHaveSorts}
use Rattle.smt_terms.proofs.Tests.{both_true, and_true}
use Rattle.smt_terms.proofs.Sorted.{sorted, sort_of-apply, sort_of-quantified}

-- a sort and regularity make a term well sorted
has_sort : (t : Term) (s : Sort) → sort_of t ≡ Some s → is_regular t ≡ true → HasSort t s
has_sort t s has regular = record {
  well_sorted = and_true (is_some (sort_of t)) (is_regular t) (ap is_some has) regular;
  sort = has;
}

regular_of : (t : Term) → is_well_sorted t ≡ true → is_regular t ≡ true
regular_of t h = (both_true (is_some (sort_of t)) (is_regular t) h).1

all_regular : (ts : List Term) → list_all is_well_sorted ts ≡ true → are_regular (terms ts) ≡ true
all_regular [] h = refl
all_regular (t ∷ ts) h =
    let parts = both_true (is_well_sorted t) (list_all is_well_sorted ts) h in
    and_true (is_regular t) (are_regular (terms ts)) (regular_of t parts.0) (all_regular ts parts.1)

pub heads_have_sorts : (h : Head) (ts : List Term) (ss : List Sort) (s : Sort) → OperandsHaveSorts ts ss → has_sorts h ≡ true → is_minus_of h (terms ts) ≡ false → rank h ss ≡ Ok s → HasSort (apply h (terms ts)) s
heads_have_sorts h ts ss s operands own other ranked =
    has_sort (apply h (terms ts)) s (sort_of-apply h (terms ts) ss s operands.sorts ranked)
    (and_true (has_sorts h) (not (is_minus_of h (terms ts)) && are_regular (terms ts)) own
    (and_true (not (is_minus_of h (terms ts))) (are_regular (terms ts)) (ap not other) (all_regular ts operands.well_sorted)))

-- variables that are well-sorted constants have well-formed sorts
variables_regular : (xs : List Variable) → list_all is_well_sorted (map variable xs) ≡ true → list_all (λ x. is_sort x.sort) xs ≡ true
variables_regular [] h = refl
variables_regular (x ∷ xs) h =
    let parts = both_true (is_well_sorted (variable x)) (list_all is_well_sorted (map variable xs)) h in
    let here = both_true (has_sorts (symbol (constant_of x))) (not (is_minus_of (symbol (constant_of x)) none) && true) (regular_of (variable x) parts.0) in
    and_true (is_sort x.sort) (list_all (λ y. is_sort y.sort) xs) here.0 (variables_regular xs parts.1)

-- the sort of the last operand
last_sort : (ts : List Term) (t : Term) (us : List Sort) (s : Sort) → length us ≡ length ts → sorts_of (terms (ts ++ t ∷ [])) ≡ Some (us ++ s ∷ []) → sort_of t ≡ Some s
last_sort [] t [] s e h =
    let parts = sorted t none (s ∷ []) h in
    let same : s ≡ parts.sort = cc in
    parts.first ∙ ap (λ r. Some r) (sym same)
last_sort [] t (u ∷ us) s e h = absurd (omega arith)
last_sort (r ∷ ts) t [] s e h = absurd (omega arith)
last_sort (r ∷ ts) t (u ∷ us) s e h =
    let parts = sorted r (terms (ts ++ t ∷ [])) (u ∷ (us ++ s ∷ [])) h in
    let rest : us ++ s ∷ [] ≡ parts.sorts = cc in
    last_sort ts t us s (omega arith) (parts.others ∙ ap (λ vs. Some vs) (sym rest))

pub binders_have_sorts : (q : Quantifier) (ts : List Term) (ss : List Sort) (s : Sort) → OperandsHaveSorts ts ss → (b : IsBinder ts ss s) → HasSort (quantified q b.variables b.body) s
binders_have_sorts q ts ss s operands b =
    let xs = b.variables in
    let kept : list_all is_well_sorted (map variable xs ++ b.body ∷ []) ≡ true = ap (list_all is_well_sorted) (sym b.operands) ∙ operands.well_sorted in
    let parts = both_true (list_all is_well_sorted (map variable xs)) (list_all is_well_sorted (b.body ∷ [])) (sym (list_all-append is_well_sorted (map variable xs) (b.body ∷ [])) ∙ kept) in
    let body = both_true (is_well_sorted b.body) true parts.1 in
    let sorts : sorts_of (terms (map variable xs ++ b.body ∷ [])) ≡ Some (b.sorts ++ bool ∷ []) = ap (λ us. sorts_of (terms us)) (sym b.operands) ∙ operands.sorts ∙ ap (λ us. Some us) b.operand_sorts in
    let last : sort_of b.body ≡ Some bool = last_sort (map variable xs) b.body b.sorts bool (b.number ∙ sym (length-map xs variable)) sorts in
    has_sort (quantified q xs b.body) s
    (sort_of-quantified q xs b.body b.bindable last ∙ ap (λ t. Some t) (sym b.result))
    (and_true (list_all (λ x. is_sort x.sort) xs) (is_regular b.body) (variables_regular xs parts.0) (regular_of b.body body.0))
