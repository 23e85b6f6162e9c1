-- At each point, and live or not, the terms of an accepted text mean what its forms mean.
use Rattle.std.proofs.Common.{◌≡◌, ◌∙◌, sym, ap, refl, ℕ, Bool, true, ◌&&◌, List, [], ◌∷◌, ◌++◌, map, Option, Some, None}
use Rattle.std.specs.Prelude.{option_map, is_some}
use Rattle.std.specs.List.{list_all}
use Rattle.std.proofs.lemmas.List.{map-append}
use Rattle.smt_terms.specs.Models.{Model}
use Rattle.smt_terms.specs.Rank.{sort_of, is_regular, is_well_sorted}
use Rattle.smt_terms.specs.Sorts.{bool}
use Rattle.smt_terms.specs.Term.{Term}
use Rattle.smt_terms.specs.Val.{no_variables}
use Rattle.smt_terms.proofs.Tests.{and_true}
use Rattle.script_read.specs.Commands.{Command, assert, check_assuming, with_asserted, start, Point, points, nth_point, at_point, live_in, live, literals, asserted_by, assumed_by, all_asserted, all_assumed}
use Rattle.script_read.specs.Laws.{denoted, form_denoted, SameMeaning, SameMeaningEverywhere, ReadingKeepsMeaning, EachTermKeepsMeaning}
use Rattle.script_read.specs.Mean.{is_true_of}
use Rattle.script_terms.specs.Read.{is_of_sort, has_sort}
use Rattle.script_read.specs.Satisfied.{is_true_in}
use Rattle.script_read.specs.Scenes.{Asserted, means_true, forms_script}
use Rattle.script_read.proofs.Paired.{Meant, Pairs, script_pairs}
use Rattle.script_read.proofs.Points.{point_with, points_with, nth_kept, live_at}

-- ---- what assertions hold, changed one by one

pub live_with : {A B : Type 0} (g : A → B) (cs : List (Command A)) (k : ℕ) → live (map (with_asserted g) cs) k ≡ map g (live cs k)
live_with g cs k =
    ap (λ ps. at_point (λ p. live_in p.state) (nth_point ps k)) (points_with g start cs)
    ∙ ap (λ o. at_point (λ p. live_in p.state) o) (nth_kept g (points cs) k)
    ∙ live_at g (nth_point (points cs) k)

literals_at : {A B : Type 0} (g : A → B) (o : Option (Point A)) → at_point (λ p. p.literals) (option_map (point_with g) o) ≡ map g (at_point (λ p. p.literals) o)
literals_at g (Some p) = refl
literals_at g None = refl

pub literals_with : {A B : Type 0} (g : A → B) (cs : List (Command A)) (k : ℕ) → literals (map (with_asserted g) cs) k ≡ map g (literals cs k)
literals_with g cs k =
    ap (λ ps. at_point (λ p. p.literals) (nth_point ps k)) (points_with g start cs)
    ∙ ap (λ o. at_point (λ p. p.literals) o) (nth_kept g (points cs) k)
    ∙ literals_at g (nth_point (points cs) k)

asserted_one : {A B : Type 0} (g : A → B) (c : Command A) → asserted_by (with_asserted g c) ≡ map g (asserted_by c)
asserted_one g (assert i a) = refl
asserted_one g _ = refl

asserted_with : {A B : Type 0} (g : A → B) (cs : List (Command A)) → all_asserted (map (with_asserted g) cs) ≡ map g (all_asserted cs)
asserted_with g [] = refl
asserted_with g (c ∷ cs) =
    let joined : all_asserted (map (with_asserted g) (c ∷ cs)) ≡ map g (asserted_by c) ++ map g (all_asserted cs) = λ i. asserted_one g c i ++ asserted_with g cs i in
    joined ∙ sym (map-append g (asserted_by c) (all_asserted cs))

assumed_one : {A B : Type 0} (g : A → B) (c : Command A) → assumed_by (with_asserted g c) ≡ map g (assumed_by c)
assumed_one g (check_assuming ls) = refl
assumed_one g _ = refl

assumed_with : {A B : Type 0} (g : A → B) (cs : List (Command A)) → all_assumed (map (with_asserted g) cs) ≡ map g (all_assumed cs)
assumed_with g [] = refl
assumed_with g (c ∷ cs) =
    let joined : all_assumed (map (with_asserted g) (c ∷ cs)) ≡ map g (assumed_by c) ++ map g (all_assumed cs) = λ i. assumed_one g c i ++ assumed_with g cs i in
    joined ∙ sym (map-append g (assumed_by c) (all_assumed cs))

-- ---- pairs

abbrev terms_of : List Meant → List Term
terms_of xs = map (λ p. p.term) xs

abbrev forms_of : List Meant → List Asserted
forms_of xs = map (λ p. p.form) xs

pairs_mean : (m : Model) (xs : List Meant) → map (form_denoted m) (forms_of xs) ≡ map (denoted m no_variables) (terms_of xs)
pairs_mean m [] = refl
pairs_mean m (p ∷ xs) = λ i. p.same m i ∷ pairs_mean m xs i

mean_alike : (m : Model) (xs : List Meant) (fs : List Asserted) (ts : List Term) → forms_of xs ≡ fs → terms_of xs ≡ ts → map (form_denoted m) fs ≡ map (denoted m no_variables) ts
mean_alike m xs fs ts h k = ap (map (form_denoted m)) (sym h) ∙ pairs_mean m xs ∙ ap (map (denoted m no_variables)) k

-- what holds of the term of each pair
pairs_all : (test : Term → Bool) → ((p : Meant) → test p.term ≡ true) → (xs ys : List Meant) → list_all test (terms_of xs ++ terms_of ys) ≡ true
pairs_all test each [] [] = refl
pairs_all test each [] (p ∷ ys) = and_true (test p.term) (list_all test (terms_of ys)) (each p) (pairs_all test each [] ys)
pairs_all test each (p ∷ xs) ys = and_true (test p.term) (list_all test (terms_of xs ++ terms_of ys)) (each p) (pairs_all test each xs ys)

hold_alike : (test : Term → Bool) → ((p : Meant) → test p.term ≡ true) → (xs ys : List Meant) (ts us : List Term) → terms_of xs ≡ ts → terms_of ys ≡ us → list_all test (ts ++ us) ≡ true
hold_alike test each xs ys ts us h k =
    ap (λ vs. list_all test (vs ++ us)) (sym h)
    ∙ ap (λ vs. list_all test (terms_of xs ++ vs)) (sym k)
    ∙ pairs_all test each xs ys

is_truth_value : (p : Meant) → has_sort bool p.term ≡ true
is_truth_value p = ap (is_of_sort bool) p.sort

is_sorted : (p : Meant) → is_well_sorted p.term ≡ true
is_sorted p = and_true (is_some (sort_of p.term)) (is_regular p.term) (ap is_some p.sort) p.rules

forms_true : (m : Model) (xs : List Asserted) → list_all (means_true m) xs ≡ list_all is_true_of (map (form_denoted m) xs)
forms_true m [] = refl
forms_true m (a ∷ xs) = ap (λ b. means_true m a && b) (forms_true m xs)

terms_true : (m : Model) (ts : List Term) → list_all (is_true_in m) ts ≡ list_all is_true_of (map (denoted m no_variables) ts)
terms_true m [] = refl
terms_true m (t ∷ ts) = ap (λ b. is_true_in m t && b) (terms_true m ts)

all_true : (m : Model) (xs : List Asserted) (ts : List Term) → map (form_denoted m) xs ≡ map (denoted m no_variables) ts → list_all (means_true m) xs ≡ list_all (is_true_in m) ts
all_true m xs ts h = forms_true m xs ∙ ap (list_all is_true_of) h ∙ sym (terms_true m ts)

same_at : (b : List ℕ) (cs : List (Command Term)) (m : Model) (k : ℕ) → Pairs cs (forms_script b) → SameMeaning b cs m k
same_at b cs m k pairs = record {
  asserted = asserted;
  assumed = assumed;
  truth_values = hold_alike (has_sort bool) is_truth_value (live pairs.0 k) (literals pairs.0 k) (live cs k) (literals cs k) live_terms literal_terms;
  well_sorted = hold_alike is_well_sorted is_sorted (live pairs.0 k) (literals pairs.0 k) (live cs k) (literals cs k) live_terms literal_terms;
  satisfied = λ i. all_true m (live (forms_script b) k) (live cs k) asserted i && all_true m (literals (forms_script b) k) (literals cs k) assumed i;
}
  where
    live_terms : terms_of (live pairs.0 k) ≡ live cs k
    live_terms = sym (live_with (λ (p : Meant). p.term) pairs.0 k) ∙ ap (λ ds. live ds k) pairs.1

    live_forms : forms_of (live pairs.0 k) ≡ live (forms_script b) k
    live_forms = sym (live_with (λ (p : Meant). p.form) pairs.0 k) ∙ ap (λ ds. live ds k) pairs.2

    literal_terms : terms_of (literals pairs.0 k) ≡ literals cs k
    literal_terms = sym (literals_with (λ (p : Meant). p.term) pairs.0 k) ∙ ap (λ ds. literals ds k) pairs.1

    literal_forms : forms_of (literals pairs.0 k) ≡ literals (forms_script b) k
    literal_forms = sym (literals_with (λ (p : Meant). p.form) pairs.0 k) ∙ ap (λ ds. literals ds k) pairs.2

    asserted : map (form_denoted m) (live (forms_script b) k) ≡ map (denoted m no_variables) (live cs k)
    asserted = mean_alike m (live pairs.0 k) (live (forms_script b) k) (live cs k) live_forms live_terms

    assumed : map (form_denoted m) (literals (forms_script b) k) ≡ map (denoted m no_variables) (literals cs k)
    assumed = mean_alike m (literals pairs.0 k) (literals (forms_script b) k) (literals cs k) literal_forms literal_terms

pub keeps_meaning : ReadingKeepsMeaning
keeps_meaning b r h m k = same_at b r.0 m k (script_pairs b r h)

-- ---- live or not

same_everywhere : (b : List ℕ) (cs : List (Command Term)) (m : Model) → Pairs cs (forms_script b) → SameMeaningEverywhere b cs m
same_everywhere b cs m pairs = record {
  asserted = mean_alike m (all_asserted pairs.0) (all_asserted (forms_script b)) (all_asserted cs) asserted_forms asserted_terms;
  assumed = mean_alike m (all_assumed pairs.0) (all_assumed (forms_script b)) (all_assumed cs) assumed_forms assumed_terms;
  truth_values = hold_alike (has_sort bool) is_truth_value (all_asserted pairs.0) (all_assumed pairs.0) (all_asserted cs) (all_assumed cs) asserted_terms assumed_terms;
  well_sorted = hold_alike is_well_sorted is_sorted (all_asserted pairs.0) (all_assumed pairs.0) (all_asserted cs) (all_assumed cs) asserted_terms assumed_terms;
}
  where
    asserted_terms : terms_of (all_asserted pairs.0) ≡ all_asserted cs
    asserted_terms = sym (asserted_with (λ (p : Meant). p.term) pairs.0) ∙ ap all_asserted pairs.1

    asserted_forms : forms_of (all_asserted pairs.0) ≡ all_asserted (forms_script b)
    asserted_forms = sym (asserted_with (λ (p : Meant). p.form) pairs.0) ∙ ap all_asserted pairs.2

    assumed_terms : terms_of (all_assumed pairs.0) ≡ all_assumed cs
    assumed_terms = sym (assumed_with (λ (p : Meant). p.term) pairs.0) ∙ ap all_assumed pairs.1

    assumed_forms : forms_of (all_assumed pairs.0) ≡ all_assumed (forms_script b)
    assumed_forms = sym (assumed_with (λ (p : Meant). p.form) pairs.0) ∙ ap all_assumed pairs.2

pub keeps_meaning_everywhere : EachTermKeepsMeaning
keeps_meaning_everywhere b r h m = same_everywhere b r.0 m (script_pairs b r h)
