-- The texts of values: of scalars, and of arrays pair by pair.
use Rattle.std.proofs.Common.{◌≡◌, ℕ, zero, suc, ◌+◌, ◌≤◌, true, List, [], ◌∷◌, ◌++◌, length, refl, ap, sym, ◌∙◌, subst, arith, append_assoc, append-nil, true≢false}
use Rattle.std.specs.Prelude.{codes, Some, ◌&&◌}
use Rattle.std.proofs.lemmas.Bool.Decides.{Decides-eqb}
use Rattle.smt_lex.specs.Forms.{Form}
use Rattle.smt_lex.specs.FormText.{form_text}
use Rattle.smt_terms.specs.BitVectors.{nat2bv}
use Rattle.smt_terms.specs.declared.ids.SortId.{SortId}
use Rattle.smt_terms.specs.Sorts.{Sort, bool, int, bit_vector, array, free_sort}
use Rattle.smt_terms.specs.Values as plain
use Rattle.smt_terms.specs.Values.{Pairs, no_pairs, pair, Sizes, is_value, every_pair, distinct_keys}
use Rattle.smt_terms.proofs.BitLengths.{length-nat2bv}
use Rattle.smt_terms.proofs.ConstantTerms.{bv2nat-nat2bv}
use Rattle.smt_terms.proofs.Tests.{both_true}
use Rattle.smt_values.specs.Meaning.{scalar_value, IsScalar, meaning, IsHeld}
use Rattle.smt_values.specs.SortIds.{sort_at}
use Rattle.smt_values.specs.Tables.{Table, as_value, count, pair_at}
use Rattle.smt_values.specs.declared.scalar.Scalar.{Scalar}
use Rattle.smt_values.specs.declared.scalar.Scalar.TheVariants.{Truth, Whole, Bits}
use Rattle.smt_values.specs.declared.value.Value.{Value}
use Rattle.term_table.specs.WrittenForms.{list_form, word_form, scalar_form, vector_form, sort_form, constant_array_form}
use Rattle.model_texts.specs.ModelLines.{stores_form, value_form}
use Rattle.model_texts.specs.Printing.{repeated, IsOfSort}

-- ---- the same bytes so many times

pub repeated-push : (n : ℕ) (part : List ℕ) → repeated (suc n) part ≡ repeated n part ++ part
repeated-push zero part = append-nil part
repeated-push (suc n) part = ap (λ xs. part ++ xs) (repeated-push n part) ∙ sym (append_assoc part (repeated n part) part)

pub repeated-more : (old now new part : List ℕ) (k : ℕ) → now ≡ old ++ repeated k part → new ≡ now ++ part → new ≡ old ++ repeated (k + 1) part
repeated-more old now new part k before after =
    let one : suc k ≡ k + 1 = omega arith in
    after ∙ ap (λ xs. xs ++ part) before ∙ append_assoc old (repeated k part) part ∙ ap (λ xs. old ++ xs) (sym (repeated-push k part) ∙ ap (λ n. repeated n part) one)

-- ---- scalars

-- a scalar is written as the value that it is
pub scalar_written : (s : Sort) (sizes : Sizes) (x : Scalar) → IsScalar x → is_value s sizes (scalar_value x) ≡ true → scalar_form x ≡ value_form s (scalar_value x)
scalar_written bool sizes (Truth b) is valid = refl
scalar_written int sizes (Whole n) is valid = refl
scalar_written (bit_vector w) sizes (Bits v n) is valid =
    let same : v ≡ w = sym (length-nat2bv v n) ∙ (Decides-eqb (length (nat2bv v n)) w).0 valid in
    λ i. vector_form (same i) (sym (bv2nat-nat2bv v n is.2) i)
scalar_written bool sizes (Whole n) is valid = absurd (true≢false (sym valid))
scalar_written bool sizes (Bits v n) is valid = absurd (true≢false (sym valid))
scalar_written int sizes (Truth b) is valid = absurd (true≢false (sym valid))
scalar_written int sizes (Bits v n) is valid = absurd (true≢false (sym valid))
scalar_written (bit_vector w) sizes (Truth b) is valid = absurd (true≢false (sym valid))
scalar_written (bit_vector w) sizes (Whole n) is valid = absurd (true≢false (sym valid))
scalar_written (free_sort n) sizes (Truth b) is valid = absurd (true≢false (sym valid))
scalar_written (free_sort n) sizes (Whole m) is valid = absurd (true≢false (sym valid))
scalar_written (free_sort n) sizes (Bits v m) is valid = absurd (true≢false (sym valid))
scalar_written (array j e) sizes (Truth b) is valid = absurd (true≢false (sym valid))
scalar_written (array j e) sizes (Whole m) is valid = absurd (true≢false (sym valid))
scalar_written (array j e) sizes (Bits v m) is valid = absurd (true≢false (sym valid))

-- ---- arrays

-- the pairs from a place on
abbrev pub pairs_from : ℕ → Pairs → Pairs
pairs_from zero ps = ps
pairs_from (suc i) no_pairs = no_pairs
pairs_from (suc i) (pair k v ps) = pairs_from i ps

pub from_pair : (ps : Pairs) (i : ℕ) (k v : plain.Value) → pair_at ps i ≡ Some (k, v) → pairs_from i ps ≡ pair k v (pairs_from (suc i) ps)
from_pair no_pairs i k v at = absurd cc
from_pair (pair j u ps) zero k v at =
    let both : ◌≡◌ {A = plain.Value × plain.Value} (j, u) (k, v) = cc in
    λ n. pair (both n).0 (both n).1 ps
from_pair (pair j u ps) (suc i) k v at = from_pair ps i k v at

pub no_more_pairs : (ps : Pairs) (i : ℕ) → count ps ≤ i → pairs_from i ps ≡ no_pairs
no_more_pairs no_pairs zero past = refl
no_more_pairs no_pairs (suc i) past = refl
no_more_pairs (pair k v ps) zero past = absurd (omega arith)
no_more_pairs (pair k v ps) (suc i) past = no_more_pairs ps i (omega arith)

module _ (key value : plain.Value → Form) where
  -- a key, its value and the end of their `store`
  abbrev pub pair_text : plain.Value → plain.Value → List ℕ
  pair_text k v = 32 ∷ (form_text (key k) ++ (32 ∷ (form_text (value v) ++ 41 ∷ [])))

  abbrev pub pairs_text : Pairs → List ℕ
  pairs_text no_pairs = []
  pairs_text (pair k v ps) = pair_text k v ++ pairs_text ps

  store_text : (f : Form) (k v : plain.Value) → form_text (list_form (word_form (codes "store") ∷ f ∷ key k ∷ value v ∷ [])) ≡ codes "(store " ++ (form_text f ++ pair_text k v)
  store_text f k v =
      ap (λ xs. codes "(store " ++ xs) (
      append_assoc (form_text f) (32 ∷ (form_text (key k) ++ (32 ∷ (form_text (value v) ++ [])))) (41 ∷ [])
      ∙ ap (λ xs. form_text f ++ (32 ∷ xs)) (append_assoc (form_text (key k)) (32 ∷ (form_text (value v) ++ [])) (41 ∷ []))
      ∙ ap (λ xs. form_text f ++ (32 ∷ (form_text (key k) ++ (32 ∷ (xs ++ 41 ∷ []))))) (append-nil (form_text (value v))))

  -- the beginnings of all `store`s, then the array inside, then the pairs
  pub stores_text : (ps : Pairs) (f : Form) → form_text (stores_form key value ps f) ≡ repeated (count ps) (codes "(store ") ++ (form_text f ++ pairs_text ps)
  stores_text no_pairs f = sym (append-nil (form_text f))
  stores_text (pair k v ps) f =
      let one : 1 + count ps ≡ suc (count ps) = omega arith in
      let inner = list_form (word_form (codes "store") ∷ f ∷ key k ∷ value v ∷ []) in
      stores_text ps inner
      ∙ ap (λ xs. repeated (count ps) (codes "(store ") ++ (xs ++ pairs_text ps)) (store_text f k v)
      ∙ ap (λ xs. repeated (count ps) (codes "(store ") ++ (codes "(store " ++ xs)) (append_assoc (form_text f) (pair_text k v) (pairs_text ps))
      ∙ sym (append_assoc (repeated (count ps) (codes "(store ")) (codes "(store ") (form_text f ++ (pair_text k v ++ pairs_text ps)))
      ∙ ap (λ xs. xs ++ (form_text f ++ (pair_text k v ++ pairs_text ps))) (sym (repeated-push (count ps) (codes "(store ")) ∙ ap (λ n. repeated n (codes "(store ")) (sym one))

  -- the beginning of an array of a sort, up to its default
  constant_text : (s : Sort) (d : Form) → form_text (list_form (constant_array_form s ∷ d ∷ [])) ≡ codes "((as const " ++ (form_text (sort_form s) ++ (codes ") " ++ (form_text d ++ 41 ∷ [])))
  constant_text s d =
      ap (λ xs. codes "((as const " ++ xs) (
      ap (λ xs. (xs ++ (32 ∷ (form_text d ++ []))) ++ 41 ∷ []) (append_assoc (form_text (sort_form s)) [] (41 ∷ []))
      ∙ append_assoc (form_text (sort_form s) ++ 41 ∷ []) (32 ∷ (form_text d ++ [])) (41 ∷ [])
      ∙ append_assoc (form_text (sort_form s)) (41 ∷ []) ((32 ∷ (form_text d ++ [])) ++ 41 ∷ [])
      ∙ ap (λ xs. form_text (sort_form s) ++ (codes ") " ++ (xs ++ 41 ∷ []))) (append-nil (form_text d)))

  pub array_begun : (s : Sort) (otherwise : Form) (ps : Pairs) (n : ℕ) (old a b c d e f : List ℕ) → n ≡ count ps → a ≡ old ++ repeated n (codes "(store ") → b ≡ a ++ codes "((as const "
      → c ≡ b ++ form_text (sort_form s) → d ≡ c ++ codes ") " → e ≡ d ++ form_text otherwise → f ≡ e ++ 41 ∷ []
      → f ++ pairs_text ps ≡ old ++ form_text (stores_form key value ps (list_form (constant_array_form s ∷ otherwise ∷ [])))
  array_begun s otherwise ps n old a b c d e f many is_a is_b is_c is_d is_e is_f =
      let inner = list_form (constant_array_form s ∷ otherwise ∷ []) in
      ap (λ xs. xs ++ pairs_text ps) (
      is_f ∙ ap (λ xs. xs ++ 41 ∷ []) (is_e ∙ ap (λ xs. xs ++ form_text otherwise) (is_d ∙ ap (λ xs. xs ++ codes ") ") (is_c ∙ ap (λ xs. xs ++ form_text (sort_form s)) (is_b ∙ ap (λ xs. xs ++ codes "((as const ") is_a))))
      ∙ joined old (repeated n (codes "(store ")) (codes "((as const ") (form_text (sort_form s)) (codes ") ") (form_text otherwise) (41 ∷ [])
      ∙ ap (λ xs. old ++ (repeated n (codes "(store ") ++ xs)) (sym (constant_text s otherwise)))
      ∙ append_assoc old (repeated n (codes "(store ") ++ form_text inner) (pairs_text ps)
      ∙ ap (λ xs. old ++ xs) (append_assoc (repeated n (codes "(store ")) (form_text inner) (pairs_text ps)
      ∙ ap (λ k. repeated k (codes "(store ") ++ (form_text inner ++ pairs_text ps)) many
      ∙ sym (stores_text ps inner))
    where
      joined : (old a b c d e f : List ℕ) → (((((old ++ a) ++ b) ++ c) ++ d) ++ e) ++ f ≡ old ++ (a ++ (b ++ (c ++ (d ++ (e ++ f)))))
      joined old a b c d e f = simp append_assoc

  -- one pair more
  pub pair_printed : (ps : Pairs) (i : ℕ) (k v : plain.Value) (now a b c d new whole : List ℕ) → pair_at ps i ≡ Some (k, v) → a ≡ now ++ 32 ∷ [] → b ≡ a ++ form_text (key k) → c ≡ b ++ 32 ∷ []
      → d ≡ c ++ form_text (value v) → new ≡ d ++ 41 ∷ [] → now ++ pairs_text (pairs_from i ps) ≡ whole → new ++ pairs_text (pairs_from (i + 1) ps) ≡ whole
  pair_printed ps i k v now a b c d new whole at is_a is_b is_c is_d is_new before =
      let one : i + 1 ≡ suc i = omega arith in
      ap (λ n. new ++ pairs_text (pairs_from n ps)) one
      ∙ ap (λ xs. xs ++ pairs_text (pairs_from (suc i) ps)) (is_new ∙ ap (λ xs. xs ++ 41 ∷ []) (is_d ∙ ap (λ xs. xs ++ form_text (value v)) (is_c ∙ ap (λ xs. xs ++ 32 ∷ []) (is_b ∙ ap (λ xs. xs ++ form_text (key k)) is_a))))
      ∙ joined now (form_text (key k)) (form_text (value v)) (pairs_text (pairs_from (suc i) ps))
      ∙ ap (λ qs. now ++ pairs_text qs) (sym (from_pair ps i k v at)) ∙ before
    where
      joined : (now a b rest : List ℕ) → (((((now ++ 32 ∷ []) ++ a) ++ 32 ∷ []) ++ b) ++ 41 ∷ []) ++ rest ≡ now ++ ((32 ∷ (a ++ (32 ∷ (b ++ 41 ∷ [])))) ++ rest)
      joined now a b rest = simp append_assoc

  pub pairs_end : (ps : Pairs) (i : ℕ) (now whole : List ℕ) → count ps ≤ i → now ++ pairs_text (pairs_from i ps) ≡ whole → now ≡ whole
  pairs_end ps i now whole past before = sym (append-nil now) ∙ ap (λ qs. now ++ pairs_text qs) (sym (no_more_pairs ps i past)) ∙ before

-- the parts of an array sort, in a list of sorts that is the same
pub array_in : (ss ts : List Sort) (s i e : SortId) → ss ≡ ts → sort_at ss s ≡ array (sort_at ss i) (sort_at ss e) → sort_at ts s ≡ array (sort_at ts i) (sort_at ts e)
array_in ss ts s i e same is = subst (λ us. sort_at us s ≡ array (sort_at us i) (sort_at us e)) same is

-- the keys and the values of an array have their sorts

pub pair_valid : (i e : Sort) (sizes : Sizes) (ps : Pairs) (n : ℕ) (k v : plain.Value) → pair_at ps n ≡ Some (k, v) → every_pair (λ k v. is_value i sizes k && is_value e sizes v) ps ≡ true
    → (is_value i sizes k ≡ true) × (is_value e sizes v ≡ true)
pair_valid i e sizes no_pairs n k v at all = absurd cc
pair_valid i e sizes (pair j u ps) zero k v at all =
    let both : ◌≡◌ {A = plain.Value × plain.Value} (j, u) (k, v) = cc in
    let first = both_true (is_value i sizes j) (is_value e sizes u) (both_true (is_value i sizes j && is_value e sizes u) (every_pair (λ k v. is_value i sizes k && is_value e sizes v) ps) all).0 in
    (subst (λ x. is_value i sizes x ≡ true) (λ n. (both n).0) first.0, subst (λ x. is_value e sizes x ≡ true) (λ n. (both n).1) first.1)
pair_valid i e sizes (pair j u ps) (suc n) k v at all =
    pair_valid i e sizes ps n k v at (both_true (is_value i sizes j && is_value e sizes u) (every_pair (λ k v. is_value i sizes k && is_value e sizes v) ps) all).1

module _ (s i e : Sort) (sizes : Sizes) (a : Table) (parts : s ≡ array i e) (valid : is_value s sizes (as_value a) ≡ true) where
  array_parts : (is_value e sizes a.fallback ≡ true) × (every_pair (λ k v. is_value i sizes k && is_value e sizes v) a.pairs ≡ true)
  array_parts =
      let whole : is_value (array i e) sizes (as_value a) ≡ true = ap (λ t. is_value t sizes (as_value a)) (sym parts) ∙ valid in
      let first = both_true (is_value e sizes a.fallback) (every_pair (λ k v. is_value i sizes k && is_value e sizes v) a.pairs && distinct_keys (plain.same i sizes) a.pairs) whole in
      (first.0, (both_true (every_pair (λ k v. is_value i sizes k && is_value e sizes v) a.pairs) (distinct_keys (plain.same i sizes) a.pairs) first.1).0)

  pub fallback_of_sort : (v : Value) → IsHeld v → meaning v ≡ a.fallback → IsOfSort e v
  fallback_of_sort v held is = (sizes, record { held = held; valid = ap (is_value e sizes) is ∙ array_parts.0 })

  pub key_of_sort : (n : ℕ) (k v : Value) → IsHeld k → pair_at a.pairs n ≡ Some (meaning k, meaning v) → IsOfSort i k
  key_of_sort n k v held at = (sizes, record { held = held; valid = (pair_valid i e sizes a.pairs n (meaning k) (meaning v) at array_parts.1).0 })

  pub value_of_sort : (n : ℕ) (k v : Value) → IsHeld v → pair_at a.pairs n ≡ Some (meaning k, meaning v) → IsOfSort e v
  value_of_sort n k v held at = (sizes, record { held = held; valid = (pair_valid i e sizes a.pairs n (meaning k) (meaning v) at array_parts.1).1 })
