-- The values of variables, chosen one behind the other.
use Rattle.std.proofs.Common.{◌≡◌, ℕ, zero, suc, ◌+◌, ◌-◌, ◌<◌, ◌≤◌, ◌^◌, ◌%◌, ◌*◌, ◌==◌, Bool, true, false, List, [], ◌∷◌, ◌++◌, length, get_or, take, drop, All, add-one, length-drop, refl, ap, sym, ◌∙◌, arith}
use Rattle.std.specs.List.{list_all}
use Rattle.std.proofs.lemmas.List.{take_all}
use Rattle.std.proofs.lemmas.List.Elements.{All-tail}
use Rattle.std.proofs.lemmas.Nat.{one_shl}
use Rattle.smt_terms.specs.declared.ids.NodeId.{NodeId}
use Rattle.smt_terms.specs.Rank.{is_sort, is_quantifiable, is_regular}
use Rattle.smt_terms.specs.Sorts.{Sort, bool, int, bit_vector, array, free_sort}
use Rattle.smt_terms.specs.Term.{Quantifier, existential, constant_of, variable}
use Rattle.smt_terms.specs.Val.{Env, assign, runs, sort_bits}
use Rattle.smt_terms.specs.Values.{Sizes, joined, over_elements}
use Rattle.smt_terms.proofs.Tests.{both_true}
use Rattle.smt_values.specs.Meaning.{scalar_value}
use Rattle.smt_values.specs.Numbered.{numbered}
use Rattle.term_table.specs.Formulas.{Formulas, tree, variable_of, symbol_at, IsTable}
use Rattle.evaluation.specs.Bindings.{env_of}
use Rattle.evaluation.specs.declared.bindings.Binding.{Binding}
use Rattle.evaluation.specs.Choices.{quantifier_of, variables_at, first_bits, runs_with, bits_below, IsVariable}
use Rattle.evaluation.specs.Evaluated.{most_bits}
use Rattle.evaluation.specs.declared.quantifiers.Quantified.{Quantified}
use Rattle.evaluation.proofs.Counting.{over-counted, elements-more, elements-some}
use Rattle.evaluation.proofs.EnvLaws.{chosen-env}

-- ---- bits

sort-some : (s : Sort) → is_sort s ≡ true → is_quantifiable s ≡ true → 0 < sort_bits s
sort-some bool fine e = omega arith
sort-some (bit_vector zero) fine e = absurd cc
sort-some (bit_vector (suc w)) fine e = omega arith
sort-some int fine e = absurd cc
sort-some (array i j) fine e = absurd cc
sort-some (free_sort n) fine e = absurd cc

-- a variable binds at least one bit
pub some-bit : (t : Formulas) → IsTable t → (k : NodeId) → IsVariable t k → 0 < sort_bits (variable_of (tree t k)).sort
some-bit t table k v =
    let x = variable_of (tree t k) in
    let regular : is_regular (variable x) ≡ true = ap is_regular (sym v.constant_is) ∙ (both_true _ _ (table.sorted k.0 v.node)).1 in
    sort-some x.sort (both_true (list_all is_sort []) (is_sort x.sort) (both_true _ _ regular).0).1 v.bindable

-- ---- lists of variables that have a first

pub first-bits : (t : Formulas) (ks : List NodeId) (d : NodeId) → 0 < length ks → first_bits t ks ≡ sort_bits (variable_of (tree t (get_or ks 0 d))).sort
first-bits t [] d lt = absurd (omega arith)
first-bits t (k ∷ ks) d lt = refl

pub bits-first : (t : Formulas) (ks : List NodeId) (q : Quantified) → 0 < length ks → bits_below t ks q ≡ first_bits t ks + bits_below t (drop 1 ks) q
bits-first t [] q lt = absurd (omega arith)
bits-first t (k ∷ ks) q lt = omega arith

pub rest-is : (ks : List NodeId) → take (length ks - 1) (drop 1 ks) ≡ drop 1 ks
rest-is ks = take_all (length ks - 1) (drop 1 ks) (omega (arith, length-drop 1 ks))

pub rest-all : (P : NodeId → Type 0) (ks : List NodeId) → All P ks → All P (drop 1 ks)
rest-all P [] all = all
rest-all P (k ∷ ks) all = All-tail P k ks all

-- what these variables add to the measure of a call: more where none is left, since the calls for the body come then
abbrev pub choices_rank : List NodeId → ℕ
choices_rank [] = 9
choices_rank (_ ∷ _) = 4

pub rank-some : (ks : List NodeId) → 0 < length ks → choices_rank ks ≡ 4
rank-some [] lt = absurd (omega arith)
rank-some (k ∷ ks) lt = refl

pub rank-most : (ks : List NodeId) → choices_rank ks ≤ 9
rank-most [] = omega arith
rank-most (k ∷ ks) = omega arith

-- all values of the first variable, by their numbers
pub runs-counted : (t : Formulas) (ks : List NodeId) (q : Quantifier) (sizes : Sizes) (test : Env → Bool) (e : Env) → 0 < length ks → All (IsVariable t) ks → runs q (variables_at t ks) sizes test e ≡ over_elements q (2 ^ first_bits t ks) (λ n. runs_with q (variables_at t ks) sizes test e n)
runs-counted t [] q sizes test e lt all = absurd (omega arith)
runs-counted t (k ∷ ks) q sizes test e lt all =
    let x = variable_of (tree t k) in
    over-counted q x.sort sizes (λ v. runs q (variables_at t ks) sizes test (assign x v e)) (all 0 k (omega arith)).bindable

-- the first variable has the value of a binding that was put behind the others
pub runs-chosen : (t : Formulas) (ks : List NodeId) (d : NodeId) (bs cs : List Binding) (b : Binding) (n : ℕ) → 0 < length ks → cs ≡ bs ++ b ∷ [] → symbol_at t b.symbol ≡ constant_of (variable_of (tree t (get_or ks 0 d))) → scalar_value b.value ≡ numbered (variable_of (tree t (get_or ks 0 d))).sort n
    → (q : Quantifier) (sizes : Sizes) (test : Env → Bool) → runs q (variables_at t (take (length ks - 1) (drop 1 ks))) sizes test (env_of t cs) ≡ runs_with q (variables_at t ks) sizes test (env_of t bs) n
runs-chosen t [] d bs cs b n lt added named valued q sizes test = absurd (omega arith)
runs-chosen t (k ∷ ks) d bs cs b n lt added named valued q sizes test =
    let x = variable_of (tree t k) in
    (λ i. runs q (variables_at t (rest-is (k ∷ ks) i)) sizes test (env_of t (added i)))
    ∙ ap (runs q (variables_at t ks) sizes test) (chosen-env t bs b x (numbered x.sort n) named valued)

-- ---- one number behind the other

pub not-empty : (ks : List NodeId) → false ≡ (length ks == 0) → 0 < length ks
not-empty [] e = absurd cc
not-empty (k ∷ ks) e = omega arith

-- how many choices the first variable has, as a word
pub shifted : (t : Formulas) (ks : List NodeId) (q : Quantified) (d : NodeId) (bits : ℕ) → 0 < length ks → bits_below t ks q ≤ most_bits → bits ≡ sort_bits (variable_of (tree t (get_or ks 0 d))).sort → (1 * 2 ^ bits) % 2 ^ 32 ≡ 2 ^ first_bits t ks
shifted t ks q d bits some narrow is =
    let same : bits ≡ first_bits t ks = is ∙ sym (first-bits t ks d some) in
    let sum = bits-first t ks q some in
    one_shl bits 32 (omega (arith, same, sum, narrow)) ∙ ap (λ n. 2 ^ n) same

pub none-chosen : (b : Bool) (test : ℕ → Bool) → b ≡ over_elements (quantifier_of b) 0 test
unfolding over_elements
none-chosen true test = refl
none-chosen false test = refl

pub next-chosen : (q : Quantifier) (n : ℕ) (test : ℕ → Bool) (before now after : Bool) → before ≡ over_elements q n test → now ≡ test n → after ≡ joined q before now → after ≡ over_elements q (n + 1) test
next-chosen q n test before now after e f g =
    g ∙ (λ i. joined q (e i) (f i)) ∙ sym (elements-more q n test) ∙ ap (λ i. over_elements q i test) (sym (add-one n))

-- what is told of a choice is told of some choice
pub some-chosen : (t : Formulas) (ks : List NodeId) (sizes : Sizes) (test : Env → Bool) (e : Env) (n : ℕ) → 0 < length ks → All (IsVariable t) ks → n < 2 ^ first_bits t ks → runs_with existential (variables_at t ks) sizes test e n ≡ true → runs existential (variables_at t ks) sizes test e ≡ true
some-chosen t ks sizes test e n lt all within h =
    runs-counted t ks existential sizes test e lt all ∙ elements-some (2 ^ first_bits t ks) (λ i. runs_with existential (variables_at t ks) sizes test e i) n within h
