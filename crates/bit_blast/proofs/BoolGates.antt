-- Operators over truth values: those that `rank` lets stand there are connectives, and their values are those of the gates.
use Rattle.std.proofs.Common.{◌≡◌, ◌+◌, ◌-◌, Bool, true, false, cond, not, ◌&&◌, ◌||◌, List, [], ◌∷◌, map, Ok, refl, ap, sym, ◌∙◌}
use Rattle.std.specs.Bool.{beq}
use Rattle.std.specs.List.{list_any, list_all}
use Rattle.smt_terms.specs.declared.op.Op.{Op}
use Rattle.smt_terms.specs.declared.op.Op.TheVariants.{Truth, Not, And, Or, Xor, Implies, Equal, Distinct, Ite, Neg}
use Rattle.smt_terms.specs.Sorts.{Sort, bool, int, bit_vector, array}
use Rattle.smt_terms.specs.Term.{op}
use Rattle.smt_terms.specs.Rank.{Shape, fixed, several, equation, distinctness, choice, whole_number, bit_constant, concatenation, extraction, extension, rotation, bitwise, bitwise_pair, bits_comparison, selection, storing, filling, no_head, shape, rank, is_minus}
use Rattle.smt_terms.specs.Takes.{Takes}
use Rattle.smt_terms.specs.Values.{Value, Sizes, truth, is_true, same}
use Rattle.smt_terms.specs.Operators.{Background, first_value, second_value, third_value, first_sort, all_distinct, op_value}
use Rattle.smt_terms.proofs.Ranked.{rank-takes}
use Rattle.bit_blast.proofs.TruthGates.{first, later, all_apart, truth_gates}

-- ---- which operators take truth values and give one

abbrev is_other : Sort → Bool
is_other bool = false
is_other _ = true

-- shapes of operators that are no connectives
abbrev is_foreign : Shape → Bool
is_foreign (fixed [] s) = false
is_foreign (fixed (s ∷ ss) _) = is_other s
is_foreign (several s) = is_other s
is_foreign equation = false
is_foreign distinctness = false
is_foreign choice = false
is_foreign _ = true

other_sort : (s : Sort) → is_other s ≡ true → s ≡ bool → ⊥
other_sort bool other same = absurd cc
other_sort _ other same = absurd cc

first_bool : {A : Type 0} (us : List A) → first_sort (map (λ _. bool) us) ≡ bool
first_bool [] = refl
first_bool (u ∷ us) = refl

leads_bool : {A : Type 0} (us : List A) (s : Sort) (ss : List Sort) → map (λ _. bool) us ≡ s ∷ ss → s ≡ bool
leads_bool us s ss e = sym (ap first_sort e) ∙ first_bool us

not_foreign : {A : Type 0} (sh : Shape) (us : List A) → is_foreign sh ≡ true → Takes sh (map (λ _. bool) us) bool → ⊥
not_foreign (fixed [] r) us foreign t = absurd cc
not_foreign (fixed (s ∷ ss) r) us foreign t = other_sort s foreign (leads_bool us s ss t.0)
not_foreign (several s) us foreign t = other_sort s foreign (sym t.2)
not_foreign equation us foreign t = absurd cc
not_foreign distinctness us foreign t = absurd cc
not_foreign choice us foreign t = absurd cc
not_foreign (whole_number n) us foreign t = other_sort int refl (sym t.2)
not_foreign (bit_constant w n) us foreign t = other_sort (bit_vector w) refl (sym t.3)
not_foreign concatenation us foreign t = other_sort (bit_vector (t.0 + t.1)) refl (sym t.3)
not_foreign (extraction high low) us foreign t = other_sort (bit_vector (high - low + 1)) refl (sym t.4)
not_foreign (extension i) us foreign t = other_sort (bit_vector (t.0 + i)) refl (sym t.2)
not_foreign (rotation i) us foreign t = other_sort (bit_vector t.0) refl (sym t.3)
not_foreign bitwise us foreign t = other_sort (bit_vector t.0) refl (sym t.2)
not_foreign bitwise_pair us foreign t = other_sort (bit_vector t.0) refl (sym t.2)
not_foreign (bits_comparison r) us foreign t = other_sort (bit_vector t.0) refl (leads_bool us (bit_vector t.0) (bit_vector t.0 ∷ []) t.1)
not_foreign selection us foreign t = other_sort (array t.0 bool) refl (leads_bool us (array t.0 bool) (t.0 ∷ []) t.1)
not_foreign storing us foreign t = other_sort (array t.0 t.1) refl (sym t.3)
not_foreign (filling r) us foreign t = other_sort (array t.0 t.1) refl (sym t.2 ∙ sym t.4)
not_foreign no_head us foreign t = absurd t

-- such an operator is no minus
pub no_minus : {A : Type 0} (o : Op) (us : List A) → rank (op o) (map (λ _. bool) us) ≡ Ok bool → is_minus o ≡ false
unfolding shape is_minus
no_minus Neg us ranked = absurd (not_foreign (shape Neg) us refl (rank-takes (op Neg) (map (λ _. bool) us) bool ranked))
no_minus _ us ranked = refl

-- ---- values

first_truth : (vs : List Value) → is_true (first_value vs) ≡ first (map is_true vs)
first_truth [] = refl
first_truth (v ∷ vs) = refl

second_truth : (vs : List Value) → is_true (second_value vs) ≡ first (later (map is_true vs))
second_truth [] = refl
second_truth (v ∷ vs) = first_truth vs

third_truth : (vs : List Value) → is_true (third_value vs) ≡ first (later (later (map is_true vs)))
third_truth [] = refl
third_truth (v ∷ vs) = second_truth vs

all_truths : (vs : List Value) → list_all is_true vs ≡ list_all (λ a. a) (map is_true vs)
all_truths [] = refl
all_truths (v ∷ vs) = ap (λ b. is_true v && b) (all_truths vs)

any_truth : (vs : List Value) → list_any is_true vs ≡ list_any (λ a. a) (map is_true vs)
any_truth [] = refl
any_truth (v ∷ vs) = ap (λ b. is_true v || b) (any_truth vs)

none_same : (sizes : Sizes) (v : Value) (vs : List Value) → list_any (same bool sizes v) vs ≡ list_any (beq (is_true v)) (map is_true vs)
none_same sizes v [] = refl
none_same sizes v (w ∷ vs) = ap (λ b. beq (is_true v) (is_true w) || b) (none_same sizes v vs)

distinct_truths : (sizes : Sizes) (vs : List Value) → all_distinct (same bool sizes) vs ≡ all_apart (map is_true vs)
distinct_truths sizes [] = refl
distinct_truths sizes (v ∷ vs) = λ i. not (none_same sizes v vs i) && distinct_truths sizes vs i

chosen_truth : (b : Bool) (v w : Value) → is_true (cond b v w) ≡ cond b (is_true v) (is_true w)
chosen_truth true v w = refl
chosen_truth false v w = refl

-- the truth value of a connective is what the gate makes of the operands' truth values
pub gate_value : {A : Type 0} (c : Background) (o : Op) (us : List A) (vs : List Value) → rank (op o) (map (λ _. bool) us) ≡ Ok bool → is_true (op_value c o (map (λ _. bool) us) vs) ≡ truth_gates o (map is_true vs)
unfolding op_value shape
gate_value c (Truth b) us vs ranked = refl
gate_value c Not us vs ranked = ap not (first_truth vs)
gate_value c And us vs ranked = all_truths vs
gate_value c Or us vs ranked = any_truth vs
gate_value c Xor us vs ranked = λ i. not (beq (first_truth vs i) (second_truth vs i))
gate_value c Implies us vs ranked = λ i. not (first_truth vs i) || second_truth vs i
gate_value c Equal us vs ranked =
    ap (λ s. is_true (truth (same s c.sizes (first_value vs) (second_value vs)))) (first_bool us) ∙ (λ i. beq (first_truth vs i) (second_truth vs i))
gate_value c Distinct us vs ranked = ap (λ s. is_true (truth (all_distinct (same s c.sizes) vs))) (first_bool us) ∙ distinct_truths c.sizes vs
gate_value c Ite us vs ranked =
    chosen_truth (is_true (first_value vs)) (second_value vs) (third_value vs) ∙ (λ i. cond (first_truth vs i) (second_truth vs i) (third_truth vs i))
gate_value c o us vs ranked = absurd (not_foreign (shape o) us refl (rank-takes (op o) (map (λ _. bool) us) bool ranked))
