-- Circuits over truth values give the operators' values.
use Rattle.std.proofs.Common.{◌≡◌, ℕ, zero, suc, ◌<◌, ◌≤◌, Bool, true, false, cond, not, ◌&&◌, ◌||◌, List, [], ◌∷◌, ◌++◌, length, replicate, map, Some, All, refl, ap, sym, ◌∙◌, arith}
use Rattle.std.specs.Bool.{beq}
use Rattle.std.specs.List.{list_any, list_all}
use Rattle.std.proofs.lemmas.List.{map-id}
use Rattle.std.proofs.lemmas.List.Elements.{All-nil, All-cons}
use Rattle.smt_terms.specs.declared.op.Op.{Op}
use Rattle.smt_terms.specs.declared.op.Op.TheVariants.{Equal, Distinct}
use Rattle.smt_terms.specs.Sorts.{Sort, bool, bit_vector}
use Rattle.smt_terms.specs.BitVectors.{BitVector, nat2bv, bits_eq, bitwise}
use Rattle.smt_terms.specs.Values.{truth, bits, Sizes, is_true, same}
use Rattle.smt_terms.specs.Operators.{Background, first_value, later_values, all_distinct, op_value}
use Rattle.bit_blast.specs.Blasted.{is_bits_sort}
use Rattle.bit_blast.specs.Circuits.{both, either, differ, each, chosen, equal, only_bit, distinct, circuit}
use Rattle.bit_blast.proofs.TruthGates.{first, later, all_apart, truth_gates}
use Rattle.bit_blast.proofs.CircuitStatements.{SumsAreRight, none_equal, OrdersAreRight, DistinctionsAreRight, ProductsAreRight, ShiftsAreRight, DivisionsAreRight, SignedDivisionsAreRight, bits_in, Fit, fit_none, fit_more, bits_value, bits_values, CircuitsHaveValues}
use Rattle.bit_blast.proofs.BitOperators.{Connective, is_truth, is_not, is_and, is_or, is_xor, is_implies, OfVector, is_bvnot, is_bvneg, is_rotl, is_rotr, Extension, is_zero_ext, is_sign_ext, OfVectors, is_bvand, is_bvor, is_bvxor, is_bvadd, is_bvmul, is_bvsub, is_bvudiv, is_bvurem, is_bvsdiv, is_bvsrem, is_bvsmod, is_bvshl, is_bvlshr, is_bvashr, Comparison, is_bvcomp, is_bvult, is_bvule, is_bvslt, is_bvsle, BitOperator, of_none, of_flags, of_equals, of_several, of_choice, of_parts, of_part, of_vector, of_extension, of_vectors, of_comparison, bit_operator, circuit-connective}
use Rattle.bit_blast.proofs.SumValues.{sums}
use Rattle.bit_blast.proofs.OrderValues.{orders}
use Rattle.bit_blast.proofs.DistinctValues.{distinctions}
use Rattle.bit_blast.proofs.ProductValues.{products}
use Rattle.bit_blast.proofs.ShiftValues.{shifts}
use Rattle.bit_blast.proofs.DivisionValues.{divisions}
use Rattle.bit_blast.proofs.SignedValues.{signed_divisions}

-- ---- truth values

abbrev flags : List (List Bool) → List Bool
flags uss = map (only_bit truth_gates) uss

flag_values : (n : ℕ) (uss : List (List Bool)) → Fit (replicate n bool) uss → bits_values (replicate n bool) uss ≡ map truth (flags uss)
flag_values zero uss fit_none = refl
flag_values (suc n) uss (fit_more {us = us} {uss = wss} _ _ _ fit) = ap (λ vs. truth (only_bit truth_gates us) ∷ vs) (flag_values n wss fit)

first_flag : (us : List Bool) → first us ≡ is_true (first_value (map truth us))
first_flag [] = refl
first_flag (a ∷ us) = refl

later_flags : (us : List Bool) → map truth (later us) ≡ later_values (map truth us)
later_flags [] = refl
later_flags (a ∷ us) = refl

second_flag : (us : List Bool) → first (later us) ≡ is_true (first_value (later_values (map truth us)))
second_flag us = first_flag (later us) ∙ ap (λ vs. is_true (first_value vs)) (later_flags us)

all_flags : (us : List Bool) → list_all (λ a. a) us ≡ list_all is_true (map truth us)
all_flags [] = refl
all_flags (a ∷ us) = ap (λ b. a && b) (all_flags us)

any_flag : (us : List Bool) → list_any (λ a. a) us ≡ list_any is_true (map truth us)
any_flag [] = refl
any_flag (a ∷ us) = ap (λ b. a || b) (any_flag us)

connective_value : (c : Background) (o : Op) (ss : List Sort) (us : List Bool) → Connective o → truth (truth_gates o us) ≡ op_value c o ss (map truth us)
unfolding op_value
connective_value c o ss us (is_truth b) = refl
connective_value c o ss us is_not = ap (λ a. truth (not a)) (first_flag us)
connective_value c o ss us is_and = ap truth (all_flags us)
connective_value c o ss us is_or = ap truth (any_flag us)
connective_value c o ss us is_xor = λ i. truth (not (beq (first_flag us i) (second_flag us i)))
connective_value c o ss us is_implies = λ i. truth (not (first_flag us i) || second_flag us i)

-- ---- distinct operands

flag_found : (sizes : Sizes) (a : Bool) (us : List Bool) → list_any (beq a) us ≡ list_any (same bool sizes (truth a)) (map truth us)
flag_found sizes a [] = refl
flag_found sizes a (b ∷ us) = ap (λ r. beq a b || r) (flag_found sizes a us)

flags_distinct : (sizes : Sizes) (us : List Bool) → all_apart us ≡ all_distinct (same bool sizes) (map truth us)
flags_distinct sizes [] = refl
flags_distinct sizes (a ∷ us) = λ i. not (flag_found sizes a us i) && flags_distinct sizes us i

vector_values : (w n : ℕ) (uss : List (List Bool)) → Fit (replicate n (bit_vector w)) uss → bits_values (replicate n (bit_vector w)) uss ≡ map bits uss
vector_values w zero uss fit_none = refl
vector_values w (suc n) uss (fit_more {us = us} {uss = wss} _ _ _ fit) = ap (λ vs. bits us ∷ vs) (vector_values w n wss fit)

vector_found : (w : ℕ) (sizes : Sizes) (us : BitVector) (uss : List BitVector) → list_any (bits_eq us) uss ≡ list_any (same (bit_vector w) sizes (bits us)) (map bits uss)
vector_found w sizes us [] = refl
vector_found w sizes us (vs ∷ uss) = ap (λ r. bits_eq us vs || r) (vector_found w sizes us uss)

vectors_distinct : (w : ℕ) (sizes : Sizes) (uss : List BitVector) → none_equal uss ≡ all_distinct (same (bit_vector w) sizes) (map bits uss)
vectors_distinct w sizes [] = refl
vectors_distinct w sizes (us ∷ uss) = λ i. not (vector_found w sizes us uss i) && vectors_distinct w sizes uss i

vector_widths : (w n : ℕ) (uss : List BitVector) → Fit (replicate n (bit_vector w)) uss → All (λ us. length us ≡ w) uss
vector_widths w zero uss fit_none = All-nil (λ us. length us ≡ w)
vector_widths w (suc n) uss (fit_more {us = us} {uss = wss} _ _ e fit) = All-cons (λ us. length us ≡ w) us wss e (vector_widths w n wss fit)

-- ---- bit by bit

each_bitwise : (f h : Bool → Bool → Bool) → ((a b : Bool) → f a b ≡ h a b) → (us vs : List Bool) → each f us vs ≡ bitwise h us vs
each_bitwise f h alike [] vs = refl
each_bitwise f h alike (a ∷ us) [] = refl
each_bitwise f h alike (a ∷ us) (b ∷ vs) = λ i. alike a b i ∷ each_bitwise f h alike us vs i

both_is_and : (a b : Bool) → both truth_gates a b ≡ (a && b)
both_is_and true true = refl
both_is_and true false = refl
both_is_and false b = refl

either_is_or : (a b : Bool) → either truth_gates a b ≡ (a || b)
either_is_or true b = refl
either_is_or false true = refl
either_is_or false false = refl

chosen_bits : (c : Bool) (us vs : List Bool) → length us ≡ length vs → chosen truth_gates c us vs ≡ cond c us vs
chosen_bits true [] vs e = refl
chosen_bits true (a ∷ us) [] e = absurd (omega arith)
chosen_bits true (a ∷ us) (b ∷ vs) e = ap (λ ws. a ∷ ws) (chosen_bits true us vs (omega arith))
chosen_bits false [] [] e = refl
chosen_bits false [] (b ∷ vs) e = absurd (omega arith)
chosen_bits false (a ∷ us) [] e = absurd (omega arith)
chosen_bits false (a ∷ us) (b ∷ vs) e = ap (λ ws. b ∷ ws) (chosen_bits false us vs (omega arith))

choice_value : (t : Sort) (c : Bool) (us vs : List Bool) → length us ≡ length vs → bits_value t (chosen truth_gates c us vs) ≡ cond c (bits_value t us) (bits_value t vs)
choice_value t c us vs e = ap (bits_value t) (chosen_bits c us vs e) ∙ either_way c
  where
    either_way : (b : Bool) → bits_value t (cond b us vs) ≡ cond b (bits_value t us) (bits_value t vs)
    either_way true = refl
    either_way false = refl

one_bit_equal : (us vs : List Bool) → length us ≡ 1 → length vs ≡ 1 → equal truth_gates us vs ≡ beq (only_bit truth_gates us) (only_bit truth_gates vs)
one_bit_equal [] vs e h = absurd (omega arith)
one_bit_equal (a ∷ []) [] e h = absurd (omega arith)
one_bit_equal (a ∷ []) (b ∷ []) e h = refl
one_bit_equal (a ∷ []) (b ∷ d ∷ vs) e h = absurd (omega arith)
one_bit_equal (a ∷ d ∷ us) vs e h = absurd (omega arith)

-- ---- operators, where the circuits of numbers are right

record AreRight : Type 0 where
  sums : SumsAreRight
  orders : OrdersAreRight
  distinctions : DistinctionsAreRight
  products : ProductsAreRight
  shifts : ShiftsAreRight
  divisions : DivisionsAreRight
  signed_divisions : SignedDivisionsAreRight

module _ (right : AreRight) (c : Background) where
  of_one : (o : Op) (ss : List Sort) (us : List Bool) → OfVector o → bits (circuit truth_gates o ss (us ∷ [])) ≡ op_value c o ss (bits us ∷ [])
  unfolding circuit op_value
  of_one o ss us is_bvnot = refl
  of_one o ss us is_bvneg = ap bits (right.sums.2 us)
  of_one o ss us (is_rotl i) = refl
  of_one o ss us (is_rotr i) = refl

  of_more : (o : Op) (i : ℕ) (ss : List Sort) (us : List Bool) → Extension o i → bits (circuit truth_gates o ss (us ∷ [])) ≡ op_value c o ss (bits us ∷ [])
  unfolding circuit op_value
  of_more o i ss us (is_zero_ext j) = refl
  of_more o i ss us (is_sign_ext j) = ap (λ b. bits (us ++ replicate j b)) (right.orders.3 us)

  of_two : (o : Op) (ss : List Sort) (us vs : List Bool) → OfVectors o → length us ≡ length vs → 0 < length us → bits (circuit truth_gates o ss (us ∷ vs ∷ [])) ≡ op_value c o ss (bits us ∷ bits vs ∷ [])
  unfolding circuit op_value
  of_two o ss us vs is_bvand e some = ap bits (each_bitwise (both truth_gates) ◌&&◌ both_is_and us vs)
  of_two o ss us vs is_bvor e some = ap bits (each_bitwise (either truth_gates) ◌||◌ either_is_or us vs)
  of_two o ss us vs is_bvxor e some = ap bits (each_bitwise (differ truth_gates) (λ a b. not (beq a b)) (λ a b. refl) us vs)
  of_two o ss us vs is_bvadd e some = ap bits (right.sums.0 us vs e some)
  of_two o ss us vs is_bvmul e some = ap bits (right.products us vs e some)
  of_two o ss us vs is_bvsub e some = ap bits (right.sums.1 us vs e some)
  of_two o ss us vs is_bvudiv e some = ap bits (right.divisions.0 us vs e some)
  of_two o ss us vs is_bvurem e some = ap bits (right.divisions.1 us vs e some)
  of_two o ss us vs is_bvsdiv e some = ap bits (right.signed_divisions.0 us vs e some)
  of_two o ss us vs is_bvsrem e some = ap bits (right.signed_divisions.1 us vs e some)
  of_two o ss us vs is_bvsmod e some = ap bits (right.signed_divisions.2 us vs e some)
  of_two o ss us vs is_bvshl e some = ap bits (right.shifts.0 us vs e some)
  of_two o ss us vs is_bvlshr e some = ap bits (right.shifts.1 us vs e some)
  of_two o ss us vs is_bvashr e some = ap bits (right.shifts.2 us vs e some)

  of_compared : (o : Op) (s : Sort) (ss : List Sort) (us vs : List Bool) → Comparison o s → length us ≡ length vs → 0 < length us → bits_value s (circuit truth_gates o ss (us ∷ vs ∷ [])) ≡ op_value c o ss (bits us ∷ bits vs ∷ [])
  unfolding circuit op_value
  of_compared o s ss us vs is_bvcomp e some = ap (λ b. bits (b ∷ [])) (right.orders.0 us vs e some)
  of_compared o s ss us vs is_bvult e some = ap truth (right.orders.1.0 us vs e some)
  of_compared o s ss us vs is_bvule e some = ap truth (right.orders.1.1 us vs e some)
  of_compared o s ss us vs is_bvslt e some = ap truth (right.orders.2.0 us vs e some)
  of_compared o s ss us vs is_bvsle e some = ap truth (right.orders.2.1 us vs e some)

  equation_value : (t : Sort) (us vs : List Bool) → is_bits_sort (Some t) ≡ true → length us ≡ bits_in t → length vs ≡ bits_in t → 0 < length us → truth (equal truth_gates us vs) ≡ op_value c Equal (t ∷ t ∷ []) (bits_value t us ∷ bits_value t vs ∷ [])
  unfolding op_value
  equation_value bool us vs fine e h some = ap truth (one_bit_equal us vs e h)
  equation_value (bit_vector w) us vs fine e h some = ap truth (right.orders.0 us vs (e ∙ sym h) some)
  equation_value _ us vs fine e h some = absurd cc

  distinct_value : (t : Sort) (n : ℕ) (uss : List (List Bool)) → Fit (t ∷ t ∷ replicate n t) uss → bits_value bool (distinct truth_gates t uss) ≡ op_value c Distinct (t ∷ t ∷ replicate n t) (bits_values (t ∷ t ∷ replicate n t) uss)
  unfolding op_value
  distinct_value bool n uss fit = ap truth (flags_distinct c.sizes (flags uss) ∙ ap (all_distinct (same bool c.sizes)) (sym (flag_values (suc (suc n)) uss fit)))
  distinct_value (bit_vector w) n uss fit =
      let there = both_there w n uss fit in
      ap truth (right.distinctions w uss there.0 (vector_widths w (suc (suc n)) uss fit) there.1
      ∙ vectors_distinct w c.sizes uss
      ∙ ap (all_distinct (same (bit_vector w) c.sizes)) (sym (vector_values w (suc (suc n)) uss fit)))
    where
      both_there : (w n : ℕ) (uss : List (List Bool)) → Fit (bit_vector w ∷ bit_vector w ∷ replicate n (bit_vector w)) uss → (0 < w) × (2 ≤ length uss)
      both_there w n uss (fit_more _ some e (fit_more _ _ _ fit)) = (omega arith, omega arith)
  distinct_value _ n uss (fit_more fine _ _ fit) = absurd cc

  operator_value : (o : Op) (ss : List Sort) (s : Sort) (uss : List (List Bool)) → BitOperator o ss s → Fit ss uss → bits_value s (circuit truth_gates o ss uss) ≡ op_value c o ss (bits_values ss uss)
  unfolding circuit op_value
  operator_value o ss s uss (of_none w n some) fit = ap bits (map-id (nat2bv w n))
  operator_value o ss s uss (of_flags n k ranked) fit =
      ap (bits_value bool) (circuit-connective truth_gates o ss uss k)
      ∙ connective_value c o ss (flags uss) k
      ∙ ap (op_value c o ss) (sym (flag_values n uss fit))
  operator_value o ss s uss (of_equals t) (fit_more {us = us} fine some e (fit_more {us = vs} _ _ h fit_none)) = equation_value t us vs fine e h some
  operator_value o ss s uss (of_several t n) fit = distinct_value t n uss fit
  operator_value o ss s uss (of_choice t) (fit_more {us = cs} _ _ _ (fit_more {us = us} _ _ e (fit_more {us = vs} _ _ h fit_none))) =
      choice_value t (only_bit truth_gates cs) us vs (e ∙ sym h)
  operator_value o ss s uss (of_parts v w) (fit_more _ _ _ (fit_more _ _ _ fit_none)) = refl
  operator_value o ss s uss (of_part high low w order below) (fit_more _ _ _ fit_none) = refl
  operator_value o ss s uss (of_vector w k) (fit_more {us = us} _ _ _ fit_none) = of_one o ss us k
  operator_value o ss s uss (of_extension w k) (fit_more {us = us} _ _ _ fit_none) = of_more o _ ss us k
  operator_value o ss s uss (of_vectors w k) (fit_more {us = us} _ some e (fit_more {us = vs} _ _ h fit_none)) = of_two o ss us vs k (e ∙ sym h) some
  operator_value o ss s uss (of_comparison w k) (fit_more {us = us} _ some e (fit_more {us = vs} _ _ h fit_none)) = of_compared o s ss us vs k (e ∙ sym h) some

values : AreRight → CircuitsHaveValues
values right c o ss s uss on fit = operator_value right c o ss s uss (bit_operator o ss s uss on fit) fit

pub circuits_have_values : CircuitsHaveValues
circuits_have_values = values (record {
  sums = sums;
  orders = orders;
  distinctions = distinctions;
  products = products;
  shifts = shifts;
  divisions = divisions;
  signed_divisions = signed_divisions;
})
