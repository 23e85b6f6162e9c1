-- The rules of powers of two keep the value of what they are shown.
use Rattle.std.proofs.Common.{◌≡◌, ◌∙◌, ℕ, ◌-◌, ◌^◌, ◌<◌, ◌≤◌, true, List, [], ◌∷◌, drop, length, Option, Some, None, Ok, Err, refl, ap, sym, subst, ◌⊎◌, inl, inr}
use Rattle.std.specs.Prelude.{IfSome, slice_get}
use Rattle.smt_terms.specs.declared.op.Op.{Op}
use Rattle.smt_terms.specs.declared.op.Op.TheVariants.{Bits, BvAnd, BvMul, BvUdiv, BvUrem, BvShl, BvLshr}
use Rattle.smt_terms.specs.BitVectors.{BitVector, nat2bv, bvand, bvmul, bvudiv, bvurem, bvshl, bvlshr}
use Rattle.smt_terms.specs.Constants.{literal_value}
use Rattle.smt_terms.specs.Operators.{Background, op_value, vectors}
use Rattle.smt_terms.specs.Rank.{bitwise_pair, shape, rank, width, most_bits}
use Rattle.smt_terms.specs.Sorts.{Sort, bit_vector}
use Rattle.smt_terms.specs.Takes.{Takes}
use Rattle.smt_terms.specs.Term.{op}
use Rattle.smt_terms.specs.Values.{Value, bits, bits_of, is_value, same}
use Rattle.smt_terms.proofs.Ranked.{rank-takes, rank-narrow, takes-rank}
use Rattle.smt_terms.proofs.Tests.{and_true}
use Rattle.smt_terms.proofs.Valid.{length-bits_of}
use Rattle.rule_book.specs.View.{TermCell, TermView, is_theory}
use Rattle.rule_book.specs.Template.{hole, literal, applied, Template, and_more, result_of, over_last, given, Denoted, with_value, sort_made, denoted_over}
use Rattle.rule_book.specs.Soundness.{AreHoleValues, MayReplace, IsSound, hole_sort, view_value, denoted_hole}
use Rattle.rule_book.specs.EightRules.{Power, power, over_constant, or_else, operands, operands_of_cell, mul_pow2, udiv_pow2, urem_pow2}
use Rattle.rule_book.proofs.Answering.{IsRanked, IsRight, root_ranked, cell_ranked, operand_sort, equal_value, root_value, cell_value}
use Rattle.rule_book.proofs.Powers.{IsPower, powered, Reduces, shl-mul, shl-mul_first, lshr-udiv, and-urem, exponent_small, mask_small}
use Rattle.rule_book.proofs.Replacing.{HasValue}
use Rattle.rule_book.proofs.RuleSteps.{rooted, two_cells}
use Rattle.rule_book.proofs.ViewRanks.{sound}

-- ---- an operator over a hole and a constant

module _ {A : Type 0} (holes : ℕ → Option A) (make : Op → List A → Option A) where
  give_over_constant : (i : ℕ) (c o : Op) (a b r : A) → holes i ≡ Some a → make c [] ≡ Some b → make o (a ∷ b ∷ []) ≡ Some r → given holes make (hole i ∷ literal c ∷ applied o 2 ∷ []) ≡ Some r
  give_over_constant i c o a b r h k e =
      (λ x. and_more [] (h x) (λ done. and_more done (k x) (λ more. and_more (drop 2 more) (over_last (make o) 2 more) (λ last. result_of last))))
      ∙ ap (λ x. and_more [] x (λ last. result_of last)) e

made_sort : (o : Op) (ss : List Sort) (s : Sort) → rank (op o) ss ≡ Ok s → sort_made o ss ≡ Some s
made_sort o ss s h = ap (λ r. elim r [ Ok t ↦ Some t | Err _ ↦ None ]) h

module _ (v : TermView) (i w n : ℕ) (o : Op) (theory : is_theory o ≡ true) (at : hole_sort v.cells i ≡ Some (bit_vector w)) where
  abbrev over : Template
  over = hole i ∷ literal (Bits w n) ∷ applied o 2 ∷ []

  abbrev both : List Sort
  both = bit_vector w ∷ bit_vector w ∷ []

  abbrev over_value : Background → (ℕ → Value) → Value
  over_value b holes = op_value b o both (holes i ∷ bits (nat2bv w n) ∷ [])

  abbrev IsGiven : Background → (ℕ → Value) → Option Denoted → Type 0
  IsGiven b holes r = IfSome r (λ d. same v.sort b.sizes d.value (view_value b holes v) ≡ true)

  replaced_over_constant : rank (op (Bits w n)) [] ≡ Ok (bit_vector w) → rank (op o) both ≡ Ok v.sort → HasValue v over_value → MayReplace v over
  unfolding literal_value op_value
  replaced_over_constant constant ranked value = record {
    operators = and_true (is_theory o) true theory refl;
    sort = give_over_constant (hole_sort v.cells) sort_made i (Bits w n) o (bit_vector w) (bit_vector w) v.sort at (made_sort (Bits w n) [] (bit_vector w) constant) (made_sort o both v.sort ranked);
    value = λ b holes sizes valid.
        let x : Denoted = record { sort = bit_vector w; value = holes i } in
        let y : Denoted = record { sort = bit_vector w; value = bits (nat2bv w n) } in
        let z : Denoted = record { sort = v.sort; value = over_value b holes } in
        let given_y : denoted_over b (Bits w n) [] ≡ Some y = ap (λ r. with_value (bits (nat2bv w n)) r) (made_sort (Bits w n) [] (bit_vector w) constant) in
        let given_z : denoted_over b o (x ∷ y ∷ []) ≡ Some z = ap (λ r. with_value (over_value b holes) r) (made_sort o both v.sort ranked) in
        subst (IsGiven b holes)
        (sym (give_over_constant (λ k. denoted_hole holes k (hole_sort v.cells k)) (denoted_over b) i (Bits w n) o x y z (ap (λ r. denoted_hole holes i r) at) given_y given_z))
        (value b holes valid);
  }

-- ---- operators on two vectors of one width

record IsPairwise (o : Op) (f : BitVector → BitVector → BitVector) : Type 0 where
  shape : shape o ≡ bitwise_pair
  value : (b : Background) (ss : List Sort) (vs : List Value) → op_value b o ss vs ≡ vectors f vs

record HaveWidth (r s t : Sort) (w : ℕ) : Type 0 where
  first : r ≡ bit_vector w
  second : s ≡ bit_vector w
  result : t ≡ bit_vector w

pair_sorts : (o : Op) (r s t : Sort) → shape o ≡ bitwise_pair → rank (op o) (r ∷ s ∷ []) ≡ Ok t → (w : ℕ) × HaveWidth r s t w
pair_sorts o r s t is ranked =
    let told : Takes bitwise_pair (r ∷ s ∷ []) t = subst (λ h. Takes h (r ∷ s ∷ []) t) is (rank-takes (op o) (r ∷ s ∷ []) t ranked) in
    (told.0, record { first = cc; second = cc; result = told.2 })

pair_rank : (o : Op) (w : ℕ) → shape o ≡ bitwise_pair → w ≤ most_bits → rank (op o) (bit_vector w ∷ bit_vector w ∷ []) ≡ Ok (bit_vector w)
pair_rank o w is narrow = takes-rank (op o) (bit_vector w ∷ bit_vector w ∷ []) (bit_vector w) (subst (λ h. Takes h (bit_vector w ∷ bit_vector w ∷ []) (bit_vector w)) (sym is) (w, refl, refl)) narrow

record IsConstantSort (w : ℕ) (s : Sort) : Type 0 where
  sort : s ≡ bit_vector w
  some : 0 < w
  narrow : w ≤ most_bits

constant_sort : (w n : ℕ) (ss : List Sort) (s : Sort) → rank (op (Bits w n)) ss ≡ Ok s → IsConstantSort w s
unfolding shape
constant_sort w n ss s ranked =
    let told = rank-takes (op (Bits w n)) ss s ranked in
    record { sort = told.3; some = told.1; narrow = subst (λ r. width r ≤ most_bits) told.3 (rank-narrow (op (Bits w n)) ss s ranked) }

constant_rank : (w n : ℕ) → 0 < w → n < 2 ^ w → w ≤ most_bits → rank (op (Bits w n)) [] ≡ Ok (bit_vector w)
unfolding shape
constant_rank w n some small narrow = takes-rank (op (Bits w n)) [] (bit_vector w) (refl, some, small, refl) narrow

same_width : (v w : ℕ) (s : Sort) → s ≡ bit_vector v → s ≡ bit_vector w → v ≡ w
same_width v w s e f = let sorts : bit_vector v ≡ bit_vector w = sym e ∙ f in cc

-- ---- a view of such an operator over a cell and a power of two

record IsOverPower (v : TermView) (x c : TermCell) (p : Power) : Type 0 where
  place : ℕ
  constant_place : ℕ
  x_at : slice_get (operands v) place ≡ Some x
  c_at : slice_get (operands v) constant_place ≡ Some c
  sorts : (w : ℕ) × HaveWidth x.sort c.sort v.sort w
  power : IsPower c.shown p

module _ (v : TermView) (ranked : IsRanked v) (x c : TermCell) (p : Power) (is : IsOverPower v x c p) where
  known : IsConstantSort p.width c.sort
  known =
      constant_sort p.width (2 ^ p.exponent) _ c.sort
      (cell_ranked v ranked is.constant_place c (Bits p.width (2 ^ p.exponent)) (operands_of_cell is.constant_place v) is.c_at is.power.constant refl)

  equal_widths : is.sorts.0 ≡ p.width
  equal_widths = same_width is.sorts.0 p.width c.sort is.sorts.1.second known.sort

  x_sort : x.sort ≡ bit_vector p.width
  x_sort = is.sorts.1.first ∙ ap (λ w. bit_vector w) equal_widths

  view_sort : v.sort ≡ bit_vector p.width
  view_sort = is.sorts.1.result ∙ ap (λ w. bit_vector w) equal_widths

  module _ (b : Background) (holes : ℕ → Value) (valid : AreHoleValues b holes v.cells) where
    x_bits : length (bits_of (holes x.hole)) ≡ p.width
    x_bits =
        length-bits_of p.width b.sizes (holes x.hole)
        (subst (λ s. is_value s b.sizes (holes x.hole) ≡ true) x_sort
        (subst (λ (r : Option TermCell). IfSome r (λ d. is_value d.sort b.sizes (holes d.hole) ≡ true)) (ranked.first is.place x is.x_at) (valid.valid is.place)))

    c_bits : holes c.hole ≡ bits (nat2bv p.width (2 ^ p.exponent))
    unfolding op_value
    c_bits = cell_value v ranked b holes valid is.constant_place c (Bits p.width (2 ^ p.exponent)) (operands_of_cell is.constant_place v) is.c_at is.power.constant refl

  may_replace : (f g : BitVector → BitVector → BitVector) (number : ℕ → ℕ) (o : Op) → is_theory o ≡ true → IsPairwise o f → Reduces f g number → number p.exponent < 2 ^ p.width
      → ((b : Background) (holes : ℕ → Value) → view_value b holes v ≡ bits (g (bits_of (holes x.hole)) (bits_of (holes c.hole)))) → MayReplace v (hole x.hole ∷ literal (Bits p.width (number p.exponent)) ∷ applied o 2 ∷ [])
  may_replace f g number o theory pairwise law small viewed =
      replaced_over_constant v x.hole p.width (number p.exponent) o theory (operand_sort v ranked is.place x (bit_vector p.width) is.x_at x_sort)
      (constant_rank p.width (number p.exponent) known.some small known.narrow)
      (pair_rank o p.width pairwise.shape known.narrow ∙ ap (λ s. Ok s) (sym view_sort))
      (equal_value v ranked _ (λ b holes valid.
      pairwise.value b _ _
      ∙ ap bits (law p.width p.exponent (bits_of (holes x.hole)) (x_bits b holes valid) is.power.below)
      ∙ ap (λ u. bits (g (bits_of (holes x.hole)) (bits_of u))) (sym (c_bits b holes valid))
      ∙ sym (viewed b holes)))

-- ---- what the rules answer

record IsOverConstant (o : Op) (x c : TermCell) (number : ℕ → ℕ) (q : Template) : Type 0 where
  power : Power
  known : IsPower c.shown power
  template : hole x.hole ∷ literal (Bits power.width (number power.exponent)) ∷ applied o 2 ∷ [] ≡ q

answered : (o : Op) (x c : TermCell) (number : ℕ → ℕ) (r : Option Power) (q : Template) → power c.shown ≡ r → over_constant o x number r ≡ Some q → IsOverConstant o x c number q
answered o x c number None q is h = absurd cc
answered o x c number (Some p) q is h = record { power = p; known = powered c.shown p is; template = cc }

module _ (root o : Op) (g f : BitVector → BitVector → BitVector) (number : ℕ → ℕ) (of_root : IsPairwise root g) (of_result : IsPairwise o f) (theory : is_theory o ≡ true) (small : (w k : ℕ) → k < w → number k < 2 ^ w)
    (v : TermView) (ranked : IsRanked v) (rooted : v.root ≡ root) where
  at_second : Reduces f g number → (x c : TermCell) (q : Template) → operands v ≡ x ∷ c ∷ [] → over_constant o x number (power c.shown) ≡ Some q → MayReplace v q
  at_second law x c q cells h =
      let told = answered o x c number (power c.shown) q refl h in
      subst (MayReplace v) told.template
      (may_replace v ranked x c told.power (record {
        place = 0;
        constant_place = 1;
        x_at = ap (λ cs. slice_get cs 0) cells;
        c_at = ap (λ cs. slice_get cs 1) cells;
        sorts = pair_sorts root x.sort c.sort v.sort of_root.shape (root_ranked v ranked root (x ∷ c ∷ []) rooted cells);
        power = told.known;
      }) f g number o theory of_result law (small told.power.width told.power.exponent told.known.below)
      (λ b holes. root_value v ranked b holes root (x ∷ c ∷ []) rooted cells ∙ of_root.value b _ _))

  at_first : Reduces f (λ s t. g t s) number → (x c : TermCell) (q : Template) → operands v ≡ c ∷ x ∷ [] → over_constant o x number (power c.shown) ≡ Some q → MayReplace v q
  at_first law x c q cells h =
      let told = answered o x c number (power c.shown) q refl h in
      let sorts = pair_sorts root c.sort x.sort v.sort of_root.shape (root_ranked v ranked root (c ∷ x ∷ []) rooted cells) in
      subst (MayReplace v) told.template
      (may_replace v ranked x c told.power (record {
        place = 1;
        constant_place = 0;
        x_at = ap (λ cs. slice_get cs 1) cells;
        c_at = ap (λ cs. slice_get cs 0) cells;
        sorts = (sorts.0, record { first = sorts.1.second; second = sorts.1.first; result = sorts.1.result });
        power = told.known;
      }) f (λ s t. g t s) number o theory of_result law (small told.power.width told.power.exponent told.known.below)
      (λ b holes. root_value v ranked b holes root (c ∷ x ∷ []) rooted cells ∙ of_root.value b _ _))

-- ---- the operators

multiplies : IsPairwise BvMul bvmul
unfolding shape op_value
multiplies = record { shape = refl; value = λ b ss vs. refl }

divides : IsPairwise BvUdiv bvudiv
unfolding shape op_value
divides = record { shape = refl; value = λ b ss vs. refl }

leaves : IsPairwise BvUrem bvurem
unfolding shape op_value
leaves = record { shape = refl; value = λ b ss vs. refl }

shifts_left : IsPairwise BvShl bvshl
unfolding shape op_value
shifts_left = record { shape = refl; value = λ b ss vs. refl }

shifts_right : IsPairwise BvLshr bvlshr
unfolding shape op_value
shifts_right = record { shape = refl; value = λ b ss vs. refl }

masks : IsPairwise BvAnd bvand
unfolding shape op_value
masks = record { shape = refl; value = λ b ss vs. refl }

-- ---- the rules

some_of_two : (r s : Option Template) (q : Template) → or_else r s ≡ Some q → (r ≡ Some q) ⊎ (s ≡ Some q)
some_of_two (Some p) s q h = inl h
some_of_two None s q h = inr h

mul_pow2-right : IsRight mul_pow2
unfolding is_theory
mul_pow2-right v q ranked h =
    let at_root = rooted BvMul v _ q h in
    let cells = two_cells _ (operands v) q at_root.1 in
    elim (some_of_two _ _ q cells.3) [
      | inl second ↦ at_second BvMul BvShl bvmul bvshl (λ k. k) multiplies shifts_left refl exponent_small v ranked at_root.0 shl-mul cells.0 cells.1 q cells.2 second
      | inr first ↦ at_first BvMul BvShl bvmul bvshl (λ k. k) multiplies shifts_left refl exponent_small v ranked at_root.0 shl-mul_first cells.1 cells.0 q cells.2 first
    ]

udiv_pow2-right : IsRight udiv_pow2
unfolding is_theory
udiv_pow2-right v q ranked h =
    let at_root = rooted BvUdiv v _ q h in
    let cells = two_cells _ (operands v) q at_root.1 in
    at_second BvUdiv BvLshr bvudiv bvlshr (λ k. k) divides shifts_right refl exponent_small v ranked at_root.0 lshr-udiv cells.0 cells.1 q cells.2 cells.3

urem_pow2-right : IsRight urem_pow2
unfolding is_theory
urem_pow2-right v q ranked h =
    let at_root = rooted BvUrem v _ q h in
    let cells = two_cells _ (operands v) q at_root.1 in
    at_second BvUrem BvAnd bvurem bvand (λ k. 2 ^ k - 1) leaves masks refl mask_small v ranked at_root.0 and-urem cells.0 cells.1 q cells.2 cells.3

pub mul_pow2-sound : IsSound mul_pow2
mul_pow2-sound = sound mul_pow2 mul_pow2-right

pub udiv_pow2-sound : IsSound udiv_pow2
udiv_pow2-sound = sound udiv_pow2 udiv_pow2-right

pub urem_pow2-sound : IsSound urem_pow2
urem_pow2-sound = sound urem_pow2 urem_pow2-right
