-- The rules of truth values and of differences keep the value of what they are shown.
use Rattle.std.proofs.Common.{◌≡◌, ◌∙◌, ℕ, Bool, true, false, not, cond, ◌&&◌, ◌||◌, ◌==◌, inl, inr, ◌+ℤ◌, ◌-ℤ◌, List, [], ◌∷◌, map, slice_get, Some, Ok, refl, ap, sym, subst}
use Rattle.std.specs.Bool.{beq}
use Rattle.std.specs.List.{list_any, list_all}
use Rattle.std.proofs.Math.IntN.{+ℤ_idr, neg_ℤ-neg_ℤ}
use Rattle.std.proofs.lemmas.Bool.Decides.{Decides-eqb}
use Rattle.smt_terms.specs.declared.op.Op.{Op}
use Rattle.smt_terms.specs.declared.op.Op.TheVariants.{Not, And, Or, Xor, Ite, Sub, Neg, Add}
use Rattle.smt_terms.specs.Sorts.{Sort, bool, int}
use Rattle.smt_terms.specs.Term.{op}
use Rattle.smt_terms.specs.Rank.{several, shape, rank}
use Rattle.smt_terms.specs.Takes.{Takes}
use Rattle.smt_terms.specs.Values.{Value, same, is_true, number, truth, whole}
use Rattle.smt_terms.specs.Operators.{Background, op_value}
use Rattle.smt_terms.proofs.Ranked.{rank-takes}
use Rattle.smt_terms.proofs.Tests.{both_true, either_true, left_true, right_true}
use Rattle.rule_book.specs.View.{TermCell, TermView, is_theory}
use Rattle.rule_book.specs.Template.{hole}
use Rattle.rule_book.specs.Soundness.{Answers, MayReplace, IsSound, view_value}
use Rattle.rule_book.specs.EightRules.{is_op, two, where_root, operands, operands_of_cell, has_hole, absorbed, absorb_and, absorb_or, sub_neg, ite_not, xor_not}
use Rattle.rule_book.proofs.RuleSteps.{if_some, one_of_two, rooted, is_shown, one_cell, two_cells, three_cells}
use Rattle.rule_book.proofs.Replacing.{replaced_by_hole, replaced_by_two, replaced_by_three}
use Rattle.rule_book.proofs.ViewRanks.{sound}
use Rattle.rule_book.proofs.Answering.{IsRanked, IsRight, root_ranked, cell_ranked, operand_sort, inner_sort, equal_value, root_value, cell_value}

-- ---- cells among which a hole is

module _ (holes : ℕ → Value) (i : ℕ) where
  abbrev truths : List TermCell → List Value
  truths cells = map (λ c. holes c.hole) cells

  some_true : (cells : List TermCell) → has_hole i cells ≡ true → is_true (holes i) ≡ true → list_any is_true (truths cells) ≡ true
  some_true [] among h = absurd cc
  some_true (c ∷ cells) among h =
      elim (either_true (c.hole == i) (has_hole i cells) among) [
        | inl here ↦ left_true (is_true (holes c.hole)) (list_any is_true (truths cells)) (ap (λ k. is_true (holes k)) ((Decides-eqb c.hole i).0 here) ∙ h)
        | inr there ↦ right_true (is_true (holes c.hole)) (list_any is_true (truths cells)) (some_true cells there h)
      ]

  some_false : (cells : List TermCell) → has_hole i cells ≡ true → is_true (holes i) ≡ false → list_all is_true (truths cells) ≡ false
  some_false [] among h = absurd cc
  some_false (c ∷ cells) among h =
      elim (either_true (c.hole == i) (has_hole i cells) among) [
        | inl here ↦ ap (λ a. a && list_all is_true (truths cells)) (ap (λ k. is_true (holes k)) ((Decides-eqb c.hole i).0 here) ∙ h)
        | inr there ↦ and_false (is_true (holes c.hole)) (list_all is_true (truths cells)) (some_false cells there h)
      ]
    where
      and_false : (a b : Bool) → b ≡ false → (a && b) ≡ false
      and_false true b h = h
      and_false false b h = refl

-- ---- absorption

first_and : (x y : Bool) → (x ≡ true → y ≡ true) → beq x (x && (y && true)) ≡ true
first_and true y f = ap (λ b. beq true (b && true)) (f refl)
first_and false y f = refl

second_and : (x y : Bool) → (x ≡ true → y ≡ true) → beq x (y && (x && true)) ≡ true
second_and true y f = ap (λ b. beq true (b && true)) (f refl)
second_and false true f = refl
second_and false false f = refl

first_or : (x y : Bool) → (x ≡ false → y ≡ false) → beq x (x || (y || false)) ≡ true
first_or true y f = refl
first_or false y f = ap (λ b. beq false (b || false)) (f refl)

second_or : (x y : Bool) → (x ≡ false → y ≡ false) → beq x (y || (x || false)) ≡ true
second_or true true f = refl
second_or true false f = refl
second_or false y f = ap (λ b. beq false (b || false)) (f refl)

-- of two truth values, one of which is the inner operator's over values with the other among them, the outer operator makes the other
record Absorbs (outer inner : Op) : Type 0 where
  truths : shape outer ≡ several bool
  first : (b : Background) (holes : ℕ → Value) (i : ℕ) (cells : List TermCell) (y : Value) (rs ss : List Sort) → has_hole i cells ≡ true → y ≡ op_value b inner rs (map (λ c. holes c.hole) cells) → beq (is_true (holes i)) (is_true (op_value b outer ss (holes i ∷ y ∷ []))) ≡ true
  second : (b : Background) (holes : ℕ → Value) (i : ℕ) (cells : List TermCell) (y : Value) (rs ss : List Sort) → has_hole i cells ≡ true → y ≡ op_value b inner rs (map (λ c. holes c.hole) cells) → beq (is_true (holes i)) (is_true (op_value b outer ss (y ∷ holes i ∷ []))) ≡ true

and_absorbs : Absorbs And Or
unfolding op_value shape
and_absorbs = record {
  truths = refl;
  first = λ b holes i cells y rs ss among is. first_and (is_true (holes i)) (is_true y) (λ h. ap is_true is ∙ some_true holes i cells among h);
  second = λ b holes i cells y rs ss among is. second_and (is_true (holes i)) (is_true y) (λ h. ap is_true is ∙ some_true holes i cells among h);
}

or_absorbs : Absorbs Or And
unfolding op_value shape
or_absorbs = record {
  truths = refl;
  first = λ b holes i cells y rs ss among is. first_or (is_true (holes i)) (is_true y) (λ h. ap is_true is ∙ some_false holes i cells among h);
  second = λ b holes i cells y rs ss among is. second_or (is_true (holes i)) (is_true y) (λ h. ap is_true is ∙ some_false holes i cells among h);
}

record AreTruths (r s t : Sort) : Type 0 where
  first : r ≡ bool
  second : s ≡ bool
  result : t ≡ bool

two_truths : (o : Op) (r s t : Sort) → shape o ≡ several bool → rank (op o) (r ∷ s ∷ []) ≡ Ok t → AreTruths r s t
two_truths o r s t is ranked =
    let told : Takes (several bool) (r ∷ s ∷ []) t = subst (λ h. Takes h (r ∷ s ∷ []) t) is (rank-takes (op o) (r ∷ s ∷ []) t ranked) in
    record { first = cc; second = cc; result = told.2 }

module _ (outer inner : Op) (absorbs : Absorbs outer inner) where
  absorbing : Answers
  absorbing v = where_root outer v (two (absorbed inner v) (operands v))

  module _ (v : TermView) (ranked : IsRanked v) (a b : TermCell) (root : v.root ≡ outer) (cells : operands v ≡ a ∷ b ∷ []) where
    sorts_known : AreTruths a.sort b.sort v.sort
    sorts_known = two_truths outer a.sort b.sort v.sort absorbs.truths (root_ranked v ranked outer (a ∷ b ∷ []) root cells)

    a_at : slice_get (operands v) 0 ≡ Some a
    a_at = ap (λ cs. slice_get cs 0) cells

    b_at : slice_get (operands v) 1 ≡ Some b
    b_at = ap (λ cs. slice_get cs 1) cells

    the_first : b.shown ≡ Some inner → has_hole a.hole (operands_of_cell 1 v) ≡ true → MayReplace v (hole a.hole ∷ [])
    the_first shown among =
        replaced_by_hole v a.hole (operand_sort v ranked 0 a v.sort a_at (sorts_known.first ∙ sym sorts_known.result)) (λ d holes valid.
        subst (λ s. same s d.sizes (holes a.hole) (view_value d holes v) ≡ true) (sym sorts_known.result)
        (ap (λ w. beq (is_true (holes a.hole)) (is_true w)) (root_value v ranked d holes outer (a ∷ b ∷ []) root cells)
        ∙ absorbs.first d holes a.hole (operands_of_cell 1 v) (holes b.hole) _ _ among (cell_value v ranked d holes valid 1 b inner (operands_of_cell 1 v) b_at shown refl)))

    the_second : a.shown ≡ Some inner → has_hole b.hole (operands_of_cell 0 v) ≡ true → MayReplace v (hole b.hole ∷ [])
    the_second shown among =
        replaced_by_hole v b.hole (operand_sort v ranked 1 b v.sort b_at (sorts_known.second ∙ sym sorts_known.result)) (λ d holes valid.
        subst (λ s. same s d.sizes (holes b.hole) (view_value d holes v) ≡ true) (sym sorts_known.result)
        (ap (λ w. beq (is_true (holes b.hole)) (is_true w)) (root_value v ranked d holes outer (a ∷ b ∷ []) root cells)
        ∙ absorbs.second d holes b.hole (operands_of_cell 0 v) (holes a.hole) _ _ among (cell_value v ranked d holes valid 0 a inner (operands_of_cell 0 v) a_at shown refl)))

  absorbing_right : IsRight absorbing
  unfolding absorbing
  absorbing_right v p ranked answer =
      let outside = rooted outer v (two (absorbed inner v) (operands v)) p answer in
      let pair = two_cells (absorbed inner v) (operands v) p outside.1 in
      let a = pair.0 in
      let b = pair.1 in
      elim (one_of_two (is_op inner b.shown && has_hole a.hole (operands_of_cell 1 v)) (is_op inner a.shown && has_hole b.hole (operands_of_cell 0 v)) (hole a.hole ∷ []) (hole b.hole ∷ []) p pair.3) [
        | inl w ↦
            let tests = both_true (is_op inner b.shown) (has_hole a.hole (operands_of_cell 1 v)) w.0 in
            subst (λ q. MayReplace v q) w.1 (the_first v ranked a b outside.0 pair.2 (is_shown inner b.shown tests.0) tests.1)
        | inr w ↦
            let tests = both_true (is_op inner a.shown) (has_hole b.hole (operands_of_cell 0 v)) w.0 in
            subst (λ q. MayReplace v q) w.1 (the_second v ranked a b outside.0 pair.2 (is_shown inner a.shown tests.0) tests.1)
      ]

absorb_and-right : IsRight absorb_and
unfolding absorbing
absorb_and-right = absorbing_right And Or and_absorbs

absorb_or-right : IsRight absorb_or
unfolding absorbing
absorb_or-right = absorbing_right Or And or_absorbs

-- ---- differences

-- x less minus y is the sum
difference : (b : Background) (x y m : Value) (qs rs ss : List Sort) → m ≡ op_value b Neg qs (y ∷ []) → op_value b Add ss (x ∷ y ∷ []) ≡ op_value b Sub rs (x ∷ m ∷ [])
unfolding op_value
difference b x y m qs rs ss is =
    ap (λ k. whole (number x +ℤ k)) (+ℤ_idr (number y) ∙ sym (neg_ℤ-neg_ℤ (number y)))
    ∙ ap (λ w. whole (number x -ℤ number w)) (sym is)

sub_neg-right : IsRight sub_neg
unfolding shape is_theory rank
sub_neg-right v p ranked answer =
    let outside = rooted Sub v _ p answer in
    let pair = two_cells _ (operands v) p outside.1 in
    let a = pair.0 in
    let n = pair.1 in
    let inside = if_some (is_op Neg n.shown) _ p pair.3 in
    let single = one_cell _ (operands_of_cell 1 v) p inside.1 in
    let c = single.0 in
    let shown = is_shown Neg n.shown inside.0 in
    let n_at : slice_get (operands v) 1 ≡ Some n = ap (λ cs. slice_get cs 1) pair.2 in
    let outer = rank-takes (op Sub) (a.sort ∷ n.sort ∷ []) v.sort (root_ranked v ranked Sub (a ∷ n ∷ []) outside.0 pair.2) in
    let inner = rank-takes (op Neg) (c.sort ∷ []) n.sort (cell_ranked v ranked 1 n Neg (c ∷ []) n_at shown single.1) in
    let a_int : a.sort ≡ int = cc in
    let c_int : c.sort ≡ int = cc in
    subst (λ q. MayReplace v q) (cc)
    (replaced_by_two v a.hole c.hole Add int int refl
    (operand_sort v ranked 0 a int (ap (λ cs. slice_get cs 0) pair.2) a_int)
    (inner_sort v ranked 1 0 c int (ap (λ cs. slice_get cs 0) single.1) c_int)
    (ap (λ s. Ok s) (sym outer.1))
    (equal_value v ranked (λ b holes. op_value b Add (int ∷ int ∷ []) (holes a.hole ∷ holes c.hole ∷ [])) (λ b holes valid.
    difference b (holes a.hole) (holes c.hole) (holes n.hole) _ _ _ (cell_value v ranked b holes valid 1 n Neg (c ∷ []) n_at shown single.1)
    ∙ sym (root_value v ranked b holes Sub (a ∷ n ∷ []) outside.0 pair.2))))

-- ---- choices

-- where the condition is negated the branches change places
choice_turned : (b : Background) (x y z m : Value) (qs rs ss : List Sort) → m ≡ op_value b Not qs (x ∷ []) → op_value b Ite ss (x ∷ z ∷ y ∷ []) ≡ op_value b Ite rs (m ∷ y ∷ z ∷ [])
unfolding op_value
choice_turned b x y z m qs rs ss is = turned (is_true x) ∙ ap (λ w. cond (is_true w) y z) (sym is)
  where
    turned : (c : Bool) → cond c z y ≡ cond (not c) y z
    turned true = refl
    turned false = refl

ite_not-right : IsRight ite_not
unfolding shape is_theory
ite_not-right v p ranked answer =
    let outside = rooted Ite v _ p answer in
    let triple = three_cells _ (operands v) p outside.1 in
    let n = triple.0 in
    let x = triple.1 in
    let y = triple.2 in
    let inside = if_some (is_op Not n.shown) _ p triple.4 in
    let single = one_cell _ (operands_of_cell 0 v) p inside.1 in
    let c = single.0 in
    let shown = is_shown Not n.shown inside.0 in
    let n_at : slice_get (operands v) 0 ≡ Some n = ap (λ cs. slice_get cs 0) triple.3 in
    let known = root_ranked v ranked Ite (n ∷ x ∷ y ∷ []) outside.0 triple.3 in
    let outer = rank-takes (op Ite) (n.sort ∷ x.sort ∷ y.sort ∷ []) v.sort known in
    let inner = rank-takes (op Not) (c.sort ∷ []) n.sort (cell_ranked v ranked 0 n Not (c ∷ []) n_at shown single.1) in
    let t = outer.0 in
    let c_bool : c.sort ≡ bool = cc in
    let x_sort : x.sort ≡ t = cc in
    let y_sort : y.sort ≡ t = cc in
    subst (λ q. MayReplace v q) (cc)
    (replaced_by_three v c.hole y.hole x.hole Ite bool t t refl
    (inner_sort v ranked 0 0 c bool (ap (λ cs. slice_get cs 0) single.1) c_bool)
    (operand_sort v ranked 2 y t (ap (λ cs. slice_get cs 2) triple.3) y_sort)
    (operand_sort v ranked 1 x t (ap (λ cs. slice_get cs 1) triple.3) x_sort)
    (subst (λ ss. rank (op Ite) ss ≡ Ok v.sort) outer.1 known)
    (equal_value v ranked (λ b holes. op_value b Ite (bool ∷ t ∷ t ∷ []) (holes c.hole ∷ holes y.hole ∷ holes x.hole ∷ [])) (λ b holes valid.
    choice_turned b (holes c.hole) (holes x.hole) (holes y.hole) (holes n.hole) _ _ _ (cell_value v ranked b holes valid 0 n Not (c ∷ []) n_at shown single.1)
    ∙ sym (root_value v ranked b holes Ite (n ∷ x ∷ y ∷ []) outside.0 triple.3))))

-- ---- exclusive disjunctions

-- two negations change nothing
both_turned : (b : Background) (x y m n : Value) (os qs rs ss : List Sort) → m ≡ op_value b Not os (x ∷ []) → n ≡ op_value b Not qs (y ∷ []) → op_value b Xor ss (x ∷ y ∷ []) ≡ op_value b Xor rs (m ∷ n ∷ [])
unfolding op_value
both_turned b x y m n os qs rs ss left right =
    ap (λ c. truth (not c)) (turned (is_true x) (is_true y))
    ∙ (λ i. truth (not (beq (is_true (sym left i)) (is_true (sym right i)))))
  where
    turned : (c d : Bool) → beq c d ≡ beq (not c) (not d)
    turned true true = refl
    turned true false = refl
    turned false true = refl
    turned false false = refl

xor_not-right : IsRight xor_not
unfolding shape is_theory rank
xor_not-right v p ranked answer =
    let outside = rooted Xor v _ p answer in
    let pair = two_cells _ (operands v) p outside.1 in
    let m = pair.0 in
    let n = pair.1 in
    let inside = if_some (is_op Not m.shown && is_op Not n.shown) _ p pair.3 in
    let tests = both_true (is_op Not m.shown) (is_op Not n.shown) inside.0 in
    let left = one_cell _ (operands_of_cell 0 v) p inside.1 in
    let right = one_cell _ (operands_of_cell 1 v) p left.2 in
    let x = left.0 in
    let y = right.0 in
    let m_shown = is_shown Not m.shown tests.0 in
    let n_shown = is_shown Not n.shown tests.1 in
    let m_at : slice_get (operands v) 0 ≡ Some m = ap (λ cs. slice_get cs 0) pair.2 in
    let n_at : slice_get (operands v) 1 ≡ Some n = ap (λ cs. slice_get cs 1) pair.2 in
    let outer = rank-takes (op Xor) (m.sort ∷ n.sort ∷ []) v.sort (root_ranked v ranked Xor (m ∷ n ∷ []) outside.0 pair.2) in
    let first = rank-takes (op Not) (x.sort ∷ []) m.sort (cell_ranked v ranked 0 m Not (x ∷ []) m_at m_shown left.1) in
    let second = rank-takes (op Not) (y.sort ∷ []) n.sort (cell_ranked v ranked 1 n Not (y ∷ []) n_at n_shown right.1) in
    let x_bool : x.sort ≡ bool = cc in
    let y_bool : y.sort ≡ bool = cc in
    subst (λ q. MayReplace v q) (cc)
    (replaced_by_two v x.hole y.hole Xor bool bool refl
    (inner_sort v ranked 0 0 x bool (ap (λ cs. slice_get cs 0) left.1) x_bool)
    (inner_sort v ranked 1 0 y bool (ap (λ cs. slice_get cs 0) right.1) y_bool)
    (ap (λ s. Ok s) (sym outer.1))
    (equal_value v ranked (λ b holes. op_value b Xor (bool ∷ bool ∷ []) (holes x.hole ∷ holes y.hole ∷ [])) (λ b holes valid.
    both_turned b (holes x.hole) (holes y.hole) (holes m.hole) (holes n.hole) _ _ _ _ (cell_value v ranked b holes valid 0 m Not (x ∷ []) m_at m_shown left.1) (cell_value v ranked b holes valid 1 n Not (y ∷ []) n_at n_shown right.1)
    ∙ sym (root_value v ranked b holes Xor (m ∷ n ∷ []) outside.0 pair.2))))

-- ---- soundness

pub absorb_and-sound : IsSound absorb_and
absorb_and-sound = sound absorb_and absorb_and-right

pub absorb_or-sound : IsSound absorb_or
absorb_or-sound = sound absorb_or absorb_or-right

pub sub_neg-sound : IsSound sub_neg
sub_neg-sound = sound sub_neg sub_neg-right

pub ite_not-sound : IsSound ite_not
ite_not-sound = sound ite_not ite_not-right

pub xor_not-sound : IsSound xor_not
xor_not-sound = sound xor_not xor_not-right
