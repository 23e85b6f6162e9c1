-- What a rule knows of the view of a well-sorted term, and the values of the view and its shown cells.
use Rattle.std.proofs.Common.{◌≡◌, ℕ, suc, true, List, map, slice_get, Option, Some, Ok, subst}
use Rattle.std.specs.Prelude.{IfSome}
use Rattle.smt_terms.specs.declared.op.Op.{Op}
use Rattle.smt_terms.specs.Sorts.{Sort}
use Rattle.smt_terms.specs.Term.{op}
use Rattle.smt_terms.specs.Rank.{rank}
use Rattle.smt_terms.specs.Values.{Value, same}
use Rattle.smt_terms.specs.Operators.{Background, op_value}
use Rattle.smt_terms.proofs.Same.{same-itself}
use Rattle.rule_book.specs.View.{TermCell, TermView}
use Rattle.rule_book.specs.Template.{Template}
use Rattle.rule_book.specs.Soundness.{Answers, AreHoleValues, MayReplace, hole_sort, cells_under, value_over, view_value}
use Rattle.rule_book.specs.EightRules.{operands, operands_of_cell}
use Rattle.rule_book.proofs.Replacing.{HasValue}

abbrev sorts_of : List TermCell → List Sort
sorts_of cells = map (λ c. c.sort) cells

abbrev values_of : (ℕ → Value) → List TermCell → List Value
values_of holes cells = map (λ c. holes c.hole) cells

-- the root and each shown operand have the rank of their sorts, each cell's hole has its sort, and the operands come first
pub record IsRanked (v : TermView) : Type 0 where
  pub root : rank (op v.root) (sorts_of (operands v)) ≡ Ok v.sort
  pub below : (k : ℕ) (c : TermCell) (o : Op) → slice_get (operands v) k ≡ Some c → c.shown ≡ Some o → rank (op o) (sorts_of (operands_of_cell k v)) ≡ Ok c.sort
  pub holes : (up k : ℕ) (c : TermCell) → slice_get (cells_under up v.cells) k ≡ Some c → hole_sort v.cells c.hole ≡ Some c.sort
  pub first : (k : ℕ) (c : TermCell) → slice_get (operands v) k ≡ Some c → slice_get v.cells k ≡ Some c

-- a rule's template may replace each view in which the ranks hold
abbrev pub IsRight : Answers → Type 0
IsRight rule = (v : TermView) (p : Template) → IsRanked v → rule v ≡ Some p → MayReplace v p

module _ (v : TermView) (ranked : IsRanked v) where
  pub root_ranked : (o : Op) (cells : List TermCell) → v.root ≡ o → operands v ≡ cells → rank (op o) (sorts_of cells) ≡ Ok v.sort
  root_ranked o cells root is = subst (λ cs. rank (op o) (sorts_of cs) ≡ Ok v.sort) is (subst (λ p. rank (op p) (sorts_of (operands v)) ≡ Ok v.sort) root ranked.root)

  pub cell_ranked : (k : ℕ) (c : TermCell) (o : Op) (cells : List TermCell) → slice_get (operands v) k ≡ Some c → c.shown ≡ Some o → operands_of_cell k v ≡ cells → rank (op o) (sorts_of cells) ≡ Ok c.sort
  cell_ranked k c o cells at shown is = subst (λ cs. rank (op o) (sorts_of cs) ≡ Ok c.sort) is (ranked.below k c o at shown)

  pub operand_sort : (k : ℕ) (c : TermCell) (s : Sort) → slice_get (operands v) k ≡ Some c → c.sort ≡ s → hole_sort v.cells c.hole ≡ Some s
  operand_sort k c s at is = subst (λ r. hole_sort v.cells c.hole ≡ Some r) is (ranked.holes 0 k c at)

  pub inner_sort : (k i : ℕ) (c : TermCell) (s : Sort) → slice_get (operands_of_cell k v) i ≡ Some c → c.sort ≡ s → hole_sort v.cells c.hole ≡ Some s
  inner_sort k i c s at is = subst (λ r. hole_sort v.cells c.hole ≡ Some r) is (ranked.holes (suc k) i c at)

  -- ---- values

  pub equal_value : (given : Background → (ℕ → Value) → Value) → ((b : Background) (holes : ℕ → Value) → AreHoleValues b holes v.cells → given b holes ≡ view_value b holes v) → HasValue v given
  equal_value given equal = λ b holes valid. subst (λ w. same v.sort b.sizes (given b holes) w ≡ true) (equal b holes valid) (same-itself v.sort b.sizes (given b holes))

  module _ (b : Background) (holes : ℕ → Value) where
    pub root_value : (o : Op) (cells : List TermCell) → v.root ≡ o → operands v ≡ cells → view_value b holes v ≡ op_value b o (sorts_of cells) (values_of holes cells)
    root_value o cells root is = λ i. op_value b (root i) (sorts_of (is i)) (values_of holes (is i))

    IsShownValue : ℕ → TermCell → Option Op → Type 0
    IsShownValue k c shown = IfSome shown (λ o. holes c.hole ≡ value_over b holes v.cells (suc k) o)

    pub cell_value : AreHoleValues b holes v.cells → (k : ℕ) (c : TermCell) (o : Op) (cells : List TermCell) → slice_get (operands v) k ≡ Some c → c.shown ≡ Some o → operands_of_cell k v ≡ cells → holes c.hole ≡ op_value b o (sorts_of cells) (values_of holes cells)
    unfolding IsShownValue
    cell_value valid k c o cells at shown is =
        let known = subst (λ (r : Option TermCell). IfSome r (λ d. IsShownValue k d d.shown)) (ranked.first k c at) (valid.shown k) in
        let here = subst (IsShownValue k c) shown known in
        subst (λ cs. holes c.hole ≡ op_value b o (sorts_of cs) (values_of holes cs)) is here
