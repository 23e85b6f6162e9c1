-- Which rules are sound: whatever term a rule is shown, and whatever template it answers, the template is a term over the view's
-- holes that has the view's sort, and it has the view's value (SMT-LIB 2.6, section 5.3) for all values of the holes that the
-- view's constants allow.
use Rattle.std.specs.Prelude.{◌≡◌, ℕ, suc, ◌<◌, ◌==◌, if◌then◌else◌, List, [], ◌∷◌, map, filter, slice_get, Option, Some, None, IfSome, IsTrue}
use Rattle.smt_terms.specs.declared.op.Op.{Op}
use Rattle.smt_terms.specs.Sorts.{Name, Sort}
use Rattle.smt_terms.specs.Term.{Term}
use Rattle.smt_terms.specs.Rank.{IsWellSorted}
use Rattle.smt_terms.specs.Values.{Value, same, is_value}
use Rattle.smt_terms.specs.Operators.{Background, op_value}
use Rattle.rule_book.specs.View.{TermCell, TermView, view_of}
use Rattle.rule_book.specs.Template.{Template, applies_theory, Denoted, template_sort, template_value}

-- what a rule answers on a view, where it applies
abbrev pub Answers : Type 0
Answers = TermView → Option Template

-- the sort of a hole: that of its first cell
abbrev pub hole_sort : List TermCell → ℕ → Option Sort
hole_sort [] i = None
hole_sort (c ∷ cs) i = if c.hole == i then Some c.sort else hole_sort cs i

-- the cells of the operands of the root, for 0, and of those of cell k, for 1 + k
abbrev pub cells_under : ℕ → List TermCell → List TermCell
cells_under up cells = filter (λ c. c.up == up) cells

-- the value of an operator over those cells
abbrev pub value_over : Background → (ℕ → Value) → List TermCell → ℕ → Op → Value
value_over b holes cells up o = op_value b o (map (λ c. c.sort) (cells_under up cells)) (map (λ c. holes c.hole) (cells_under up cells))

abbrev pub view_value : Background → (ℕ → Value) → TermView → Value
view_value b holes v = value_over b holes v.cells 0 v.root

-- values for the holes: each of its cells' sort, and where a cell is shown, the value of its operator over the cells below it
pub record AreHoleValues (b : Background) (holes : ℕ → Value) (cells : List TermCell) : Type 0 where
  pub valid : (k : ℕ) → IfSome (slice_get cells k) (λ c. IsTrue (is_value c.sort b.sizes (holes c.hole)))
  pub shown : (k : ℕ) → IfSome (slice_get cells k) (λ c. IfSome c.shown (λ o. holes c.hole ≡ value_over b holes cells (suc k) o))

abbrev pub denoted_hole : (ℕ → Value) → ℕ → Option Sort → Option Denoted
denoted_hole holes i None = None
denoted_hole holes i (Some s) = Some (record { sort = s; value = holes i })

-- a template in place of a view. Its value is the view's whatever the sizes of the free sorts are and whatever division by zero gives.
pub record MayReplace (v : TermView) (p : Template) : Type 0 where
  pub operators : IsTrue (applies_theory p)
  pub sort : template_sort (hole_sort v.cells) p ≡ Some v.sort
  pub value : (b : Background) (holes : ℕ → Value) → ((s : Name) → 0 < b.sizes s) → AreHoleValues b holes v.cells →
      IfSome (template_value b (λ i. denoted_hole holes i (hole_sort v.cells i)) p) (λ d. IsTrue (same v.sort b.sizes d.value (view_value b holes v)))

abbrev pub IsSound : Answers → Type 0
IsSound rule = (t : Term) (v : TermView) (p : Template) → IsWellSorted t → view_of t ≡ Some v → rule v ≡ Some p → MayReplace v p
