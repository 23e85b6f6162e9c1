-- What the eight rules read off a view: the operands of its root and of what stands there, and powers of two.
use Rattle.std.specs.Prelude.{ℕ, ◌==◌, if◌then◌else◌, List, [], ◌∷◌, filter, Option, Some, None}
use Rattle.smt_terms.specs.declared.op.Op.{Op}
use Rattle.smt_terms.specs.Equal.{op_eq}
use Rattle.rule_book.specs.declared.views.Cell.{Cell}
use Rattle.rule_book.specs.declared.views.View.{View}
use Rattle.rule_book.specs.declared.eight_rules.PowerOfTwo.{PowerOfTwo}
use Rattle.rule_book.specs.EightRules.{Power, is_op}

-- the elements of a list that has exactly one, two or three
abbrev pub only : {A : Type 0} → List A → Option A
only (a ∷ []) = Some a
only _ = None

abbrev pub both : {A : Type 0} → List A → Option (A × A)
both (a ∷ b ∷ []) = Some (a, b)
both _ = None

abbrev pub all_three : {A : Type 0} → List A → Option (A × A × A)
all_three (a ∷ b ∷ c ∷ []) = Some (a, b, c)
all_three _ = None

-- the cells of the operands of the root, for 0, and of those of cell k, for 1 + k
abbrev pub cells_at : ℕ → List Cell → List Cell
cells_at up cells = filter (λ c. c.up == up) cells

-- the operands of the root, where it is that operator and has so many
abbrev pub two_at_root : Op → View → Option (Cell × Cell)
two_at_root o v = if op_eq v.root o then both (cells_at 0 v.cells) else None

abbrev pub three_at_root : Op → View → Option (Cell × Cell × Cell)
three_at_root o v = if op_eq v.root o then all_three (cells_at 0 v.cells) else None

-- the operand of what a cell shows, where that is this operator and has just one
abbrev pub only_below : Op → Option Op → ℕ → List Cell → Option Cell
only_below o shown up cells = if is_op o shown then only (cells_at up cells) else None

abbrev pub power_seen : PowerOfTwo → Power
power_seen p = record { width = p.width; exponent = p.exponent }
