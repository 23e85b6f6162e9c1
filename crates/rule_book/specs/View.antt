-- What a rule is shown of a term (SMT-LIB 2.6, section 3.6, for the terms): the operator at its root, its operands, and the
-- operands of those of them that are shown, each as a cell. A term has a view where its operator is one of the theories Core,
-- Ints, FixedSizeBitVectors and ArraysEx or of the logic QF_BV, other than the constant array, with one to four operands.
use Rattle.std.specs.Prelude.{ℕ, suc, Bool, true, false, not, ◌&&◌, ◌||◌, nat_le, if◌then◌else◌, List, [], ◌∷◌, ◌++◌, map, length, filter, Option, Some, None, is_some, unwrap_or}
use Rattle.smt_terms.specs.declared.op.Op.{Op}
use Rattle.smt_terms.specs.declared.op.Op.TheVariants.{Truth, Whole, Bits, Sym, Forall, Exists, ConstArray}
use Rattle.smt_terms.specs.Sorts.{Sort, bool}
use Rattle.smt_terms.specs.Term.{op, Term, apply, quantified, none, ◌⨾◌, list, terms}
use Rattle.smt_terms.specs.Equal.{term_eq}
use Rattle.smt_terms.specs.Rank.{sort_of}
use Rattle.smt_terms.specs.Constants.{literal_value}

-- an operand of the root has `up` 0; an operand of the operand in cell k has `up` 1 + k. The operator is there where the cell is
-- shown. Cells of one term have one hole number, and the numbers are given in order of first cell.
pub record TermCell : Type 0 where
  pub up : ℕ
  pub shown : Option Op
  pub sort : Sort
  pub hole : ℕ

pub record TermView : Type 0 where
  pub root : Op
  pub sort : Sort
  pub cells : List TermCell

-- ---- which operators are shown

unfoldable pub is_theory : Op → Bool
is_theory (Truth b) = false
is_theory (Whole n) = false
is_theory (Bits width bits) = false
is_theory (Sym f) = false
is_theory Forall = false
is_theory Exists = false
is_theory (ConstArray s) = false
is_theory _ = true

abbrev pub is_literal : Op → Bool
is_literal o = is_some (literal_value o)

abbrev pub is_short : List Term → Bool
is_short ts = nat_le (length ts) 4

-- an operand of the root: a constant, or a theory operator with at most four operands
abbrev pub shown_operand : Term → Option Op
shown_operand (apply (op o) ts) = if is_literal o || (is_theory o && is_short (list ts)) then Some o else None
shown_operand _ = None

-- an operand of an operand: a constant alone
abbrev pub shown_below : Term → Option Op
shown_below (apply (op o) none) = if is_literal o then Some o else None
shown_below _ = None

-- ---- the cells, with their terms

pub record Place : Type 0 where
  pub up : ℕ
  pub shown : Option Op
  pub term : Term

abbrev pub operands_of : Term → List Term
operands_of (apply h ts) = list ts
operands_of (quantified q xs t) = []

abbrev pub operands_if : Bool → Term → List Term
operands_if true t = operands_of t
operands_if false t = []

abbrev pub places_below : ℕ → Term → List Place
places_below k t = map (λ u. record { up = suc k; shown = shown_below u; term = u }) (operands_if (is_some (shown_operand t)) t)

-- those below operands, the first of which is in cell k
abbrev pub all_below : ℕ → List Term → List Place
all_below k [] = []
all_below k (t ∷ ts) = places_below k t ++ all_below (suc k) ts

abbrev pub places : List Term → List Place
places ts = map (λ t. record { up = 0; shown = shown_operand t; term = t }) ts ++ all_below 0 ts

-- ---- the holes: the different terms of the cells, in order of first cell

abbrev pub with_hole : List Term → Term → List Term
with_hole holes t = t ∷ filter (λ u. not (term_eq t u)) holes

abbrev pub holes_of : List Place → List Term
holes_of [] = []
holes_of (p ∷ ps) = with_hole (holes_of ps) p.term

-- the place of a term in the list, or the length
abbrev pub number_in : List Term → Term → ℕ
number_in [] t = 0
number_in (u ∷ us) t = if term_eq u t then 0 else suc (number_in us t)

abbrev pub cell_of : List Term → Place → TermCell
cell_of holes p = record { up = p.up; shown = p.shown; sort = unwrap_or (sort_of p.term) bool; hole = number_in holes p.term }

abbrev pub view_over : Op → List Term → TermView
view_over o ts = record { root = o; sort = unwrap_or (sort_of (apply (op o) (terms ts))) bool; cells = map (cell_of (holes_of (places ts))) (places ts) }

abbrev pub view_of : Term → Option TermView
view_of (apply (op o) (t ⨾ ts)) = if is_theory o && is_short (t ∷ list ts) then Some (view_over o (t ∷ list ts)) else None
view_of _ = None

-- the terms of the holes of a term's view
abbrev pub view_holes : Term → List Term
view_holes t = holes_of (places (operands_of t))
