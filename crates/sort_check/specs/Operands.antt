-- Operands of one sort.
use Rattle.std.specs.Prelude.{◌≡◌, ◌≤◌, ℕ, ◌+◌, ◌*◌, List, [], ◌∷◌, map, length, nat_le, Bool, true, false, Option, Some, Result, Ok, All, if◌then◌else◌}
use Rattle.smt_terms.specs.declared.ids.NodeId.{NodeId}
use Rattle.smt_terms.specs.declared.op.Op.{Op}
use Rattle.smt_terms.specs.Rank.{Fault, wrong_arity, Shape, only, first_misfit, rank, sort_of}
use Rattle.smt_terms.specs.Sorts.{Sort, bit_vector}
use Rattle.smt_terms.specs.Term.{op, Term}
use Rattle.smt_terms.specs.Written.{Written, chainable, chainable_exchanged, alike, apply_to_both}
use Rattle.term_table.specs.Formulas.{Formulas, tree, IsNode, sort_or_bool}
use Rattle.sort_check.specs.Making.{term_algebra}

abbrev pub rank_pair : Op → Sort → Sort → Result Sort Fault
rank_pair o s t = rank (op o) (s ∷ t ∷ [])

abbrev pub node_sort : Formulas → NodeId → Sort
node_sort t k = sort_or_bool (sort_of (tree t k))

-- the leftmost operand that hasn't this sort, the first having number k
abbrev pub unlike : Sort → ℕ → List Sort → Option Fault
unlike s k us = first_misfit k (map (λ _. only s) us) us

-- the first fault of two or more operands that are like those of an operator over two
abbrev pub alike_fault : Shape → List Sort → Option Fault
alike_fault sh ss = if nat_le 2 (length ss) then first_misfit 0 (alike sh ss) ss else Some wrong_arity

-- a node of this sort
pub record IsOfSort (t : Formulas) (k : NodeId) (s : Sort) : Type 0 where
  pub node : IsNode t k
  pub sort : sort_of (tree t k) ≡ Some s

-- nodes of one sort, of which the operator takes two
pub record TakesEach (t : Formulas) (o : Op) (ks : List NodeId) : Type 0 where
  pub sort : Sort
  pub operands : All (λ k. IsOfSort t k sort) ks
  pub result : Sort
  pub ranked : rank_pair o sort sort ≡ Ok result

-- the operator over two operands, exchanged or not
abbrev pub linked : Bool → Op → Term → Term → Term
linked true o x y = apply_to_both term_algebra o y x
linked false o x y = apply_to_both term_algebra o x y

abbrev pub chained : Bool → Op → Written
chained true o = chainable_exchanged o
chained false o = chainable o

-- a bit vector of which one and so many more have no more than 128 bits
pub record Repeats (t : Formulas) (k : NodeId) (more : ℕ) : Type 0 where
  pub width : ℕ
  pub vector : IsOfSort t k (bit_vector width)
  pub narrow : (more + 1) * width ≤ 128
