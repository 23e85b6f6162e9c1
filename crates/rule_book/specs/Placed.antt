-- Places of a view whose terms are nodes of a table.
use Rattle.std.specs.Prelude.{◌≡◌, ℕ, zero, suc, ◌==◌, if◌then◌else◌, List, [], ◌∷◌, ◌++◌, map, length, Option, All}
use Rattle.smt_terms.specs.declared.op.Op.{Op}
use Rattle.smt_terms.specs.Term.{Term}
use Rattle.term_table.specs.Formulas.{Formulas, tree, IsNode}
use Rattle.rule_book.specs.declared.viewing.PlacedNode.{PlacedNode}
use Rattle.rule_book.specs.View.{Place, shown_operand, shown_below, number_in}

abbrev pub place_seen : Formulas → PlacedNode → Place
place_seen t p = record { up = p.up; shown = p.shown; term = tree t p.node }

-- the operator that is shown there
abbrev pub shown_at : ℕ → Term → Option Op
shown_at zero t = shown_operand t
shown_at (suc k) t = shown_below t

abbrev pub placed : ℕ → List Term → List Place
placed up ts = map (λ t. record { up = up; shown = shown_at up t; term = t }) ts

-- nodes at these places
pub record AreAt (t : Formulas) (us : List Place) (ps : List PlacedNode) : Type 0 where
  pub nodes : All (λ p. IsNode t p.node) ps
  pub places : map (place_seen t) ps ≡ us

-- a term put last, where it isn't among the holes
abbrev pub with_last : List Term → Term → List Term
with_last holes t = if number_in holes t == length holes then holes ++ t ∷ [] else holes
