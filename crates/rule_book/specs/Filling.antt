-- A template piece by piece: what a piece gives over the results so far, and nodes of results over which the pieces that are
-- left give a term.
use Rattle.std.specs.Prelude.{◌≡◌, ℕ, List, [], drop, reverse, slice_get, Option, IsSome, IsTrue}
use Rattle.smt_terms.specs.declared.ids.NodeId.{NodeId}
use Rattle.smt_terms.specs.declared.op.Op.{Op}
use Rattle.smt_terms.specs.Made.{made}
use Rattle.smt_terms.specs.Term.{Term, apply, quantified, terms}
use Rattle.term_table.specs.Formulas.{Formulas, trees_at, sorts_in, AreNodes}
use Rattle.rule_book.specs.Template.{TermPiece, hole, literal, applied, Template, applies_theory, over_last, give, term_over, sort_made}

-- a term made anew, where a minus over a constant is the constant
abbrev pub remade : Term → Term
remade (apply h ts) = made h ts
remade (quantified q xs t) = quantified q xs t

-- the head of a term over other operands
abbrev pub with_operands : Term → List Term → Term
with_operands (apply h ts) us = made h (terms us)
with_operands (quantified q xs t) us = quantified q xs t

-- what a piece gives over the results so far, the last one first
abbrev pub piece_over : {A : Type 0} → (ℕ → Option A) → (Op → List A → Option A) → TermPiece → List A → Option A
piece_over holes make (hole i) done = holes i
piece_over holes make (literal o) done = make o []
piece_over holes make (applied o n) done = over_last (make o) n done

-- and the results that it leaves
abbrev pub left_by : {A : Type 0} → TermPiece → List A → List A
left_by (hole i) done = done
left_by (literal o) done = done
left_by (applied o n) done = drop n done

-- nodes of results, the last one last, over which these pieces give this, over the terms of the holes
pub record Give (t : Formulas) (hs : List Term) (ps : Template) (whole : Option Term) (results : List NodeId) : Type 0 where
  pub nodes : AreNodes t results
  pub operators : IsTrue (applies_theory ps)
  pub term : give (slice_get hs) term_over ps (reverse (trees_at t results)) ≡ whole
  pub sort : IsSome (give (slice_get (sorts_in hs)) sort_made ps (sorts_in (reverse (trees_at t results))))
