-- How far a loop over bits has come.
use Rattle.std.specs.Prelude.{◌≡◌, List, [], ◌∷◌, ◌++◌, map, All, length}
use Rattle.std.specs.Borrow.{Bor}
use Rattle.smt_terms.specs.declared.ids.NodeId.{NodeId}
use Rattle.smt_terms.specs.Term.{Term}
use Rattle.term_table.specs.Formulas.{Formulas, tree, trees_at}
use Rattle.term_walk.specs.Walking.{GrowsTo}
use Rattle.normal_forms.specs.Nodes.{IsFormula}
use Rattle.bit_blast.specs.declared.gates.Gate.{Gate}
use Rattle.bit_blast.specs.BitNodes.{gate_op}
use Rattle.bit_blast.specs.Blasted.{term_gates}
use Rattle.bit_blast.specs.Circuits.{inverse, each, add, equal, apart, less_from}

-- a connective of two formulas
abbrev pub gate_over : Gate → Term → Term → Term
gate_over gate u v = term_gates (gate_op gate) (u ∷ v ∷ [])

-- a table that gained nodes only
pub record GainsNodes (old new : Formulas) : Type 0 where
  pub grows : GrowsTo old new
  pub symbols : new.symbols ≡ old.symbols
  pub sorts : new.sorts ≡ old.sorts

-- this node is this formula
pub record IsBit (t : Formulas) (k : NodeId) (u : Term) : Type 0 where
  pub formula : IsFormula t k
  pub term : tree t k ≡ u

-- two vectors of formulas, of one length
pub record AreVectors (t : Formulas) (ks js : List NodeId) : Type 0 where
  pub first : All (IsFormula t) ks
  pub second : All (IsFormula t) js
  pub same : length ks ≡ length js

-- these nodes are those of the first of these formulas, and the others are left
pub record AreFirst (t : Formulas) (ks : List NodeId) (left all : List Term) : Type 0 where
  pub formulas : All (IsFormula t) ks
  pub terms : trees_at t ks ++ left ≡ all

-- bits of a vector, made one after the other: what is left of the vector gives those that are left
pub record MakesMap (f : Term → Term) (old t : Formulas) (ks made : List NodeId) (all : List Term) : Type 0 where
  pub gains : GainsNodes old t
  pub left : All (IsFormula old) ks
  pub bits : AreFirst t made (map f (trees_at old ks)) all

-- the same of two vectors
pub record MakesEach (f : Term → Term → Term) (old t : Formulas) (ks js made : List NodeId) (all : List Term) : Type 0 where
  pub gains : GainsNodes old t
  pub left : AreVectors old ks js
  pub bits : AreFirst t made (each f (trees_at old ks) (trees_at old js)) all

-- bits of a sum, made one after the other, with this node as the next carry
pub record MakesSum (old t : Formulas) (ks js made : List NodeId) (c : NodeId) (all : List Term) : Type 0 where
  pub gains : GainsNodes old t
  pub left : AreVectors old ks js
  pub carry : IsFormula t c
  pub bits : AreFirst t made (add term_gates (trees_at old ks) (trees_at old js) (tree t c)) all

-- a comparison of two vectors: what is left of them, and this node for the bits before, give what they give
pub record MakesLess (old t : Formulas) (ks js : List NodeId) (l : NodeId) (u : Term) : Type 0 where
  pub gains : GainsNodes old t
  pub left : AreVectors old ks js
  pub formula : IsFormula t l
  pub term : less_from term_gates (trees_at old ks) (trees_at old js) (tree t l) ≡ u

-- two vectors aren't equal
abbrev pub differ_in : Formulas → List NodeId → Bor (List NodeId) → Term
differ_in t ks js = inverse term_gates (equal term_gates (trees_at t ks) (trees_at t js.now))

-- no two of these are equal
abbrev pub apart_in : Formulas → List (Bor (List NodeId)) → List Term
apart_in t xs = apart term_gates (map (λ x. trees_at t x.now) xs)

-- that this vector isn't equal to any of some others, made one after the other: these are left
pub record MakesUnequal (old t : Formulas) (ks : List NodeId) (left : List (Bor (List NodeId))) (made : List NodeId) (all : List Term) : Type 0 where
  pub gains : GainsNodes old t
  pub bits : AreFirst t made (map (differ_in old ks) left) all

-- that no two of some vectors are equal, made one vector after the other: these are left
pub record MakesApart (old t : Formulas) (left : List (Bor (List NodeId))) (made : List NodeId) (all : List Term) : Type 0 where
  pub gains : GainsNodes old t
  pub bits : AreFirst t made (apart_in old left) all
