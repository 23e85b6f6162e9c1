-- What the loops keep that make nodes from vectors of nodes.
use Rattle.std.specs.Prelude.{◌≡◌, ◌≤◌, ℕ, ◌^◌, min, false, List, [], ◌∷◌, ◌++◌, length, drop, reverse, All}
use Rattle.smt_terms.specs.declared.ids.NodeId.{NodeId}
use Rattle.term_table.specs.Formulas.{Formulas, tree, trees_at}
use Rattle.term_walk.specs.Walking.{GrowsTo}
use Rattle.normal_forms.specs.Nodes.{IsFormula}
use Rattle.bit_blast.specs.declared.shifts.Way.{Way}
use Rattle.bit_blast.specs.BitNodes.{AreBits}
use Rattle.bit_blast.specs.Blasted.{term_gates}
use Rattle.bit_blast.specs.Circuits.{constant, shifted, with_products, product, division}
use Rattle.bit_blast.specs.ShiftWays.{moved}

-- the table only gained nodes
pub record OnlyGains (old new : Formulas) : Type 0 where
  pub grows : GrowsTo old new
  pub symbols : new.symbols ≡ old.symbols
  pub sorts : new.sorts ≡ old.sorts

-- these bits are what the vector a is after the shifts by the first k bits of b
pub record AreShifted (old now : Formulas) (way : Way) (bit : NodeId) (a b : List NodeId) (k distance : ℕ) (bits : List NodeId) : Type 0 where
  pub gains : OnlyGains old now
  pub formulas : All (IsFormula now) bits
  pub width : length bits ≡ length a
  pub near : min distance (length a) ≡ min (2 ^ k) (length a)
  pub terms : shifted term_gates (moved way (tree old bit)) k (drop k (trees_at old b)) (trees_at now bits) ≡ shifted term_gates (moved way (tree old bit)) 0 (trees_at old b) (trees_at old a)

-- the node of `false`
pub record IsFalse (t : Formulas) (k : NodeId) : Type 0 where
  pub formula : IsFormula t k
  pub term : tree t k ≡ constant term_gates false

-- these bits are the sum of the products of a with the first k bits of b
pub record AreProducts (old now : Formulas) (none : NodeId) (a b : List NodeId) (k : ℕ) (total : List NodeId) : Type 0 where
  pub gains : OnlyGains old now
  pub incoming : IsFalse now none
  pub formulas : All (IsFormula now) total
  pub width : length total ≡ length a
  pub terms : with_products term_gates k (trees_at old a) (drop k (trees_at old b)) (trees_at now total) ≡ product term_gates (trees_at old a) (trees_at old b)

-- the division of the bits of a from number k on by b; the bits of the quotient from the highest one on
pub record AreQuotients (old now : Formulas) (a b : List NodeId) (k : ℕ) (divisor bits left : List NodeId) : Type 0 where
  pub gains : OnlyGains old now
  pub within : k ≤ length a
  pub divisor_is : AreBits now divisor (trees_at old b ++ constant term_gates false ∷ [])
  pub quotient : AreBits now (reverse bits) (division term_gates (drop k (trees_at old a)) (trees_at old b)).quotient
  pub rest : AreBits now left (division term_gates (drop k (trees_at old a)) (trees_at old b)).rest
