-- Models while they are lifted, and the bits that nodes are.
use Rattle.std.specs.Prelude.{◌≡◌, ℕ, cond, ◌&&◌, List, [], Some}
use Rattle.std.specs.List.{list_any}
use Rattle.smt_terms.specs.declared.ids.NodeId.{NodeId}
use Rattle.smt_terms.specs.BitVectors.{nat2bv}
use Rattle.smt_terms.specs.Equal.{symbol_eq}
use Rattle.smt_terms.specs.Models.{Model, symbol_value}
use Rattle.smt_terms.specs.Sorts.{Symbol}
use Rattle.smt_terms.specs.Term.{Term}
use Rattle.smt_terms.specs.Values.{bits}
use Rattle.term_table.specs.Formulas.{Formulas, symbol_at, tree, IsSymbol}
use Rattle.models.specs.ModelView.{with_graph}
use Rattle.bit_blast.specs.Blasted.{bit_of, width_of}
use Rattle.bit_blast.specs.Carried.{everywhere}
use Rattle.bit_scripts.specs.declared.lifting.Bit.{Bit}
use Rattle.models.specs.LiveRoots.{is_flag}

-- n with the truth values among these symbols as m has them
abbrev pub with_flags : List Symbol → Model → Model → Model
with_flags fs m n = record {
  sizes = n.sizes;
  graphs = λ f. cond (is_flag f && list_any (symbol_eq f) fs) (Some (everywhere (symbol_value m f []))) (n.graphs f);
  div_by_zero = n.div_by_zero;
  mod_by_zero = n.mod_by_zero;
}

-- n with the bits of this number for a bit vector
abbrev pub with_vector : Symbol → ℕ → Model → Model
with_vector f number n = with_graph f (Some (everywhere (bits (nat2bv (width_of f.result) number)))) n

-- a bit of a constant
pub record HasBit (t : Term) : Type 0 where
  pub constant : Symbol
  pub place : ℕ
  pub is : t ≡ bit_of constant place

-- the node's term is this bit
pub record IsBitAt (t : Formulas) (id : NodeId) (b : Bit) : Type 0 where
  pub symbol : IsSymbol t b.constant
  pub term : tree t id ≡ bit_of (symbol_at t b.constant) b.place
