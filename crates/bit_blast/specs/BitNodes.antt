-- Bits as nodes of a table: formulas, the lowest bit first.
use Rattle.std.specs.Prelude.{◌≡◌, List, All}
use Rattle.smt_terms.specs.declared.ids.NodeId.{NodeId}
use Rattle.smt_terms.specs.declared.op.Op.{Op}
use Rattle.smt_terms.specs.declared.op.Op.TheVariants.{And, Or, Xor, Equal}
use Rattle.smt_terms.specs.Term.{Term}
use Rattle.term_table.specs.Formulas.{Formulas, trees_at}
use Rattle.normal_forms.specs.Nodes.{IsFormula}
use Rattle.bit_blast.specs.Circuits.{Division}
use Rattle.bit_blast.specs.declared.gates.Gate.{Gate}
use Rattle.bit_blast.specs.declared.gates.Gate.TheVariants.{Both, Either, Differ, Alike}
use Rattle.bit_blast.specs.declared.division.Divided.{Divided}

-- these nodes are those of these formulas
pub record AreBits (t : Formulas) (ks : List NodeId) (us : List Term) : Type 0 where
  pub formulas : All (IsFormula t) ks
  pub terms : trees_at t ks ≡ us

-- the quotient and the rest of a division
pub record AreDivided (t : Formulas) (d : Divided) (v : Division Term) : Type 0 where
  pub quotient : AreBits t d.quotient.items v.quotient
  pub rest : AreBits t d.rest.items v.rest

abbrev pub gate_op : Gate → Op
gate_op Both = And
gate_op Either = Or
gate_op Differ = Xor
gate_op Alike = Equal
