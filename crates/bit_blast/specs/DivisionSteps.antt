-- A step of a division.
use Rattle.std.specs.Prelude.{◌≡◌, List}
use Rattle.smt_terms.specs.Term.{Term}
use Rattle.term_table.specs.Formulas.{Formulas, tree}
use Rattle.normal_forms.specs.Nodes.{IsFormula}
use Rattle.bit_blast.specs.declared.division.Step.{Step}
use Rattle.bit_blast.specs.BitNodes.{AreBits}
use Rattle.bit_blast.specs.Blasted.{term_gates}
use Rattle.bit_blast.specs.Circuits.{inverse, chosen, difference, less}

-- of one by d where s is left
pub record IsStep (t : Formulas) (next : Step) (d s : List Term) : Type 0 where
  pub formula : IsFormula t next.bit
  pub bit : tree t next.bit ≡ inverse term_gates (less term_gates s d)
  pub rest : AreBits t next.rest.items (chosen term_gates (inverse term_gates (less term_gates s d)) (difference term_gates s d) s)
