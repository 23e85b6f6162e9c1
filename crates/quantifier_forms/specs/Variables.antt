-- Variables as the nodes of their constants.
use Rattle.std.specs.Prelude.{◌≡◌, List, map}
use Rattle.smt_terms.specs.declared.ids.NodeId.{NodeId}
use Rattle.smt_terms.specs.Sorts.{Variable}
use Rattle.smt_terms.specs.Term.{variable}
use Rattle.term_table.specs.Formulas.{Formulas, trees_at, AreNodes}

pub record AreVariables (t : Formulas) (ks : List NodeId) (xs : List Variable) : Type 0 where
  pub nodes : AreNodes t ks
  pub terms : trees_at t ks ≡ map variable xs
