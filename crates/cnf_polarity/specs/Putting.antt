-- Formulas that are put behind others, and the clauses of names.
use Rattle.std.specs.Prelude.{◌≡◌, List, ◌++◌, flat_map, All}
use Rattle.smt_terms.specs.declared.ids.NodeId.{NodeId}
use Rattle.smt_terms.specs.Groups.{Named}
use Rattle.smt_terms.specs.Term.{Term}
use Rattle.term_table.specs.Formulas.{Formulas, trees_at}
use Rattle.normal_forms.specs.Nodes.{IsFormula}
use Rattle.cnf_polarity.specs.Cnf.{Occurrence, clauses}

-- nodes of these formulas came behind those that were there
pub record Puts (old new : Formulas) (before after : List NodeId) (ts : List Term) : Type 0 where
  pub formulas : All (IsFormula new) after
  pub terms : trees_at new after ≡ trees_at old before ++ ts

-- the clauses of these names, where a formula's names and occurrences are given
abbrev pub all_clauses : Named → List Occurrence → Named → List Term
all_clauses ns os ms = flat_map (λ n. clauses ns os n.0 n.1) ms
