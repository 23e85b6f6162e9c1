-- Constants that are drawn for the terms of nodes of a table.
use Rattle.std.specs.Prelude.{◌≡◌, unwrap_or}
use Rattle.smt_terms.specs.declared.ids.NodeId.{NodeId}
use Rattle.smt_terms.specs.declared.ids.SymId.{SymId}
use Rattle.smt_terms.specs.Fresh.{Supply, after_draw, fresh_constant}
use Rattle.smt_terms.specs.Rank.{sort_of}
use Rattle.smt_terms.specs.Sorts.{bool}
use Rattle.smt_terms.specs.Term.{constant}
use Rattle.term_table.specs.Formulas.{Formulas, symbol_at, tree, IsNode, IsSymbol}

-- f is the constant that the supply gives for the term of this node, and k is its own node
pub record IsDrawnFor (old new : Formulas) (id : NodeId) (f : SymId) (k : NodeId) (s left : Supply) : Type 0 where
  pub within : IsSymbol new f
  pub symbol : symbol_at new f ≡ fresh_constant (unwrap_or (sort_of (tree old id)) bool) s
  pub node : IsNode new k
  pub term : tree new k ≡ constant (symbol_at new f)
  pub names : left ≡ after_draw s
