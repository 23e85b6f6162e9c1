-- Literals as nodes.
use Rattle.std.specs.Prelude.{◌≡◌, Option, Some, None}
use Rattle.smt_terms.specs.declared.ids.NodeId.{NodeId}
use Rattle.smt_terms.specs.Rank.{sort_of}
use Rattle.smt_terms.specs.Sorts.{bool}
use Rattle.term_table.specs.Formulas.{Formulas, tree, IsNode}
use Rattle.script_terms.specs.declared.scopes.Entry.{Entry}
use Rattle.script_terms.specs.declared.scopes.Entry.TheVariants.{Constant as ConstantEntry}
use Rattle.script_terms.specs.declared.locals.Constant.{Constant}

-- a node of sort Bool
pub record IsBoolean (t : Formulas) (k : NodeId) : Type 0 where
  pub node : IsNode t k
  pub sort : sort_of (tree t k) ≡ Some bool

-- the constant that a name is declared as
abbrev pub constant_of_entry : Option Entry → Option Constant
constant_of_entry (Some (ConstantEntry c)) = Some c
constant_of_entry _ = None
