-- The literals that are kept of the nodes of a formula's connective part.
use Rattle.std.specs.Prelude.{◌≡◌, ◌<◌, true, false, List, [], ◌∷◌}
use Rattle.smt_terms.specs.declared.ids.NodeId.{NodeId}
use Rattle.smt_terms.specs.Groups.{Named, has_term}
use Rattle.smt_terms.specs.Shapes.{is_negation}
use Rattle.smt_terms.specs.Sorts.{Symbol}
use Rattle.smt_terms.specs.Term.{symbol, Term, apply, constant}
use Rattle.term_table.specs.Formulas.{Formulas, no_symbol, tree, operands}
use Rattle.term_groups.specs.Parts.{AreParts}
use Rattle.quantifier_forms.specs.Memos.{Results, known_in}
use Rattle.normal_forms.specs.Nodes.{IsFormula}
use Rattle.cnf_polarity.specs.Cnf.{literal}
use Rattle.cnf_polarity.specs.Shapes.{has_connective}

-- the connective part of some formula, each part behind its operands
abbrev pub IsPartOrder : List Term → Type 0
IsPartOrder ts = (root : Term) × AreParts has_connective root ts

-- the symbol of a constant
abbrev pub symbol_in : Term → Symbol
symbol_in (apply (symbol f) ts) = f
symbol_in t = no_symbol

-- the node of a constant that is a formula
pub record IsName (t : Formulas) (n : NodeId) : Type 0 where
  pub formula : IsFormula t n
  pub constant : tree t n ≡ constant (symbol_in (tree t n))

-- the constants of these names, each with the term of the node at its place
abbrev pub names_at : Formulas → List NodeId → List NodeId → Named
names_at t (k ∷ ks) (n ∷ ns) = (symbol_in (tree t n), tree t k) ∷ names_at t ks ns
names_at t _ _ = []

-- what is kept of this node, or else the node itself, is its literal
pub record HasLiteral (t : Formulas) (ns : Named) (ps : Results) (k : NodeId) : Type 0 where
  pub formula : IsFormula t (known_in ps 0 k)
  pub term : tree t (known_in ps 0 k) ≡ literal ns (tree t k)

-- what is kept of the nodes of k's operands, which stand before it, are formulas
abbrev pub HaveFormulas : Formulas → Results → NodeId → Type 0
HaveFormulas t ps k = (j : NodeId) → j.0 < k.0 → has_term (operands (tree t k)) (tree t j) ≡ true → IsFormula t (known_in ps 0 j)

-- and are their literals
abbrev pub HaveLiterals : Formulas → Named → Results → NodeId → Type 0
HaveLiterals t ns ps k = (j : NodeId) → j.0 < k.0 → has_term (operands (tree t k)) (tree t j) ≡ true → HasLiteral t ns ps j

-- a `not` whose operand has its literal, or a node that has its own
pub record IsReady (t : Formulas) (ns : Named) (ps : Results) (k : NodeId) : Type 0 where
  pub below : is_negation (tree t k) ≡ true → HaveLiterals t ns ps k
  pub here : is_negation (tree t k) ≡ false → HasLiteral t ns ps k

abbrev pub IsReadyForSome : Formulas → Results → NodeId → Type 0
IsReadyForSome t ps k = (ns : Named) × IsReady t ns ps k
