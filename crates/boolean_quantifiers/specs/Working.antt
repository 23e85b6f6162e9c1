-- What a pass keeps of the constants that it replaced.
use Rattle.std.specs.Prelude.{◌≡◌, ℕ, ◌<◌, ◌≤◌, true, List, [], ◌∷◌, length, get_or, None}
use Rattle.smt_terms.specs.declared.ids.NodeId.{NodeId}
use Rattle.smt_terms.specs.Sorts.{bool, Variable}
use Rattle.smt_terms.specs.Term.{variable}
use Rattle.term_table.specs.Formulas.{Formulas, tree, IsNode}
use Rattle.term_walk.specs.FreeLists.{has_node}
use Rattle.quantifier_forms.specs.Memos.{Results, result_in}
use Rattle.boolean_quantifiers.specs.declared.work.Case.{Case}
use Rattle.boolean_quantifiers.specs.declared.work.Work.{Work}
use Rattle.boolean_quantifiers.specs.Occurrences.{AreTrue}
use Rattle.boolean_quantifiers.specs.Replacing.{Pairs, AreImages, ArePut}

-- a variable, as the node of its constant
pub record IsVariable (t : Formulas) (k : NodeId) : Type 0 where
  pub node : IsNode t k
  pub named : Variable
  pub is : tree t k ≡ variable named

-- a Bool variable
pub record IsTruthVariable (t : Formulas) (k : NodeId) : Type 0 where
  pub node : IsNode t k
  pub named : Variable
  pub is : tree t k ≡ variable named
  pub sort : named.sort ≡ bool

abbrev pub single : Case → Pairs
single c = (c.variable, c.image) ∷ []

-- the results in each version are those of its case
pub record AreCases (t : Formulas) (cs : List Case) (m : Results) : Type 0 where
  pub images : (v : ℕ) (d : Case) → v < length cs → AreImages t (single (get_or cs v d))
  pub put : (v : ℕ) (d : Case) → v < length cs → ArePut t (single (get_or cs v d)) m v
  pub unused : (v : ℕ) (k : NodeId) → length cs ≤ v → result_in m v k ≡ None

pub record IsWork (t : Formulas) (w : Work) : Type 0 where
  pub notes : AreTrue t w.occurrences.candidates.keys w.occurrences.notes.entries
  pub candidates : (c : NodeId) → has_node w.occurrences.candidates.keys c ≡ true → IsNode t c
  pub cases : AreCases t w.cases.keys w.memo
