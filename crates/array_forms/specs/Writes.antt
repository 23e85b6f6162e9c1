-- The writes that an array was made by, as nodes of a table.
use Rattle.std.specs.Prelude.{◌≡◌, ◌<◌, List, [], ◌∷◌, Option}
use Rattle.smt_terms.specs.declared.ids.NodeId.{NodeId}
use Rattle.smt_terms.specs.ArrayTerms.{stored}
use Rattle.smt_terms.specs.Rank.{sort_of}
use Rattle.smt_terms.specs.Sorts.{Sort}
use Rattle.smt_terms.specs.Term.{Term}
use Rattle.term_table.specs.Formulas.{Formulas, tree, IsNode}
use Rattle.array_forms.specs.declared.reading.Write.{Write}
use Rattle.array_forms.specs.Reads.{where_equal}

-- the last write of an array
pub record IsLastWrite (t : Formulas) (a : NodeId) (w : Write) : Type 0 where
  pub before : IsNode t w.before
  pub index : IsNode t w.index
  pub value : IsNode t w.value
  pub earlier : w.before.0 < a.0
  pub term : tree t a ≡ stored (tree t w.before) (tree t w.index) (tree t w.value)

-- the last write of an array, where there is one, is at j
abbrev pub EndsAt : Term → Term → Type 0
EndsAt a j = (b i v : Term) → a ≡ stored b i v → i ≡ j

-- what is read at j over these writes, the last of them innermost, where e is read below them
abbrev pub over_writes : Formulas → Term → List Write → Term → Term
over_writes t j [] e = e
over_writes t j (w ∷ ws) e = where_equal (tree t w.index) j (tree t w.value) (over_writes t j ws e)

-- a write that may be asked for j, of an element of sort s
pub record Suits (t : Formulas) (j : Term) (s : Option Sort) (w : Write) : Type 0 where
  pub index : IsNode t w.index
  pub value : IsNode t w.value
  pub index_sort : sort_of (tree t w.index) ≡ sort_of j
  pub value_sort : sort_of (tree t w.value) ≡ s
