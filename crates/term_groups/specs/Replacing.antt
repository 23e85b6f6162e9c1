-- What becomes of the nodes of a formula where constants take the places of terms.
use Rattle.std.specs.Prelude.{◌≡◌, ◌<◌, Bool, true, false, not, List, [], ◌∷◌, ◌++◌, map, Some, None, All}
use Rattle.term_walk.specs.Binders.{is_quantified}
use Rattle.quantifier_forms.specs.Memos.{Results, result_in, known_in}
use Rattle.quantifier_forms.specs.Rebuilding.{IsLike}
use Rattle.smt_terms.specs.declared.ids.NodeId.{NodeId}
use Rattle.smt_terms.specs.Groups.{Named, has_term, constant_for, with_constants}
use Rattle.smt_terms.specs.Term.{Term, constant}
use Rattle.term_groups.specs.declared.constants.Constants.{Constants}
use Rattle.term_groups.specs.Grouping.{terms_of}
use Rattle.term_groups.specs.Parts.{operands_of}
use Rattle.term_groups.specs.Seen.{named_at, ArePairs}
use Rattle.term_table.specs.Formulas.{Formulas, tree, trees_at, operands, IsNode, AreNodes}

-- whether the operands of a term are looked at
abbrev pub is_open : Term → Bool
is_open t = not (is_quantified t)

-- each term whose operands are looked at stands behind these
abbrev pub AreInOrder : List Term → Type 0
AreInOrder ts = (us : List Term) (t : Term) (vs : List Term) → ts ≡ us ++ t ∷ vs → is_open t ≡ true → All (λ u. has_term us u ≡ true) (operands_of t)

-- no term stands twice
abbrev pub AreApart : List Term → Type 0
AreApart [] = Unit {0}
AreApart (t ∷ ts) = (has_term ts t ≡ false) × AreApart ts

-- constants of the table, each for a wanted term alone, with its own node
pub record AreConstantsFor (t : Formulas) (wanted : Term → Bool) (c : Constants) : Type 0 where
  pub pairs : ArePairs t c.symbols
  pub nodes : AreNodes t c.nodes
  pub terms : trees_at t c.nodes ≡ map (λ n. constant n.0) (named_at t c.symbols)
  pub each : All (λ n. wanted n.1 ≡ true) (named_at t c.symbols)
  pub like : All (λ n. IsLike n.1 (constant n.0)) (named_at t c.symbols)
  pub apart : AreApart (terms_of (named_at t c.symbols))

-- ---- what becomes of nodes

-- the node r is what the constants make of the node k, and may take its place
pub record IsReplaced (t : Formulas) (ns : Named) (k r : NodeId) : Type 0 where
  pub node : IsNode t k
  pub result : IsNode t r
  pub term : tree t r ≡ with_constants ns (tree t k)
  pub like : IsLike (tree t k) (tree t r)

-- of all nodes that have results
abbrev pub AreReplaced : Formulas → Named → Results → Type 0
AreReplaced t ns m = (k r : NodeId) → result_in m 0 k ≡ Some r → IsReplaced t ns k r

-- of the operands of a node that isn't quantified
abbrev pub AreOperandsReplaced : Formulas → Named → Results → NodeId → Type 0
AreOperandsReplaced t ns m id = is_quantified (tree t id) ≡ false → (k : NodeId) → k.0 < id.0 → has_term (operands (tree t id)) (tree t k) ≡ true → IsReplaced t ns k (known_in m 0 k)

-- a node, and its operands
pub record IsDone (t : Formulas) (ns : Named) (m : Results) (id : NodeId) : Type 0 where
  pub itself : IsReplaced t ns id (known_in m 0 id)
  pub operands : AreOperandsReplaced t ns m id

-- those of these nodes that have constants have results, and all results are right
pub record AreStarted (t : Formulas) (ns : Named) (m : Results) (ks : List NodeId) : Type 0 where
  pub replaced : AreReplaced t ns m
  pub missing : All (λ k. result_in m 0 k ≡ None → constant_for ns (tree t k) ≡ None) ks

abbrev pub AreStartedForSome : Formulas → Results → List NodeId → Type 0
AreStartedForSome t m ks = (ns : Named) × AreStarted t ns m ks

-- ---- results that may take the places of their nodes

pub record IsFit (t : Formulas) (m : Results) (k : NodeId) : Type 0 where
  pub result : IsNode t (known_in m 0 k)
  pub like : IsLike (tree t k) (tree t (known_in m 0 k))

-- of the operands of a node that isn't quantified
abbrev pub AreOperandsFit : Formulas → Results → NodeId → Type 0
AreOperandsFit t m id = is_quantified (tree t id) ≡ false → (k : NodeId) → k.0 < id.0 → has_term (operands (tree t id)) (tree t k) ≡ true → IsFit t m k
