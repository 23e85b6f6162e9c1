-- What is reached from the root of a formula through `and` and `or` alone.
use Rattle.std.specs.Prelude.{◌≡◌, ℕ, ◌<◌, ◌⊎◌, Bool, true, false, List, [], ◌∷◌, All, Option, Some, None, length, get_or, take}
use Rattle.smt_terms.specs.declared.ids.NodeId.{NodeId}
use Rattle.smt_terms.specs.Connectives.{Kind, conjunction, disjunction, kind_of}
use Rattle.smt_terms.specs.Groups.{has_term}
use Rattle.smt_terms.specs.Term.{universal, Term, apply, quantified}
use Rattle.term_table.specs.Formulas.{Formulas, tree, trees_at, operands, IsNode, AreNodes}
use Rattle.term_walk.specs.FreeLists.{has_node}
use Rattle.normal_forms.specs.Nodes.{IsFormula}
use Rattle.normal_forms.specs.Prenex.{Quantified, or_next, leftmost}
use Rattle.term_walk.specs.Binders.{is_quantified}

abbrev pub is_joint : Kind → Bool
is_joint conjunction = true
is_joint disjunction = true
is_joint _ = false

-- an `and` or an `or`
abbrev pub is_junction : Term → Bool
is_junction (apply h ts) = is_joint (kind_of h ts)
is_junction (quantified q xs body) = false

-- a quantified term in its parts
abbrev pub parts_of : Term → Quantified
parts_of (quantified q xs body) = record { quantifier = q; variables = xs; body = body }
parts_of (apply h ts) = record { quantifier = universal; variables = []; body = apply h ts }

abbrev pub quantified_itself : Term → Option Quantified
quantified_itself (quantified q xs body) = Some (record { quantifier = q; variables = xs; body = body })
quantified_itself (apply h ts) = None

-- the first of these terms that is quantified
abbrev pub first_quantified : List Term → Option Quantified
first_quantified [] = None
first_quantified (t ∷ ts) = or_next (quantified_itself t) (first_quantified ts)

-- ---- nodes

-- a node of a quantified formula
pub record IsBinder (t : Formulas) (k : NodeId) : Type 0 where
  pub formula : IsFormula t k
  pub quantified : is_quantified (tree t k) ≡ true

-- a node from which no quantified formula is reached
pub record IsBare (t : Formulas) (k : NodeId) : Type 0 where
  pub node : IsNode t k
  pub none_reached : leftmost (tree t k) ≡ None

abbrev pub AreBare : Formulas → List NodeId → Type 0
AreBare t ks = All (IsBare t) ks

-- what is reached from the root, but for the nodes that are known to be bare, in an order in which each stands behind its
-- operands
pub record AreReached (t : Formulas) (bare : List NodeId) (root : NodeId) (ks : List NodeId) : Type 0 where
  pub nodes : AreNodes t ks
  pub each : (i : ℕ) (d k : NodeId) → i < length ks → is_junction (tree t (get_or ks i d)) ≡ true → k.0 < (get_or ks i d).0 → has_term (operands (tree t (get_or ks i d))) (tree t k) ≡ true
      → (has_node bare k ≡ true) ⊎ (has_node (take i ks) k ≡ true)
  pub root_too : (has_node bare root ≡ true) ⊎ (has_node ks root ≡ true)
  pub first : first_quantified (trees_at t ks) ≡ leftmost (tree t root)
