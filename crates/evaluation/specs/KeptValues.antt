-- What is kept of nodes from one call to the next, and while a formula is valued.
use Rattle.std.specs.Prelude.{◌≡◌, false, true, ℕ, ◌<◌, ◌==◌, List, [], ◌∷◌, length, get_or, max, Bool, is_some, unwrap_or, Option, Some, None, IsSome, if◌then◌else◌}
use Rattle.smt_terms.specs.declared.ids.NodeId.{NodeId}
use Rattle.smt_terms.specs.Groups.{has_term}
use Rattle.smt_terms.specs.Models.{Model}
use Rattle.smt_terms.specs.Term.{Term}
use Rattle.smt_terms.specs.Val.{Env, no_variables, bits_bound}
use Rattle.smt_values.specs.Meaning.{IsHeld}
use Rattle.smt_values.specs.declared.value.Value.{Value}
use Rattle.term_table.specs.Formulas.{Formulas, tree, operands, IsNode}
use Rattle.term_walk.specs.declared.kept.Place.{Place}
use Rattle.term_walk.specs.Binders.{is_quantified}
use Rattle.term_walk.specs.Places.{result_at}
use Rattle.term_walk.specs.Walking.{Fits}
use Rattle.evaluation.specs.Evaluated.{told_bits, IsValueOf}

-- the bits that are bound on a path, at most
abbrev pub KeepsBounds : Formulas → List (Place ℕ) → Type 0
KeepsBounds t ks = Fits (λ _ u b. b ≡ told_bits (bits_bound u)) t ks

-- values where no variable is bound
abbrev pub KeepsValues : Formulas → Model → List (Place Value) → Type 0
KeepsValues t m ks = Fits (λ _ u v. IsValueOf m no_variables u v) t ks

-- nodes that have a value keep one
abbrev pub StayKept : List (Place Value) → List (Place Value) → Type 0
StayKept old new = (k : NodeId) → IsSome (result_at old k.0) → IsSome (result_at new k.0)

-- ---- values that were kept before, and those that were found since

abbrev pub Found : Type 0
Found = List (NodeId × Value)

abbrev pub found_at : Found → NodeId → Option Value
found_at [] k = None
found_at (p ∷ ps) k = if k.0 == p.0.0 then Some p.1 else found_at ps k

abbrev pub or_kept : Option Value → Option Value → Option Value
or_kept (Some v) o = Some v
or_kept None o = o

abbrev pub known_at : List (Place Value) → Found → NodeId → Option Value
known_at ks ps k = or_kept (found_at ps k) (result_at ks k.0)

-- each value has its numbers in range
abbrev pub AreHeld : List (Place Value) → Found → Type 0
AreHeld ks ps = (k : NodeId) (v : Value) → known_at ks ps k ≡ Some v → IsHeld v

-- each value is that of its node, where the variables are these
abbrev pub AreFound : Formulas → Model → Env → List (Place Value) → Found → Type 0
AreFound t m e ks ps = (k : NodeId) (v : Value) → known_at ks ps k ≡ Some v → IsNode t k × IsValueOf m e (tree t k) v

-- nodes with a value keep one
abbrev pub StayKnown : List (Place Value) → Found → Found → Type 0
StayKnown ks old new = (k : NodeId) → IsSome (known_at ks old k) → IsSome (known_at ks new k)

-- these are values of the nodes, one for each
pub record AreValuesOf (t : Formulas) (m : Model) (e : Env) (ks : List NodeId) (vs : List Value) : Type 0 where
  pub count : length vs ≡ length ks
  pub each : (i : ℕ) (d : NodeId) (v : Value) → i < length vs → IsValueOf m e (tree t (get_or ks i d)) (get_or vs i v)

-- each operand of a term that is no quantifier has a value
abbrev pub AreKnown : Formulas → List (Place Value) → Found → Term → Type 0
AreKnown t ks ps u = (k : NodeId) → is_quantified u ≡ false → IsNode t k → has_term (operands u) (tree t k) ≡ true → IsSome (known_at ks ps k)

-- ---- bounds

abbrev pub has_bound : List (Place ℕ) → NodeId → Bool
has_bound ks k = is_some (result_at ks k.0)

abbrev pub greatest_at : List (Place ℕ) → List NodeId → ℕ
greatest_at ks [] = 0
greatest_at ks (k ∷ is) = max (unwrap_or (result_at ks k.0) 0) (greatest_at ks is)

-- each operand of a term has a bound
abbrev pub AreBounded : Formulas → List (Place ℕ) → Term → Type 0
AreBounded t ks u = (k : NodeId) → IsNode t k → has_term (operands u) (tree t k) ≡ true → has_bound ks k ≡ true
