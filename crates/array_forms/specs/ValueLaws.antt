-- What holds of the term of a value.
use Rattle.std.specs.Prelude.{◌≡◌, Bool, true, false, not, ◌||◌, [], Some, IfSome, is_some, IsTrue}
use Rattle.smt_terms.specs.Sorts.{Sort}
use Rattle.smt_terms.specs.Term.{Term}
use Rattle.smt_terms.specs.Free.{free}
use Rattle.smt_terms.specs.Models.{Model}
use Rattle.smt_terms.specs.Rank.{sort_of, is_sort, IsWellSorted}
use Rattle.smt_terms.specs.Val.{Env, val, within_range}
use Rattle.smt_terms.specs.Values.{Value, whole, element, table, Pairs, no_pairs, pair, Sizes, is_value}
use Rattle.array_forms.specs.ValueTerm.{value_term}

-- an element of a free sort, or a whole number outside the range
abbrev pub has_no_constant : Value → Bool
has_no_constant (element i) = true
has_no_constant (whole n) = not (within_range n)
has_no_constant _ = false

-- whether such a value stands anywhere in a value, be it as a default, a key or what stands at a key
abbrev mutual
  pub holds_no_constant : Value → Bool
  holds_no_constant (table d ps) = holds_no_constant d || pairs_hold_no_constant ps
  holds_no_constant v = has_no_constant v

  pub pairs_hold_no_constant : Pairs → Bool
  pairs_hold_no_constant no_pairs = false
  pairs_hold_no_constant (pair k v ps) = (holds_no_constant k || holds_no_constant v) || pairs_hold_no_constant ps

-- a closed term of this sort that has this very value in every model
pub record Denotes (s : Sort) (v : Value) (t : Term) : Type 0 where
  pub sorted : IsWellSorted t
  pub sort : sort_of t ≡ Some s
  pub closed : free t ≡ []
  pub value : (m : Model) (e : Env) → val m t e ≡ v

-- the term of a value denotes it, and there is one exactly where nothing in the value is without a constant
abbrev pub TermsDenoteValues : Type 0
TermsDenoteValues = (s : Sort) (sizes : Sizes) (v : Value) → IsTrue (is_sort s) → IsTrue (is_value s sizes v)
    → IfSome (value_term s v) (Denotes s v) × (is_some (value_term s v) ≡ not (holds_no_constant v))
