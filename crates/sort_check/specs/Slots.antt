-- Where the name of a written operator is looked up: a name goes to a slot, and a slot to the place of an operator.
use Rattle.std.specs.Prelude.{ℕ, ◌+◌, ◌-◌, ◌*◌, ◌%◌, min, List, length, get_or, codes, Option, Some, None, cond}
use Rattle.smt_terms.specs.Equal.{name_eq}
use Rattle.smt_terms.specs.Sorts.{Name}
use Rattle.smt_terms.specs.declared.op.Op.TheVariants.{Not}
use Rattle.smt_terms.specs.Written.{Indexed, without_index, plain}

unfoldable pub slot : Name → ℕ
slot n = (6 * get_or n (length n - 1) 0 + get_or n (length n - 2) 0 + 27 * get_or n (min (length n - 1) 2) 0 + 42 * (length n % 128)) % 128

abbrev pub place_by : List ℕ → Name → ℕ
place_by places n = get_or places (slot n) 0

abbrev pub no_operator : Name × Indexed
no_operator = (codes "", without_index (plain Not))

-- the operator at a place, if it has this name
abbrev pub named_at : List (Name × Indexed) → ℕ → Name → Option Indexed
named_at ps k n = cond (name_eq (get_or ps k no_operator).0 n) (Some (get_or ps k no_operator).1) None
