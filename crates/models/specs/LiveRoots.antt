-- The roots and the flags of a check. A root is what the check asks of: a live assertion, or a literal of the check. A flag is a Boolean
-- constant, which is a symbol of sort Bool without arguments.
use Rattle.std.specs.Prelude.{ℕ, Bool, true, false, List, [], map, filter}
use Rattle.smt_terms.specs.Sorts.{Sort, bool, Symbol}
use Rattle.smt_terms.specs.Term.{Term}
use Rattle.script_read.specs.Commands.{Command, signature}
use Rattle.models.specs.LiveTerms.{live_terms}

-- what is live at check k, in order, and then the literals of that check
abbrev pub roots : List (Command Term) → ℕ → List Term
roots cs k = map (λ r. r.0) (live_terms cs k)

abbrev pub is_flag_over : List Sort → Sort → Bool
is_flag_over [] bool = true
is_flag_over _ _ = false

abbrev pub is_flag : Symbol → Bool
is_flag f = is_flag_over f.args f.result

-- the flags that are declared at check k, in order of declaration
abbrev pub flags : List (Command Term) → ℕ → List Symbol
flags cs k = filter is_flag (signature cs k).symbols
