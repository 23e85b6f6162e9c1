-- The check of a script over bit vectors as a script over truth values: declarations of the truth values that are declared at the
-- check and of the new ones, what is made of each live assertion and of each literal of the check, and a check. SMT-LIB 2.6,
-- section 4.2.
use Rattle.std.specs.Prelude.{ℕ, suc, List, [], ◌∷◌, ◌++◌, map, Option, Some, None, if◌then◌else◌}
use Rattle.smt_terms.specs.Fresh.{Supply}
use Rattle.smt_terms.specs.Groups.{Grouped, Named}
use Rattle.smt_terms.specs.Models.{Model}
use Rattle.smt_terms.specs.Term.{Term}
use Rattle.script_read.specs.Commands.{Command, declare, assert, check, signature}
use Rattle.models.specs.LiveRoots.{roots, flags}
use Rattle.models.specs.LiveTerms.{live_terms}
use Rattle.bit_blast.specs.Blasted.{is_bits, blasted}
use Rattle.bit_blast.specs.Carried.{lifted, lowered}

-- ---- what is blasted

abbrev pub root_group : List (Command Term) → ℕ → Supply → Grouped
root_group cs k s = blasted (roots cs k) s

-- the new constants, each with the bit that it stands for
abbrev pub new_bits : List (Command Term) → ℕ → Supply → Named
new_bits cs k s = (root_group cs k s).group.symbols

-- the number of the first of these that isn't a formula of bits
abbrev pub first_refused : List (Term × ℕ) → Option ℕ
first_refused [] = None
first_refused (r ∷ rs) = if is_bits r.0 then first_refused rs else Some r.1

abbrev pub refused_root : List (Command Term) → ℕ → Option ℕ
refused_root cs k = first_refused (live_terms cs k)

-- ---- the commands

-- these terms asserted, the first with this number
abbrev pub asserting : ℕ → List Term → List (Command Term)
asserting i [] = []
asserting i (t ∷ ts) = assert i t ∷ asserting (suc i) ts

-- of check k, with the supply of names
abbrev pub blasted_script : List (Command Term) → ℕ → Supply → List (Command Term)
blasted_script cs k s =
    map declare (flags cs k) ++ map (λ n. declare n.0) (new_bits cs k s) ++ asserting 1 (root_group cs k s).group.asserts ++ check ∷ []

-- ---- models

-- a model of the script over truth values as one of what is declared at check k, and the other way round
abbrev pub lifted_model : List (Command Term) → ℕ → Supply → Model → Model
lifted_model cs k s m = lifted (signature cs k).symbols (new_bits cs k s) m

abbrev pub lowered_model : List (Command Term) → ℕ → Supply → Model → Model
lowered_model cs k s n = lowered (signature cs k).symbols (new_bits cs k s) n
