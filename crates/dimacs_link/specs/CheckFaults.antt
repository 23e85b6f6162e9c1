-- The fault of a check that isn't written as clauses, and of live terms by their places.
use Rattle.std.specs.Prelude.{◌≡◌, ℕ, ◌<◌, List, map, length, get_or, Some}
use Rattle.smt_terms.specs.declared.ids.NodeId.{NodeId}
use Rattle.smt_terms.specs.Term.{Term}
use Rattle.script_read.specs.Commands.{Command}
use Rattle.dimacs_link.specs.declared.checks.LinkCheckFault.{LinkCheckFault}
use Rattle.dimacs_link.specs.declared.checks.LinkCheckFault.TheVariants as check
use Rattle.dimacs_link.specs.declared.clauses.LinkFault.{LinkFault}
use Rattle.dimacs_link.specs.declared.clauses.LinkFault.TheVariants.{NotClauses, Memory}
use Rattle.dimacs_link.specs.Checks.{unlinked_root}

-- memory may be wanting anywhere
abbrev pub IsLinkCheckFault : List (Command Term) → ℕ → LinkCheckFault → Type 0
IsLinkCheckFault cs k (check.NotClauses assertion) = unlinked_root cs k ≡ Some assertion
IsLinkCheckFault cs k check.Memory = Unit {0}

-- ---- by places

-- one of these stands at the place
abbrev pub IsPlaceIn : List (NodeId × ℕ) → LinkFault → Type 0
IsPlaceIn ls (NotClauses place) = place < length ls
IsPlaceIn ls Memory = Unit {0}

-- the fault with the number that stands at the place
abbrev pub fault_at : List (NodeId × ℕ) → LinkFault → LinkCheckFault
fault_at ls (NotClauses place) = check.NotClauses (get_or (map (λ l. l.1) ls) place 0)
fault_at ls Memory = check.Memory
