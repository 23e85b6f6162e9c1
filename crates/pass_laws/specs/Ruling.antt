-- Commands whose assertions a book of stored rules has rewritten.
use Rattle.std.specs.Prelude.{◌≡◌, List, [], ◌∷◌}
use Rattle.smt_terms.specs.Sorts.{Name}
use Rattle.smt_terms.specs.Term.{Term}
use Rattle.rule_book.specs.Rewriting.{Rewrites}
use Rattle.script_read.specs.Commands.{Command, assert}

abbrev pub RewritesCommand : List Name → Command Term → Command Term → Type 0
RewritesCommand ns (assert i t) d = (u : Term) × ((d ≡ assert i u) × Rewrites ns t u)
RewritesCommand ns c d = d ≡ c

abbrev pub RewritesCommands : List Name → List (Command Term) → List (Command Term) → Type 0
RewritesCommands ns [] [] = Unit {0}
RewritesCommands ns (c ∷ cs) (d ∷ ds) = RewritesCommand ns c d × RewritesCommands ns cs ds
RewritesCommands ns _ _ = ⊥
