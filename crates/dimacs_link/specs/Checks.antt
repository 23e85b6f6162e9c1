-- The check of a script whose live assertions are clauses: its DIMACS text, and answers as models of what is declared at the check.
use Rattle.std.specs.Prelude.{◌≡◌, ◌≤◌, ℕ, Bool, List, [], ◌∷◌, length, Option, Some, None, IsTrue, if◌then◌else◌}
use Rattle.smt_terms.specs.Models.{Model, IsModelOver}
use Rattle.smt_terms.specs.Sorts.{Symbol}
use Rattle.smt_terms.specs.Term.{Term}
use Rattle.script_read.specs.Commands.{Command, checks, signature}
use Rattle.script_read.specs.Printable.{printable}
use Rattle.script_read.specs.Satisfied.{sat}
use Rattle.models.specs.LiveRoots.{roots, flags}
use Rattle.models.specs.LiveTerms.{live_terms}
use Rattle.dimacs_link.specs.AnswerModels.{answered, truths_in}
use Rattle.dimacs_link.specs.Clauses.{is_clause, clauses, text_of}
use Rattle.dimacs_link.specs.Laws.{satisfies}

-- ---- what is linked

-- the number of the first of these that isn't a clause
abbrev pub first_other : List Symbol → List (Term × ℕ) → Option ℕ
first_other fs [] = None
first_other fs (r ∷ rs) = if is_clause fs r.0 then first_other fs rs else Some r.1

abbrev pub unlinked_root : List (Command Term) → ℕ → Option ℕ
unlinked_root cs k = first_other (flags cs k) (live_terms cs k)

abbrev pub linked_text : List (Command Term) → ℕ → List ℕ
linked_text cs k = text_of (length (flags cs k)) (clauses (flags cs k) (roots cs k))

-- ---- answers

-- the model of what is declared at the check that truth values of its constants stand for
abbrev pub answered_model : List (Command Term) → ℕ → List Bool → Model
answered_model cs k vs = answered (signature cs k) (flags cs k) vs

abbrev pub satisfies_check : List (Command Term) → ℕ → List Bool → Bool
satisfies_check cs k vs = satisfies vs (clauses (flags cs k) (roots cs k))

-- Truth values satisfy the clauses of check k exactly where the model that they stand for satisfies the check, and a model satisfies the
-- check exactly where the truth values of the constants in it satisfy the clauses.
pub record IsLinked (cs : List (Command Term)) (k : ℕ) : Type 0 where
  pub over : (vs : List Bool) → length vs ≡ length (flags cs k) → IsModelOver (signature cs k).sorts (signature cs k).symbols (answered_model cs k vs)
  pub answers : (vs : List Bool) → length vs ≡ length (flags cs k) → sat (answered_model cs k vs) cs k ≡ satisfies_check cs k vs
  pub models : (m : Model) → sat m cs k ≡ satisfies_check cs k (truths_in m (flags cs k))

abbrev pub ChecksAreLinked : Type 0
ChecksAreLinked = (cs : List (Command Term)) (k : ℕ) → IsTrue (printable cs) → 1 ≤ k → k ≤ checks cs → unlinked_root cs k ≡ None → IsLinked cs k
