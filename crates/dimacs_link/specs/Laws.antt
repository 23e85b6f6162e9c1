-- Statements of the laws of clauses: what truth values of the constants say of them is what models say of the roots.
use Rattle.std.specs.Prelude.{◌≡◌, ℕ, ◌-◌, Bool, true, false, List, length, slice_index_or, All}
use Rattle.std.specs.Bool.{beq}
use Rattle.std.specs.List.{list_any, list_all}
use Rattle.smt_terms.specs.Models.{Model, IsModelOver}
use Rattle.smt_terms.specs.Sorts.{Symbol}
use Rattle.smt_terms.specs.Term.{Term}
use Rattle.smt_terms.specs.Val.{no_variables, val}
use Rattle.smt_terms.specs.Values.{is_true}
use Rattle.script_read.specs.Commands.{Signature}
use Rattle.dimacs_link.specs.declared.literals.Literal.{Literal}
use Rattle.dimacs_link.specs.AnswerModels.{AreFlags, answered, truths_in}
use Rattle.dimacs_link.specs.Clauses.{is_clause, clauses}
use Rattle.dimacs_link.specs.Constants.{are_distinct}

-- ---- clauses under truth values of the constants, the first of which has the number 1

abbrev pub constant_value : List Bool → ℕ → Bool
constant_value vs n = slice_index_or vs (n - 1) false

abbrev pub literal_value : List Bool → Literal → Bool
literal_value vs l = beq l.positive (constant_value vs l.constant)

abbrev pub clause_value : List Bool → List Literal → Bool
clause_value vs ls = list_any (literal_value vs) ls

abbrev pub satisfies : List Bool → List (List Literal) → Bool
satisfies vs cs = list_all (clause_value vs) cs

-- ---- terms in a model

abbrev pub holds : Model → Term → Bool
holds m t = is_true (val m t no_variables)

abbrev pub all_hold : Model → List Term → Bool
all_hold m ts = list_all (holds m) ts

abbrev pub AreClauses : List Symbol → List Term → Type 0
AreClauses cs roots = All (λ t. is_clause cs t ≡ true) roots

-- ---- the laws

-- The model that truth values stand for is one of what is declared, and all roots hold there exactly where the values satisfy the
-- clauses.
abbrev pub AnswersAreModels : Type 0
AnswersAreModels = (sig : Signature) (cs : List Symbol) (vs : List Bool) (roots : List Term) → AreFlags sig.symbols cs → are_distinct cs ≡ true → length vs ≡ length cs → AreClauses cs roots
    → IsModelOver sig.sorts sig.symbols (answered sig cs vs) × (all_hold (answered sig cs vs) roots ≡ satisfies vs (clauses cs roots))

-- And all roots hold in a model exactly where the truth values of the constants there satisfy the clauses.
abbrev pub ModelsAreAnswers : Type 0
ModelsAreAnswers = (m : Model) (cs : List Symbol) (roots : List Term) → AreClauses cs roots → all_hold m roots ≡ satisfies (truths_in m cs) (clauses cs roots)
