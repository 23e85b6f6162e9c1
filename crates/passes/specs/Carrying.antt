-- What carrying a model over passes answers.
use Rattle.std.specs.Prelude.{◌≡◌, ℕ, ◌<◌, ◌≤◌, ◌==◌, ◌&&◌, ◌⊎◌, Bool, true, List, Result, Ok, Err, Some, None}
use Rattle.std.specs.List.{list_any}
use Rattle.smt_terms.specs.declared.ids.NodeId.{NodeId}
use Rattle.smt_terms.specs.Fresh.{Supply}
use Rattle.smt_terms.specs.Models.{Model, IsModel}
use Rattle.smt_terms.specs.Term.{Term}
use Rattle.smt_terms.specs.Val.{no_variables}
use Rattle.term_table.specs.Formulas.{Formulas, tree, IsNode}
use Rattle.script_read.specs.Commands.{Command, checks}
use Rattle.models.specs.ModelView.{ModelLists, model_at, IsModelOf}
use Rattle.evaluation.specs.Evaluated.{breaks}
use Rattle.pass_laws.specs.declared.names.Pass.{Pass}
use Rattle.passes.specs.declared.carrying.CarryFault.{CarryFault}
use Rattle.passes.specs.declared.carrying.CarryFault.TheVariants.{NoSuchCheck, EvalWidth, Beyond128, Memory}
use Rattle.pass_laws.specs.Carry.{Stage, back, forth, back_stages, forth_stages, too_wide, bits_of_assertion, beyond}

abbrev pub IsCheck : ℕ → List (Command Term) → Type 0
IsCheck k cs = (1 ≤ k) × (k ≤ checks cs)

-- a term of this assertion that must be evaluated has the node as a subterm that leaves the range
abbrev pub breaks_in : Formulas → List Stage → ℕ → NodeId → Bool
breaks_in t stages a k = list_any (λ st. list_any (λ q. (q.number == a) && breaks st.model (tree t k) q.term no_variables) st.asked) stages

-- at check k, with these terms to be evaluated, the answer is this model or a refusal of it
abbrev pub CarriesTo : Formulas → List (Command Term) → ℕ → List Stage → Model → Result ModelLists CarryFault → Type 0
CarriesTo t cs k stages m (Ok r) =
    IsCheck k cs × (too_wide stages ≡ None) × (beyond stages ≡ None) × (model_at t r ≡ m) × IsModelOf t r × IsModel (model_at t r)
CarriesTo t cs k stages m (Err (NoSuchCheck c n)) = (c ≡ k) × (n ≡ checks cs) × ((k ≡ 0) ⊎ (checks cs < k))
CarriesTo t cs k stages m (Err (EvalWidth a bits)) = IsCheck k cs × (too_wide stages ≡ Some a) × (bits ≡ bits_of_assertion a stages)
CarriesTo t cs k stages m (Err (Beyond128 a node)) =
    IsCheck k cs × (too_wide stages ≡ None) × (beyond stages ≡ Some a) × IsNode t node × (breaks_in t stages a node ≡ true)
CarriesTo t cs k stages m (Err Memory) = Unit {0}

abbrev pub CarriesBack : Formulas → List Pass → List (Command Term) → Supply → ℕ → Model → Result ModelLists CarryFault → Type 0
CarriesBack t ps cs s k m result = CarriesTo t cs k (back_stages ps cs s k m) (back ps cs s k m) result

abbrev pub CarriesForth : Formulas → List Pass → List (Command Term) → Supply → ℕ → Model → Result ModelLists CarryFault → Type 0
CarriesForth t ps cs s k m result = CarriesTo t cs k (forth_stages ps cs s k m) (forth ps cs s k m) result
