-- The answers at each step of carrying a model over stages, with the terms that must be evaluated there.
use Rattle.std.proofs.Common.{◌≡◌, ◌∙◌, sym, ap, refl, subst, ℕ, ◌<◌, ◌⊎◌, List, Result, Ok, Err, None}
use Rattle.smt_terms.specs.Models.{Model}
use Rattle.smt_terms.specs.Term.{Term}
use Rattle.term_table.specs.Formulas.{Formulas}
use Rattle.script_read.specs.Commands.{Command, checks}
use Rattle.models.specs.ModelView.{ModelLists}
use Rattle.passes.specs.declared.carrying.CarryFault.{CarryFault}
use Rattle.passes.specs.declared.carrying.CarryFault.TheVariants.{NoSuchCheck, EvalWidth, Beyond128, Memory}
use Rattle.pass_laws.specs.Carry.{Asked, Stage, all_asked}
use Rattle.passes.specs.Carrying.{IsCheck, CarriesTo}
use Rattle.passes.specs.LiveSymbols.{widest_of, bits_among, IsTooWide, Answers}

-- a check that the script hasn't got
pub none_such : (t : Formulas) (cs : List (Command Term)) (k n : ℕ) (stages : List Stage) (m : Model) (e : CarryFault) → n ≡ checks cs → e ≡ NoSuchCheck k n → (k ≡ 0) ⊎ (n < k) → CarriesTo t cs k stages m (Err e)
none_such t cs k n stages m e count is outside =
    subst (λ f. CarriesTo t cs k stages m (Err f)) (sym is) (refl, count, subst (λ i. (k ≡ 0) ⊎ (i < k)) count outside)

module _ (t : Formulas) (cs : List (Command Term)) (k : ℕ) (check : IsCheck k cs) (stages : List Stage) (m : Model) (qs : List Asked) (all : all_asked stages ≡ qs) where
  pub carried_wide : (e : CarryFault) → IsTooWide qs e → CarriesTo t cs k stages m (Err e)
  carried_wide (NoSuchCheck c n) wide = absurd wide
  carried_wide (EvalWidth a bits) wide = (check, ap widest_of all ∙ wide.0, wide.1 ∙ sym (ap (bits_among a) all))
  carried_wide (Beyond128 a node) wide = absurd wide
  carried_wide Memory wide = tt

  pub carried_model : (result : Result ModelLists CarryFault) → widest_of qs ≡ None → Answers t stages m result → CarriesTo t cs k stages m result
  carried_model (Ok r) narrow gives = (check, ap widest_of all ∙ narrow, gives.0, gives.1, gives.2, gives.3)
  carried_model (Err (NoSuchCheck c n)) narrow gives = absurd gives
  carried_model (Err (EvalWidth a bits)) narrow gives = absurd gives
  carried_model (Err (Beyond128 a node)) narrow gives = (check, ap widest_of all ∙ narrow, gives.0, gives.1, gives.2)
  carried_model (Err Memory) narrow gives = tt
