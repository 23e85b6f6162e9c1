-- The removal of applications: what it makes of commands and of models.
use Rattle.std.proofs.Common.{◌≡◌, ◌∙◌, sym, subst, ℕ, true, List}
use Rattle.std.specs.Prelude.{filter}
use Rattle.smt_terms.specs.Fresh.{Supply, numbered_name}
use Rattle.smt_terms.specs.Models.{Model}
use Rattle.smt_terms.specs.Term.{Term}
use Rattle.term_groups.specs.Drawing.{ConstantsAreNew}
use Rattle.ackermann.specs.Laws.{TablesAreModels, TablesFit, ValuesAreModels, RemovalsMade}
use Rattle.ackermann.specs.Tables.{application_graph}
use Rattle.script_read.specs.Commands.{Command, start, kinds, signature}
use Rattle.script_read.specs.Printable.{is_usable}
use Rattle.pass_laws.specs.declared.names.Pass.TheVariants.{Ackermann}
use Rattle.pass_laws.specs.Carry.{with_graphs, has_arguments, graph_applied, graph_dropped}
use Rattle.pass_laws.specs.GroupPoints.{inputs, drawn_in, live_pairs}
use Rattle.pass_laws.specs.Laws.{IsReady, CarriesModels, CarriesSignatures, RemovalsCarryModels}
use Rattle.pass_laws.specs.Passed.{Replacement, replacements}
use Rattle.pass_laws.proofs.AckedCommands.{IsRemoving, is_removing}
use Rattle.pass_laws.proofs.PlainPoints.{plain_outputs, plain_kinds}
use Rattle.pass_laws.proofs.RemovalDrawn.{acked_given}
use Rattle.pass_laws.proofs.RemovalPoints.{RemovalsAt, points_of_removals, removals_at}
use Rattle.pass_laws.proofs.RemovalsReady.{removals-ready}
use Rattle.pass_laws.proofs.RemovalStates.{AreAcked}
use Rattle.pass_laws.proofs.TabledGraphs.{over_before, model_before}
use Rattle.pass_laws.proofs.ValuedGraphs.{with_applications, over_behind, model_behind}

-- from behind the removal to before it, where these commands stand
abbrev with_tables_of : List (Command Term) → List (Command Replacement) → ℕ → Model → Model
with_tables_of cs rs k m =
    with_graphs m
    (graph_applied (filter has_arguments (signature cs k).symbols) (application_graph m (live_pairs rs k))
    (graph_dropped (drawn_in rs) m.graphs))

module _ (law : ConstantsAreNew) (made : RemovalsMade) (rs : List (Command Replacement)) (s r : Supply) (is : AreAcked s rs start s r) (ready : IsReady (inputs rs) s) where
  known : (k : ℕ) → RemovalsAt s rs k
  known k = removals_at law made rs s r is ready k

  same_kinds : kinds (plain_outputs rs) ≡ kinds (inputs rs)
  same_kinds = plain_kinds law rs s r (drawn_in rs) is (acked_given law s (drawn_in rs) rs start s r is (λ f among. among)) ∙ (points_of_removals law made rs s r is).kinds

  removals_carry : TablesAreModels → TablesFit → ValuesAreModels → CarriesModels (inputs rs) (plain_outputs rs) (λ k m. with_tables_of (inputs rs) rs k m) (λ k m. with_applications rs k m)
  removals_carry tables fit values = record {
    kinds = same_kinds;
    back = λ k m of_second. model_before s rs k (known k) m fit tables of_second;
    forth = λ k m of_first. model_behind s rs k (known k) m values of_first;
  }

  removals_carry_over : TablesFit → CarriesSignatures (inputs rs) (plain_outputs rs) (λ k m. with_tables_of (inputs rs) rs k m) (λ k m. with_applications rs k m)
  removals_carry_over fit = record {
    back = λ k m over. over_before s rs k (known k) m fit over;
    forth = λ k m over. over_behind s rs k (known k) m over;
  }

pub removals-carry-models : ((i : ℕ) → is_usable (numbered_name i) ≡ true) → ConstantsAreNew → TablesAreModels → TablesFit → ValuesAreModels → RemovalsMade → RemovalsCarryModels
removals-carry-models usable law tables fit values made cs s ready taken =
    let is : IsRemoving cs s = is_removing law cs s ready taken in
    let rs : List (Command Replacement) = (replacements Ackermann cs s).0 in
    let r : Supply = (replacements Ackermann cs s).1 in
    let before : IsReady (inputs rs) s = subst (λ ds. IsReady ds s) (sym is.before) ready in
    record {
      ready = removals-ready usable law made rs s r is.acked before;
      models = subst (λ ds. CarriesModels ds (plain_outputs rs) (λ k m. with_tables_of ds rs k m) (λ k m. with_applications rs k m)) is.before (removals_carry law made rs s r is.acked before tables fit values);
      signatures = subst (λ ds. CarriesSignatures ds (plain_outputs rs) (λ k m. with_tables_of ds rs k m) (λ k m. with_applications rs k m)) is.before (removals_carry_over law made rs s r is.acked before fit);
    }
