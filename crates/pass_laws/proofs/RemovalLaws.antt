-- The law of what is kept of the removal of applications.
use Rattle.std.proofs.Common.{◌≡◌, ◌∙◌, sym, ap, subst, ℕ, ◌≤◌, List, filter, count_by}
use Rattle.smt_terms.specs.Fresh.{Supply}
use Rattle.term_groups.specs.Drawing.{ConstantsAreNew}
use Rattle.ackermann.specs.Laws.{RemovalsMade}
use Rattle.ackermann.specs.Tables.{application_graph}
use Rattle.script_read.specs.Commands.{Command, start, signature, is_check, checks}
use Rattle.pass_laws.specs.declared.names.Pass.TheVariants.{Ackermann}
use Rattle.pass_laws.specs.Carry.{with_graphs, has_arguments, graph_applied, graph_dropped}
use Rattle.pass_laws.specs.GroupPoints.{inputs, drawn_in, live_pairs}
use Rattle.pass_laws.specs.Laws.{IsReady, RemovalsTellModels}
use Rattle.pass_laws.specs.LiveGroups.{Operands, removed_operands}
use Rattle.pass_laws.specs.Passed.{Replacement, replacements}
use Rattle.pass_laws.proofs.AckedCommands.{IsRemoving, is_removing}
use Rattle.pass_laws.proofs.DrawnRemovals.{acked_sorts}
use Rattle.pass_laws.proofs.MetAtChecks.{checks_before}
use Rattle.pass_laws.proofs.RemovalsTell.{once_told, tables_told, back_told, values_told, asked_there, functions_told}
use Rattle.pass_laws.proofs.ToldCommands.{told_checks}
use Rattle.pass_laws.proofs.ToldOperands.{TellsOperands, operands_told}

pub removals-tell-models : ConstantsAreNew → RemovalsMade → RemovalsTellModels
removals-tell-models law made cs s ready taken =
    let is : IsRemoving cs s = is_removing law cs s ready taken in
    let rs : List (Command Replacement) = (replacements Ackermann cs s).0 in
    let r : Supply = (replacements Ackermann cs s).1 in
    let before : IsReady (inputs rs) s = subst (λ ds. IsReady ds s) (sym is.before) ready in
    let ops : Operands = removed_operands cs s in
    let operands : TellsOperands ops rs start = operands_told law s cs ready taken in
    let as_many : count_by is_check rs ≡ checks cs = sym (checks_before rs) ∙ ap checks is.before in
    let few_enough = λ (k : ℕ) (few : k ≤ checks cs). subst (λ n. k ≤ n) (sym as_many) few in
    record {
      models = record {
        distinct = once_told law made rs s r is.acked before ops operands;
        back = λ k m some few.
            ap (λ ds. with_graphs m (graph_applied (filter has_arguments (signature ds k).symbols) (application_graph m (live_pairs rs k)) (graph_dropped (drawn_in rs) m.graphs))) (sym is.before)
            ∙ tables_told law made rs s r is.acked before ops operands k some (few_enough k few) m;
        asked_back = λ k some few. back_told law made rs s r is.acked before ops operands k some (few_enough k few);
        forth = λ k m some few. values_told law made rs s r is.acked before ops operands k some (few_enough k few) m;
        asked = λ k some few. asked_there law made rs s r is.acked before ops operands k some (few_enough k few);
        checks = told_checks rs ∙ as_many;
      };
      sorts = acked_sorts law s rs start s r is.acked;
      functions = λ k some few. functions_told law made rs s r is.acked before ops operands k some (few_enough k few);
    }
