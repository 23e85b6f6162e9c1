-- The commands that are told of the removal of applications, with the new constants and what took the places of operands, tell how
-- models are carried over it.
use Rattle.std.proofs.Common.{◌≡◌, ◌∙◌, sym, ap, subst, refl, ℕ, ◌≤◌, Bool, true, false, cond, ◌&&◌, List, [], ◌∷◌, map, filter, flat_map, count_by, Option, Some, None, All}
use Rattle.std.proofs.lemmas.List.Elements.{All-weaker}
use Rattle.std.proofs.lemmas.List.Folds.{flat_map-map}
use Rattle.smt_terms.specs.Equal.{symbol_eq}
use Rattle.smt_terms.specs.Free.{is_among}
use Rattle.smt_terms.specs.Fresh.{Supply}
use Rattle.smt_terms.specs.Groups.{Named}
use Rattle.smt_terms.specs.Models.{Graph, Model}
use Rattle.smt_terms.specs.Rank.{is_empty}
use Rattle.smt_terms.specs.Sorts.{Sort, Symbol}
use Rattle.smt_terms.specs.SubstLaws.{GivesNone}
use Rattle.smt_terms.specs.Term.{Term}
use Rattle.smt_terms.proofs.Among.{is_among-filter}
use Rattle.smt_terms.proofs.Tests.{and_true}
use Rattle.term_groups.specs.Drawing.{ConstantsAreNew}
use Rattle.ackermann.specs.Laws.{RemovalsMade, AreMadeFrom, IsUseIn}
use Rattle.ackermann.specs.Removals.{all_inputs, is_use}
use Rattle.ackermann.specs.Tables.{operands_of, application_graph}
use Rattle.script_read.specs.Commands.{Command, start, live, signature, is_check}
use Rattle.models.specs.ModelView.{without_functions}
use Rattle.pass_laws.specs.Carry.{asked_for, are_some, has_arguments, with_graphs, graph_applied, graph_dropped, graph_given, term_for}
use Rattle.pass_laws.specs.GroupPoints.{inputs, outputs, drawn_in, live_pairs}
use Rattle.pass_laws.specs.Laws.{IsReady}
use Rattle.pass_laws.specs.LiveGroups.{Drawn, drawn_of, Operands, all_told, global_behind, Met, met_at, symbols_in, all_drawn, graph_by, with_tables, with_met_alone, asked_of, asked_back_by, is_applied, AreApplied}
use Rattle.pass_laws.specs.Passed.{Replacement}
use Rattle.pass_laws.proofs.AppliedFunctions.{use_applied}
use Rattle.pass_laws.proofs.DrawnRemovals.{acked_once}
use Rattle.pass_laws.proofs.DrawnSymbols.{drawn_are}
use Rattle.pass_laws.proofs.FoundFunctions.{functions_found}
use Rattle.pass_laws.proofs.FoundGroups.{up_to}
use Rattle.pass_laws.proofs.GroupPointsHold.{signatures_before}
use Rattle.pass_laws.proofs.GroupWalks.{AreGiven}
use Rattle.pass_laws.proofs.LiveBehindGroups.{IsOld, asserts_itself, symbols_there, first_may}
use Rattle.pass_laws.proofs.LiveOperands.{told_at, settled}
use Rattle.pass_laws.proofs.MetAtChecks.{given_alike, groups_may, met_here, live_met, pairs_met, idle_alike, asked_told}
use Rattle.pass_laws.proofs.NamedTerms.{all_joined, all_apart}
use Rattle.pass_laws.proofs.PlainPoints.{plain_outputs, plain_at}
use Rattle.pass_laws.proofs.PlainStates.{is_plain, plain}
use Rattle.pass_laws.proofs.ReadyNames.{given_first}
use Rattle.pass_laws.proofs.RemovalDrawn.{none_drawn, drawn_constants, acked_given}
use Rattle.pass_laws.proofs.RemovalLinks.{symbols_are}
use Rattle.pass_laws.proofs.RemovalPoints.{live_removals, RemovalsAt, removals_at}
use Rattle.pass_laws.proofs.RemovalStates.{AreAcked}
use Rattle.pass_laws.proofs.TabledGraphs.{none_of_both, first_of_both}
use Rattle.pass_laws.proofs.ToldCommands.{told_global, told_drawn}
use Rattle.pass_laws.proofs.ToldOperands.{TellsOperands}
use Rattle.pass_laws.proofs.ToldTables.{IsToldBy, AreToldBy, same_graph, same_asked}

graph_alone : (ss : List Sort) (g : Option Graph) → cond (are_some ss) None g ≡ cond (is_empty ss) g None
graph_alone [] g = refl
graph_alone (s ∷ ss) g = refl

module _ (law : ConstantsAreNew) (made : RemovalsMade) (rs : List (Command Replacement)) (s r : Supply) (is : AreAcked s rs start s r) (ready : IsReady (inputs rs) s) (ops : Operands) (operands : TellsOperands ops rs start) where
  given : AreGiven (drawn_in rs) rs
  given = acked_given law s (drawn_in rs) rs start s r is (λ f among. among)

  old : (f : Symbol) → GivesNone s (f.name ∷ []) → IsOld (drawn_in rs) f
  old f names = none_drawn law s rs start s r is f (given_first s f.name [] names)

  pub once_told : (f : Symbol) → count_by (symbol_eq f) (symbols_in (all_drawn (all_told rs))) ≤ 1
  once_told f = subst (λ fs. count_by (symbol_eq f) fs ≤ 1) (sym (told_drawn rs ∙ drawn_are rs)) (acked_once law s rs start s r is f)

  -- ---- at a check

  module _ (k : ℕ) (some : 1 ≤ k) (few : k ≤ count_by is_check rs) where
    abbrev met : Met
    met = met_at k (all_told rs)

    abbrev pairs : Named
    pairs = live_pairs rs k

    at : RemovalsAt s rs k
    at = removals_at law made rs s r is ready k

    abbrev first : List (Command Replacement)
    first = up_to Replacement k rs

    functions_met : filter has_arguments (signature (inputs rs) k).symbols ≡ met.functions
    functions_met =
        ap (λ g. filter has_arguments g.symbols) (signatures_before rs k)
        ∙ ap (filter has_arguments) (symbols_there (drawn_in rs) rs (groups_may rs s old given ready) k some few)
        ∙ functions_found (drawn_in rs) first (first_may (drawn_in rs) rs (groups_may rs s old given ready) k some few) (global_behind false (all_told first)) (sym (told_global Replacement asserts_itself first start))
        ∙ ap (λ (m : Met). m.functions) (sym (met_here rs s old given ready k some few))

    same_pairs : flat_map (λ (d : Drawn). d.symbols) met.live ≡ pairs
    same_pairs = pairs_met rs s old given ready k some few

    -- ---- operands

    made_here : AreMadeFrom (live_removals rs k)
    made_here = made (live_removals rs k) at.chain

    uses_here : All (λ n. IsUseIn (all_inputs (live_removals rs k)) n.1) pairs
    uses_here = subst (All (λ n. IsUseIn (all_inputs (live_removals rs k)) n.1)) (symbols_are (live rs k)) made_here.uses

    told_each : All (AreToldBy ops pairs) (live rs k)
    told_each =
        settled pairs (λ us n vs whole. made_here.behind us n vs (symbols_are (live rs k) ∙ whole)) ops [] (live rs k) refl
        (All-weaker (λ (n : Symbol × Term). IsUseIn (all_inputs (live_removals rs k)) n.1) (λ n. is_use n.1 ≡ true) (λ n stands. stands.application) pairs uses_here)
        (told_at ops rs operands k)

    told_pairs : All (IsToldBy ops pairs) pairs
    told_pairs = all_joined (IsToldBy ops pairs) (λ (x : Replacement). x.group.symbols) (live rs k) told_each

    pub tables_told : (m : Model) → with_graphs m (graph_applied (filter has_arguments (signature (inputs rs) k).symbols) (application_graph m (live_pairs rs k)) (graph_dropped (drawn_in rs) m.graphs))
        ≡ with_tables ops (all_told rs) (met_at k (all_told rs)) m
    tables_told m =
        (λ i. with_graphs m (graph_applied (functions_met i) (λ f. sym (same_graph ops pairs m f told_pairs) i) (graph_dropped (sym (told_drawn rs) i) m.graphs)))
        ∙ ap (λ ns. with_graphs m (graph_applied met.functions (graph_by m ops ns) (graph_dropped (symbols_in (all_drawn (all_told rs))) m.graphs))) (sym same_pairs)

    pub back_told : flat_map (λ (x : Replacement). flat_map (λ n. asked_for x.number (operands_of (live_pairs rs k) n.1)) x.group.symbols) (live rs k) ≡ asked_back_by (Some ops) (met_at k (all_told rs))
    back_told =
        same_asked ops pairs (live rs k) told_each
        ∙ sym (flat_map-map (λ (d : Drawn). flat_map (λ n. asked_for d.number (ops n.0)) d.symbols) drawn_of (live rs k))
        ∙ ap (flat_map (λ (d : Drawn). flat_map (λ n. asked_for d.number (ops n.0)) d.symbols)) (sym (live_met rs s old given ready k some few))

    -- ---- the other way

    new_alike : (f : Symbol) (b : Bool) → is_among (drawn_in rs) f ≡ b → (is_among (plain (signature (outputs rs) k).symbols) f && is_among (drawn_in rs) f) ≡ (is_among (signature (outputs rs) k).symbols f && is_among (drawn_in rs) f)
    new_alike f true new =
        ap (λ b. b && is_among (drawn_in rs) f)
        (is_among-filter is_plain (signature (outputs rs) k).symbols f ∙ first_of_both (is_among (signature (outputs rs) k).symbols f) (is_plain f) (ap is_empty (drawn_constants law s rs start s r is f new)))
    new_alike f false other =
        none_of_both (is_among (plain (signature (outputs rs) k).symbols) f) (is_among (drawn_in rs) f) other ∙ sym (none_of_both (is_among (signature (outputs rs) k).symbols f) (is_among (drawn_in rs) f) other)

    declared_alike : (f : Symbol) → is_among (filter (is_among (drawn_in rs)) (signature (plain_outputs rs) k).symbols) f ≡ is_among (filter (is_among (drawn_in rs)) (signature (outputs rs) k).symbols) f
    declared_alike f =
        ap (λ fs. is_among (filter (is_among (drawn_in rs)) fs) f) (plain_at law rs s r (drawn_in rs) is given k).symbols
        ∙ is_among-filter (is_among (drawn_in rs)) (plain (signature (outputs rs) k).symbols) f
        ∙ new_alike f (is_among (drawn_in rs) f) refl
        ∙ sym (is_among-filter (is_among (drawn_in rs)) (signature (outputs rs) k).symbols f)

    pub values_told : (m : Model)
        → with_graphs m (λ f. graph_given m (term_for (live_pairs rs k) f) (is_among (filter (is_among (drawn_in rs)) (signature (plain_outputs rs) k).symbols) f) f (cond (has_arguments f) None (m.graphs f)))
        ≡ with_met_alone (met_at k (all_told rs)) m
    values_told m =
        (λ i. with_graphs m (λ f.
        given_alike m f (term_for pairs f) (is_among (filter (is_among (drawn_in rs)) (signature (plain_outputs rs) k).symbols) f) (is_among (symbols_in met.idle) f) (graph_alone f.args (m.graphs f) i)
        (λ none. declared_alike f ∙ idle_alike rs s old given ready k some few f none) i))
        ∙ ap (λ ns. with_graphs m (λ f. graph_given m (term_for ns f) (is_among (symbols_in met.idle) f) f ((without_functions m).graphs f))) (sym same_pairs)

    pub asked_there : flat_map (λ (a : Replacement). asked_for a.number (map (λ n. n.1) a.group.symbols)) (live rs k) ≡ asked_of (met_at k (all_told rs))
    asked_there = asked_told rs s old given ready k some few

    -- ---- the functions of live applications

    abbrev IsLiveUse : Symbol × Term → Type 0
    IsLiveUse n = (f : Symbol) → is_applied f n.1 ≡ true → is_among met.functions f ≡ true

    live_use : (n : Symbol × Term) → IsUseIn (all_inputs (live_removals rs k)) n.1 → IsLiveUse n
    live_use n stands f applied =
        let parts = use_applied (all_inputs (live_removals rs k)) n.1 f stands applied in
        ap (λ fs. is_among fs f) (sym functions_met) ∙ is_among-filter has_arguments (signature (inputs rs) k).symbols f
        ∙ and_true (is_among (signature (inputs rs) k).symbols f) (has_arguments f) (at.known f parts.0).declared parts.1

    pub functions_told : AreApplied (met_at k (all_told rs))
    functions_told =
        all_apart IsLiveUse (λ (d : Drawn). d.symbols) met.live
        (subst (All IsLiveUse) (sym same_pairs) (All-weaker (λ (n : Symbol × Term). IsUseIn (all_inputs (live_removals rs k)) n.1) IsLiveUse live_use pairs uses_here))
