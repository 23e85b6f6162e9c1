-- The commands that are told of a pass that puts groups in the place of assertions, with the drawn symbols, tell how models are
-- carried over it.
use Rattle.std.proofs.Common.{◌≡◌, ◌∙◌, sym, ap, subst, refl, ℕ, ◌≤◌, List, [], ◌∷◌, map, filter, flat_map, count_by, None}
use Rattle.smt_terms.specs.Equal.{symbol_eq}
use Rattle.smt_terms.specs.Free.{is_among}
use Rattle.smt_terms.specs.Fresh.{Supply}
use Rattle.smt_terms.specs.Models.{Model}
use Rattle.smt_terms.specs.Sorts.{Symbol}
use Rattle.smt_terms.specs.SubstLaws.{GivesNone}
use Rattle.smt_terms.specs.Term.{Term}
use Rattle.term_groups.specs.Drawing.{ConstantsAreNew}
use Rattle.term_groups.specs.Grouping.{MakesGroups}
use Rattle.ite_free.specs.Ite.{ite}
use Rattle.cnf_polarity.specs.Cnf.{cnf}
use Rattle.script_read.specs.Commands.{Command, live, signature, is_check, checks}
use Rattle.pass_laws.specs.declared.names.Pass.{Pass}
use Rattle.pass_laws.specs.declared.names.Pass.TheVariants.{Ite, Cnf}
use Rattle.pass_laws.specs.Carry.{asked_for, asked_back, with_graphs, graph_dropped, graph_given, term_for}
use Rattle.pass_laws.specs.GroupPoints.{inputs, outputs, drawn_in, live_pairs, AreGrouped, without_new, with_values, IsGrouping}
use Rattle.pass_laws.specs.Groups.{Making, groups_from}
use Rattle.pass_laws.specs.Laws.{IsReady, TellsModels, StepsTellModels}
use Rattle.pass_laws.specs.LiveGroups.{all_told, met_at, symbols_in, all_drawn, without_drawn, with_met, asked_of}
use Rattle.pass_laws.specs.Passed.{Replacement, replacements}
use Rattle.pass_laws.proofs.DrawnSymbols.{drawn_are, not_drawn, drawn_once}
use Rattle.pass_laws.proofs.GroupPasses.{IsMaking, ite_is_making, cnf_is_making, replaced, back_so, forth_so}
use Rattle.pass_laws.proofs.GroupPointsHold.{ready-commands-are-grouped}
use Rattle.pass_laws.proofs.GroupWalks.{AreGiven, grouped_given}
use Rattle.pass_laws.proofs.LiveBehindGroups.{IsOld}
use Rattle.pass_laws.proofs.MetAtChecks.{checks_before, given_alike, pairs_met, idle_alike, asked_told}
use Rattle.pass_laws.proofs.ReadyNames.{given_first}
use Rattle.pass_laws.proofs.ToldCommands.{told_checks, told_drawn}

module _ (law : ConstantsAreNew) (rs : List (Command Replacement)) (s r : Supply) (grouped : AreGrouped rs s r) where
  old : (f : Symbol) → GivesNone s (f.name ∷ []) → IsOld (drawn_in rs) f
  old f given = ap (λ fs. is_among fs f) (drawn_are rs) ∙ not_drawn law rs s r grouped f (given_first s f.name [] given)

  given : AreGiven (drawn_in rs) rs
  given = grouped_given (drawn_in rs) rs s r grouped (λ f among. among)

  -- ---- at a check

  module _ (ready : IsReady (inputs rs) s) (k : ℕ) (some : 1 ≤ k) (few : k ≤ count_by is_check rs) where
    pub values_told : (m : Model) → with_values rs k m ≡ with_met (met_at k (all_told rs)) m
    values_told m =
        (λ i. with_graphs m (λ f.
        given_alike m f (term_for (live_pairs rs k) f) (is_among (filter (is_among (drawn_in rs)) (signature (outputs rs) k).symbols) f) (is_among (symbols_in (met_at k (all_told rs)).idle) f) (m.graphs f)
        (idle_alike rs s old given ready k some few f) i))
        ∙ ap (λ ns. with_graphs m (λ f. graph_given m (term_for ns f) (is_among (symbols_in (met_at k (all_told rs)).idle) f) f (m.graphs f))) (sym (pairs_met rs s old given ready k some few))

    pub asked_there : flat_map (λ (a : Replacement). asked_for a.number (map (λ n. n.1) a.group.symbols)) (live rs k) ≡ asked_of (met_at k (all_told rs))
    asked_there = asked_told rs s old given ready k some few

  -- ---- all that was drawn

  pub dropped_told : (m : Model) → without_new rs m ≡ without_drawn (all_told rs) m
  dropped_told m = ap (λ fs. with_graphs m (graph_dropped fs m.graphs)) (sym (told_drawn rs))

  pub once_told : (f : Symbol) → count_by (symbol_eq f) (symbols_in (all_drawn (all_told rs))) ≤ 1
  once_told f = subst (λ fs. count_by (symbol_eq f) fs ≤ 1) (sym (told_drawn rs ∙ drawn_are rs)) (drawn_once law rs s r grouped f)

-- ---- the passes

module _ (p : Pass) (make : Making) (is : IsMaking p make) (nothing : (cs : List (Command Term)) (s : Supply) (k : ℕ) → asked_back p cs s k ≡ []) (makes : MakesGroups make) (law : ConstantsAreNew) (cs : List (Command Term)) (s : Supply) (ready : IsReady cs s) where
  abbrev rs : List (Command Replacement)
  rs = (groups_from make cs s).0

  grouping : IsGrouping make cs s
  grouping = ready-commands-are-grouped make makes law cs s ready

  ready_before : IsReady (inputs rs) s
  ready_before = subst (λ ds. IsReady ds s) (sym grouping.before) ready

  same : (replacements p cs s).0 ≡ rs
  same = ap (λ q. q.0) (replaced p make is cs s)

  as_many : count_by is_check rs ≡ checks cs
  as_many = sym (checks_before rs) ∙ ap checks grouping.before

  few_enough : (k : ℕ) → k ≤ checks cs → k ≤ count_by is_check rs
  few_enough k few = subst (λ n. k ≤ n) (sym as_many) few

  tells : TellsModels p cs s None
  tells = record {
    distinct = subst (λ qs. (f : Symbol) → count_by (symbol_eq f) (symbols_in (all_drawn (all_told qs))) ≤ 1) (sym same) (once_told law rs s (groups_from make cs s).1 grouping.grouped);
    back = λ k m some few.
        back_so p make is cs s k m ∙ dropped_told law rs s (groups_from make cs s).1 grouping.grouped m ∙ ap (λ qs. without_drawn (all_told qs) m) (sym same);
    asked_back = λ k some few. nothing cs s k;
    forth = λ k m some few.
        forth_so p make is cs s k m ∙ values_told law rs s (groups_from make cs s).1 grouping.grouped ready_before k some (few_enough k few) m
        ∙ ap (λ qs. with_met (met_at k (all_told qs)) m) (sym same);
    asked = λ k some few.
        ap (λ qs. flat_map (λ (a : Replacement). asked_for a.number (map (λ n. n.1) a.group.symbols)) (live qs k)) same
        ∙ asked_there law rs s (groups_from make cs s).1 grouping.grouped ready_before k some (few_enough k few)
        ∙ ap (λ qs. asked_of (met_at k (all_told qs))) (sym same);
    checks = ap (λ qs. count_by is_check (all_told qs)) same ∙ told_checks rs ∙ as_many;
  }

pub steps-tell-models : ConstantsAreNew → MakesGroups ite → MakesGroups cnf → StepsTellModels
steps-tell-models constants ites cnfs = told
  where
    told : StepsTellModels
    told Ite cs s is ready = tells Ite ite ite_is_making (λ ds q k. refl) ites constants cs s ready
    told Cnf cs s is ready = tells Cnf cnf cnf_is_making (λ ds q k. refl) cnfs constants cs s ready
    told _ cs s is ready = absurd cc
