-- Models from which the symbols that were drawn are dropped, one after the other.
use Rattle.std.proofs.Common.{◌≡◌, ◌∙◌, sym, ap, refl, ℕ, ◌+◌, List, [], ◌∷◌, ◌++◌, map, take, slice_get, Some, None}
use Rattle.std.proofs.lemmas.List.{map-append, append-nil}
use Rattle.std.proofs.lemmas.Grind.{flat_map-append}
use Rattle.smt_terms.specs.declared.ids.NodeId.{NodeId}
use Rattle.smt_terms.specs.declared.ids.SymId.{SymId}
use Rattle.smt_terms.specs.Models.{Model}
use Rattle.term_groups.specs.Seen.{named_at}
use Rattle.term_table.specs.Formulas.{Formulas, symbol_at, tree}
use Rattle.script_read.specs.Commands.{Command}
use Rattle.models.specs.ModelView.{with_graph}
use Rattle.passes.specs.declared.plan.Step.{Step}
use Rattle.passes.specs.declared.plan.Step.TheVariants.{Declare, Group, Check, Push, Pop, Reset, ResetAssertions, Globals}
use Rattle.pass_laws.specs.Carry.{with_graphs, graph_dropped}
use Rattle.pass_laws.specs.LiveGroups.{Drawn, symbols_in, drawn_in_command, all_drawn, without_drawn}
use Rattle.passes.specs.LiveSymbols.{dropped_at}
use Rattle.passes.specs.Plans.{step_of}
use Rattle.passes.proofs.GivenModels.{drop-more, drop-append}
use Rattle.passes.proofs.GroupingSteps.{taken_more}

-- ---- the symbols of one group

module _ (t : Formulas) (ps : List (SymId × NodeId)) (i : ℕ) (p : SymId × NodeId) (at : slice_get ps i ≡ Some p) where
  names_more : map (λ n. n.0) (named_at t (take (i + 1) ps)) ≡ map (λ n. n.0) (named_at t (take i ps)) ++ symbol_at t p.0 ∷ []
  names_more =
      ap (λ qs. map (λ n. n.0) (named_at t qs)) (taken_more ps i p at)
      ∙ ap (map (λ n. n.0)) (map-append (λ (q : SymId × NodeId). (symbol_at t q.0, tree t q.1)) (take i ps) (p ∷ []))
      ∙ map-append (λ n. n.0) (named_at t (take i ps)) ((symbol_at t p.0, tree t p.1) ∷ [])

  pub forget-more : (m : Model) → with_graph (symbol_at t p.0) None (dropped_at t (take i ps) m) ≡ dropped_at t (take (i + 1) ps) m
  forget-more m =
      drop-more (symbol_at t p.0) m (map (λ n. n.0) (named_at t (take i ps)))
      ∙ ap (λ fs. with_graphs m (graph_dropped fs m.graphs)) (sym names_more)

-- ---- commands

symbols-append : (ds es : List Drawn) → symbols_in (ds ++ es) ≡ symbols_in ds ++ symbols_in es
symbols-append ds es = flat_map-append (λ (d : Drawn). map (λ n. n.0) d.symbols) ds es

pub without-more : (cs : List (Command Drawn)) (i : ℕ) (c : Command Drawn) → slice_get cs i ≡ Some c → (m : Model)
    → without_drawn (c ∷ []) (without_drawn (take i cs) m) ≡ without_drawn (take (i + 1) cs) m
without-more cs i c at m =
    drop-append m (symbols_in (all_drawn (take i cs))) (symbols_in (all_drawn (c ∷ [])))
    ∙ ap (λ fs. with_graphs m (graph_dropped fs m.graphs))
    (sym
    (ap (λ ds. symbols_in (all_drawn ds)) (taken_more cs i c at)
    ∙ ap symbols_in (flat_map-append drawn_in_command (take i cs) (c ∷ []))
    ∙ symbols-append (all_drawn (take i cs)) (all_drawn (c ∷ []))))

-- ---- one step

module _ (t : Formulas) (m : Model) where
  pub group_alone : (s : Step) (number : ℕ) (ps : List (SymId × NodeId)) → s ≡ Group number ps → without_drawn (step_of t s ∷ []) m ≡ dropped_at t ps m
  group_alone s number ps is =
      ap (λ x. without_drawn (step_of t x ∷ []) m) is
      ∙ ap (λ fs. with_graphs m (graph_dropped fs m.graphs)) (append-nil (map (λ n. n.0) (named_at t ps)))

  pub other_alone : (s : Step) → ((number : ℕ) (ps : List (SymId × NodeId)) → s ≡ Group number ps → ⊥) → without_drawn (step_of t s ∷ []) m ≡ m
  other_alone (Group number ps) other = absurd (other number ps refl)
  other_alone (Declare f) other = refl
  other_alone Check other = refl
  other_alone (Push n) other = refl
  other_alone (Pop n) other = refl
  other_alone Reset other = refl
  other_alone ResetAssertions other = refl
  other_alone (Globals b) other = refl
