-- A model behind the removal of applications, in which each function gets the rows of its live applications, is one before it.
use Rattle.std.proofs.Common.{◌≡◌, ◌∙◌, sym, ap, refl, ℕ, Bool, true, false, cond, ◌&&◌, List, [], ◌∷◌, filter, Option, Some, None, subst, is_some, IfSome, IsTrue}
use Rattle.std.specs.List.{list_any, list_all}
use Rattle.smt_terms.specs.Free.{is_among}
use Rattle.smt_terms.specs.Models.{Graph, Model, is_graph, IsModelOver}
use Rattle.smt_terms.specs.Rank.{is_empty}
use Rattle.smt_terms.specs.Sorts.{Sort, Symbol}
use Rattle.smt_terms.specs.Term.{Term}
use Rattle.smt_terms.proofs.Among.{is_among-filter}
use Rattle.smt_terms.proofs.Tests.{both_true, and_true, contrary}
use Rattle.ackermann.specs.Laws.{IsTabled, TablesAreModels, TablesFit}
use Rattle.ackermann.specs.Tables.{application_graph}
use Rattle.script_read.specs.Commands.{Command, live, literals, signature}
use Rattle.script_read.specs.Satisfied.{is_true_in}
use Rattle.pass_laws.specs.Carry.{with_graphs, are_some, has_arguments, graph_applied, graph_dropped}
use Rattle.pass_laws.specs.GroupPoints.{inputs, drawn_in, live_pairs}
use Rattle.pass_laws.specs.Laws.{IsModelOf}
use Rattle.pass_laws.specs.Passed.{Replacement}
use Rattle.smt_terms.specs.Fresh.{Supply}
use Rattle.pass_laws.proofs.DroppedGraphs.{dropped_valid, dropped_some}
use Rattle.pass_laws.proofs.KeptValues.{truth_kept, any_is_among, AreTrue, are_true, all_true}
use Rattle.pass_laws.proofs.PlainLiterals.{IsPlainFormula}
use Rattle.pass_laws.proofs.PlainPoints.{plain_outputs}
use Rattle.pass_laws.proofs.RemovalLinks.{symbols_are}
use Rattle.pass_laws.proofs.RemovalPoints.{live_removals, RemovalsAt}

abbrev pub with_tables : List (Command Replacement) → ℕ → Model → Model
with_tables rs k m =
    with_graphs m
    (graph_applied (filter has_arguments (signature (inputs rs) k).symbols) (application_graph m (live_pairs rs k))
    (graph_dropped (drawn_in rs) m.graphs))

pub no_arguments_there : (ss : List Sort) → is_empty ss ≡ true → are_some ss ≡ false
no_arguments_there [] h = refl
no_arguments_there (s ∷ ss) h = absurd cc

pub some_arguments_there : (ss : List Sort) → is_empty ss ≡ false → are_some ss ≡ true
some_arguments_there [] h = absurd cc
some_arguments_there (s ∷ ss) h = refl

pub arguments_are_some : (ss : List Sort) → are_some ss ≡ true → is_empty ss ≡ false
arguments_are_some [] h = absurd cc
arguments_are_some (s ∷ ss) h = refl

pub arguments_are_none : (ss : List Sort) → are_some ss ≡ false → is_empty ss ≡ true
arguments_are_none [] h = refl
arguments_are_none (s ∷ ss) h = absurd cc

pub none_of_both : (a b : Bool) → b ≡ false → (a && b) ≡ false
none_of_both true b h = h
none_of_both false b h = refl

pub first_of_both : (a b : Bool) → b ≡ true → (a && b) ≡ a
first_of_both true b h = h
first_of_both false b h = refl

pub is_not : (a : Bool) → (a ≡ true → ⊥) → a ≡ false
is_not true h = absurd (h refl)
is_not false h = refl

dropped_none : (b : Bool) (o : Option Graph) → is_some o ≡ false → is_some (cond b None o) ≡ false
dropped_none true o h = refl
dropped_none false o h = h

-- whether a function has a graph
applied_some : (a before : Bool) (g : Graph) (o : Option Graph) → a ≡ before → is_some o ≡ false → is_some (cond a (Some g) o) ≡ before
applied_some true before g o e h = e
applied_some false before g o e h = h ∙ e

not_applied : (a before : Bool) (g : Graph) (o : Option Graph) → a ≡ false → is_some o ≡ before → is_some (cond a (Some g) o) ≡ before
not_applied true before g o e h = absurd cc
not_applied false before g o e h = h

module _ (s : Supply) (rs : List (Command Replacement)) (k : ℕ) (at : RemovalsAt s rs k) (m : Model) where
  abbrev fs : List Symbol
  fs = (signature (inputs rs) k).symbols

  abbrev gs : List Symbol
  gs = (signature (plain_outputs rs) k).symbols

  abbrev there : Model
  there = with_tables rs k m

  is_function : (f : Symbol) → is_among (filter has_arguments fs) f ≡ (is_among fs f && has_arguments f)
  is_function f = is_among-filter has_arguments fs f

  no_function : (f : Symbol) → has_arguments f ≡ false → is_among (filter has_arguments fs) f ≡ false
  no_function f none = is_function f ∙ none_of_both (is_among fs f) (has_arguments f) none

  constant_kept : (f : Symbol) → f.args ≡ [] → is_among (drawn_in rs) f ≡ false → there.graphs f ≡ m.graphs f
  constant_kept f none old = λ i. cond (no_function f (ap are_some none) i) (Some (application_graph m (live_pairs rs k) f)) (cond (old i) None (m.graphs f))

  function_given : (f : Symbol) → is_empty f.args ≡ false → is_among fs f ≡ true → there.graphs f ≡ Some (application_graph m (live_pairs rs k) f)
  function_given f some among = λ i.
      cond ((is_function f ∙ and_true (is_among fs f) (has_arguments f) among (some_arguments_there f.args some)) i) (Some (application_graph m (live_pairs rs k) f)) (graph_dropped (drawn_in rs) m.graphs f)

  tabled : IsTabled m there (live_removals rs k)
  tabled = record {
    sizes = refl;
    div_by_zero = refl;
    mod_by_zero = refl;
    constants = λ f among none. constant_kept f none (at.known f among).old;
    functions = λ f among some. function_given f some (at.known f among).declared ∙ ap (λ ns. Some (application_graph m ns f)) (sym (symbols_are (live rs k)));
  }

  -- ---- a model over what is declared

  module _ (fit : TablesFit) (is : IsModelOver (signature (plain_outputs rs) k).sorts (signature (plain_outputs rs) k).symbols m) where
    table_fits : (f : Symbol) → is_among (filter has_arguments fs) f ≡ true → is_graph f m.sizes (application_graph m (live_pairs rs k) f) ≡ true
    table_fits f among =
        ap (λ ns. is_graph f m.sizes (application_graph m ns f)) (sym (symbols_are (live rs k)))
        ∙ fit (live_removals rs k) m f at.chain is.valid (arguments_are_some f.args (both_true (is_among fs f) (has_arguments f) (sym (is_function f) ∙ among)).1)

    graph_valid : (f : Symbol) (b : Bool) → is_among (filter has_arguments fs) f ≡ b → IfSome (cond b (Some (application_graph m (live_pairs rs k) f)) (graph_dropped (drawn_in rs) m.graphs f)) (λ g. IsTrue (is_graph f m.sizes g))
    graph_valid f true e = table_fits f e
    graph_valid f false e = dropped_valid f m.sizes (is_among (drawn_in rs) f) (m.graphs f) (is.valid.graphs f)

    graph_there : (f : Symbol) → is_some (m.graphs f) ≡ is_among gs f
    graph_there f = is.graphs f ∙ any_is_among gs f

    never_behind : (f : Symbol) → has_arguments f ≡ true → is_among gs f ≡ false
    never_behind f some = is_not (is_among gs f) (λ among. contrary {A = ⊥} (is_empty f.args) (at.plain f among) (arguments_are_some f.args some))

    has_graph : (f : Symbol) (b : Bool) → has_arguments f ≡ b → is_some (there.graphs f) ≡ is_among fs f
    has_graph f true e =
        applied_some (is_among (filter has_arguments fs) f) (is_among fs f) (application_graph m (live_pairs rs k) f) (graph_dropped (drawn_in rs) m.graphs f)
        (is_function f ∙ first_of_both (is_among fs f) (has_arguments f) e)
        (dropped_none (is_among (drawn_in rs) f) (m.graphs f) (graph_there f ∙ never_behind f e))
    has_graph f false e =
        not_applied (is_among (filter has_arguments fs) f) (is_among fs f) (application_graph m (live_pairs rs k) f) (graph_dropped (drawn_in rs) m.graphs f)
        (no_function f e)
        (dropped_some (is_among (drawn_in rs) f) (is_among fs f) (is_among gs f) (m.graphs f) (graph_there f) (at.old f) (at.stays f (arguments_are_none f.args e)) (at.comes f))

    pub over_before : IsModelOver (signature (inputs rs) k).sorts (signature (inputs rs) k).symbols (with_tables rs k m)
    over_before = record {
      valid = record {
        sizes = is.valid.sizes;
        graphs = λ f. graph_valid f (is_among (filter has_arguments fs) f) refl;
        div_by_zero = is.valid.div_by_zero;
        mod_by_zero = is.valid.mod_by_zero;
      };
      graphs = λ f. has_graph f (has_arguments f) refl ∙ sym (any_is_among fs f);
      sizes = λ n other. is.sizes n (ap (list_any _) at.sorts ∙ other);
    }

  -- ---- a model in which all that is live holds

  module _ (fit : TablesFit) (tables : TablesAreModels) (is : IsModelOf (plain_outputs rs) k m) where
    truths : IsTrue (list_all (is_true_in m) (live (plain_outputs rs) k)) × IsTrue (list_all (is_true_in m) (literals (plain_outputs rs) k))
    truths = both_true (list_all (is_true_in m) (live (plain_outputs rs) k)) (list_all (is_true_in m) (literals (plain_outputs rs) k)) is.sat

    live_true : list_all (is_true_in there) (live (inputs rs) k) ≡ true
    live_true =
        ap (list_all (is_true_in there)) at.live_before
        ∙ tables (live_removals rs k) m there at.chain is.over.valid tabled (ap (list_all (is_true_in m)) (sym at.live_behind) ∙ truths.0)

    kept : (t : Term) → IsPlainFormula s t → is_true_in there t ≡ is_true_in m t
    kept t fine = truth_kept m there.graphs t fine.sort (λ f among. constant_kept f (fine.constants f among) (at.spared f (fine.names f among)))

    literals_true : list_all (is_true_in there) (literals (inputs rs) k) ≡ true
    literals_true =
        all_true there (literals (inputs rs) k)
        (λ i d lt. kept _ (at.literals_before i d lt) ∙ subst (AreTrue m) at.literals (are_true m (literals (plain_outputs rs) k) truths.1) i d lt)

    pub model_before : IsModelOf (inputs rs) k (with_tables rs k m)
    model_before = record {
      over = over_before fit is.over;
      sat = and_true (list_all (is_true_in there) (live (inputs rs) k)) (list_all (is_true_in there) (literals (inputs rs) k)) live_true literals_true;
    }
