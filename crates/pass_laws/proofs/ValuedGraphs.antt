-- A model before the removal of applications, in which each new symbol of a live assertion gets the value of its application, is one
-- behind it.
use Rattle.std.proofs.Common.{◌≡◌, ◌∙◌, sym, ap, refl, ℕ, Bool, true, false, cond, ◌&&◌, ◌||◌, List, [], filter, Option, Some, None, subst, All, is_some, IfSome, IsTrue}
use Rattle.std.specs.List.{list_any, list_all}
use Rattle.std.proofs.lemmas.List.Elements.{All-weaker}
use Rattle.smt_terms.specs.Free.{is_among}
use Rattle.smt_terms.specs.Fresh.{Supply}
use Rattle.smt_terms.specs.Models.{Graph, Model, is_graph, IsModelOver}
use Rattle.smt_terms.specs.Rank.{sort_of, is_regular, IsWellSorted}
use Rattle.smt_terms.specs.Sorts.{Symbol}
use Rattle.smt_terms.specs.Term.{Term}
use Rattle.smt_terms.specs.Val.{no_variables, val}
use Rattle.smt_terms.specs.Values.{is_value, default_value}
use Rattle.smt_terms.proofs.Among.{is_among-filter}
use Rattle.smt_terms.proofs.Keeping.{the_sort}
use Rattle.smt_terms.proofs.Tests.{both_true, and_true, contrary}
use Rattle.smt_terms.proofs.Valid.{is_value-default, val_valid}
use Rattle.ackermann.specs.Laws.{IsValued, ValuesAreModels}
use Rattle.script_read.specs.Commands.{Command, live, literals, signature}
use Rattle.script_read.specs.Satisfied.{is_true_in}
use Rattle.pass_laws.specs.Carry.{with_graphs, are_some, has_arguments, term_for, graph_given}
use Rattle.pass_laws.specs.GroupPoints.{inputs, drawn_in, live_pairs}
use Rattle.pass_laws.specs.Laws.{IsModelOf}
use Rattle.pass_laws.specs.Passed.{Replacement}
use Rattle.pass_laws.proofs.DrawnSymbols.{HasSortOf}
use Rattle.pass_laws.proofs.DroppedGraphs.{dropped_valid}
use Rattle.pass_laws.proofs.GivenValues.{constant_valid, given_some}
use Rattle.pass_laws.proofs.KeptValues.{truth_kept, any_is_among, AreTrue, are_true, all_true}
use Rattle.pass_laws.proofs.NamedTerms.{term_fits, some_term}
use Rattle.pass_laws.proofs.PlainLiterals.{IsPlainFormula}
use Rattle.pass_laws.proofs.PlainPoints.{plain_outputs}
use Rattle.pass_laws.proofs.RemovalLinks.{symbols_are}
use Rattle.pass_laws.proofs.RemovalPoints.{live_removals, RemovalsAt}
use Rattle.pass_laws.proofs.TabledGraphs.{no_arguments_there, arguments_are_none, none_of_both, first_of_both}

abbrev pub with_applications : List (Command Replacement) → ℕ → Model → Model
with_applications rs k m =
    with_graphs m
    (λ f. graph_given m (term_for (live_pairs rs k) f) (is_among (filter (is_among (drawn_in rs)) (signature (plain_outputs rs) k).symbols) f) f (cond (has_arguments f) None (m.graphs f)))

-- functions have no graph
plain_some : (b before : Bool) (o : Option Graph) → is_some o ≡ before → is_some (cond b None o) ≡ (before && cond b false true)
plain_some true before o h = sym (none_of_both before false refl)
plain_some false before o h = h ∙ sym (first_of_both before true refl)

plain_first : (b before : Bool) → (before && cond b false true) ≡ true → (before ≡ true) × (b ≡ false)
plain_first true before h = absurd (never before h)
  where
    never : (a : Bool) → (a && false) ≡ true → ⊥
    never true h = absurd cc
    never false h = absurd cc
plain_first false before h = (sym (first_of_both before true refl) ∙ h, refl)

module _ (s : Supply) (rs : List (Command Replacement)) (k : ℕ) (at : RemovalsAt s rs k) (m : Model) where
  abbrev fs : List Symbol
  fs = (signature (inputs rs) k).symbols

  abbrev gs : List Symbol
  gs = (signature (plain_outputs rs) k).symbols

  abbrev there : Model
  there = with_applications rs k m

  abbrev is_new : Symbol → Bool
  is_new f = is_among (filter (is_among (drawn_in rs)) gs) f

  new_there : (f : Symbol) → is_new f ≡ (is_among gs f && is_among (drawn_in rs) f)
  new_there f = is_among-filter (is_among (drawn_in rs)) gs f

  -- a symbol that isn't new has no term
  no_term : (f : Symbol) → is_among (drawn_in rs) f ≡ false → (o : Option Term) → term_for (live_pairs rs k) f ≡ o → o ≡ None
  no_term f old None e = refl
  no_term f old (Some t) e = contrary (is_among (drawn_in rs) f) (at.drawn f (sym (some_term (live_pairs rs k) f) ∙ ap is_some e)) old

  constant_kept : (f : Symbol) → f.args ≡ [] → is_among (drawn_in rs) f ≡ false → there.graphs f ≡ m.graphs f
  constant_kept f none old = λ i.
      graph_given m (no_term f old (term_for (live_pairs rs k) f) refl i) ((new_there f ∙ none_of_both (is_among gs f) (is_among (drawn_in rs) f) old) i) f
      (cond (are_some (none i)) None (m.graphs f))

  valued : IsValued m there (live_removals rs k)
  valued = record {
    sizes = refl;
    div_by_zero = refl;
    mod_by_zero = refl;
    constants = λ f among none. constant_kept f none (at.known f among).old;
    given = subst (All (λ n. there.graphs n.0 ≡ Some (record { rows = []; otherwise = val m n.1 no_variables }))) (sym (symbols_are (live rs k)))
        (All-weaker (λ (n : Symbol × Term). term_for (live_pairs rs k) n.0 ≡ Some n.1) (λ n. there.graphs n.0 ≡ Some (record { rows = []; otherwise = val m n.1 no_variables }))
        (λ n e i. graph_given m (e i) (is_new n.0) n.0 (cond (has_arguments n.0) None (m.graphs n.0))) (live_pairs rs k) at.own);
  }

  -- ---- a model over what is declared

  module _ (is : IsModelOver (signature (inputs rs) k).sorts (signature (inputs rs) k).symbols m) where
    abbrev IsSortedFor : Symbol → Term → Type 0
    IsSortedFor f t = HasSortOf f t × IsWellSorted t

    sorted_pairs : All (λ n. IsSortedFor n.0 n.1) (live_pairs rs k)
    sorted_pairs i d lt = (at.sorts_of_pairs i d lt, at.sorted i d lt)

    value_valid : (f : Symbol) (t : Term) → IsSortedFor f t → is_value f.result m.sizes (val m t no_variables) ≡ true
    value_valid f t h =
        let parts = both_true (is_some (sort_of t)) (is_regular t) h.1 in
        let to = the_sort (sort_of t) parts.0 in
        ap (λ s. is_value s m.sizes (val m t no_variables)) (h.0 to.0 to.1) ∙ val_valid t to.0 m no_variables is.valid (λ f. tt) to.1

    graph_valid : (f : Symbol) (o : Option Term) (b : Bool) → term_for (live_pairs rs k) f ≡ o → IfSome (graph_given m o b f (cond (has_arguments f) None (m.graphs f))) (λ g. IsTrue (is_graph f m.sizes g))
    graph_valid f (Some t) b e = constant_valid f m.sizes (val m t no_variables) (value_valid f t (term_fits IsSortedFor (live_pairs rs k) f t sorted_pairs e))
    graph_valid f None true e = constant_valid f m.sizes (default_value f.result) (is_value-default f.result m.sizes is.valid.sizes)
    graph_valid f None false e = dropped_valid f m.sizes (has_arguments f) (m.graphs f) (is.valid.graphs f)

    -- declared before the pass, and no function
    abbrev before : Symbol → Bool
    before f = is_among fs f && cond (has_arguments f) false true

    has_graph : (f : Symbol) → is_some (there.graphs f) ≡ is_among gs f
    has_graph f =
        given_some m f (term_for (live_pairs rs k) f) (cond (has_arguments f) None (m.graphs f)) (is_new f) (before f) (is_among gs f) (is_among (drawn_in rs) f)
        (λ some. at.declared f (sym (some_term (live_pairs rs k) f) ∙ some)) (new_there f)
        (plain_some (has_arguments f) (is_among fs f) (m.graphs f) (is.graphs f ∙ any_is_among fs f))
        (λ h. let parts = plain_first (has_arguments f) (is_among fs f) h in at.stays f (arguments_are_none f.args parts.1) parts.0)
        (λ among. ap (λ b. b || is_among (drawn_in rs) f) (plain_still f among) ∙ at.comes f among)
      where
        plain_still : (f : Symbol) → is_among gs f ≡ true → before f ≡ is_among fs f
        plain_still f among = first_of_both (is_among fs f) (cond (has_arguments f) false true) (λ i. cond (no_arguments_there f.args (at.plain f among) i) false true)

    pub over_behind : IsModelOver (signature (plain_outputs rs) k).sorts (signature (plain_outputs rs) k).symbols (with_applications rs k m)
    over_behind = record {
      valid = record {
        sizes = is.valid.sizes;
        graphs = λ f. graph_valid f (term_for (live_pairs rs k) f) (is_new f) refl;
        div_by_zero = is.valid.div_by_zero;
        mod_by_zero = is.valid.mod_by_zero;
      };
      graphs = λ f. has_graph f ∙ sym (any_is_among gs f);
      sizes = λ n other. is.sizes n (sym (ap (list_any _) at.sorts) ∙ other);
    }

  -- ---- a model in which all that is live holds

  module _ (values : ValuesAreModels) (is : IsModelOf (inputs rs) k m) where
    truths : IsTrue (list_all (is_true_in m) (live (inputs rs) k)) × IsTrue (list_all (is_true_in m) (literals (inputs rs) k))
    truths = both_true (list_all (is_true_in m) (live (inputs rs) k)) (list_all (is_true_in m) (literals (inputs rs) k)) is.sat

    live_true : list_all (is_true_in there) (live (plain_outputs rs) k) ≡ true
    live_true =
        ap (list_all (is_true_in there)) at.live_behind
        ∙ values (live_removals rs k) m there at.chain is.over.valid valued (ap (list_all (is_true_in m)) (sym at.live_before) ∙ truths.0)

    kept : (t : Term) → IsPlainFormula s t → is_true_in there t ≡ is_true_in m t
    kept t fine = truth_kept m there.graphs t fine.sort (λ f among. constant_kept f (fine.constants f among) (at.spared f (fine.names f among)))

    literals_true : list_all (is_true_in there) (literals (plain_outputs rs) k) ≡ true
    literals_true =
        all_true there (literals (plain_outputs rs) k)
        (subst (AreTrue there) (sym at.literals) (λ i d lt. kept _ (at.literals_before i d lt) ∙ are_true m (literals (inputs rs) k) truths.1 i d lt))

    pub model_behind : IsModelOf (plain_outputs rs) k (with_applications rs k m)
    model_behind = record {
      over = over_behind is.over;
      sat = and_true (list_all (is_true_in there) (live (plain_outputs rs) k)) (list_all (is_true_in there) (literals (plain_outputs rs) k)) live_true literals_true;
    }
