-- A model before the pass, in which each new symbol of a live assertion gets the value of its term, is one behind the pass.
use Rattle.std.proofs.Common.{◌≡◌, ◌∙◌, sym, ap, refl, ℕ, Bool, true, false, ◌&&◌, ◌||◌, List, [], filter, Option, Some, None, subst, All, is_some, IfSome, IsTrue}
use Rattle.std.specs.List.{list_any, list_all}
use Rattle.std.proofs.lemmas.List.Elements.{All-weaker}
use Rattle.smt_terms.specs.Free.{is_among}
use Rattle.smt_terms.specs.Models.{Graph, Model, is_graph, IsModelOver}
use Rattle.smt_terms.specs.Rank.{sort_of, is_regular, IsWellSorted}
use Rattle.smt_terms.specs.Sorts.{Symbol}
use Rattle.smt_terms.specs.Term.{Term}
use Rattle.smt_terms.specs.Val.{no_variables, val}
use Rattle.smt_terms.specs.Values.{Value, Sizes, is_value, default_value}
use Rattle.smt_terms.proofs.Among.{is_among-filter}
use Rattle.smt_terms.proofs.Keeping.{the_sort}
use Rattle.smt_terms.proofs.Tests.{both_true, and_true, contrary}
use Rattle.smt_terms.proofs.Valid.{is_value-default, val_valid}
use Rattle.term_groups.specs.Grouping.{IsGiven}
use Rattle.script_read.specs.Commands.{Command, live, literals, signature}
use Rattle.script_read.specs.Satisfied.{is_true_in}
use Rattle.pass_laws.specs.Carry.{constant_graph, term_for, graph_given}
use Rattle.pass_laws.specs.GroupPoints.{inputs, outputs, drawn_in, live_pairs, PointsOfGroups, with_values}
use Rattle.pass_laws.specs.Laws.{IsModelOf}
use Rattle.pass_laws.specs.Passed.{Replacement}
use Rattle.pass_laws.proofs.DrawnSymbols.{pairs_in, drawn_are, HasSortOf}
use Rattle.pass_laws.proofs.GroupsAtPoints.{all_unmapped, IsApart, IsLiveGroup, GroupsAt}
use Rattle.pass_laws.proofs.KeptValues.{truth_kept, any_is_among, AreTrue, are_true, all_true}
use Rattle.pass_laws.proofs.NamedTerms.{all_joined, all_apart, HaveOwn, term_fits, some_term, own_of_fewer}

-- ---- graphs

pub constant_valid : (f : Symbol) (sizes : Sizes) (v : Value) → is_value f.result sizes v ≡ true → is_graph f sizes (constant_graph v) ≡ true
constant_valid f sizes v h = and_true (is_value f.result sizes v) true h refl

-- whether a symbol has a graph, where o is its term, and b says whether it is a new one that is declared
pub given_some : (m : Model) (f : Symbol) (o : Option Term) (g : Option Graph) (b before after drawn : Bool) → (is_some o ≡ true → after ≡ true) → b ≡ (after && drawn) → is_some g ≡ before → (before ≡ true → after ≡ true) → (after ≡ true → (before || drawn) ≡ true)
    → is_some (graph_given m o b f g) ≡ after
given_some m f (Some t) g b before after drawn declared new has stays comes = sym (declared refl)
given_some m f None g true before true drawn declared new has stays comes = refl
given_some m f None g true before false drawn declared new has stays comes = new
given_some m f None g false true after drawn declared new has stays comes = has ∙ sym (stays refl)
given_some m f None g false false false drawn declared new has stays comes = has
given_some m f None g false false true drawn declared new has stays comes = has ∙ new ∙ comes refl

module _ (rs : List (Command Replacement)) (points : PointsOfGroups rs) (k : ℕ) (known : GroupsAt rs k) (m : Model) where
  abbrev behind : Model
  behind = with_values rs k m

  -- ---- the terms of live groups

  own_live : HaveOwn (pairs_in rs) (live_pairs rs k)
  own_live = all_joined (λ n. term_for (pairs_in rs) n.0 ≡ Some n.1) (λ (a : Replacement). a.group.symbols) (live rs k) (λ i d lt. (known.live i d lt).group.own)

  own_groups : All (λ (a : Replacement). HaveOwn (live_pairs rs k) a.group.symbols) (live rs k)
  own_groups = all_apart (λ n. term_for (live_pairs rs k) n.0 ≡ Some n.1) (λ (a : Replacement). a.group.symbols) (live rs k) (own_of_fewer (pairs_in rs) (live_pairs rs k) own_live)

  abbrev IsSortedFor : Symbol → Term → Type 0
  IsSortedFor f t = HasSortOf f t × IsWellSorted t

  sorted_live : All (λ n. IsSortedFor n.0 n.1) (live_pairs rs k)
  sorted_live =
      all_joined (λ n. IsSortedFor n.0 n.1) (λ (a : Replacement). a.group.symbols) (live rs k)
      (λ i d lt j e less. ((known.live i d lt).group.sorts j e less, ((known.live i d lt).group.is.parts j e less).sorted))

  -- a symbol that isn't new has no term
  no_term : (f : Symbol) → is_among (drawn_in rs) f ≡ false → (o : Option Term) → term_for (live_pairs rs k) f ≡ o → o ≡ None
  no_term f apart None e = refl
  no_term f apart (Some t) e =
      let own : term_for (pairs_in rs) f ≡ Some t = term_fits (λ g u. term_for (pairs_in rs) g ≡ Some u) (live_pairs rs k) f t own_live e in
      let among : is_among (drawn_in rs) f ≡ true = ap (λ fs. is_among fs f) (drawn_are rs) ∙ sym (some_term (pairs_in rs) f) ∙ ap is_some own in
      contrary (is_among (drawn_in rs) f) among apart

  is_new : (f : Symbol) → is_among (filter (is_among (drawn_in rs)) (signature (outputs rs) k).symbols) f ≡ (is_among (signature (outputs rs) k).symbols f && is_among (drawn_in rs) f)
  is_new f = is_among-filter (is_among (drawn_in rs)) (signature (outputs rs) k).symbols f

  never_new : (b d : Bool) → d ≡ false → (b && d) ≡ false
  never_new true d h = h
  never_new false d h = refl

  graph_kept : (f : Symbol) → is_among (drawn_in rs) f ≡ false → behind.graphs f ≡ m.graphs f
  graph_kept f apart = λ i.
      graph_given m (no_term f apart (term_for (live_pairs rs k) f) refl i)
      ((is_new f ∙ never_new (is_among (signature (outputs rs) k).symbols f) (is_among (drawn_in rs) f) apart) i) f (m.graphs f)

  -- ---- a model over what is declared

  module _ (is : IsModelOver (signature (inputs rs) k).sorts (signature (inputs rs) k).symbols m) where
    value_valid : (f : Symbol) (t : Term) → IsSortedFor f t → is_value f.result m.sizes (val m t no_variables) ≡ true
    value_valid f t h =
        let parts = both_true (is_some (sort_of t)) (is_regular t) h.1 in
        let to = the_sort (sort_of t) parts.0 in
        ap (λ s. is_value s m.sizes (val m t no_variables)) (h.0 to.0 to.1) ∙ val_valid t to.0 m no_variables is.valid (λ f. tt) to.1

    graph_valid : (f : Symbol) (o : Option Term) (b : Bool) → term_for (live_pairs rs k) f ≡ o → IfSome (graph_given m o b f (m.graphs f)) (λ g. IsTrue (is_graph f m.sizes g))
    graph_valid f (Some t) b e = constant_valid f m.sizes (val m t no_variables) (value_valid f t (term_fits IsSortedFor (live_pairs rs k) f t sorted_live e))
    graph_valid f None true e = constant_valid f m.sizes (default_value f.result) (is_value-default f.result m.sizes is.valid.sizes)
    graph_valid f None false e = is.valid.graphs f

    pub over_behind : IsModelOver (signature (outputs rs) k).sorts (signature (outputs rs) k).symbols behind
    over_behind = record {
      valid = record {
        sizes = is.valid.sizes;
        graphs = λ f. graph_valid f (term_for (live_pairs rs k) f) (is_among (filter (is_among (drawn_in rs)) (signature (outputs rs) k).symbols) f) refl;
        div_by_zero = is.valid.div_by_zero;
        mod_by_zero = is.valid.mod_by_zero;
      };
      graphs = λ f.
          given_some m f (term_for (live_pairs rs k) f) (m.graphs f) (is_among (filter (is_among (drawn_in rs)) (signature (outputs rs) k).symbols) f)
          (is_among (signature (inputs rs) k).symbols f) (is_among (signature (outputs rs) k).symbols f) (is_among (drawn_in rs) f)
          (λ some. points.declared k f (sym (some_term (live_pairs rs k) f) ∙ some)) (is_new f) (is.graphs f ∙ any_is_among (signature (inputs rs) k).symbols f) (points.stays k f) (points.comes k f)
          ∙ sym (any_is_among (signature (outputs rs) k).symbols f);
      sizes = λ n other. is.sizes n (sym (ap (list_any _) (points.sorts k)) ∙ other);
    }

  -- ---- a model in which all that is live holds

  module _ (is : IsModelOf (inputs rs) k m) where
    kept : (t : Term) → IsApart rs t → is_true_in behind t ≡ is_true_in m t
    kept t apart = truth_kept m behind.graphs t apart.sort (λ f among. graph_kept f (apart.free f among))

    is_given : (a : Replacement) → IsLiveGroup rs a → HaveOwn (live_pairs rs k) a.group.symbols → IsGiven m behind a.term a.group.symbols
    is_given a group own = record {
      sizes = refl;
      div_by_zero = refl;
      mod_by_zero = refl;
      kept = λ f among. graph_kept f (group.term.free f among);
      given = All-weaker (λ n. term_for (live_pairs rs k) n.0 ≡ Some n.1) (λ n. behind.graphs n.0 ≡ Some (record { rows = []; otherwise = val m n.1 no_variables })) (λ n e i. graph_given m (e i) (is_among (filter (is_among (drawn_in rs)) (signature (outputs rs) k).symbols) n.0) n.0 (m.graphs n.0)) a.group.symbols own;
    }

    truths : IsTrue (list_all (is_true_in m) (live (inputs rs) k)) × IsTrue (list_all (is_true_in m) (literals (inputs rs) k))
    truths = both_true (list_all (is_true_in m) (live (inputs rs) k)) (list_all (is_true_in m) (literals (inputs rs) k)) is.sat

    terms_true : All (λ (a : Replacement). is_true_in m a.term ≡ true) (live rs k)
    terms_true = all_unmapped (λ t. is_true_in m t ≡ true) (λ (a : Replacement). a.term) (live rs k) (subst (AreTrue m) (points.live_before k) (are_true m (live (inputs rs) k) truths.0))

    asserts_true : (a : Replacement) → IsLiveGroup rs a → HaveOwn (live_pairs rs k) a.group.symbols → is_true_in m a.term ≡ true → AreTrue behind a.group.asserts
    asserts_true a group own h = are_true behind a.group.asserts (group.group.is.complete m behind is.over.valid (is_given a group own) h)

    live_true : list_all (is_true_in behind) (live (outputs rs) k) ≡ true
    live_true =
        all_true behind (live (outputs rs) k)
        (subst (AreTrue behind) (sym (points.live_behind k))
        (all_joined (λ t. is_true_in behind t ≡ true) (λ (a : Replacement). a.group.asserts) (live rs k) (λ i d lt. asserts_true _ (known.live i d lt) (own_groups i d lt) (terms_true i d lt))))

    literals_true : list_all (is_true_in behind) (literals (outputs rs) k) ≡ true
    literals_true =
        all_true behind (literals (outputs rs) k)
        (subst (AreTrue behind) (sym (points.literals k)) (λ i d lt. kept _ (known.literals i d lt) ∙ are_true m (literals (inputs rs) k) truths.1 i d lt))

    pub model_behind : IsModelOf (outputs rs) k (with_values rs k m)
    model_behind = record {
      over = over_behind is.over;
      sat = and_true (list_all (is_true_in behind) (live (outputs rs) k)) (list_all (is_true_in behind) (literals (outputs rs) k)) live_true literals_true;
    }
