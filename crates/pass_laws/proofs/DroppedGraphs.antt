-- A model behind the pass, without the values of new symbols, is one before the pass.
use Rattle.std.proofs.Common.{◌≡◌, ◌∙◌, sym, ap, refl, ℕ, Bool, true, false, cond, ◌||◌, List, Option, None, subst, All, is_some, IfSome, IsTrue}
use Rattle.std.specs.List.{list_any, list_all}
use Rattle.std.proofs.lemmas.List.Elements.{All-map}
use Rattle.smt_terms.specs.Free.{is_among}
use Rattle.smt_terms.specs.Models.{Graph, Model, is_graph, IsModelOver}
use Rattle.smt_terms.specs.Sorts.{Symbol}
use Rattle.smt_terms.specs.Term.{Term}
use Rattle.smt_terms.specs.Values.{Sizes}
use Rattle.smt_terms.proofs.Tests.{both_true, and_true, contrary}
use Rattle.script_read.specs.Commands.{Command, live, literals, signature}
use Rattle.script_read.specs.Satisfied.{is_true_in}
use Rattle.pass_laws.specs.Carry.{graph_dropped}
use Rattle.pass_laws.specs.GroupPoints.{inputs, outputs, drawn_in, PointsOfGroups, without_new}
use Rattle.pass_laws.specs.Laws.{IsModelOf}
use Rattle.pass_laws.specs.Passed.{Replacement}
use Rattle.pass_laws.proofs.GroupsAtPoints.{IsApart, IsLiveGroup, GroupsAt}
use Rattle.pass_laws.proofs.KeptValues.{truth_kept, any_is_among, AreTrue, are_true, all_true}
use Rattle.pass_laws.proofs.NamedTerms.{all_apart}

pub dropped_valid : (f : Symbol) (sizes : Sizes) (b : Bool) (o : Option Graph) → IfSome o (λ g. IsTrue (is_graph f sizes g)) → IfSome (cond b None o) (λ g. IsTrue (is_graph f sizes g))
dropped_valid f sizes true o h = tt
dropped_valid f sizes false o h = h

-- whether a symbol has a graph, where b says whether it is new
pub dropped_some : (b before after : Bool) (o : Option Graph) → is_some o ≡ after → (before ≡ true → b ≡ false) → (before ≡ true → after ≡ true) → (after ≡ true → (before || b) ≡ true) → is_some (cond b None o) ≡ before
dropped_some true true after o has apart stays comes = contrary true refl (apart refl)
dropped_some true false after o has apart stays comes = refl
dropped_some false true after o has apart stays comes = has ∙ stays refl
dropped_some false false true o has apart stays comes = absurd (no (comes refl))
  where
    no : false ≡ true → ⊥
    no h = absurd cc
dropped_some false false false o has apart stays comes = has

module _ (rs : List (Command Replacement)) (points : PointsOfGroups rs) (k : ℕ) (known : GroupsAt rs k) (m : Model) where
  module _ (is : IsModelOver (signature (outputs rs) k).sorts (signature (outputs rs) k).symbols m) where
    pub over_before : IsModelOver (signature (inputs rs) k).sorts (signature (inputs rs) k).symbols (without_new rs m)
    over_before = record {
      valid = record {
        sizes = is.valid.sizes;
        graphs = λ f. dropped_valid f m.sizes (is_among (drawn_in rs) f) (m.graphs f) (is.valid.graphs f);
        div_by_zero = is.valid.div_by_zero;
        mod_by_zero = is.valid.mod_by_zero;
      };
      graphs = λ f.
          dropped_some (is_among (drawn_in rs) f) (is_among (signature (inputs rs) k).symbols f) (is_among (signature (outputs rs) k).symbols f) (m.graphs f)
          (is.graphs f ∙ any_is_among (signature (outputs rs) k).symbols f) (known.declared f) (points.stays k f) (points.comes k f)
          ∙ sym (any_is_among (signature (inputs rs) k).symbols f);
      sizes = λ n other. is.sizes n (ap (list_any _) (points.sorts k) ∙ other);
    }

  module _ (is : IsModelOf (outputs rs) k m) where
    kept : (t : Term) → IsApart rs t → is_true_in (without_new rs m) t ≡ is_true_in m t
    kept t apart = truth_kept m (graph_dropped (drawn_in rs) m.graphs) t apart.sort (λ f among. ap (λ b. cond b None (m.graphs f)) (apart.free f among))

    truths : IsTrue (list_all (is_true_in m) (live (outputs rs) k)) × IsTrue (list_all (is_true_in m) (literals (outputs rs) k))
    truths = both_true (list_all (is_true_in m) (live (outputs rs) k)) (list_all (is_true_in m) (literals (outputs rs) k)) is.sat

    asserts_true : All (λ (a : Replacement). AreTrue m a.group.asserts) (live rs k)
    asserts_true = all_apart (λ t. is_true_in m t ≡ true) (λ (a : Replacement). a.group.asserts) (live rs k) (subst (AreTrue m) (points.live_behind k) (are_true m (live (outputs rs) k) truths.0))

    term_true : (a : Replacement) → IsLiveGroup rs a → AreTrue m a.group.asserts → is_true_in (without_new rs m) a.term ≡ true
    term_true a group h = kept a.term group.term ∙ group.group.is.sound m is.over.valid (all_true m a.group.asserts h)

    live_true : list_all (is_true_in (without_new rs m)) (live (inputs rs) k) ≡ true
    live_true =
        all_true (without_new rs m) (live (inputs rs) k)
        (subst (AreTrue (without_new rs m)) (sym (points.live_before k))
        (All-map (λ t. is_true_in (without_new rs m) t ≡ true) (λ (a : Replacement). a.term) (live rs k) (λ i d lt. term_true _ (known.live i d lt) (asserts_true i d lt))))

    literals_true : list_all (is_true_in (without_new rs m)) (literals (inputs rs) k) ≡ true
    literals_true =
        all_true (without_new rs m) (literals (inputs rs) k)
        (λ i d lt. kept _ (known.literals i d lt) ∙ subst (AreTrue m) (points.literals k) (are_true m (literals (outputs rs) k) truths.1) i d lt)

    pub model_before : IsModelOf (inputs rs) k (without_new rs m)
    model_before = record {
      over = over_before is.over;
      sat = and_true (list_all (is_true_in (without_new rs m)) (live (inputs rs) k)) (list_all (is_true_in (without_new rs m)) (literals (inputs rs) k)) live_true literals_true;
    }
