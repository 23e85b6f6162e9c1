-- The passes that put a group in the place of each assertion: what they make of commands and of models.
use Rattle.std.proofs.Common.{◌≡◌, ◌∙◌, sym, ap, refl, subst, ℕ, true, List, [], ◌∷◌, ◌++◌, Option}
use Rattle.std.specs.Prelude.{filter, flat_map}
use Rattle.smt_terms.specs.Free.{is_among}
use Rattle.smt_terms.specs.Fresh.{Supply, numbered_name}
use Rattle.smt_terms.specs.Models.{Graph, Model}
use Rattle.smt_terms.specs.Sorts.{Symbol}
use Rattle.smt_terms.specs.Term.{Term}
use Rattle.ackermann.specs.Ackermann.{one_level}
use Rattle.ite_free.specs.Ite.{ite}
use Rattle.cnf_polarity.specs.Cnf.{cnf}
use Rattle.term_groups.specs.Drawing.{ConstantsAreNew}
use Rattle.term_groups.specs.Grouping.{MakesGroups}
use Rattle.script_read.specs.Commands.{Command, passed, declare_sort, declare, assert, check, check_assuming, push, pop, reset, reset_assertions, globals, exit, with_asserted, kinds, signature}
use Rattle.script_read.specs.Printable.{is_usable}
use Rattle.pass_laws.specs.declared.names.Pass.{Pass}
use Rattle.pass_laws.specs.declared.names.Pass.TheVariants.{Simplify, Nnf, Aig, Prenex, Reads, Shannon, SelfSub, Rules, Ite, Cnf, Ackermann}
use Rattle.pass_laws.specs.Carry.{with_graphs, graph_dropped, graph_given, graph_kept, term_for, new_symbols, back_over, forth_over}
use Rattle.pass_laws.specs.GroupPoints.{drawn_in, live_pairs, without_new, with_values, GroupsAreReady, GroupsKeepModels, GroupsKeepSignatures}
use Rattle.pass_laws.specs.Groups.{Making, making, replacement, groups_from, spelled, in_groups}
use Rattle.pass_laws.specs.Laws.{IsReady, IsModelOf, CarriesModels, CarriesSignatures, puts_groups, PutsGroups, GroupsCarryModels}
use Rattle.pass_laws.specs.Passed.{Way, with_names, in_place, Replacement, literal_kept, behind, onward, replacements_from, replacements, written, apply_pass}
use Rattle.pass_laws.proofs.GroupModels.{groups-keep-models, groups-keep-signatures}
use Rattle.pass_laws.proofs.GroupPointsHold.{groups-have-points, ready-commands-are-grouped}
use Rattle.pass_laws.proofs.GroupsReady.{groups-are-ready}
use Rattle.pass_laws.proofs.ModelsCarried.{IsOver}

-- the pass puts the group of each assertion in its place, and nothing else changes
pub record IsMaking (p : Pass) (make : Making) : Type 0 where
  pub places : (t : Term) (w : Way) → in_place p t w ≡ ((make t w.names).group, with_names w (make t w.names).names)
  pub declares : (f : Symbol) → written p (declare f) ≡ declare f ∷ []
  pub keeps : (graphs : Symbol → Option Graph) → graph_kept p graphs ≡ graphs
  pub drops : (cs : List (Command Term)) (s : Supply) (k : ℕ) (m : Model) → back_over p cs s k m ≡ with_graphs m (graph_dropped (new_symbols p cs s) m.graphs)

pub ite_is_making : IsMaking Ite ite
ite_is_making = record { places = λ t w. refl; declares = λ f. refl; keeps = λ graphs. refl; drops = λ cs s k m. refl }

pub cnf_is_making : IsMaking Cnf cnf
cnf_is_making = record { places = λ t w. refl; declares = λ f. refl; keeps = λ graphs. refl; drops = λ cs s k m. refl }

module _ (p : Pass) (make : Making) (is : IsMaking p make) where
  -- ---- commands

  -- whatever levels of applications there are
  from : (cs : List (Command Term)) (w : Way) → replacements_from p cs w ≡ groups_from make cs w.names
  from [] w = refl
  from (passed text ∷ cs) w = ap (behind (passed text)) (from cs w)
  from (declare_sort n ∷ cs) w = ap (behind (declare_sort n)) (from cs w)
  from (declare f ∷ cs) w = ap (behind (declare f)) (from cs w)
  from (assert i t ∷ cs) w =
      ap (λ r. behind (assert i (record { number = i; term = t; group = r.0 })) (replacements_from p cs r.1)) (is.places t w)
      ∙ ap (behind (assert i (replacement i t (make t w.names)))) (from cs (with_names w (make t w.names).names))
  from (check ∷ cs) w = ap (behind check) (from cs w)
  from (check_assuming ls ∷ cs) w = ap (behind (with_asserted literal_kept (check_assuming ls))) (from cs w)
  from (push n ∷ cs) w = ap (behind (push n)) (from cs (onward (push n) w))
  from (pop n ∷ cs) w = ap (behind (pop n)) (from cs (onward (pop n) w))
  from (reset ∷ cs) w = ap (behind reset) (from cs (onward reset w))
  from (reset_assertions ∷ cs) w = ap (behind reset_assertions) (from cs (onward reset_assertions w))
  from (globals b ∷ cs) w = ap (behind (globals b)) (from cs w)
  from (exit ∷ cs) w = ap (behind exit) (from cs w)

  pub replaced : (cs : List (Command Term)) (s : Supply) → replacements p cs s ≡ groups_from make cs s
  replaced cs s = from cs (record { levels = one_level; names = s })

  written_so : (c : Command Replacement) → written p c ≡ spelled c
  written_so (declare f) = is.declares f
  written_so (passed text) = refl
  written_so (declare_sort n) = refl
  written_so (assert i r) = refl
  written_so check = refl
  written_so (check_assuming ls) = refl
  written_so (push n) = refl
  written_so (pop n) = refl
  written_so reset = refl
  written_so reset_assertions = refl
  written_so (globals b) = refl
  written_so exit = refl

  all_written : (rs : List (Command Replacement)) → flat_map (written p) rs ≡ flat_map spelled rs
  all_written [] = refl
  all_written (c ∷ rs) = λ j. written_so c j ++ all_written rs j

  pub applied_so : (cs : List (Command Term)) (s : Supply) → apply_pass p cs s ≡ in_groups make cs s
  applied_so cs s = ap (λ r. (flat_map (written p) r.0, r.1)) (replaced cs s) ∙ ap (λ ds. (ds, (groups_from make cs s).1)) (all_written (groups_from make cs s).0)

  -- ---- models

  pub back_so : (cs : List (Command Term)) (s : Supply) (k : ℕ) (m : Model) → back_over p cs s k m ≡ without_new (groups_from make cs s).0 m
  back_so cs s k m = is.drops cs s k m ∙ ap (λ r. without_new r.0 m) (replaced cs s)

  pub forth_so : (cs : List (Command Term)) (s : Supply) (k : ℕ) (m : Model) → forth_over p cs s k m ≡ with_values (groups_from make cs s).0 k m
  forth_so cs s k m j =
      with_graphs m (λ f.
      graph_given m (term_for (live_pairs (replaced cs s j).0 k) f) (is_among (filter (is_among (drawn_in (replaced cs s j).0)) (signature (applied_so cs s j).0 k).symbols) f) f
      (is.keeps m.graphs j f))

  puts : GroupsAreReady → GroupsKeepModels → GroupsKeepSignatures → MakesGroups make → ConstantsAreNew → (cs : List (Command Term)) (s : Supply) → IsReady cs s → PutsGroups p cs s
  puts are_ready keep_models keep_signatures makes constants cs s ready =
      let same : apply_pass p cs s ≡ in_groups make cs s = applied_so cs s in
      let carries : CarriesModels cs (in_groups make cs s).0 (λ k m. without_new (groups_from make cs s).0 m) (λ k m. with_values (groups_from make cs s).0 k m) = keep_models make makes constants cs s ready in
      let over_both : CarriesSignatures cs (in_groups make cs s).0 (λ k m. without_new (groups_from make cs s).0 m) (λ k m. with_values (groups_from make cs s).0 k m) = keep_signatures make makes constants cs s ready in
      record {
        ready = subst (λ r. IsReady r.0 r.1) (sym same) (are_ready make makes constants cs s ready);
        models = record {
          kinds = subst (λ r. kinds r.0 ≡ kinds cs) (sym same) carries.kinds;
          back = λ k m of_second. subst (IsModelOf cs k) (sym (back_so cs s k m)) (carries.back k m (subst (λ r. IsModelOf r.0 k m) same of_second));
          forth = λ k m of_first. subst (λ n. IsModelOf (apply_pass p cs s).0 k n) (sym (forth_so cs s k m)) (subst (λ r. IsModelOf r.0 k (with_values (groups_from make cs s).0 k m)) (sym same) (carries.forth k m of_first));
        };
        signatures = record {
          back = λ k m over. subst (IsOver cs k) (sym (back_so cs s k m)) (over_both.back k m (subst (λ r. IsOver r.0 k m) same over));
          forth = λ k m over. subst (λ n. IsOver (apply_pass p cs s).0 k n) (sym (forth_so cs s k m)) (subst (λ r. IsOver r.0 k (with_values (groups_from make cs s).0 k m)) (sym same) (over_both.forth k m over));
        };
      }

pub applied-group : (p : Pass) → puts_groups p ≡ true → (cs : List (Command Term)) (s : Supply) → apply_pass p cs s ≡ in_groups (making p) cs s
applied-group Ite is cs s = applied_so Ite ite ite_is_making cs s
applied-group Cnf is cs s = applied_so Cnf cnf cnf_is_making cs s
applied-group Simplify is cs s = absurd cc
applied-group Nnf is cs s = absurd cc
applied-group Aig is cs s = absurd cc
applied-group Prenex is cs s = absurd cc
applied-group Reads is cs s = absurd cc
applied-group Shannon is cs s = absurd cc
applied-group SelfSub is cs s = absurd cc
applied-group Rules is cs s = absurd cc
applied-group Ackermann is cs s = absurd cc

pub replaced-group : (p : Pass) → puts_groups p ≡ true → (cs : List (Command Term)) (s : Supply) → replacements p cs s ≡ groups_from (making p) cs s
replaced-group Ite is cs s = replaced Ite ite ite_is_making cs s
replaced-group Cnf is cs s = replaced Cnf cnf cnf_is_making cs s
replaced-group Simplify is cs s = absurd cc
replaced-group Nnf is cs s = absurd cc
replaced-group Aig is cs s = absurd cc
replaced-group Prenex is cs s = absurd cc
replaced-group Reads is cs s = absurd cc
replaced-group Shannon is cs s = absurd cc
replaced-group SelfSub is cs s = absurd cc
replaced-group Rules is cs s = absurd cc
replaced-group Ackermann is cs s = absurd cc

pub groups-carry-models : ((i : ℕ) → is_usable (numbered_name i) ≡ true) → ConstantsAreNew → MakesGroups ite → MakesGroups cnf → GroupsCarryModels
groups-carry-models usable constants ites cnfs = carried
  where
    are_ready : GroupsAreReady
    are_ready = groups-are-ready usable ready-commands-are-grouped

    keep_models : GroupsKeepModels
    keep_models = groups-keep-models groups-have-points ready-commands-are-grouped

    keep_signatures : GroupsKeepSignatures
    keep_signatures = groups-keep-signatures groups-have-points ready-commands-are-grouped

    carried : GroupsCarryModels
    carried Ite cs s is ready = puts Ite ite ite_is_making are_ready keep_models keep_signatures ites constants cs s ready
    carried Cnf cs s is ready = puts Cnf cnf cnf_is_making are_ready keep_models keep_signatures cnfs constants cs s ready
    carried Simplify cs s is ready = absurd cc
    carried Nnf cs s is ready = absurd cc
    carried Aig cs s is ready = absurd cc
    carried Prenex cs s is ready = absurd cc
    carried Reads cs s is ready = absurd cc
    carried Shannon cs s is ready = absurd cc
    carried SelfSub cs s is ready = absurd cc
    carried Rules cs s is ready = absurd cc
    carried Ackermann cs s is ready = absurd cc
