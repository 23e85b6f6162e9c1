-- Models are carried over a pass that puts groups in the place of assertions, back and forth.
use Rattle.std.proofs.Common.{ℕ, List, sym, subst}
use Rattle.smt_terms.specs.Fresh.{Supply}
use Rattle.term_groups.specs.Drawing.{ConstantsAreNew}
use Rattle.script_read.specs.Commands.{Command}
use Rattle.pass_laws.specs.GroupPoints.{inputs, outputs, PointsOfGroups, AreGrouped, without_new, with_values, GroupsHavePoints, IsGrouping, ReadyCommandsAreGrouped, GroupsKeepModels, GroupsKeepSignatures}
use Rattle.pass_laws.specs.Groups.{groups_from}
use Rattle.pass_laws.specs.Laws.{IsReady, CarriesModels, CarriesSignatures}
use Rattle.pass_laws.specs.Passed.{Replacement}
use Rattle.pass_laws.proofs.DroppedGraphs.{over_before, model_before}
use Rattle.pass_laws.proofs.GivenValues.{over_behind, model_behind}
use Rattle.pass_laws.proofs.GroupsAtPoints.{GroupsAt, groups_at}

module _ (law : ConstantsAreNew) (rs : List (Command Replacement)) (s r : Supply) (points : PointsOfGroups rs) (grouped : AreGrouped rs s r) (ready : IsReady (inputs rs) s) where
  known : (k : ℕ) → GroupsAt rs k
  known k = groups_at law rs s r grouped points ready k

  groups_carry : CarriesModels (inputs rs) (outputs rs) (λ k m. without_new rs m) (λ k m. with_values rs k m)
  groups_carry = record {
    kinds = points.kinds;
    back = λ k m is. model_before rs points k (known k) m is;
    forth = λ k m is. model_behind rs points k (known k) m is;
  }

  groups_carry_over : CarriesSignatures (inputs rs) (outputs rs) (λ k m. without_new rs m) (λ k m. with_values rs k m)
  groups_carry_over = record {
    back = λ k m over. over_before rs points k (known k) m over;
    forth = λ k m over. over_behind rs points k (known k) m over;
  }

module _ (points : GroupsHavePoints) (grouped : ReadyCommandsAreGrouped) where
  pub groups-keep-models : GroupsKeepModels
  groups-keep-models make makes law cs s ready =
      let is : IsGrouping make cs s = grouped make makes law cs s ready in
      let known : PointsOfGroups (groups_from make cs s).0 = search (points, is.grouped) in
      subst (λ ds. CarriesModels ds (outputs (groups_from make cs s).0) (λ k m. without_new (groups_from make cs s).0 m) (λ k m. with_values (groups_from make cs s).0 k m)) is.before
      (groups_carry law (groups_from make cs s).0 s (groups_from make cs s).1 known is.grouped (subst (λ ds. IsReady ds s) (sym is.before) ready))

  pub groups-keep-signatures : GroupsKeepSignatures
  groups-keep-signatures make makes law cs s ready =
      let is : IsGrouping make cs s = grouped make makes law cs s ready in
      let known : PointsOfGroups (groups_from make cs s).0 = search (points, is.grouped) in
      subst (λ ds. CarriesSignatures ds (outputs (groups_from make cs s).0) (λ k m. without_new (groups_from make cs s).0 m) (λ k m. with_values (groups_from make cs s).0 k m)) is.before
      (groups_carry_over law (groups_from make cs s).0 s (groups_from make cs s).1 known is.grouped (subst (λ ds. IsReady ds s) (sym is.before) ready))
