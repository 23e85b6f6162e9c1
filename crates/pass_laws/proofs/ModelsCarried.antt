-- Models of commands are models of equivalent ones, and so those behind passes are models of those before them, and the other way
-- round.
use Rattle.std.proofs.Common.{◌≡◌, ◌∙◌, sym, ℕ, false, ◌&&◌, List, subst}
use Rattle.std.specs.List.{list_all}
use Rattle.smt_terms.specs.Fresh.{Supply}
use Rattle.smt_terms.specs.Models.{Model, IsModel, IsModelOver}
use Rattle.smt_terms.specs.Term.{Term}
use Rattle.script_read.specs.Commands.{Command, Signature, start, live, signature}
use Rattle.script_read.specs.Satisfied.{is_true_in, sat}
use Rattle.smt_print.proofs.LikePoints.{alike}
use Rattle.pass_laws.specs.Laws.{IsReady, AreEquivalent, PassesKeepCommands, PassesLeaveModels, IsModelOf, CarriesModels, CarriesSignatures, EquivalentsHaveOneModel, PassesCarryModels}
use Rattle.pass_laws.specs.Passed.{passed}
use Rattle.pass_laws.proofs.Literals.{IsFormula}
use Rattle.pass_laws.proofs.Truths.{AreFormulas, truths_kept}
use Rattle.pass_laws.proofs.Walked.{all_like}

live_formulas : (cs : List (Command Term)) (s : Supply) → IsReady cs s → (k : ℕ) → AreFormulas (live cs k)
live_formulas cs s ready = (alike Term Term (λ t u. IsFormula t) cs cs (all_like (λ t u. IsFormula t) (λ t fine. fine) cs false start ready.printable)).live

sat_alike : (cs ds : List (Command Term)) (k : ℕ) → AreFormulas (live cs k) → AreEquivalent cs ds → (m : Model) → IsModel m → sat m cs k ≡ sat m ds k
sat_alike cs ds k formulas same m model =
    λ i. truths_kept m model (live cs k) (live ds k) formulas (same.live k) i && list_all (is_true_in m) (sym (same.literals k) i)

-- a model over what is declared at point k
abbrev pub IsOver : List (Command Term) → ℕ → Model → Type 0
IsOver cs k m = IsModelOver (signature cs k).sorts (signature cs k).symbols m

over_same : (m : Model) (g h : Signature) → g ≡ h → IsModelOver g.sorts g.symbols m → IsModelOver h.sorts h.symbols m
over_same m g h same over = subst (λ (f : Signature). IsModelOver f.sorts f.symbols m) same over

backward : (cs ds : List (Command Term)) (k : ℕ) → AreFormulas (live cs k) → AreEquivalent cs ds → (m : Model) → IsModelOf ds k m → IsModelOf cs k m
backward cs ds k formulas same m is = record {
  over = over_same m (signature ds k) (signature cs k) (same.signatures k) is.over;
  sat = sat_alike cs ds k formulas same m is.over.valid ∙ is.sat;
}

forward : (cs ds : List (Command Term)) (k : ℕ) → AreFormulas (live cs k) → AreEquivalent cs ds → (m : Model) → IsModelOf cs k m → IsModelOf ds k m
forward cs ds k formulas same m is = record {
  over = over_same m (signature cs k) (signature ds k) (sym (same.signatures k)) is.over;
  sat = sym (sat_alike cs ds k formulas same m is.over.valid) ∙ is.sat;
}

pub one_model : EquivalentsHaveOneModel
one_model cs ds s ready same = record {
  kinds = same.kinds;
  back = λ k m is. backward cs ds k (live_formulas cs s ready k) same m is;
  forth = λ k m is. forward cs ds k (live_formulas cs s ready k) same m is;
}

pub one_signature : (cs ds : List (Command Term)) → AreEquivalent cs ds → CarriesSignatures cs ds (λ k m. m) (λ k m. m)
one_signature cs ds same = record {
  back = λ k m over. over_same m (signature ds k) (signature cs k) (same.signatures k) over;
  forth = λ k m over. over_same m (signature cs k) (signature ds k) (sym (same.signatures k)) over;
}

pub passes_carry : PassesKeepCommands → PassesLeaveModels → PassesCarryModels
passes_carry kept stay ps cs s all ready =
    let ds : List (Command Term) = (passed ps cs s).0 in
    let carries : CarriesModels cs (passed ps cs s).0 (λ k m. m) (λ k m. m) = one_model cs ds s ready (kept ps cs s all ready).equivalent in
    record {
      kinds = carries.kinds;
      back = λ k m is. subst (IsModelOf cs k) (sym (stay ps cs s all k m).0) (carries.back k m is);
      forth = λ k m is. subst (IsModelOf (passed ps cs s).0 k) (sym (stay ps cs s all k m).1) (carries.forth k m is);
    }
