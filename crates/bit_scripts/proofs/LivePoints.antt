-- At each point of commands that can be printed the live assertions and the literals are well-sorted formulas over live symbols, and
-- the live symbols have usable names that are different. A supply that gives no name of the commands gives none of theirs.
use Rattle.std.proofs.Common.{◌≡◌, ℕ, zero, suc, Bool, true, false, ◌&&◌, List, [], ◌∷◌, Option, Some, None, All}
use Rattle.std.specs.Prelude.{IfSome, flat_map}
use Rattle.std.proofs.lemmas.List.Elements.{All-nil}
use Rattle.smt_terms.specs.Fresh.{Supply}
use Rattle.smt_terms.specs.Sorts.{Symbol}
use Rattle.smt_terms.specs.SubstLaws.{GivesNone}
use Rattle.smt_terms.specs.Term.{Term}
use Rattle.smt_terms.proofs.Substitution.{gives-left, gives-right}
use Rattle.smt_terms.proofs.Tests.{both_true}
use Rattle.script_read.specs.Commands.{Command, check, check_assuming, State, start, after, symbols_of_state, live_in, Point, with_point, points_from, points, nth_point, at_point, live, literals, signature}
use Rattle.script_read.specs.Laws.{names_in_command, GivesNoNameOf}
use Rattle.script_read.specs.Printable.{may_stand, fixes, may_be_followed, printable_from, printable}
use Rattle.bit_scripts.proofs.LiveFormulas.{IsLiveFormula, literals_live}
use Rattle.bit_scripts.proofs.LiveStates.{AreLive, none_live, Fits, start_fits, live_fits, after_fits}

module _ (s : Supply) where
  record PointFits (p : Point Term) : Type 0 where
    state : Fits s p.state
    literals : All (IsLiveFormula s (symbols_of_state p.state)) p.literals

  abbrev PointsFit : List (Point Term) → Type 0
  PointsFit [] = Unit {0}
  PointsFit (p ∷ ps) = PointFits p × PointsFit ps

  with_point_fits : (begun : Bool) (c : Command Term) (st : State Term) (ps : List (Point Term)) → may_stand begun st c ≡ true → GivesNone s (names_in_command c) → Fits s st → PointsFit ps → PointsFit (with_point c st ps)
  with_point_fits begun check st ps h names fits below = (record { state = fits; literals = All-nil (IsLiveFormula s (symbols_of_state st)) }, below)
  with_point_fits begun (check_assuming ls) st ps h names fits below = (record { state = fits; literals = literals_live s st ls h names }, below)
  with_point_fits begun _ st ps h names fits below = below

  points_fit : (cs : List (Command Term)) (begun : Bool) (st : State Term) → printable_from begun st cs ≡ true → GivesNoNameOf s cs → Fits s st → PointsFit (points_from st cs)
  points_fit [] begun st h names fits = (record { state = fits; literals = All-nil (IsLiveFormula s (symbols_of_state st)) }, tt)
  points_fit (c ∷ cs) begun st h names fits =
      let here = both_true (may_stand begun st c) (may_be_followed c cs && printable_from (fixes begun c) (after c st) cs) h in
      let there = both_true (may_be_followed c cs) (printable_from (fixes begun c) (after c st) cs) here.1 in
      let own : GivesNone s (names_in_command c) = gives-left s (names_in_command c) (flat_map names_in_command cs) names in
      with_point_fits begun c st (points_from (after c st) cs) here.0 own fits
      (points_fit cs (fixes begun c) (after c st) there.1 (gives-right s (names_in_command c) (flat_map names_in_command cs) names) (after_fits s begun c st here.0 own fits))

  nth_fits : (ps : List (Point Term)) (k : ℕ) → PointsFit ps → IfSome (nth_point ps k) PointFits
  nth_fits [] k fit = tt
  nth_fits (p ∷ ps) zero fit = tt
  nth_fits (p ∷ ps) (suc zero) fit = fit.0
  nth_fits (p ∷ ps) (suc (suc k)) fit = nth_fits ps (suc k) fit.1

  -- ---- at a point

  pub record LiveAt (fs : List Symbol) (ts us : List Term) : Type 0 where
    pub symbols : AreLive s fs
    pub live : All (IsLiveFormula s fs) ts
    pub literals : All (IsLiveFormula s fs) us

  live_at_point : (o : Option (Point Term)) → IfSome o PointFits → LiveAt (at_point (λ p. symbols_of_state p.state) o) (at_point (λ p. live_in p.state) o) (at_point (λ p. p.literals) o)
  live_at_point None fits = record { symbols = none_live s; live = All-nil (IsLiveFormula s []); literals = All-nil (IsLiveFormula s []) }
  live_at_point (Some p) fits = record { symbols = fits.state.symbols; live = live_fits s p.state fits.state; literals = fits.literals }

  pub live_at : (cs : List (Command Term)) (k : ℕ) → printable cs ≡ true → GivesNoNameOf s cs → LiveAt (signature cs k).symbols (live cs k) (literals cs k)
  live_at cs k h names = live_at_point (nth_point (points cs) k) (nth_fits (points cs) k (points_fit cs false start h names (start_fits s)))
