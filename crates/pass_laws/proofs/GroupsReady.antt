-- Commands behind a pass that makes groups can be printed, and the names that are left are none of theirs.
use Rattle.std.proofs.Common.{◌≡◌, sym, refl, subst, ℕ, Bool, true, false, ◌&&◌, List, [], ◌∷◌}
use Rattle.std.specs.Prelude.{flat_map}
use Rattle.smt_terms.specs.Fresh.{Supply, numbered_name}
use Rattle.smt_terms.specs.SubstLaws.{names_within, GivesNone, Later}
use Rattle.smt_terms.specs.Term.{Term}
use Rattle.smt_terms.proofs.Tests.{both_true, and_true}
use Rattle.term_groups.specs.Drawing.{ConstantsAreNew}
use Rattle.script_read.specs.Commands.{Command, with_asserted, assert, exit, State, start, after}
use Rattle.script_read.specs.Laws.{names_in_command, GivesNoNameOf}
use Rattle.script_read.specs.Printable.{is_usable, may_stand, fixes, may_be_followed, printable_from}
use Rattle.pass_laws.specs.GroupPoints.{inputs, outputs, AreGrouped, IsGrouping, ReadyCommandsAreGrouped, GroupsAreReady}
use Rattle.pass_laws.specs.Groups.{groups_from}
use Rattle.pass_laws.specs.Laws.{IsReady}
use Rattle.pass_laws.specs.Passed.{Replacement}
use Rattle.pass_laws.proofs.GroupsReadyNames.{names_spared}
use Rattle.pass_laws.proofs.ReadyGroups.{group_prints}
use Rattle.pass_laws.proofs.ReadyNames.{given_left, given_right}
use Rattle.pass_laws.proofs.ReadyStates.{Grown, start_grown, asserted_before, Stays, may_stay, after_stays}
use Rattle.pass_laws.proofs.ReadySymbols.{NamesOfGroup, names_of_group}
use Rattle.pass_laws.proofs.Standing.{stands}

followed_by : (c : Command Term) (rs : List (Command Replacement)) → may_be_followed c (inputs rs) ≡ true → may_be_followed c (outputs rs) ≡ true
followed_by exit [] h = refl
followed_by exit (r ∷ rs) h = absurd cc
followed_by _ rs h = refl

-- what is known of the first of commands that can be printed, and of the others
pub record First (begun : Bool) (a : State Term) (c : Command Term) (cs : List (Command Term)) : Type 0 where
  pub may : may_stand begun a c ≡ true
  pub followed : may_be_followed c cs ≡ true
  pub rest : printable_from (fixes begun c) (after c a) cs ≡ true

pub first_of_all : (begun : Bool) (a : State Term) (c : Command Term) (cs : List (Command Term)) → printable_from begun a (c ∷ cs) ≡ true → First begun a c cs
first_of_all begun a c cs h =
    let here = both_true (may_stand begun a c) (may_be_followed c cs && printable_from (fixes begun c) (after c a) cs) h in
    let there = both_true (may_be_followed c cs) (printable_from (fixes begun c) (after c a) cs) here.1 in
    record { may = here.0; followed = there.0; rest = there.1 }

-- s was there first, and gives no name of the commands
module _ (usable : (i : ℕ) → is_usable (numbered_name i) ≡ true) (constants : ConstantsAreNew) (s : Supply) where
  -- from states with the same levels but for new symbols, where q is left
  abbrev Prints : List (Command Replacement) → Type 0
  Prints rs = (q r : Supply) (begun : Bool) (a b : State Term) → AreGrouped rs q r → Later s q → GivesNoNameOf s (inputs rs) → Grown s q a b → printable_from begun a (inputs rs) ≡ true → printable_from begun b (outputs rs) ≡ true

  stay_prints : (c : Command Term) (rs : List (Command Replacement)) → Stays c → Prints rs → (q r : Supply) (begun : Bool) (a b : State Term) → AreGrouped rs q r → Later s q → GivesNoNameOf s (c ∷ inputs rs) → Grown s q a b → printable_from begun a (c ∷ inputs rs) ≡ true → printable_from begun b (c ∷ outputs rs) ≡ true
  stay_prints c rs stays below q r begun a b grouped later names g h =
      let first : First begun a c (inputs rs) = first_of_all begun a c (inputs rs) h in
      let own : GivesNone s (names_in_command c) = given_left s (names_in_command c) (flat_map names_in_command (inputs rs)) names in
      and_true (may_stand begun b c) (may_be_followed c (outputs rs) && printable_from (fixes begun c) (after c b) (outputs rs))
      (may_stay s q a b g begun c stays own first.may)
      (and_true (may_be_followed c (outputs rs)) (printable_from (fixes begun c) (after c b) (outputs rs)) (followed_by c rs first.followed)
      (below q r (fixes begun c) (after c a) (after c b) grouped later (given_right s (names_in_command c) (flat_map names_in_command (inputs rs)) names) (after_stays s q a b g begun c stays later own first.may) first.rest))

  assert_prints : (i : ℕ) (x : Replacement) (rs : List (Command Replacement)) → Prints rs → Prints (assert i x ∷ rs)
  assert_prints i x rs below q r begun a b grouped later names g h =
      let first : First begun a (assert i x.term) (inputs rs) = first_of_all begun a (assert i x.term) (inputs rs) h in
      let drawn : NamesOfGroup q grouped.0 x.group.symbols = names_of_group constants x.term q grouped.0 x.group grouped.1.0 in
      group_prints usable constants s q grouped.0 a b i x.term x.group (outputs rs) grouped.1.0 later g (stands begun a i x.term first.may)
      (λ c grown. below grouped.0 r true (after (assert i x.term) a) c grouped.1.1 (λ n never. drawn.later n (later n never)) (given_right s (names_within x.term) (flat_map names_in_command (inputs rs)) names) (asserted_before s grouped.0 a c grown i x.term) first.rest)
      begun

  all_print : (rs : List (Command Replacement)) → Prints rs
  all_print [] = λ q r begun a b grouped later names g h. refl
  all_print (assert i x ∷ rs) = assert_prints i x rs (all_print rs)
  all_print (c ∷ rs) = stay_prints (with_asserted (λ x. x.term) c) rs tt (all_print rs)

grouped_ready : ((i : ℕ) → is_usable (numbered_name i) ≡ true) → ConstantsAreNew → (rs : List (Command Replacement)) (s r : Supply) → AreGrouped rs s r → IsReady (inputs rs) s → IsReady (outputs rs) r
grouped_ready usable constants rs s r grouped ready = record {
  printable = all_print usable constants s rs s r false start start grouped (λ n never. never) ready.names (start_grown s) ready.printable;
  names = names_spared constants rs s r grouped ready.names;
}

pub groups-are-ready : ((i : ℕ) → is_usable (numbered_name i) ≡ true) → ReadyCommandsAreGrouped → GroupsAreReady
groups-are-ready usable are_grouped make makes constants cs s ready =
    let is : IsGrouping make cs s = are_grouped make makes constants cs s ready in
    grouped_ready usable constants (groups_from make cs s).0 s (groups_from make cs s).1 is.grouped (subst (λ ds. IsReady ds s) (sym is.before) ready)
