-- What ready commands declare, assert and assume has none of the names that are left, and what they assert and assume are
-- formulas; so it is at each point.
use Rattle.std.proofs.Common.{◌≡◌, ℕ, Bool, true, ◌&&◌, List, [], ◌∷◌, Some, All}
use Rattle.std.specs.Prelude.{flat_map}
use Rattle.std.specs.List.{list_all}
use Rattle.std.proofs.lemmas.List.Elements.{All-nil, All-cons}
use Rattle.smt_terms.specs.Equal.{name_eq}
use Rattle.smt_terms.specs.Free.{name_among}
use Rattle.smt_terms.specs.Fresh.{Supply, NeverGives}
use Rattle.smt_terms.specs.Rank.{sort_of}
use Rattle.smt_terms.specs.Sorts.{bool, Symbol}
use Rattle.smt_terms.specs.SubstLaws.{names_within, GivesNone}
use Rattle.smt_terms.specs.Term.{Term}
use Rattle.smt_terms.proofs.Equal.{name_itself}
use Rattle.smt_terms.proofs.Substitution.{gives-left, gives-right}
use Rattle.smt_terms.proofs.Tests.{both_true, left_true}
use Rattle.script_read.specs.Commands.{Command, declare, assert, check_assuming, State, start, after}
use Rattle.script_read.specs.Laws.{names_in_command, GivesNoNameOf}
use Rattle.script_read.specs.Printable.{is_live_literal, may_stand, fixes, may_be_followed, printable_from}
use Rattle.pass_laws.specs.Laws.{IsReady}
use Rattle.pass_laws.proofs.FittingPoints.{Fits, EachFits, FitAt, fit_at}
use Rattle.pass_laws.proofs.Literals.{sorted_formula, literal_fine}
use Rattle.pass_laws.proofs.Standing.{Stands, stands}

-- a formula, none of whose names the supply gives
pub record IsSpared (s : Supply) (t : Term) : Type 0 where
  pub sort : sort_of t ≡ Some bool
  pub names : GivesNone s (names_within t)

abbrev pub IsSparedSymbol : Supply → Symbol → Type 0
IsSparedSymbol s f = NeverGives s f.name

abbrev pub SparedAt : Supply → List (Command Term) → ℕ → Type 0
SparedAt s cs k = FitAt Term (IsSpared s) (IsSparedSymbol s) (IsSpared s) cs k

literals_spared : (s : Supply) (st : State Term) (ls : List Term) → list_all (is_live_literal st) ls ≡ true → GivesNone s (flat_map names_within ls) → All (IsSpared s) ls
literals_spared s st [] all given = All-nil (IsSpared s)
literals_spared s st (l ∷ ls) all given =
    let parts = both_true (is_live_literal st l) (list_all (is_live_literal st) ls) all in
    All-cons (IsSpared s) l ls
    (record { sort = (literal_fine st l parts.0).sort; names = gives-left s (names_within l) (flat_map names_within ls) given })
    (literals_spared s st ls parts.1 (gives-right s (names_within l) (flat_map names_within ls) given))

command_spared : (s : Supply) (begun : Bool) (st : State Term) (c : Command Term) → may_stand begun st c ≡ true → GivesNone s (names_in_command c) → Fits Term (IsSpared s) (IsSparedSymbol s) (IsSpared s) c
command_spared s begun st (declare f) h given = given f.name (left_true (name_eq f.name f.name) (name_among [] f.name) (name_itself f.name))
command_spared s begun st (assert i t) h given =
    let stand : Stands st t = stands begun st i t h in
    record { sort = (sorted_formula t stand.formula stand.sorted).sort; names = given }
command_spared s begun st (check_assuming ls) h given = literals_spared s st ls h given
command_spared s begun st _ h given = tt

commands_spared : (s : Supply) (cs : List (Command Term)) (begun : Bool) (st : State Term) → printable_from begun st cs ≡ true → GivesNoNameOf s cs → EachFits Term (IsSpared s) (IsSparedSymbol s) (IsSpared s) cs
commands_spared s [] begun st h given = tt
commands_spared s (c ∷ cs) begun st h given =
    let a = both_true (may_stand begun st c) (may_be_followed c cs && printable_from (fixes begun c) (after c st) cs) h in
    let b = both_true (may_be_followed c cs) (printable_from (fixes begun c) (after c st) cs) a.1 in (
      command_spared s begun st c a.0 (gives-left s (names_in_command c) (flat_map names_in_command cs) given),
      commands_spared s cs (fixes begun c) (after c st) b.1 (gives-right s (names_in_command c) (flat_map names_in_command cs) given),
    )

pub spared_at : (cs : List (Command Term)) (s : Supply) → IsReady cs s → (k : ℕ) → SparedAt s cs k
spared_at cs s ready k = fit_at Term (IsSpared s) (IsSparedSymbol s) (IsSpared s) cs (commands_spared s cs _ start ready.printable ready.names) k
