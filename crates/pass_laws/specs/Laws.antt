-- Statements of the laws of passes that put one assertion in the place of each: what becomes of commands that can be printed,
-- and of their models. SMT-LIB 2.6, section 4.2, for commands and section 5.3 for values.
use Rattle.std.specs.Prelude.{◌≡◌, ◌≤◌, ℕ, Bool, true, false, not, List, ◌∷◌, ◌++◌, count_by, Option, Some, None, All, IsTrue}
use Rattle.std.specs.List.{list_all, list_any}
use Rattle.smt_terms.specs.Equal.{symbol_eq}
use Rattle.smt_terms.specs.Fresh.{Supply}
use Rattle.smt_terms.specs.Keeps.{Keeps}
use Rattle.smt_terms.specs.Models.{Model, IsModelOver}
use Rattle.smt_terms.specs.Rank.{sort_of}
use Rattle.smt_terms.specs.Sorts.{Name, Symbol}
use Rattle.smt_terms.specs.Term.{Term}
use Rattle.term_table.specs.Formulas.{sort_or_bool}
use Rattle.script_read.specs.Commands.{Command, pop, kinds, live, literals, signature, is_check, checks}
use Rattle.script_read.specs.Laws.{GivesNoNameOf}
use Rattle.script_read.specs.Printable.{printable}
use Rattle.script_read.specs.Satisfied.{sat}
use Rattle.smt_print.specs.Laws.{Each}
use Rattle.pass_laws.specs.declared.names.Pass.{Pass}
use Rattle.pass_laws.specs.declared.names.Pass.TheVariants.{Simplify, Nnf, Aig, Prenex, Reads, Shannon, SelfSub, Rules, Ite, Cnf, Ackermann}
use Rattle.pass_laws.specs.Led.{EachMayBecome, LeadsTo}
use Rattle.pass_laws.specs.Lists.{groups_after_rules, makes_groups}
use Rattle.pass_laws.specs.LiveGroups.{Drawn, Operands, all_told, all_drawn, symbols_in, back_over_by, forth_over_by, asked_back_by, met_at, asked_of, removed_operands, AreApplied, levels_open}
use Rattle.pass_laws.specs.Passed.{apply_pass, passed, replacements, refused_by}
use Rattle.pass_laws.specs.Ruling.{RewritesCommands}
use Rattle.pass_laws.specs.Carry.{back, back_over, forth, forth_over, asked_back, asked_forth}

-- the passes of these laws: all that put one assertion in the place of each; stored rules count as changing nothing here
abbrev pub keeps_values : Pass → Bool
keeps_values Simplify = true
keeps_values Nnf = true
keeps_values Aig = true
keeps_values Prenex = true
keeps_values Reads = true
keeps_values Shannon = true
keeps_values SelfSub = true
keeps_values Rules = true
keeps_values _ = false

-- ---- commands that passes may be applied to

-- the commands can be printed, and the supply gives none of their names
pub record IsReady (cs : List (Command Term)) (s : Supply) : Type 0 where
  pub printable : IsTrue (printable cs)
  pub names : GivesNoNameOf s cs

-- ---- commands in place of others

-- the same checks; at each of them the same sorts, symbols and literals are live, and as many assertions, each of which is
-- well sorted and has the sort and in every model the value of the one in its place
pub record AreEquivalent (cs ds : List (Command Term)) : Type 0 where
  pub kinds : kinds ds ≡ kinds cs
  pub signatures : (k : ℕ) → signature ds k ≡ signature cs k
  pub live : (k : ℕ) → Each Keeps (live cs k) (live ds k)
  pub literals : (k : ℕ) → literals ds k ≡ literals cs k

-- a model over what is declared at point k, in which all that is live there holds
pub record IsModelOf (cs : List (Command Term)) (k : ℕ) (m : Model) : Type 0 where
  pub over : IsModelOver (signature cs k).sorts (signature cs k).symbols m
  pub sat : IsTrue (sat m cs k)

-- the same checks; a model of ds, carried back, is one of cs, and a model of cs, carried forth, is one of ds
pub record CarriesModels (cs ds : List (Command Term)) (to_first to_second : ℕ → Model → Model) : Type 0 where
  pub kinds : kinds ds ≡ kinds cs
  pub back : (k : ℕ) (m : Model) → IsModelOf ds k m → IsModelOf cs k (to_first k m)
  pub forth : (k : ℕ) (m : Model) → IsModelOf cs k m → IsModelOf ds k (to_second k m)

-- the same of models in which nothing has to hold: they stay models over what is declared at the point
pub record CarriesSignatures (cs ds : List (Command Term)) (to_first to_second : ℕ → Model → Model) : Type 0 where
  pub back : (k : ℕ) (m : Model) → IsModelOver (signature ds k).sorts (signature ds k).symbols m → IsModelOver (signature cs k).sorts (signature cs k).symbols (to_first k m)
  pub forth : (k : ℕ) (m : Model) → IsModelOver (signature cs k).sorts (signature cs k).symbols m → IsModelOver (signature ds k).sorts (signature ds k).symbols (to_second k m)

-- ---- the laws

-- of commands and a supply of names, and those behind a pass
pub record KeepsCommands (cs : List (Command Term)) (r : List (Command Term) × Supply) : Type 0 where
  pub ready : IsReady r.0 r.1
  pub equivalent : AreEquivalent cs r.0

abbrev pub PassKeepsCommands : Type 0
PassKeepsCommands = (p : Pass) (cs : List (Command Term)) (s : Supply) → IsTrue (keeps_values p) → IsReady cs s → KeepsCommands cs (apply_pass p cs s)

abbrev pub PassesKeepCommands : Type 0
PassesKeepCommands = (ps : List Pass) (cs : List (Command Term)) (s : Supply) → IsTrue (list_all keeps_values ps) → IsReady cs s → KeepsCommands cs (passed ps cs s)

-- behind the rules of a book: the commands are such as may be made of the first
abbrev pub RulesKeepCommands : Type 0
RulesKeepCommands = (ns : List Name) (cs ds : List (Command Term)) (s : Supply) → IsReady cs s → RewritesCommands ns cs ds → KeepsCommands cs (ds, s) × EachMayBecome ns cs ds

-- equivalent commands have the same models
abbrev pub EquivalentsHaveOneModel : Type 0
EquivalentsHaveOneModel = (cs ds : List (Command Term)) (s : Supply) → IsReady cs s → AreEquivalent cs ds → CarriesModels cs ds (λ k m. m) (λ k m. m)

-- models stay as they are: there are no new symbols
abbrev pub PassesLeaveModels : Type 0
PassesLeaveModels = (ps : List Pass) (cs : List (Command Term)) (s : Supply) → IsTrue (list_all keeps_values ps) → (k : ℕ) (m : Model) → (back ps cs s k m ≡ m) × (forth ps cs s k m ≡ m)

abbrev pub PassesCarryModels : Type 0
PassesCarryModels = (ps : List Pass) (cs : List (Command Term)) (s : Supply) → IsTrue (list_all keeps_values ps) → IsReady cs s → CarriesModels cs (passed ps cs s).0 (back ps cs s) (forth ps cs s)

-- ---- passes that put a group in the place of each assertion

-- the passes of this law
abbrev pub puts_groups : Pass → Bool
puts_groups Ite = true
puts_groups Cnf = true
puts_groups _ = false

-- of commands and a supply of names, behind such a pass
pub record PutsGroups (p : Pass) (cs : List (Command Term)) (s : Supply) : Type 0 where
  pub ready : IsReady (apply_pass p cs s).0 (apply_pass p cs s).1
  pub models : CarriesModels cs (apply_pass p cs s).0 (back_over p cs s) (forth_over p cs s)
  pub signatures : CarriesSignatures cs (apply_pass p cs s).0 (back_over p cs s) (forth_over p cs s)

abbrev pub GroupsCarryModels : Type 0
GroupsCarryModels = (p : Pass) (cs : List (Command Term)) (s : Supply) → IsTrue (puts_groups p) → IsReady cs s → PutsGroups p cs s

-- so does the removal of applications, where none stands below a quantifier
abbrev pub RemovalsCarryModels : Type 0
RemovalsCarryModels = (cs : List (Command Term)) (s : Supply) → IsReady cs s → refused_by Ackermann cs ≡ None → PutsGroups Ackermann cs s

-- ---- lists with any passes that can be run

-- of commands and a supply of names, and those that a pass made of them
pub record IsCarried (p : Pass) (cs ds : List (Command Term)) (s r : Supply) : Type 0 where
  pub ready : IsReady ds r
  pub equivalent : IsTrue (not (makes_groups p)) → AreEquivalent cs ds
  pub models : CarriesModels cs ds (back_over p cs s) (forth_over p cs s)
  pub signatures : CarriesSignatures cs ds (back_over p cs s) (forth_over p cs s)

-- and those that a list of passes made of them
pub record AreCarried (ps : List Pass) (cs ds : List (Command Term)) (s r : Supply) : Type 0 where
  pub ready : IsReady ds r
  pub equivalent : IsTrue (not (list_any makes_groups ps)) → AreEquivalent cs ds
  pub models : CarriesModels cs ds (back ps cs s) (forth ps cs s)
  pub signatures : CarriesSignatures cs ds (back ps cs s) (forth ps cs s)

-- ---- what is kept of such a pass

-- what was drawn and where it is live tells what carried models are, with what took the places of operands where applications
-- were removed
pub record TellsModels (p : Pass) (cs : List (Command Term)) (s : Supply) (ops : Option Operands) : Type 0 where
  pub distinct : (f : Symbol) → count_by (symbol_eq f) (symbols_in (all_drawn (all_told (replacements p cs s).0))) ≤ 1
  pub back : (k : ℕ) (m : Model) → 1 ≤ k → k ≤ checks cs → back_over p cs s k m ≡ back_over_by ops (all_told (replacements p cs s).0) (met_at k (all_told (replacements p cs s).0)) m
  pub asked_back : (k : ℕ) → 1 ≤ k → k ≤ checks cs → asked_back p cs s k ≡ asked_back_by ops (met_at k (all_told (replacements p cs s).0))
  pub forth : (k : ℕ) (m : Model) → 1 ≤ k → k ≤ checks cs → forth_over p cs s k m ≡ forth_over_by ops (met_at k (all_told (replacements p cs s).0)) m
  pub asked : (k : ℕ) → 1 ≤ k → k ≤ checks cs → asked_forth p cs s k ≡ asked_of (met_at k (all_told (replacements p cs s).0))
  pub checks : count_by is_check (all_told (replacements p cs s).0) ≡ checks cs

abbrev pub StepsTellModels : Type 0
StepsTellModels = (p : Pass) (cs : List (Command Term)) (s : Supply) → IsTrue (puts_groups p) → IsReady cs s → TellsModels p cs s None

-- each symbol that such a pass draws has the sort of the term that it stands for
abbrev pub HaveSorts : Drawn → Type 0
HaveSorts d = All (λ n. n.0.result ≡ sort_or_bool (sort_of n.1)) d.symbols

abbrev pub DrawnHaveSorts : Type 0
DrawnHaveSorts = (p : Pass) (cs : List (Command Term)) (s : Supply) → IsTrue (puts_groups p) → IsReady cs s → All HaveSorts (all_drawn (all_told (replacements p cs s).0))

-- the same of the removal of applications; the function of each live application is live
pub record TellsRemovals (cs : List (Command Term)) (s : Supply) : Type 0 where
  pub models : TellsModels Ackermann cs s (Some (removed_operands cs s))
  pub sorts : All HaveSorts (all_drawn (all_told (replacements Ackermann cs s).0))
  pub functions : (k : ℕ) → 1 ≤ k → k ≤ checks cs → AreApplied (met_at k (all_told (replacements Ackermann cs s).0))

abbrev pub RemovalsTellModels : Type 0
RemovalsTellModels = (cs : List (Command Term)) (s : Supply) → IsReady cs s → refused_by Ackermann cs ≡ None → TellsRemovals cs s

-- levels are open where they are closed
abbrev pub LevelsAreOpen : Type 0
LevelsAreOpen = (before : List (Command Term)) (n : ℕ) (behind : List (Command Term)) (s : Supply) → IsReady (before ++ pop n ∷ behind) s → n ≤ levels_open before

-- ---- what is declared behind a list

-- commands that the passes may make declare at each point what the definition's do, though stored rules may have changed their
-- assertions
abbrev pub SignaturesLedTo : Type 0
SignaturesLedTo =
    (ps : List Pass) (cs : List (Command Term)) (s : Supply) (rules : List Name) (ds : List (Command Term)) (r : Supply) (k : ℕ) → IsReady cs s → groups_after_rules ps ≡ false
    → LeadsTo ps cs s rules ds r → signature ds k ≡ signature (passed ps cs s).0 k
