-- What the program's code makes of its words.
use Rattle.std.specs.Prelude.{◌≡◌, ℕ, ◌+◌, ◌*◌, ◌≤◌, Bool, true, false, ◌&&◌, nat_le, if◌then◌else◌, Result, Ok, Err, Option, Some, None, is_some, option_map, List, [], ◌∷◌, ◌++◌, length, codes, bytes_eq}
use Rattle.std.specs.Borrow.{Bor}
use Rattle.std.specs.List.{list_any}
use Rattle.clap.specs.Matches.{first_value}
use Rattle.clap.specs.declared.parser.matches.Found.{Found}
use Rattle.smt_print.specs.declared.layout.Layout.{Layout}
use Rattle.smt_print.specs.declared.layout.Layout.TheVariants.{Tree}
use Rattle.pass_laws.specs.declared.names.Pass.{Pass}
use Rattle.pass_laws.specs.declared.names.ListFault.{ListFault}
use Rattle.pass_laws.specs.Lists.{pass_list_of}
use Rattle.smtrw_answers.specs.declared.status.Usage.{Usage}
use Rattle.smtrw_answers.specs.declared.grammar.Name.{Name}
use Rattle.smtrw_answers.specs.declared.grammar.Name.TheVariants.{Rewrite, Translate, Extend, Blast, Unblast, Dimacs, Answer, Stats, Demo}
use Rattle.smtrw_answers.specs.declared.grammar.Setting.{Setting as CodeSetting}
use Rattle.smtrw_answers.specs.declared.grammar.Setting.TheVariants.{Passes, Layout as LayoutOption, Check}
use Rattle.smtrw_answers.specs.declared.grammar.Operands.{Operands}
use Rattle.smtrw_answers.specs.declared.grammar.Operands.TheVariants.{Absent, One, Two}
use Rattle.smtrw_answers.specs.declared.grammar.Seen.{Seen}
use Rattle.smtrw_answers.specs.declared.grammar.Plan.{Plan}
use Rattle.smtrw_answers.specs.declared.grammar.Plan.TheVariants as plan
use Rattle.smtrw_answers.specs.Words.{Word, Numbered, Command, rewriting, translating, extending, blasting, unblasting, linking, answering, counting, demonstrating, needed, Setting, of_passes, of_layout, of_check, takes_pass, Given, number_in, is_from, is_up_to, greatest_size, layout_named, Asked, rewrite, translate, extend, blast, unblast, dimacs, answer, stats, demo}

-- ---- commands and options of the code

abbrev pub command_of : Name → Command
command_of Rewrite = rewriting
command_of Translate = translating
command_of Extend = extending
command_of Blast = blasting
command_of Unblast = unblasting
command_of Dimacs = linking
command_of Answer = answering
command_of Stats = counting
command_of Demo = demonstrating

abbrev pub setting_of : CodeSetting → Setting
setting_of Passes = of_passes
setting_of LayoutOption = of_layout
setting_of Check = of_check

-- an option with its value
abbrev pub option_seen : CodeSetting × Option (Bor Word) → Setting × Option Word
option_seen o = (setting_of o.0, option_map (λ v. v.now) o.1)

-- ---- word by word

abbrev pub has_setting : CodeSetting → Seen → Bool
has_setting Passes s = s.passes
has_setting LayoutOption s = s.layout
has_setting Check s = s.check

abbrev pub HasOperands : Operands → List Numbered → Type 0
HasOperands Absent plain = plain ≡ []
HasOperands (One i) plain = (w : Word) × (plain ≡ record { number = i; word = w } ∷ [])
HasOperands (Two i j) plain = (w : Word) × (v : Word) × (plain ≡ record { number = i; word = w } ∷ record { number = j; word = v } ∷ [])

-- standard input is among the files
abbrev pub names_input : List Numbered → Bool
names_input = list_any (λ f. bytes_eq f.word (codes "-"))

-- one more, where the command takes one
abbrev pub TakesOperand : Command → List Numbered → Numbered → Option Operands → Type 0
TakesOperand c plain f None = nat_le (needed c) (length plain) ≡ true
TakesOperand c plain f (Some operands) = (nat_le (needed c) (length plain) ≡ false) × HasOperands operands (plain ++ f ∷ [])

-- an option whose value is awaited wasn't given before
abbrev pub AwaitsNew : Option CodeSetting → Seen → Type 0
AwaitsNew None s = Unit {0}
AwaitsNew (Some o) s = has_setting o s ≡ false

-- what is seen is what was given
pub record Agrees (s : Seen) (g : Given) : Type 0 where
  pub passes : is_some g.passes ≡ s.passes
  pub layout : is_some g.layout ≡ s.layout
  pub check : is_some g.check ≡ s.check
  pub plain : HasOperands s.operands g.plain
  pub input : names_input g.plain ≡ s.reads_input
  pub awaited : g.awaited ≡ option_map setting_of s.awaited
  pub new : AwaitsNew s.awaited s

abbrev pub one_if : Bool → ℕ
one_if true = 1
one_if false = 0

abbrev pub operand_count : Operands → ℕ
operand_count Absent = 0
operand_count (One i) = 1
operand_count (Two i j) = 2

-- at least as many words as were met
abbrev pub most_words : Seen → ℕ
most_words s = 2 * one_if s.passes + 2 * one_if s.layout + 2 * one_if s.check + operand_count s.operands + one_if (is_some s.awaited)

-- one more word was accepted, or has this fault
abbrev pub StepFits : Seen → Result Seen Usage → Result Given Usage → Type 0
StepFits s (Ok t) (Ok h) = Agrees t h × (most_words s + 1 ≤ most_words t)
StepFits s (Err u) (Err v) = u ≡ v
StepFits s _ _ = ⊥

-- ---- behind the last word

abbrev pub IsPlanOf : Asked → Plan → Type 0
IsPlanOf (rewrite ps l f) p = p ≡ plan.Rewrite f.number
IsPlanOf (translate ps k s m) p = p ≡ plan.Translate s.number m.number
IsPlanOf (extend ps k s m) p = p ≡ plan.Extend s.number m.number
IsPlanOf (blast ps k f) p = p ≡ plan.Blast f.number
IsPlanOf (unblast ps k s m) p = p ≡ plan.Unblast s.number m.number
IsPlanOf (dimacs ps k f) p = p ≡ plan.Dimacs f.number
IsPlanOf (answer ps k s a) p = p ≡ plan.Answer s.number a.number
IsPlanOf (stats f) p = p ≡ plan.Stats f.number
IsPlanOf (demo seed size) p = p ≡ plan.Demo

abbrev pub EndFits : Result Plan Usage → Result Asked Usage → Type 0
EndFits (Ok p) (Ok a) = IsPlanOf a p
EndFits (Err u) (Err v) = u ≡ v
EndFits _ _ = ⊥

-- ---- values

-- the passes of an option's value, by those that the command takes; no passes where it isn't given
abbrev pub passes_in : Command → Option Word → Result (List Pass) ListFault
passes_in c None = Ok []
passes_in c (Some text) = pass_list_of (takes_pass c) text

-- the layout of an option's value; trees where it isn't given
abbrev pub layout_in : Option Word → Option Layout
layout_in None = Some Tree
layout_in (Some name) = layout_named name

-- checks are counted from 1
abbrev pub check_named : Word → Option ℕ
check_named w = if is_from 1 (number_in w) then number_in w else None

-- a demonstration has at least one step
abbrev pub size_named : Word → Option ℕ
size_named w = if is_from 1 (number_in w) && is_up_to greatest_size (number_in w) then number_in w else None

-- the check of an option's value; the first one where it isn't given
abbrev pub check_in : Option Word → Option ℕ
check_in None = Some 1
check_in (Some number) = check_named number

-- ---- what `clap` finds in words without a fault

-- what is asked for, by the one command that asks for it
abbrev pub IsAskedBy : Command → Asked → Type 0
IsAskedBy c (rewrite ps l f) = c ≡ rewriting
IsAskedBy c (translate ps k s m) = c ≡ translating
IsAskedBy c (extend ps k s m) = c ≡ extending
IsAskedBy c (blast ps k f) = c ≡ blasting
IsAskedBy c (unblast ps k s m) = c ≡ unblasting
IsAskedBy c (dimacs ps k f) = c ≡ linking
IsAskedBy c (answer ps k s a) = c ≡ answering
IsAskedBy c (stats f) = c ≡ counting
IsAskedBy c (demo seed size) = c ≡ demonstrating

abbrev pub AsksBy : Command → Result Asked Usage → Type 0
AsksBy c (Ok a) = IsAskedBy c a
AsksBy c (Err u) = ⊥

abbrev pub IsRewriting : Result Asked Usage → Type 0
IsRewriting (Ok (rewrite ps l f)) = Unit {0}
IsRewriting _ = ⊥

abbrev pub IsCarrying : Result Asked Usage → Type 0
IsCarrying (Ok (translate ps k s m)) = Unit {0}
IsCarrying (Ok (extend ps k s m)) = Unit {0}
IsCarrying (Ok (unblast ps k s m)) = Unit {0}
IsCarrying (Ok (answer ps k s a)) = Unit {0}
IsCarrying _ = ⊥

abbrev pub IsBlasting : Result Asked Usage → Type 0
IsBlasting (Ok (blast ps k f)) = Unit {0}
IsBlasting (Ok (dimacs ps k f)) = Unit {0}
IsBlasting _ = ⊥

abbrev pub IsCounting : Result Asked Usage → Type 0
IsCounting (Ok (stats f)) = Unit {0}
IsCounting _ = ⊥

abbrev pub IsDemonstrating : Result Asked Usage → Type 0
IsDemonstrating (Ok (demo seed size)) = Unit {0}
IsDemonstrating _ = ⊥

abbrev pub GivesRewriting : Result Asked Usage → Found → Type 0
GivesRewriting (Ok (rewrite ps l f)) found =
    (passes_in rewriting (first_value found (codes "passes")) ≡ Ok ps)
    × (layout_in (first_value found (codes "layout")) ≡ Some l)
    × (first_value found (codes "file") ≡ Some f.word)
GivesRewriting _ found = ⊥

abbrev pub CarryingIn : Command → List Pass → ℕ → Numbered → Numbered → Found → Type 0
CarryingIn c ps k s m found =
    (passes_in c (first_value found (codes "passes")) ≡ Ok ps)
    × (check_in (first_value found (codes "check")) ≡ Some k)
    × (first_value found (codes "script") ≡ Some s.word)
    × (first_value found (codes "model") ≡ Some m.word)

abbrev pub GivesCarrying : Result Asked Usage → Found → Type 0
GivesCarrying (Ok (translate ps k s m)) found = CarryingIn translating ps k s m found
GivesCarrying (Ok (extend ps k s m)) found = CarryingIn extending ps k s m found
GivesCarrying (Ok (unblast ps k s m)) found = CarryingIn unblasting ps k s m found
GivesCarrying (Ok (answer ps k s a)) found = CarryingIn answering ps k s a found
GivesCarrying _ found = ⊥

abbrev pub BlastingIn : Command → List Pass → ℕ → Numbered → Found → Type 0
BlastingIn c ps k f found =
    (passes_in c (first_value found (codes "passes")) ≡ Ok ps)
    × (check_in (first_value found (codes "check")) ≡ Some k)
    × (first_value found (codes "script") ≡ Some f.word)

abbrev pub GivesBlasting : Result Asked Usage → Found → Type 0
GivesBlasting (Ok (blast ps k f)) found = BlastingIn blasting ps k f found
GivesBlasting (Ok (dimacs ps k f)) found = BlastingIn linking ps k f found
GivesBlasting _ found = ⊥

abbrev pub GivesCounting : Result Asked Usage → Found → Type 0
GivesCounting (Ok (stats f)) found = first_value found (codes "file") ≡ Some f.word
GivesCounting _ found = ⊥

-- the number of a word that is there
abbrev pub number_of : Option Word → Option ℕ
number_of None = None
number_of (Some w) = number_in w

abbrev pub GivesDemonstrating : Result Asked Usage → Found → Type 0
GivesDemonstrating (Ok (demo seed size)) found =
    (number_of (first_value found (codes "seed")) ≡ Some seed)
    × (number_of (first_value found (codes "size")) ≡ Some size)
GivesDemonstrating _ found = ⊥
