-- The words of the program: a command's name, and behind it its options and its file names or numbers, in any order. The
-- words are read from the left, and the first fault counts.
use Rattle.std.specs.Prelude.{ℕ, suc, Bool, true, false, not, ◌&&◌, nat_eq, nat_le, if◌then◌else◌, List, [], ◌∷◌, ◌++◌, length, drop, codes, bytes_eq, Result, Ok, Err, Option, Some, None, is_some}
use Rattle.std.specs.List.{list_any, starts_with}
use Rattle.std.specs.Str.Parse.{digits_value}
use Rattle.smt_lex.specs.Lexicon.{is_numeral}
use Rattle.smt_print.specs.declared.layout.Layout.{Layout}
use Rattle.smt_print.specs.declared.layout.Layout.TheVariants.{Tree, Dag}
use Rattle.pass_laws.specs.declared.names.Pass.{Pass}
use Rattle.pass_laws.specs.declared.names.Pass.TheVariants.{Rules}
use Rattle.pass_laws.specs.declared.names.ListFault.{ListFault}
use Rattle.pass_laws.specs.declared.names.ListFault.TheVariants.{BadPass as UnknownPass, AfterRules as GroupsAfterRules}
use Rattle.pass_laws.specs.Lists.{pass_list_of, any_pass}
use Rattle.smtrw_answers.specs.declared.status.Usage.{Usage}
use Rattle.smtrw_answers.specs.declared.status.Why.{Why}
use Rattle.smtrw_answers.specs.declared.status.Why.TheVariants.{Missing, UnknownCommand, BadOption, Repeated, BadValue, BadPass, AfterRules, Extra, TwoInputs}

-- a word, as its bytes
abbrev pub Word : Type 0
Word = List ℕ

-- a word with its number, counted from 1
pub record Numbered : Type 0 where
  pub number : ℕ
  pub word : Word

abbrev pub at : {A : Type 0} → ℕ → Why → Result A Usage
at i why = Err (record { word = i; why = why })

-- ---- commands

pub data Command : Type 0 where
  rewriting : Command
  translating : Command
  extending : Command
  blasting : Command
  unblasting : Command
  linking : Command
  answering : Command
  counting : Command
  demonstrating : Command

abbrev pub command_names : List (Word × Command)
command_names =
    (codes "rewrite", rewriting)
    ∷ (codes "translate", translating)
    ∷ (codes "extend", extending)
    ∷ (codes "blast", blasting)
    ∷ (codes "unblast", unblasting)
    ∷ (codes "dimacs", linking)
    ∷ (codes "answer", answering)
    ∷ (codes "stats", counting)
    ∷ (codes "demo", demonstrating)
    ∷ []

abbrev pub command_among : List (Word × Command) → Word → Option Command
command_among [] w = None
command_among (c ∷ cs) w = if bytes_eq c.0 w then Some c.1 else command_among cs w

abbrev pub command_named : Word → Option Command
command_named w = command_among command_names w

-- how many words that are no options the command takes
abbrev pub needed : Command → ℕ
needed rewriting = 1
needed translating = 2
needed extending = 2
needed blasting = 1
needed unblasting = 2
needed linking = 1
needed answering = 2
needed counting = 1
needed demonstrating = 2

-- ---- options

pub data Setting : Type 0 where
  of_passes : Setting
  of_layout : Setting
  of_check : Setting

abbrev pub settings_of : Command → List (Word × Setting)
settings_of rewriting = (codes "--passes", of_passes) ∷ (codes "--layout", of_layout) ∷ []
settings_of translating = (codes "--passes", of_passes) ∷ (codes "--check", of_check) ∷ []
settings_of extending = (codes "--passes", of_passes) ∷ (codes "--check", of_check) ∷ []
settings_of blasting = (codes "--passes", of_passes) ∷ (codes "--check", of_check) ∷ []
settings_of unblasting = (codes "--passes", of_passes) ∷ (codes "--check", of_check) ∷ []
settings_of linking = (codes "--passes", of_passes) ∷ (codes "--check", of_check) ∷ []
settings_of answering = (codes "--passes", of_passes) ∷ (codes "--check", of_check) ∷ []
settings_of counting = []
settings_of demonstrating = []

abbrev pub is_rules : Pass → Bool
is_rules Rules = true
is_rules _ = false

-- the passes that may stand in the list of a command: what is made of bits or of clauses is the definitions' alone, so no stored rules
abbrev pub takes_pass : Command → Pass → Bool
takes_pass blasting p = not (is_rules p)
takes_pass unblasting p = not (is_rules p)
takes_pass linking p = not (is_rules p)
takes_pass answering p = not (is_rules p)
takes_pass c p = any_pass p

-- the option that a word is, with its value where the word holds it, as `--name=value` does
abbrev pub setting_among : List (Word × Setting) → Word → Option (Setting × Option Word)
setting_among [] w = None
setting_among (o ∷ os) w =
    if bytes_eq w o.0 then Some (o.1, None)
    else (if starts_with nat_eq w (o.0 ++ codes "=") then Some (o.1, Some (drop (suc (length o.0)) w))
    else setting_among os w)

-- a word that begins with `-` and isn't `-` itself
abbrev pub is_dashed : Word → Bool
is_dashed w = starts_with nat_eq w (codes "-") && not (bytes_eq w (codes "-"))

-- ---- what was read so far

pub record Given : Type 0 where
  pub passes : Option (List Pass)
  pub layout : Option Layout
  pub check : Option ℕ
  -- file names and numbers, in order
  pub plain : List Numbered
  -- the option whose value is the next word
  pub awaited : Option Setting

abbrev pub nothing_given : Given
nothing_given = record { passes = None; layout = None; check = None; plain = []; awaited = None }

abbrev pub is_given : Setting → Given → Bool
is_given of_passes g = is_some g.passes
is_given of_layout g = is_some g.layout
is_given of_check g = is_some g.check

-- ---- values: each fault is one of the word that holds the value

-- at most 18 digits without a leading zero
abbrev pub number_in : Word → Option ℕ
number_in w = if is_numeral w && nat_le (length w) 18 then Some (digits_value 10 w) else None

abbrev pub is_from : ℕ → Option ℕ → Bool
is_from low None = false
is_from low (Some n) = nat_le low n

abbrev pub is_up_to : ℕ → Option ℕ → Bool
is_up_to high None = false
is_up_to high (Some n) = nat_le n high

abbrev pub layout_named : Word → Option Layout
layout_named w = if bytes_eq w (codes "tree") then Some Tree else (if bytes_eq w (codes "dag") then Some Dag else None)

abbrev pub with_passes : ℕ → Result (List Pass) ListFault → Given → Result Given Usage
with_passes i (Ok ps) g = Ok (record g { passes = Some ps; awaited = None })
with_passes i (Err UnknownPass) g = at i BadPass
with_passes i (Err GroupsAfterRules) g = at i AfterRules

abbrev pub with_layout : ℕ → Option Layout → Given → Result Given Usage
with_layout i (Some l) g = Ok (record g { layout = Some l; awaited = None })
with_layout i None g = at i BadValue

-- checks are counted from 1
abbrev pub with_check : ℕ → Option ℕ → Given → Result Given Usage
with_check i k g = if is_from 1 k then Ok (record g { check = k; awaited = None }) else at i BadValue

abbrev pub with_value : (Pass → Bool) → ℕ → Setting → Word → Given → Result Given Usage
with_value runs i of_passes w g = with_passes i (pass_list_of runs w) g
with_value runs i of_layout w g = with_layout i (layout_named w) g
with_value runs i of_check w g = with_check i (number_in w) g

-- ---- word by word

-- the value of an option, which stands in a word of its own
abbrev pub value_word : (Pass → Bool) → ℕ → Setting → Word → Given → Result Given Usage
value_word runs i s w g = if is_dashed w then at i BadValue else with_value runs i s w g

abbrev pub with_setting : (Pass → Bool) → ℕ → Setting → Option Word → Given → Result Given Usage
with_setting runs i s None g = Ok (record g { awaited = Some s })
with_setting runs i s (Some w) g = with_value runs i s w g

-- an option is given once
abbrev pub option_word : (Pass → Bool) → ℕ → Option (Setting × Option Word) → Given → Result Given Usage
option_word runs i None g = at i BadOption
option_word runs i (Some o) g = if is_given o.0 g then at i Repeated else with_setting runs i o.0 o.1 g

abbrev pub with_plain : ℕ → Word → Given → Result Given Usage
with_plain i w g = Ok (record g { plain = g.plain ++ record { number = i; word = w } ∷ [] })

-- standard input is `-`, and is named once
abbrev pub file_word : ℕ → Word → Given → Result Given Usage
file_word i w g =
    if bytes_eq w (codes "-") && list_any (λ f. bytes_eq f.word (codes "-")) g.plain then at i TwoInputs else with_plain i w g

abbrev pub greatest_size : ℕ
greatest_size = 10000

-- the seed, and then the size, which is at least 1
abbrev pub is_number_for : List Numbered → Option ℕ → Bool
is_number_for [] n = is_some n
is_number_for (seed ∷ rest) n = is_from 1 n && is_up_to greatest_size n

abbrev pub number_word : ℕ → Word → Given → Result Given Usage
number_word i w g = if is_number_for g.plain (number_in w) then with_plain i w g else at i BadValue

abbrev pub of_kind : Command → ℕ → Word → Given → Result Given Usage
of_kind demonstrating i w g = number_word i w g
of_kind c i w g = file_word i w g

-- a word that is no option: never empty, and no more of them than the command takes
abbrev pub plain_word : Command → ℕ → Word → Given → Result Given Usage
plain_word c i [] g = at i BadValue
plain_word c i (b ∷ bs) g = if nat_le (needed c) (length g.plain) then at i Extra else of_kind c i (b ∷ bs) g

abbrev pub word_behind : (Pass → Bool) → Command → ℕ → Word → Given → Option Setting → Result Given Usage
word_behind runs c i w g (Some s) = value_word runs i s w g
word_behind runs c i w g None =
    if is_dashed w then option_word runs i (setting_among (settings_of c) w) g else plain_word c i w g

abbrev pub and_then : {A B : Type 0} → (A → Result B Usage) → Result A Usage → Result B Usage
and_then next (Ok a) = next a
and_then next (Err fault) = Err fault

-- the words from number i on
abbrev pub words_from : (Pass → Bool) → Command → ℕ → List Word → Given → Result Given Usage
words_from runs c i [] g = Ok g
words_from runs c i (w ∷ ws) g = and_then (words_from runs c (suc i) ws) (word_behind runs c i w g g.awaited)

-- ---- what is asked for

pub data Asked : Type 0 where
  rewrite : List Pass → Layout → Numbered → Asked
  -- passes, the check's number, the script and the model
  translate : List Pass → ℕ → Numbered → Numbered → Asked
  extend : List Pass → ℕ → Numbered → Numbered → Asked
  -- passes, the check's number and the script
  blast : List Pass → ℕ → Numbered → Asked
  -- passes, the check's number, the script and the model
  unblast : List Pass → ℕ → Numbered → Numbered → Asked
  -- passes, the check's number and the script
  dimacs : List Pass → ℕ → Numbered → Asked
  -- passes, the check's number, the script and the answer
  answer : List Pass → ℕ → Numbered → Numbered → Asked
  stats : Numbered → Asked
  -- seed and size
  demo : ℕ → ℕ → Asked

-- without the option: no passes, the layout of trees, the first check
abbrev pub passes_of : Given → List Pass
passes_of g = elim g.passes [ Some ps ↦ ps | None ↦ [] ]

abbrev pub layout_of : Given → Layout
layout_of g = elim g.layout [ Some l ↦ l | None ↦ Tree ]

abbrev pub check_of : Given → ℕ
check_of g = elim g.check [ Some k ↦ k | None ↦ 1 ]

abbrev pub asked_with : Command → Given → List Numbered → Option Asked
asked_with rewriting g (f ∷ []) = Some (rewrite (passes_of g) (layout_of g) f)
asked_with translating g (s ∷ m ∷ []) = Some (translate (passes_of g) (check_of g) s m)
asked_with extending g (s ∷ m ∷ []) = Some (extend (passes_of g) (check_of g) s m)
asked_with blasting g (f ∷ []) = Some (blast (passes_of g) (check_of g) f)
asked_with unblasting g (s ∷ m ∷ []) = Some (unblast (passes_of g) (check_of g) s m)
asked_with linking g (f ∷ []) = Some (dimacs (passes_of g) (check_of g) f)
asked_with answering g (s ∷ a ∷ []) = Some (answer (passes_of g) (check_of g) s a)
asked_with counting g (f ∷ []) = Some (stats f)
asked_with demonstrating g (s ∷ n ∷ []) = Some (demo (digits_value 10 s.word) (digits_value 10 n.word))
asked_with c g fs = None

abbrev pub asked_or_missing : ℕ → Option Asked → Result Asked Usage
asked_or_missing i (Some a) = Ok a
asked_or_missing i None = at i Missing

-- where the script comes from: from a file, or from so many steps that are drawn from a seed
pub data Source : Type 0 where
  of_file : Numbered → Source
  drawn : ℕ → ℕ → Source

abbrev pub source_of : Asked → Source
source_of (rewrite passes layout file) = of_file file
source_of (translate passes check file model) = of_file file
source_of (extend passes check file model) = of_file file
source_of (blast passes check file) = of_file file
source_of (unblast passes check file model) = of_file file
source_of (dimacs passes check file) = of_file file
source_of (answer passes check file reply) = of_file file
source_of (stats file) = of_file file
source_of (demo seed size) = drawn seed size

-- the word that names the model or the answer, where the command reads one
abbrev pub model_file_of : Asked → Option Numbered
model_file_of (translate passes check file model) = Some model
model_file_of (extend passes check file model) = Some model
model_file_of (unblast passes check file model) = Some model
model_file_of (answer passes check file reply) = Some reply
model_file_of _ = None

-- behind the last word: nothing is awaited, and there are as many words as the command takes
abbrev pub at_end : Command → ℕ → Given → Option Setting → Result Asked Usage
at_end c i g (Some s) = at i Missing
at_end c i g None = asked_or_missing i (asked_with c g g.plain)

abbrev pub asked_of : Option Command → List Word → Result Asked Usage
asked_of None ws = at 1 UnknownCommand
asked_of (Some c) ws = and_then (λ g. at_end c (suc (suc (length ws))) g g.awaited) (words_from (takes_pass c) c 2 ws nothing_given)

-- what the words ask for, or their first fault
abbrev pub asked : List Word → Result Asked Usage
asked [] = at 1 Missing
asked (w ∷ ws) = asked_of (command_named w) ws
