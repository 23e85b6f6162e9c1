-- What comes of a script behind passes and of a model's text, on the way to the model's text on the other side.
use Rattle.std.specs.Prelude.{◌≡◌, ℕ, ◌≤◌, false, nat_lt, List, length, count_by, Option, Some, None, Result, Ok, Err, IfSome}
use Rattle.smt_terms.specs.Models.{Model, IsModelOver}
use Rattle.term_table.specs.Formulas.{Formulas}
use Rattle.smt_terms.specs.Fresh.{Supply}
use Rattle.smt_terms.specs.Sorts.{Name}
use Rattle.smt_terms.specs.Term.{Term}
use Rattle.script_read.specs.CommandLists.{commands_of, is_check, AreCommandsOf}
use Rattle.script_read.specs.Commands.{Command, Signature, signature}
use Rattle.script_read.specs.Script.{script}
use Rattle.models.specs.LiveNumbers.{LiveNumbers, signature_of, AreLiveNumbersOf}
use Rattle.models.specs.ModelView.{ModelLists, model_at, IsModelOf}
use Rattle.model_texts.specs.ModelText.{model_of}
use Rattle.model_texts.specs.Proper.{IsProper}
use Rattle.pass_laws.specs.declared.names.Pass.{Pass}
use Rattle.pass_laws.specs.Carry.{Stage, back, forth}
use Rattle.passes.specs.Carrying.{IsCheck}
use Rattle.pass_laws.specs.Laws.{AreCarried, IsReady}
use Rattle.pass_laws.specs.Led.{LeadsTo}
use Rattle.pass_laws.specs.Lists.{groups_after_rules}
use Rattle.pass_laws.specs.Passed.{passed}
use Rattle.passes.specs.Plans.{IsPlanOf, IsPlanOver}
use Rattle.passes.specs.Removing.{IsPlanKept}
use Rattle.smtrw_answers.specs.declared.status.Status.{Status}
use Rattle.smtrw_answers.specs.declared.status.Status.TheVariants.{Refused, Usage, ReadFailed, OutOfMemory, ModelRefused, PassRefused}
use Rattle.smtrw_answers.specs.declared.words.Carried.{Carried}
use Rattle.smtrw_answers.specs.Asked.{numbered}
use Rattle.smtrw_answers.specs.Endings.{longest_text, script_end, check_end, passes_end, model_end, text_end}
use Rattle.smtrw_answers.specs.Outputs.{commands, names_left}
use Rattle.smtrw_answers.specs.Words.{Word, Numbered, Asked, translate, extend}
use Rattle.smtrw_run.specs.declared.carrying.Begun.{Begun}
use Rattle.smtrw_run.specs.declared.carrying.Passage.{Passage}
use Rattle.smtrw_run.specs.declared.carrying.Way.{Way}
use Rattle.smtrw_run.specs.Run.{IsMissing, RoseFor}

-- ---- what is asked for

abbrev pub translation : Carried → Asked
translation c = translate c.passes c.check (numbered c.script) (numbered c.model)

abbrev pub extension : Carried → Asked
extension c = extend c.passes c.check (numbered c.script) (numbered c.model)

-- ---- the script and the passes

-- a script, or the number of a check, ends the run so before the passes
abbrev pub EndsAtScript : List ℕ → ℕ → Status → Type 0
EndsAtScript b k (Refused r) = script_end b ≡ Some (Refused r)
EndsAtScript b k (Usage u) = IsMissing k u × (script_end b ≡ None) × (check_end b k ≡ Some (Usage u))
EndsAtScript b k OutOfMemory = Unit {0}
EndsAtScript b k _ = ⊥

-- the same with passes that end the run so, before a model's text is read
abbrev pub EndsOnTheWay : List ℕ → ℕ → Option Status → Status → Type 0
EndsOnTheWay b k passes (PassRefused code assertion) = (script_end b ≡ None) × (check_end b k ≡ None) × (passes ≡ Some (PassRefused code assertion))
EndsOnTheWay b k passes status = EndsAtScript b k status

-- the script b was read over the table, has the check k, and declares so much there
pub record HasBegun (t : Formulas) (b : List ℕ) (k : ℕ) (begun : Begun) : Type 0 where
  pub reads : script b ≡ Ok (commands_of t begun.script.commands, begun.fresh)
  pub commands : AreCommandsOf t begun.script.commands
  pub last : k ≤ count_by is_check begun.script.commands
  pub live : AreLiveNumbersOf t begun.before
  pub before : signature_of t begun.before ≡ signature (commands_of t begun.script.commands) k

-- numbers of a table that are a signature
pub record AreNumbersOf (t : Formulas) (l : LiveNumbers) (sig : Signature) : Type 0 where
  pub live : AreLiveNumbersOf t l
  pub are : signature_of t l ≡ sig
  pub proper : IsProper sig

-- the way leads over the passes from these commands, which leave these names to draw, at check k
pub record LeadsOver (cs : List (Command Term)) (s : Supply) (ps : List Pass) (k : ℕ) (way : Way) : Type 0 where
  pub within : IsCheck k cs
  pub before : AreNumbersOf way.table way.before (signature cs k)
  pub behind : AreNumbersOf way.table way.behind (signature (passed ps cs s).0 k)
  -- what the plan is
  pub over : IsPlanOver way.table way.plan
  pub plan : IsPlanOf way.table way.plan ps cs s
  pub ready : IsReady cs s
  pub order : groups_after_rules ps ≡ false
  -- models stay models over what is declared
  pub back : (m : Model) → IsModelOver (signature (passed ps cs s).0 k).sorts (signature (passed ps cs s).0 k).symbols m → IsModelOver (signature cs k).sorts (signature cs k).symbols (back ps cs s k m)
  pub forth : (m : Model) → IsModelOver (signature cs k).sorts (signature cs k).symbols m → IsModelOver (signature (passed ps cs s).0 k).sorts (signature (passed ps cs s).0 k).symbols (forth ps cs s k m)

-- nothing in the script b ends the run before the model's text, and the way leads over the passes from its commands
pub record IsWay (b : List ℕ) (ps : List Pass) (k : ℕ) (way : Way) : Type 0 where
  pub script : script_end b ≡ None
  pub check : check_end b k ≡ None
  pub passes : passes_end b ps ≡ None
  pub leads : LeadsOver (commands b) (names_left b) ps k way

-- it is the way of some script
abbrev pub IsWayOfSome : List Pass → ℕ → Way → Type 0
IsWayOfSome ps k way = (b : List ℕ) × IsWay b ps k way

-- ---- the script behind the passes

-- nothing in the script b ends the run before the model's text, and the passes have led from its commands to these, with stored rules of
-- these names
pub record IsPassage (b : List ℕ) (ps : List Pass) (k : ℕ) (rules : List Name) (p : Passage) : Type 0 where
  pub way : IsWay b ps k p.way
  pub numbers : AreCommandsOf p.way.table p.script.commands
  pub leads : LeadsTo ps (commands b) (names_left b) rules (commands_of p.way.table p.script.commands) p.fresh
  pub carried : AreCarried ps (commands b) (commands_of p.way.table p.script.commands) (names_left b) p.fresh
  -- what the plan keeps is of the table
  pub kept : IsPlanKept p.way.table p.way.plan

-- ---- the model's text

-- a model's text, where it is told, ends the run so as it is read over a signature
abbrev pub EndsAtModel : Signature → Option (List ℕ) → Status → Type 0
EndsAtModel sig told (ModelRefused code line byte) =
    IfSome told (λ g. (stages : Model → List Stage) → text_end g (model_end stages (model_of g sig)) ≡ Some (ModelRefused code line byte))
EndsAtModel sig told OutOfMemory = Unit {0}
EndsAtModel sig told _ = ⊥

-- a text that is no longer than may be read gives the model
abbrev pub GivesModel : Signature → List ℕ → Model → Type 0
GivesModel sig g m = (nat_lt longest_text (length g) ≡ false) × (model_of g sig ≡ Ok m)

-- the model of these lists is one over a signature, and that of the text where it is told
pub record IsModelRead (t : Formulas) (sig : Signature) (told : Option (List ℕ)) (m : ModelLists) : Type 0 where
  pub over : IsModelOver sig.sorts sig.symbols (model_at t m)
  pub numbers : IsModelOf t m
  pub given : IfSome told (λ g. GivesModel sig g (model_at t m))

-- the model over a signature that a text gives, or how the run ends by it
abbrev pub ReadsText : Formulas → Signature → Option (List ℕ) → Result ModelLists Status → Type 0
ReadsText t sig told (Ok m) = IsModelRead t sig told m
ReadsText t sig told (Err status) = EndsAtModel sig told status

-- the same of the text in a file, with the counts of faults before and now
abbrev pub EndsAtFile : Signature → Option (List ℕ) → (Word → ℕ) → (Word → ℕ) → Numbered → Status → Type 0
EndsAtFile sig told before now file (ReadFailed word) = RoseFor before now word file
EndsAtFile sig told before now file status = EndsAtModel sig told status
