-- The statements of the laws of what is written: that rewriting, blasting and linking keep their promises, where one text alone may be
-- written, that carried models read back, and that what `demo` makes is read.
use Rattle.std.specs.Prelude.{◌≡◌, ◌≤◌, ℕ, Bool, false, List, length, None, Ok, IsTrue}
use Rattle.std.specs.List.{list_any}
use Rattle.smt_terms.specs.Fresh.{Supply}
use Rattle.smt_terms.specs.Models.{Model}
use Rattle.smt_terms.specs.Sorts.{Name}
use Rattle.smt_terms.specs.Term.{Term}
use Rattle.rule_book.specs.EightRules.{all_eight}
use Rattle.script_read.specs.Commands.{Command, checks}
use Rattle.script_read.specs.Script.{fault}
use Rattle.model_texts.specs.ModelText.{model_of}
use Rattle.smt_print.specs.declared.layout.Layout.{Layout}
use Rattle.pass_laws.specs.declared.names.Pass.{Pass}
use Rattle.smt_print.specs.Text.{lines}
use Rattle.pass_laws.specs.Led.{Leads}
use Rattle.pass_laws.specs.Laws.{IsReady, AreEquivalent, CarriesModels}
use Rattle.bit_scripts.specs.Scripts.{refused_root}
use Rattle.smtrw_answers.specs.Blasting.{names_behind, blasted_text, signature_blasted, unblasted, unblasted_text, IsBlasting}
use Rattle.dimacs_link.specs.declared.answers.Answer.TheVariants.{Sat}
use Rattle.dimacs_link.specs.AnswerTexts.{reading}
use Rattle.dimacs_link.specs.Checks.{unlinked_root}
use Rattle.smtrw_answers.specs.Linking.{linked_constants, linked_text, answered, answer_text, IsLinking}
use Rattle.smtrw_answers.specs.Carrying.{translated, extended, signature_before, signature_behind, translated_text, extended_text}
use Rattle.smtrw_answers.specs.Endings.{longest_text, translate_end, extend_end, unblast_end, answer_end}
use Rattle.smtrw_answers.specs.Words.{greatest_size, is_rules}
use Rattle.smtrw_answers.specs.Headline.{IsRewriting, are_equivalences}
use Rattle.smtrw_answers.specs.Outputs.{commands, names_left, rewritten, rewritten_commands, MayBeWritten, demo_script}

-- of every accepted text, every list of passes, either layout, and any printable commands that such a list may have led to:
-- they have the models of the text's, carried over the passes, and under equivalence passes they are equivalent to these
abbrev pub RewritingKeepsItsPromise : Type 0
RewritingKeepsItsPromise = (b : List ℕ) (ps : List Pass) (layout : Layout) (cs : List (Command Term)) (s : Supply) →
    fault b ≡ None → IsReady cs s → (IsTrue (are_equivalences ps) → AreEquivalent (commands b) cs) →
    CarriesModels (commands b) cs (translated b ps) (extended b ps) → IsRewriting b ps (lines layout cs)

-- a list without stored rules writes one text, whatever rules there are
abbrev pub WithoutRulesOneText : Type 0
WithoutRulesOneText = (b w : List ℕ) (ps : List Pass) (rules : List Name) (layout : Layout) → list_any is_rules ps ≡ false → MayBeWritten b ps rules layout w → w ≡ rewritten b ps layout

-- and makes one list of commands
abbrev pub WithoutRulesOneList : Type 0
WithoutRulesOneList = (b : List ℕ) (ps : List Pass) (rules : List Name) (cs : List (Command Term)) → list_any is_rules ps ≡ false → Leads ps (commands b) (names_left b) rules cs → cs ≡ rewritten_commands b ps

-- and so does any list where all rules are among the eight
abbrev pub EightWriteOneText : Type 0
EightWriteOneText = (b v w : List ℕ) (ps : List Pass) (rules : List Name) (layout : Layout) → IsTrue (all_eight rules) → MayBeWritten b ps rules layout v → MayBeWritten b ps rules layout w → v ≡ w

-- where `translate` ends well, what it writes reads back as the model that was carried, over what is declared in the script
abbrev pub TranslatedTextsReadBack : Type 0
TranslatedTextsReadBack = (b : List ℕ) (ps : List Pass) (k : ℕ) (g out : List ℕ) (m : Model) → translate_end b ps k g ≡ None → model_of g (signature_behind b ps k) ≡ Ok m → translated_text b ps k g ≡ Ok out
    → model_of out (signature_before b k) ≡ Ok (translated b ps k m)

-- and where `extend` does, over what is declared in the rewritten script
abbrev pub ExtendedTextsReadBack : Type 0
ExtendedTextsReadBack = (b : List ℕ) (ps : List Pass) (k : ℕ) (g out : List ℕ) (m : Model) → extend_end b ps k g ≡ None → model_of g (signature_before b k) ≡ Ok m → extended_text b ps k g ≡ Ok out
    → model_of out (signature_behind b ps k) ≡ Ok (extended b ps k m)

-- of every accepted text, every list of passes and each of its checks, where the passes lead to commands that can be printed, whose
-- live terms at the check are ones over bits, and carry models
abbrev pub BlastingKeepsItsPromise : Type 0
BlastingKeepsItsPromise = (b : List ℕ) (ps : List Pass) (k : ℕ) →
    fault b ≡ None → 1 ≤ k → k ≤ checks (rewritten_commands b ps) → refused_root (rewritten_commands b ps) k ≡ None → IsReady (rewritten_commands b ps) (names_behind b ps) →
    CarriesModels (commands b) (rewritten_commands b ps) (translated b ps) (extended b ps) → IsBlasting b ps k (blasted_text b ps k)

-- where `unblast` ends well, what it writes reads back as the model that was carried, over what is declared in the script
abbrev pub UnblastedTextsReadBack : Type 0
UnblastedTextsReadBack = (b : List ℕ) (ps : List Pass) (k : ℕ) (g out : List ℕ) (m : Model) → 1 ≤ k → unblast_end b ps k g ≡ None → model_of g (signature_blasted b ps k) ≡ Ok m → unblasted_text b ps k g ≡ Ok out
    → model_of out (signature_before b k) ≡ Ok (unblasted b ps k m)

-- the same of clauses
abbrev pub LinkingKeepsItsPromise : Type 0
LinkingKeepsItsPromise = (b : List ℕ) (ps : List Pass) (k : ℕ) →
    fault b ≡ None → 1 ≤ k → k ≤ checks (rewritten_commands b ps) → unlinked_root (rewritten_commands b ps) k ≡ None → IsReady (rewritten_commands b ps) (names_behind b ps) →
    CarriesModels (commands b) (rewritten_commands b ps) (translated b ps) (extended b ps) → IsLinking b ps k (linked_text b ps k)

-- where `answer` ends well with truth values, what it writes reads back as the model that they stand for
abbrev pub AnsweredTextsReadBack : Type 0
AnsweredTextsReadBack = (b : List ℕ) (ps : List Pass) (k : ℕ) (g out : List ℕ) (vs : List Bool) → 1 ≤ k → answer_end b ps k g ≡ None → reading (length (linked_constants b ps k)) g ≡ Ok (Sat vs) → answer_text b ps k g ≡ Ok out
    → model_of out (signature_before b k) ≡ Ok (answered b ps k vs)

-- the script of a demonstration of one step or more is accepted
abbrev pub DemoScriptsAreAccepted : Type 0
DemoScriptsAreAccepted = (seed size : ℕ) → 1 ≤ size → fault (demo_script seed size) ≡ None

-- and has no more bytes than may be read
abbrev pub DemoScriptsAreShort : Type 0
DemoScriptsAreShort = (seed size : ℕ) → size ≤ greatest_size → length (demo_script seed size) ≤ longest_text
