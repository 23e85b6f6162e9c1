-- A script of the demonstration as commands, each a line.
use Rattle.std.proofs.Common.{◌≡◌, ℕ, ◌%◌, ◌^◌, inl, false, Ok, List, [], ◌∷◌, ◌++◌, map, refl, ap, ◌∙◌, append_assoc, append-nil}
use Rattle.std.specs.Prelude.{codes}
use Rattle.smt_lex.specs.declared.items.Item.TheVariants.{Word}
use Rattle.smt_lex.specs.Forms.{Form, atom, node, Forms, none, ◌⨾◌, is_exit_word}
use Rattle.smt_lex.specs.FormText.{form_text}
use Rattle.smt_lex.specs.Names.{is_syntax_word, is_command_word}
use Rattle.smt_terms.specs.Sorts.{Symbol}
use Rattle.smt_terms.specs.Term.{Term}
use Rattle.script_read.specs.Commands.{Command, passed, declare, assert, check}
use Rattle.script_read.specs.Outlines.{passing, supported, outline}
use Rattle.smt_print.specs.TermForms.{tree_form}
use Rattle.smt_print.specs.Text.{command_form, lines_in}
use Rattle.smt_print.proofs.FormTexts.{IsWritten, token_at, placed}
use Rattle.smt_print.proofs.LinesRead.{form_line, list_goes_on, CommandLine, EndsOrGoesOn, AllLines}
use Rattle.smt_print.proofs.ScriptsRead.{IsFormOf}
use Rattle.smt_print.proofs.Writable.{word_written}
use Rattle.smt_print.proofs.WritableTerms.{tree_written}
use Rattle.smtrw_answers.specs.Outputs.{pool_name, flag_lines, demo_script}
use Rattle.smtrw_answers.proofs.DemoForms.{truth_symbol, truth_constant, form_from, steps_text}
use Rattle.smtrw_answers.proofs.DemoNames.{numbers, pool_plain}

-- ---- the commands

abbrev word : List ℕ → Form
word text = atom (token_at 0 Word text)

abbrev logic_form : Form
logic_form = command_form (codes "set-logic") (word (codes "QF_UF") ∷ [])

-- the declared constants
abbrev pub flags : List ℕ → List Symbol
flags is = map (λ i. truth_symbol (pool_name i)) is

abbrev pub declarations : List Symbol → List (Command Term) → List (Command Term)
declarations [] cs = cs
declarations (f ∷ fs) cs = declare f ∷ declarations fs cs

-- a term whose place the form that is given takes
abbrev asserted : Term
asserted = truth_constant (pool_name 0)

abbrev pub last_commands : List (Command Term)
last_commands = assert 1 asserted ∷ check ∷ []

abbrev pub demo_commands : List (Command Term)
demo_commands = passed (form_text logic_form) ∷ declarations (flags (numbers 0 8)) last_commands

-- this form, whatever term is asserted
abbrev pub asserting : Form → Term → Form
asserting f t = f

-- ---- their lines

list_line : (name : List ℕ) (fs : Forms) (Is : Form → Type 0) (cs : List (Command Term)) → IsWritten (node 0 (word name ⨾ fs)) → is_exit_word Word name ≡ false → ((p : ℕ) → Is (placed p (node 0 (word name ⨾ fs))))
    → (l : CommandLine (form_text (node 0 (word name ⨾ fs))) Is) × EndsOrGoesOn l.line.lexed cs
list_line name fs Is cs written other is =
    (record { form_at = λ p. placed p (node 0 (word name ⨾ fs)); line = form_line (node 0 (word name ⨾ fs)) written; is = is }, inl (list_goes_on (token_at 0 Word name) fs written other))

logic_passes : (p : ℕ) → outline (placed p logic_form) ≡ Ok passing
unfolding is_syntax_word is_command_word supported
logic_passes p = refl

declaration_lines : (f : Form) (is : List ℕ) (cs : List (Command Term)) → AllLines (asserting f) (IsFormOf (asserting f)) cs → AllLines (asserting f) (IsFormOf (asserting f)) (declarations (flags is) cs)
declaration_lines f [] cs lines = lines
declaration_lines f (i ∷ is) cs lines =
    let name = truth_constant (pool_name i) in
    let here = list_line (codes "declare-fun") (tree_form name ⨾ node 0 none ⨾ word (codes "Bool") ⨾ none) (IsFormOf (asserting f) (declare (truth_symbol (pool_name i)))) (declarations (flags is) cs)
    (word_written (codes "declare-fun") refl, (tree_written name ((pool_plain i).name, tt), (tt, (word_written (codes "Bool") refl, tt)))) refl (λ p. (p, refl)) in
    (here.0, here.1, declaration_lines f is cs lines)

pub demo_lines : (f : Form) → IsWritten f → AllLines (asserting f) (IsFormOf (asserting f)) demo_commands
demo_lines f written =
    let logic = list_line (codes "set-logic") (word (codes "QF_UF") ⨾ none) (IsFormOf (asserting f) (passed (form_text logic_form))) (declarations (flags (numbers 0 8)) last_commands)
    (word_written (codes "set-logic") refl, (word_written (codes "QF_UF") refl, tt)) refl logic_passes in
    let assertion = list_line (codes "assert") (f ⨾ none) (IsFormOf (asserting f) (assert 1 asserted)) (check ∷ []) (word_written (codes "assert") refl, (written, tt)) refl (λ p. (p, refl)) in
    let last = list_line (codes "check-sat") none (IsFormOf (asserting f) check) [] (word_written (codes "check-sat") refl, tt) refl (λ p. (p, refl)) in
    (logic.0, logic.1, declaration_lines f (numbers 0 8) last_commands (assertion.0, assertion.1, (last.0, last.1, tt)))

-- ---- their text

-- what stands in front of the asserted form, and behind it
abbrev front_text : List ℕ
front_text = codes "(set-logic QF_UF)\n" ++ flag_lines (numbers 0 8) ++ codes "(assert "

text_behind : (f : List ℕ) → f ++ [] ++ codes ")" ++ codes "\n" ++ codes "(check-sat)\n" ≡ f ++ codes ")\n" ++ codes "(check-sat)\n"
text_behind f = ap (λ xs. xs ++ codes ")" ++ codes "\n" ++ codes "(check-sat)\n") (append-nil f) ∙ ap (λ xs. xs ++ codes "(check-sat)\n") (append_assoc f (codes ")") (codes "\n"))

pub demo_text : (seed size : ℕ) → lines_in (asserting (form_from size 0 (seed % 2 ^ 31))) demo_commands ≡ demo_script seed size
unfolding is_syntax_word is_command_word
demo_text seed size =
    ap (λ xs. front_text ++ xs) (text_behind (form_text (form_from size 0 (seed % 2 ^ 31))))
    ∙ ap (λ xs. front_text ++ xs ++ codes ")\n" ++ codes "(check-sat)\n") (steps_text size 0 (seed % 2 ^ 31))
