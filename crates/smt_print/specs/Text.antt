-- Printed commands: SMT-LIB 2.6, section 3.9. Each command is a line, with one space between forms.
use Rattle.std.specs.Prelude.{ℕ, Bool, List, [], ◌∷◌, ◌++◌, map, flat_map, codes}
use Rattle.smt_lex.specs.Lexicon.{line_feed}
use Rattle.smt_lex.specs.Forms.{Form}
use Rattle.smt_terms.specs.Sorts.{Symbol}
use Rattle.smt_terms.specs.Term.{Term}
use Rattle.smt_lex.specs.FormText.{form_text}
use Rattle.script_read.specs.Commands.{Command, passed, declare_sort, declare, assert, check, check_assuming, push, pop, reset, reset_assertions, globals, exit}
use Rattle.smt_print.specs.declared.layout.Layout.{Layout}
use Rattle.smt_print.specs.declared.layout.Layout.TheVariants.{Tree, Dag}
use Rattle.term_table.specs.WrittenForms.{list_form, word_form, keyword_form, symbol_form, numeral_form, truth_form, sort_form}
use Rattle.smt_print.specs.TermForms.{tree_form, dag_form}

abbrev pub term_form : Layout → Term → Form
term_form Tree t = tree_form t
term_form Dag t = dag_form t

-- the text of a term
abbrev pub text : Layout → Term → List ℕ
text layout t = form_text (term_form layout t)

-- ---- commands

-- a command's word and its parts
abbrev pub command_form : List ℕ → List Form → Form
command_form name parts = list_form (word_form name ∷ parts)

-- a sort has no parameters
abbrev pub sort_declaration : List ℕ → Form
sort_declaration n = command_form (codes "declare-sort") (symbol_form n ∷ numeral_form 0 ∷ [])

abbrev pub declaration : Symbol → Form
declaration f = command_form (codes "declare-fun") (symbol_form f.name ∷ list_form (map sort_form f.args) ∷ sort_form f.result ∷ [])

abbrev pub globals_option : Bool → Form
globals_option b = command_form (codes "set-option") (keyword_form (codes ":global-declarations") ∷ truth_form b ∷ [])

-- a command whose assertion is written as this form; literals are always trees
abbrev pub command_text : (Term → Form) → Command Term → List ℕ
command_text form (passed text) = text
command_text form (declare_sort n) = form_text (sort_declaration n)
command_text form (declare f) = form_text (declaration f)
command_text form (assert i t) = form_text (command_form (codes "assert") (form t ∷ []))
command_text form check = form_text (command_form (codes "check-sat") [])
command_text form (check_assuming ls) = form_text (command_form (codes "check-sat-assuming") (list_form (map tree_form ls) ∷ []))
command_text form (push n) = form_text (command_form (codes "push") (numeral_form n ∷ []))
command_text form (pop n) = form_text (command_form (codes "pop") (numeral_form n ∷ []))
command_text form reset = form_text (command_form (codes "reset") [])
command_text form reset_assertions = form_text (command_form (codes "reset-assertions") [])
command_text form (globals b) = form_text (globals_option b)
command_text form exit = form_text (command_form (codes "exit") [])

abbrev pub lines_in : (Term → Form) → List (Command Term) → List ℕ
lines_in form cs = flat_map (λ c. command_text form c ++ line_feed ∷ []) cs

-- the text of commands
abbrev pub lines : Layout → List (Command Term) → List ℕ
lines layout cs = lines_in (term_form layout) cs
