-- The numbers of a script.
use Rattle.std.proofs.Common.{◌≡◌, ◌∙◌, ap, sym, ℕ, List, ◌++◌, length, codes, Result, Ok}
use Rattle.smt_lex.specs.Lex.{Fault}
use Rattle.smt_lex.specs.Forms.{Forms, forms_to_exit, list}
use Rattle.smt_terms.specs.Fresh.{Supply}
use Rattle.smt_terms.specs.Term.{Term}
use Rattle.term_table.specs.Formulas.{Formulas, trees_at}
use Rattle.term_walk.specs.Subterms.{all_subterms}
use Rattle.script_read.specs.declared.scripts.Command.{Command}
use Rattle.script_read.specs.CommandLists.{commands_of, is_check}
use Rattle.script_read.specs.Commands.{Command as CommandOf}
use Rattle.script_terms.specs.Refusals.{Unaccepted}
use Rattle.script_read.specs.Script.{script}
use Rattle.std.specs.Prelude.{count_by}
use Rattle.smtrw_answers.specs.Outputs.{assertions, commands, count_line, form_count, is_declaration as is_declaration_of, read_or_none, stats_lines}
use Rattle.script_read.specs.Commands.{checks}
use Rattle.smtrw_run.specs.declared.counting.Numbers.{Numbers}
use Rattle.smtrw_run.specs.Counted.{declarations_in, ids_of, lines_of}
use Rattle.smtrw_run.proofs.Commanded.{asserted_terms, declarations_are, checks_are, assertions_are}

module _ (b : List ℕ) (t : Formulas) (cs : List Command) (left : Supply) (read : script b ≡ Ok (commands_of t cs, left)) (fs : Forms) (formed : forms_to_exit b ≡ Ok fs) where
  read_commands : commands b ≡ commands_of t cs
  read_commands = ap (λ (r : Result (List (CommandOf Term) × Supply) Unaccepted). (read_or_none r).0) read

  forms : length (list fs) ≡ form_count (forms_to_exit b)
  forms = ap (λ (r : Result Forms Fault). form_count r) (sym formed)

  declared : declarations_in cs ≡ count_by is_declaration_of (commands b)
  declared = declarations_are t cs ∙ ap (λ (ds : List (CommandOf Term)). count_by is_declaration_of ds) (sym read_commands)

  counted : length (ids_of cs) ≡ length (assertions (commands b))
  counted = assertions_are t cs ∙ ap (λ (ds : List (CommandOf Term)). length (assertions ds)) (sym read_commands)

  checked : count_by is_check cs ≡ checks (commands b)
  checked = checks_are t cs ∙ ap (λ (ds : List (CommandOf Term)). checks ds) (sym read_commands)

  subterms : length (all_subterms (trees_at t (ids_of cs))) ≡ length (all_subterms (assertions (commands b)))
  subterms = ap (λ (us : List Term). length (all_subterms us)) (asserted_terms t cs ∙ ap (λ (ds : List (CommandOf Term)). assertions ds) (sym read_commands))

  -- the lines are those of the script
  pub lines_are : (n : Numbers) → n.commands ≡ length (list fs) → n.declarations ≡ declarations_in cs → n.assertions ≡ length (ids_of cs) → n.checks ≡ count_by is_check cs → n.nodes ≡ length (all_subterms (trees_at t (ids_of cs)))
      → lines_of n ≡ stats_lines b
  lines_are n is_commands is_declarations is_assertions is_checks is_nodes = λ i.
      count_line (codes "commands") ((is_commands ∙ forms) i)
      ++ count_line (codes "declarations") ((is_declarations ∙ declared) i)
      ++ count_line (codes "assertions") ((is_assertions ∙ counted) i)
      ++ count_line (codes "checks") ((is_checks ∙ checked) i)
      ++ count_line (codes "nodes") ((is_nodes ∙ subterms) i)
