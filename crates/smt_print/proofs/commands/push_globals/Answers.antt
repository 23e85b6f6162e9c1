use Rattle.std.proofs.Common.{Bool, ◌++◌, ap, sym, ◌∙◌}
use Rattle.smt_lex.specs.FormText.{form_text}
use Rattle.smt_print.specs.Text.{globals_option}
use Rattle.smt_print.proofs.commands.push_globals.Goals as goal

pub returns-in_ok-push_short-in-true : goal.returns-in_ok-push_short-in-true
returns-in_ok-push_short-in-true c = c.in_ok-push_short-in-true.ensures ∙ ap (λ (b : Bool). c.args.out.now ++ form_text (globals_option b)) (sym c.in-true.is)

pub returns-in_ok-push_short-in-false : goal.returns-in_ok-push_short-in-false
returns-in_ok-push_short-in-false c = c.in_ok-push_short-in-false.ensures ∙ ap (λ (b : Bool). c.args.out.now ++ form_text (globals_option b)) (sym c.in-false.is)
