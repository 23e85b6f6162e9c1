use Rattle.std.proofs.Common.{◌≡◌, ◌∙◌, ap, ℕ, List, ◌++◌, length}
use Rattle.std.specs.Prelude.{count_by}
use Rattle.smt_print.specs.Text.{lines}
use Rattle.smt_terms.specs.Fresh.{Supply}
use Rattle.smt_terms.specs.Term.{Term}
use Rattle.pass_laws.specs.Laws.{IsReady}
use Rattle.script_read.specs.declared.scripts.Command.{Command as CommandSeen}
use Rattle.script_read.specs.CommandLists.{commands_of}
use Rattle.script_read.specs.Commands.{Command}
use Rattle.term_table.specs.Formulas.{Formulas}
use Rattle.smtrw_answers.specs.declared.status.Status.TheVariants.{OutOfMemory}
use Rattle.smtrw_answers.specs.Endings.{rewrite_end}
use Rattle.smtrw_answers.specs.Faults.{status_of_passing, status_of_reading}
use Rattle.smtrw_answers.specs.Outputs.{assertions}
use Rattle.smtrw_run.specs.Counted.{is_assertion}
use Rattle.smtrw_run.proofs.Commanded.{assertions_counted}
use Rattle.smtrw_run.proofs.Endings.{ends_so, passing_ends, rewriting_accepted, rewriting_ends, unread_ends}
use Rattle.smtrw_run.proofs.Texts.{leads, promised}
use Rattle.smtrw_run.proofs.rewriting.rewritten.Goals as goal

pub run_passes-requires-clause-ready : goal.run_passes-requires-clause-ready
run_passes-requires-clause-ready g c =
    let b = c.args.forest.bytes in
    let read : List (Command Term) × Supply = (commands_of c.read_script.new.table c.in_ok-script.script.commands, c.in_ok-script.fresh) in
    let ready : IsReady read.0 read.1 = record {
      printable = c.reading_gives_a_printable_script.ensures b read c.in_ok-script.ensures.script;
      names = c.names_left_are_new.ensures b read c.in_ok-script.ensures.script;
    } in
    ready

pub returns-in_err-script-clause-ends : goal.returns-in_err-script-clause-ends
returns-in_err-script-clause-ends g c =
    let b = c.args.forest.bytes in
    let fault = c.in_err-script.field-0.0 in
    ends_so (rewrite_end b c.args.passes.now) c.from_residual.result (status_of_reading fault) c.from_residual.ensures.1
    (rewriting_ends b c.args.passes.now (status_of_reading fault) (unread_ends b c.requires.short c.read_script.new.table fault c.in_err-script.ensures.script))

pub returns-in_err-script-2-clause-ends : goal.returns-in_err-script-2-clause-ends
returns-in_err-script-2-clause-ends g c =
    let b = c.args.forest.bytes in
    let ps = c.args.passes.now in
    let read : List (Command Term) × Supply = (commands_of c.read_script.new.table c.in_ok-script.script.commands, c.in_ok-script.fresh) in
    let fault = c.in_err-script-2.field-0.0 in
    ends_so (rewrite_end b ps) c.from_residual-in_err-script-2.result (status_of_passing fault) c.from_residual-in_err-script-2.ensures.1
    (passing_ends b read c.in_ok-script.ensures.script ps c.requires.short fault c.in_err-script-2.ensures.refused)

pub returns-in_err-script_into-clause-ends : goal.returns-in_err-script_into-clause-ends
returns-in_err-script_into-clause-ends g c = ends_so (rewrite_end c.args.forest.bytes c.args.passes.now) c.from_residual-in_err-script_into.result OutOfMemory c.from_residual-in_err-script_into.ensures.1 tt

pub returns-clause-ends : goal.returns-clause-ends
returns-clause-ends g c =
    let read : List (Command Term) × Supply = (commands_of c.read_script.new.table c.in_ok-script.script.commands, c.in_ok-script.fresh) in
    rewriting_accepted c.args.forest.bytes read c.in_ok-script.ensures.script c.args.passes.now c.requires.short c.in_ok-script-2.ensures.refused

pub returns-clause-made : goal.returns-clause-made
returns-clause-made g c =
    let b = c.args.forest.bytes in
    let read : List (Command Term) × Supply = (commands_of c.read_script.new.table c.in_ok-script.script.commands, c.in_ok-script.fresh) in
    let cs = c.in_ok-script-2.script.commands in
    let ds = commands_of c.run_passes.new.table cs in
    let text : c.script_into.new.out ≡ lines c.args.layout ds =
    c.in_ok-script_into.ensures.ok
    ∙ ap (λ (t : Formulas). c.over-text.result ++ lines c.args.layout (commands_of t cs)) (c.deref.ensures ∙ c.new-table-2.ensures)
    ∙ ap (λ (old : List ℕ). old ++ lines c.args.layout ds) c.over-text.ensures in
    let count : c.assertions-assertions.result ≡ length (assertions ds) =
    c.assertions-assertions.ensures ∙ ap (λ (list : List CommandSeen). count_by is_assertion list) c.as_slice.ensures ∙ assertions_counted c.run_passes.new.table cs in
    (ds, leads b read c.in_ok-script.ensures.script c.args.passes.now _ ds c.run_passes.new.fresh c.in_ok-script-2.ensures.leads, text, count)

pub returns-clause-promise : goal.returns-clause-promise
returns-clause-promise g c =
    let b = c.args.forest.bytes in
    let read : List (Command Term) × Supply = (commands_of c.read_script.new.table c.in_ok-script.script.commands, c.in_ok-script.fresh) in
    let is = c.in_ok-script.ensures.script in
    let ds = commands_of c.run_passes.new.table c.in_ok-script-2.script.commands in
    let text : c.script_into.new.out ≡ lines c.args.layout ds =
    c.in_ok-script_into.ensures.ok
    ∙ ap (λ (t : Formulas). c.over-text.result ++ lines c.args.layout (commands_of t c.in_ok-script-2.script.commands)) (c.deref.ensures ∙ c.new-table-2.ensures)
    ∙ ap (λ (old : List ℕ). old ++ lines c.args.layout ds) c.over-text.ensures in
    promised c.rewriting_keeps_its_promise.ensures b read is c.args.passes.now c.args.layout ds c.run_passes.new.fresh c.in_ok-script-2.ensures.carried c.script_into.new.out text
