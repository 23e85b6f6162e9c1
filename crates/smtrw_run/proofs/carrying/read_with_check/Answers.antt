use Rattle.std.proofs.Common.{sym, subst, List}
use Rattle.smt_terms.specs.Fresh.{Supply}
use Rattle.smt_terms.specs.Term.{Term}
use Rattle.script_read.specs.CommandLists.{commands_of}
use Rattle.script_read.specs.Commands.{Command}
use Rattle.smtrw_run.specs.Carrying.{EndsAtScript}
use Rattle.smtrw_run.proofs.CarriedModels.{if_refused}
use Rattle.smtrw_run.proofs.Ways.{missing_way}
use Rattle.smtrw_run.proofs.carrying.read_with_check.Goals as goal

pub signature_at-requires-clause-printable : goal.signature_at-requires-clause-printable
signature_at-requires-clause-printable c =
    let read : List (Command Term) × Supply = (commands_of c.read_script.new.table c.in_ok-script.script.commands, c.in_ok-script.fresh) in
    c.reading_gives_a_printable_script.ensures c.args.forest.now.bytes read c.in_ok-script.ensures.script

pub returns-in_err-find_check-clause-ends : goal.returns-in_err-find_check-clause-ends
returns-in_err-find_check-clause-ends c =
    let b = c.args.forest.now.bytes in
    let k = c.args.check in
    let missing = c.in_err-find_check.ensures.missing in
    if_refused _ (EndsAtScript b k) c.in_err-find_check.field-0.0 c.from_residual-in_err-find_check.ensures.1
    (subst (EndsAtScript b k) (sym missing.1)
    (missing_way b k c.read_script.new.table c.in_ok-script.script.commands c.in_ok-script.fresh c.in_ok-script.ensures.script c.requires.short missing.0))
