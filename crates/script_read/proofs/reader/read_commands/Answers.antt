use Rattle.std.proofs.Common.{suc, ◌+◌, Ok, refl, sym, ap, ◌∙◌, subst, arith}
use Rattle.std.proofs.lemmas.List.Elements.{All-nil}
use Rattle.smt_lex.specs.Forest.{after_at}
use Rattle.term_walk.proofs.Visits.{table-grows}
use Rattle.script_read.specs.CommandLists.{commands_of, IsCommandOf, AreCommandsOf}
use Rattle.script_terms.specs.Places.{form_from, forms_from}
use Rattle.script_read.specs.Script.{read_commands}
use Rattle.script_terms.proofs.DrawnConstants.{spares_later}
use Rattle.script_terms.proofs.Grown.{grown_self}
use Rattle.script_read.proofs.ReaderSteps.{Going, going_begun, going_on, going_refused, commands_within, all_read}
use Rattle.script_read.proofs.reader.read_commands.Goals as goal

pub loop-next-init : goal.loop-next-init
loop-next-init c = record {
  within = omega arith;
  count = omega arith;
  asserted = omega arith;
  grows = grown_self c.args.table.now;
  text = c.requires.text;
  commands = subst (AreCommandsOf c.args.table.now) (sym c.new-commands.ensures) (All-nil (IsCommandOf c.args.table.now));
  going = λ s stands. going_begun c.args.table.now c.args.session.now s c.new-commands.result c.args.forest.now.tokens stands c.new-commands.ensures;
}

pub loop-next-preserved : goal.loop-next-preserved
loop-next-preserved c = record {
  within = c.after-next.ensures.within.1;
  count = omega arith;
  asserted = omega (arith, c.in-Ok.ensures.asserted);
  grows = table-grows c.args.table.now c.loop-next.table c.read_command.new.table c.loop-next.invariant.grows c.in-Ok.ensures.grows;
  text = spares_later c.args.forest.now.tokens c.loop-next.session.sofar.fresh c.read_command.new.session.sofar.fresh c.in-Ok.ensures.later c.loop-next.invariant.text;
  commands = commands_within c.loop-next.table c.read_command.new.table c.in-Ok.ensures.grows c.loop-next.commands c.push.new.commands c.in-Ok.command c.loop-next.invariant.commands c.in_ok-push.ensures c.in-Ok.ensures.command;
  going = λ s stands.
      let going : Going c.loop-next.table c.loop-next.session c.loop-next.commands c.args.forest.now.tokens c.loop-next.read c.loop-next.at (read_commands 1 (forms_from c.args.forest.now.tokens 0) s) = c.loop-next.invariant.going s stands in
      going_on c.loop-next.table c.read_command.new.table c.loop-next.session c.loop-next.commands c.args.forest.now.tokens c.loop-next.read c.loop-next.at (after_at c.args.forest.now.tokens c.loop-next.at) (read_commands 1 (forms_from c.args.forest.now.tokens 0) s) going
      (form_from c.args.forest.now.tokens c.loop-next.at) (c.begins.ensures.yes c.loop-next-test.true).forms
      c.in-Ok.ensures.grows c.loop-next.invariant.commands c.read_command.new.session c.push.new.commands c.in-Ok.command (c.loop-next.read + 1) c.after-next.result c.in_ok-push.ensures (c.in-Ok.ensures.step going.standing going.stands) refl c.after-next.ensures.behind;
}

pub returns-clause-commands : goal.returns-clause-commands
returns-clause-commands c = λ s stands.
    let going : Going c.loop-next.table c.loop-next.session c.loop-next.commands c.args.forest.now.tokens c.loop-next.read c.loop-next.at (read_commands 1 (forms_from c.args.forest.now.tokens 0) s) = c.loop-next.invariant.going s stands in
    all_read (read_commands 1 (forms_from c.args.forest.now.tokens 0) s) (commands_of c.loop-next.table c.loop-next.commands) (suc c.loop-next.read) (forms_from c.args.forest.now.tokens c.loop-next.at) going.standing
    going.left (c.begins.ensures.no c.loop-next-test.false)
    ∙ ap (λ q. Ok (commands_of c.loop-next.table c.loop-next.commands, q)) going.stands.supply

pub returns-in-Err-clause-commands : goal.returns-in-Err-clause-commands
returns-in-Err-clause-commands c = λ s stands.
    let going : Going c.loop-next.table c.loop-next.session c.loop-next.commands c.args.forest.now.tokens c.loop-next.read c.loop-next.at (read_commands 1 (forms_from c.args.forest.now.tokens 0) s) = c.loop-next.invariant.going s stands in
    going_refused c.loop-next.table c.read_command.new.table c.loop-next.session c.loop-next.commands c.args.forest.now.tokens c.loop-next.read c.loop-next.at (after_at c.args.forest.now.tokens c.loop-next.at) (read_commands 1 (forms_from c.args.forest.now.tokens 0) s) going
    (form_from c.args.forest.now.tokens c.loop-next.at) (c.begins.ensures.yes c.loop-next-test.true).forms
    c.args.forest.now.bytes c.read_command.new.session.sofar.fresh (c.loop-next.read + 1) c.in-Err.fault c.script_fault.result refl (c.in-Err.ensures.step going.standing going.stands) c.script_fault.ensures

pub returns-in-Err-clause-grows : goal.returns-in-Err-clause-grows
returns-in-Err-clause-grows c = table-grows c.args.table.now c.loop-next.table c.read_command.new.table c.loop-next.invariant.grows c.in-Err.ensures.grows

pub returns-in_err-push-clause-grows : goal.returns-in_err-push-clause-grows
returns-in_err-push-clause-grows c = table-grows c.args.table.now c.loop-next.table c.read_command.new.table c.loop-next.invariant.grows c.in-Ok.ensures.grows
