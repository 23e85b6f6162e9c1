use Rattle.std.proofs.Common.{List, ap, sym, ◌∙◌, subst}
use Rattle.smt_terms.specs.Sorts.{Symbol}
use Rattle.smt_terms.specs.Term.{Term}
use Rattle.term_subst.specs.Substituting.{NeverGivesGained}
use Rattle.term_walk.proofs.Visits.{table-grows}
use Rattle.script_read.specs.Commands.{Command}
use Rattle.script_read.proofs.CommandsStay.{commands_within, commands_stay}
use Rattle.pass_laws.specs.Behind.{nnf_form, in_form, AreRewritable}
use Rattle.passes.proofs.running.negate.Goals as goal

pub rewrite_each-requires-clause-numbers : goal.rewrite_each-requires-clause-numbers
rewrite_each-requires-clause-numbers g c =
    commands_within c.args.table.now c.make_room.new.table c.make_room.ensures.grows c.args.script.now.commands c.requires.numbers

pub rewrite_each-requires-clause-ready : goal.rewrite_each-requires-clause-ready
rewrite_each-requires-clause-ready g c =
    subst (λ (cs : List (Command Term)). AreRewritable cs c.args.fresh.now)
    (sym (commands_stay c.args.table.now c.make_room.new.table c.make_room.ensures.grows c.args.script.now.commands c.requires.numbers)) c.requires.ready

pub returns-in_err-rewrite_each-clause-drawn : goal.returns-in_err-rewrite_each-clause-drawn
returns-in_err-rewrite_each-clause-drawn g c =
    subst (λ (fs : List Symbol). NeverGivesGained c.rewrite_each.new.fresh fs c.rewrite_each.new.table.symbols) c.make_room.ensures.unchanged.symbols c.rewrite_each.ensures.drawn

pub returns-in_err-rewrite_each-clause-grows : goal.returns-in_err-rewrite_each-clause-grows
returns-in_err-rewrite_each-clause-grows g c = table-grows c.args.table.now c.make_room.new.table c.rewrite_each.new.table c.make_room.ensures.grows c.rewrite_each.ensures.grows

pub returns-clause-commands : goal.returns-clause-commands
returns-clause-commands g c =
    c.in_ok-rewrite_each.ensures.commands
    ∙ ap (λ cs. (in_form nnf_form cs c.args.fresh.now).0) (commands_stay c.args.table.now c.make_room.new.table c.make_room.ensures.grows c.args.script.now.commands c.requires.numbers)

pub returns-clause-left : goal.returns-clause-left
returns-clause-left g c =
    c.in_ok-rewrite_each.ensures.left
    ∙ ap (λ cs. (in_form nnf_form cs c.args.fresh.now).1) (commands_stay c.args.table.now c.make_room.new.table c.make_room.ensures.grows c.args.script.now.commands c.requires.numbers)

pub returns-clause-drawn : goal.returns-clause-drawn
returns-clause-drawn g c =
    subst (λ (fs : List Symbol). NeverGivesGained c.rewrite_each.new.fresh fs c.rewrite_each.new.table.symbols) c.make_room.ensures.unchanged.symbols c.rewrite_each.ensures.drawn

pub returns-clause-grows : goal.returns-clause-grows
returns-clause-grows g c = table-grows c.args.table.now c.make_room.new.table c.rewrite_each.new.table c.make_room.ensures.grows c.rewrite_each.ensures.grows
