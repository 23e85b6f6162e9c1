use Rattle.std.proofs.Common.{◌∙◌, ◌+◌, ◌≤◌, Some, ap, refl, sym, subst, flat_map, ◌∷◌, length, arith}
use Rattle.std.proofs.lemmas.List.{length-map, length-set}
use Rattle.term_walk.proofs.Visits.{table-grows}
use Rattle.term_subst.proofs.Gaining.{none-gained, gained-both}
use Rattle.script_terms.proofs.Grown.{grown_self, later_self, later_on}
use Rattle.script_read.specs.CommandLists.{command_of, commands_of}
use Rattle.script_read.specs.declared.scripts.Command.TheVariants.{Exit}
use Rattle.passes.specs.declared.plan.Stage.{Stage}
use Rattle.pass_laws.specs.Passed.{least, quantified_use}
use Rattle.passes.proofs.GroupingSteps.{SameFrom, found_alike, same_behind}
use Rattle.passes.proofs.GroupingWalk.{command_there, rewritable_there, there}
use Rattle.passes.proofs.RemovalWalk.{over-first, stands-first, stands-next, refused-first, closes-open, left-within, left-commands, last-commands, last-names, last-refused, last-stage, last-over}
use Rattle.passes.proofs.Rewritable.{ready_rewritable}
use Rattle.passes.proofs.removing.remove_each.Goals as goal

pub loop-i-init : goal.loop-i-init
loop-i-init c =
    let t = c.args.table.now in
    let s = c.args.fresh.now in
    let e = c.new-removal.ensures in
    record {
      count = refl;
      rest = λ k from. refl;
      over = over-first t s c.new-removal.result e.commands e.steps e.uses (e.live t);
      stands = stands-first (commands_of t c.args.script.now.commands) s t c.new-removal.result e.commands e.steps e.uses (e.levels t) e.open;
      later = later_self s;
      drawn = none-gained s t.symbols t.symbols refl;
      grows = grown_self t;
    }

pub meet-requires : goal.meet-requires
meet-requires c =
    let l = c.loop-i in
    let t = c.args.table.now in
    let ks = c.args.script.now.commands in
    let d = c.take-command.result in
    let found = found_alike l.script.commands ks l.i d l.invariant.rest c.take-command.ensures.taken in
    record {
      over = l.invariant.over;
      command = command_there t ks c.requires.numbers l.table l.invariant.grows l.i d found;
      ready =
          rewritable_there t ks c.requires.numbers l.table l.invariant.grows l.i d found c.args.fresh.now l.fresh
          (ready_rewritable (commands_of t ks) c.args.fresh.now c.requires.ready) l.invariant.later;
      closes =
          closes-open c.levels_are_open.ensures (commands_of t ks) c.args.fresh.now c.requires.ready l.table d l.i
          (there t ks c.requires.numbers l.table l.invariant.grows l.i d found) l.removal.ack l.invariant.stands.opened;
    }

pub refusal-requires : goal.refusal-requires
refusal-requires c =
    let l = c.loop-i in
    let t = c.args.table.now in
    let ks = c.args.script.now.commands in
    let u = c.meet.new.table in
    let behind = subst (λ js. SameFrom (l.i + 1) js ks) (sym c.take-command.ensures.left) (same_behind l.script.commands ks l.i Exit l.invariant.rest) in
    record { numbers = left-within t u (table-grows t l.table u l.invariant.grows c.in-Err.ensures.grows) ks c.take-command.new.self c.requires.numbers (l.i + 1) behind }

pub returns-in-Err-clause-refused : goal.returns-in-Err-clause-refused
returns-in-Err-clause-refused c a is =
    let l = c.loop-i in
    let t = c.args.table.now in
    let ks = c.args.script.now.commands in
    let cs = commands_of t ks in
    let u = c.meet.new.table in
    let d = c.take-command.result in
    let found = found_alike l.script.commands ks l.i d l.invariant.rest c.take-command.ensures.taken in
    let behind = subst (λ js. SameFrom (l.i + 1) js ks) (sym c.take-command.ensures.left) (same_behind l.script.commands ks l.i Exit l.invariant.rest) in
    let why = c.refusal.ensures a is in
    refused-first cs c.args.fresh.now l.i (command_of l.table d) (there t ks c.requires.numbers l.table l.invariant.grows l.i d found) why.0 l.invariant.stands.taken (c.in-Err.ensures.refused why.0 why.1)
    ∙ ap (λ ds. least (why.0 ∷ flat_map quantified_use ds)) (sym (left-commands t u (table-grows t l.table u l.invariant.grows c.in-Err.ensures.grows) ks c.take-command.new.self c.requires.numbers (l.i + 1) behind))
    ∙ why.2

pub returns-in-Err-clause-drawn : goal.returns-in-Err-clause-drawn
returns-in-Err-clause-drawn c =
    let l = c.loop-i in
    let e = c.in-Err.ensures in
    gained-both l.fresh c.meet.new.fresh c.args.table.now.symbols l.table.symbols c.meet.new.table.symbols e.later e.grows.symbols l.invariant.drawn e.drawn

pub loop-i-preserved : goal.loop-i-preserved
loop-i-preserved c =
    let l = c.loop-i in
    let t = c.args.table.now in
    let ks = c.args.script.now.commands in
    let s = c.args.fresh.now in
    let u = c.meet.new.table in
    let r = c.meet.new.fresh in
    let d = c.take-command.result in
    let e = c.in_default.ensures in
    let found = found_alike l.script.commands ks l.i d l.invariant.rest c.take-command.ensures.taken in
    record {
      count = ap length c.take-command.ensures.left ∙ length-set l.script.commands l.i Exit ∙ l.invariant.count;
      rest = subst (λ js. SameFrom (l.i + 1) js ks) (sym c.take-command.ensures.left) (same_behind l.script.commands ks l.i Exit l.invariant.rest);
      over = e.over;
      stands =
          stands-next (commands_of t ks) s l.i (command_of l.table d) (there t ks c.requires.numbers l.table l.invariant.grows l.i d found)
          l.table u l.removal c.meet.new.self l.fresh r e.refused e.goes l.invariant.stands;
      later = later_on s l.fresh r l.invariant.later e.later;
      drawn = gained-both l.fresh r t.symbols l.table.symbols u.symbols e.later e.grows.symbols l.invariant.drawn e.drawn;
      grows = table-grows t l.table u l.invariant.grows e.grows;
    }

pub returns : goal.returns
returns c =
    let l = c.loop-i in
    let t = c.args.table.now in
    let ks = c.args.script.now.commands in
    let cs = commands_of t ks in
    let s = c.args.fresh.now in
    let n = length-map ks (command_of t) in
    let past : length cs ≤ l.i = omega (arith, n, c.loop-i-test.false, c.len-i-end.ensures) in
    let made : Stage = record { steps = l.removal.steps; uses = Some l.removal.uses } in
    record {
      numbers = l.invariant.over.commands;
      commands = last-commands cs s l.i l.table l.removal l.fresh past l.invariant.stands;
      left = last-names cs s l.i l.table l.removal l.fresh past l.invariant.stands;
      refused = last-refused cs s l.i l.table l.removal l.fresh past l.invariant.stands;
      stage = last-stage cs s l.i l.table l.removal l.fresh past l.invariant.stands l.invariant.over made refl refl c.know_table.ensures;
      over = last-over cs s l.i l.table l.removal l.fresh past l.invariant.stands l.invariant.over made refl refl c.removals_tell_models.ensures c.requires.ready;
      kept = l.invariant.over.kept;
      later = l.invariant.later;
      drawn = l.invariant.drawn;
      grows = l.invariant.grows;
    }
