use Rattle.std.proofs.Common.{◌<◌, length, ◌∙◌, arith, refl}
use Rattle.std.proofs.lemmas.List.{length-map, length-set}
use Rattle.term_walk.proofs.Visits.{table-grows}
use Rattle.term_subst.proofs.Gaining.{none-gained, gained-both}
use Rattle.script_read.specs.CommandLists.{command_of, commands_of}
use Rattle.script_terms.proofs.Grown.{grown_self, later_self, later_on}
use Rattle.script_read.specs.declared.scripts.Command.TheVariants.{Assert}
use Rattle.pass_laws.proofs.InForm.{start}
use Rattle.passes.proofs.RewrittenCommands.{other_stays, formula_there, names_there, numbers_then, replaced}
use Rattle.passes.proofs.running.rewrite_each.Goals as goal
use Rattle.passes.proofs.running.rewrite_each.Goals.{in-Some+in_ok-id, in_default}

pub loop-i-init : goal.loop-i-init
loop-i-init g c = record {
  count = refl;
  numbers = c.requires.numbers;
  under_way = start g.R.Rewriter.form (commands_of c.args.table.now c.args.script.now.commands) c.args.fresh.now;
  fits = c.requires.fits;
  later = later_self c.args.fresh.now;
  drawn = none-gained c.args.fresh.now c.args.table.now.symbols c.args.table.now.symbols refl;
  grows = grown_self c.args.table.now;
}

pub rewrite-requires-clause-formula : goal.rewrite-requires-clause-formula
rewrite-requires-clause-formula g c =
    let few : c.loop-i.i < length (commands_of c.args.table.now c.args.script.now.commands) =
    let n = length-map c.args.script.now.commands (command_of c.args.table.now) in
    let below = c.loop-i-test.true in
    omega (arith, n, below, c.len-i-end.ensures) in
    let l = c.loop-i in
    formula_there g.R.Rewriter.form (commands_of c.args.table.now c.args.script.now.commands) c.args.fresh.now l.table l.script.commands l.i l.fresh few l.invariant.numbers l.invariant.under_way c.in-Some.id c.in-Some.number c.in-Some.ensures c.requires.ready

pub rewrite-requires-clause-names : goal.rewrite-requires-clause-names
rewrite-requires-clause-names g c =
    let few : c.loop-i.i < length (commands_of c.args.table.now c.args.script.now.commands) =
    let n = length-map c.args.script.now.commands (command_of c.args.table.now) in
    let below = c.loop-i-test.true in
    omega (arith, n, below, c.len-i-end.ensures) in
    let l = c.loop-i in
    names_there g.R.Rewriter.form (commands_of c.args.table.now c.args.script.now.commands) c.args.fresh.now l.table l.script.commands l.i l.fresh few l.invariant.numbers l.invariant.under_way c.in-Some.id c.in-Some.number c.in-Some.ensures c.requires.ready l.invariant.later

pub loop-i-preserved : goal.loop-i-preserved
loop-i-preserved g c =
    let few : c.loop-i.i < length (commands_of c.args.table.now c.args.script.now.commands) =
    let n = length-map c.args.script.now.commands (command_of c.args.table.now) in
    let below = c.loop-i-test.true in
    omega (arith, n, below, c.len-i-end.ensures) in
    let l = c.loop-i in
    elim c.match-assertion_at.branch [
      | in-Some+in_ok-id w ↦
          let e = w.in_ok-id.ensures in
          rw (w.table-is, w.script-is, w.rewriter-is, w.fresh-is, w.replace.ensures) (record {
            count = length-set l.script.commands l.i (Assert w.in_ok-id.id w.in-Some.number) ∙ l.invariant.count;
            numbers = numbers_then l.table l.script.commands l.invariant.numbers w.rewrite.new.table e.grows l.i w.in-Some.number w.in_ok-id.id e.formula.node;
            under_way = replaced g.R.Rewriter.form (commands_of c.args.table.now c.args.script.now.commands) c.args.fresh.now l.table l.script.commands l.i l.fresh few l.invariant.numbers l.invariant.under_way w.in-Some.id w.in-Some.number w.in-Some.ensures w.rewrite.new.table w.in_ok-id.id w.rewrite.new.fresh e.grows e.term e.left;
            fits = e.fits;
            later = later_on c.args.fresh.now l.fresh w.rewrite.new.fresh l.invariant.later e.later;
            drawn = gained-both l.fresh w.rewrite.new.fresh c.args.table.now.symbols l.table.symbols w.rewrite.new.table.symbols e.later e.grows.symbols l.invariant.drawn e.drawn;
            grows = table-grows c.args.table.now l.table w.rewrite.new.table l.invariant.grows e.grows;
          })
      | in_default w ↦
          rw (w.table-is, w.script-is, w.rewriter-is, w.fresh-is) (record {
            count = l.invariant.count;
            numbers = l.invariant.numbers;
            under_way = other_stays g.R.Rewriter.form (commands_of c.args.table.now c.args.script.now.commands) c.args.fresh.now l.table l.script.commands l.i l.fresh few l.invariant.numbers l.invariant.under_way w.in_default.ensures;
            fits = l.invariant.fits;
            later = l.invariant.later;
            drawn = l.invariant.drawn;
            grows = l.invariant.grows;
          })
    ]

pub returns-in_err-id-clause-drawn : goal.returns-in_err-id-clause-drawn
returns-in_err-id-clause-drawn g c =
    let l = c.loop-i in
    let e = c.in_err-id.ensures in
    gained-both l.fresh c.rewrite.new.fresh c.args.table.now.symbols l.table.symbols c.rewrite.new.table.symbols e.later e.grows.symbols l.invariant.drawn e.drawn
