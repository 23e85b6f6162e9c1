use Rattle.std.proofs.Common.{◌∙◌, map, arith}
use Rattle.std.proofs.lemmas.List.{length-map, length-set}
use Rattle.term_walk.proofs.Visits.{table-grows}
use Rattle.script_read.specs.CommandLists.{command_of, commands_of}
use Rattle.script_read.specs.declared.scripts.Command.TheVariants.{Assert}
use Rattle.passes.proofs.RewrittenCommands.{node_there, numbers_then}
use Rattle.passes.proofs.RuledCommands.{other_kept, assertion_rewritten, all_rewritten}
use Rattle.passes.proofs.running.ask_rules.Goals as goal
use Rattle.passes.proofs.running.ask_rules.Goals.{in-Some+in_ok-ruled, in_default}

pub apply-requires-clause-node : goal.apply-requires-clause-node
apply-requires-clause-node g c =
    let l = c.loop-i in
    node_there l.table l.script.commands l.i c.in-Some.id c.in-Some.number c.in-Some.ensures l.invariant.numbers

pub loop-i-preserved : goal.loop-i-preserved
loop-i-preserved g c =
    let l = c.loop-i in
    elim c.match-assertion_at.branch [
      | in-Some+in_ok-ruled w ↦
          let e = w.in_ok-ruled.ensures in
          rw (w.table-is, w.script-is, w.kept-is, w.replace.ensures) (record {
            count = length-set l.script.commands l.i (Assert w.in_ok-ruled.ruled w.in-Some.number) ∙ l.invariant.count;
            numbers = numbers_then l.table l.script.commands l.invariant.numbers w.apply.new.table e.grows l.i w.in-Some.number w.in_ok-ruled.ruled e.node;
            rewritten =
                assertion_rewritten (map (λ r. r.name.now) c.args.book.now.rules.items) (commands_of c.args.table.now c.args.script.now.commands) l.table l.script.commands l.i l.invariant.rewritten
                w.in-Some.id w.in-Some.number w.in-Some.ensures l.invariant.numbers w.apply.new.table w.in_ok-ruled.ruled e.grows e.rewrites;
            fits = e.fits;
            symbols = e.symbols ∙ l.invariant.symbols;
            grows = table-grows c.args.table.now l.table w.apply.new.table l.invariant.grows e.grows;
          })
      | in_default w ↦
          rw (w.table-is, w.script-is, w.kept-is) (record {
            count = l.invariant.count;
            numbers = l.invariant.numbers;
            rewritten = other_kept (map (λ r. r.name.now) c.args.book.now.rules.items) (commands_of c.args.table.now c.args.script.now.commands) l.table l.script.commands l.i l.invariant.rewritten w.in_default.ensures;
            fits = l.invariant.fits;
            symbols = l.invariant.symbols;
            grows = l.invariant.grows;
          })
    ]

pub returns-clause-rewrites : goal.returns-clause-rewrites
returns-clause-rewrites g c =
    let l = c.loop-i in
    let n = length-map c.args.script.now.commands (command_of c.args.table.now) in
    let past = c.loop-i-test.false in
    all_rewritten (map (λ r. r.name.now) c.args.book.now.rules.items) l.i (commands_of c.args.table.now c.args.script.now.commands) (commands_of l.table l.script.commands)
    (omega (arith, n, past, c.len-i-end.ensures)) l.invariant.rewritten
