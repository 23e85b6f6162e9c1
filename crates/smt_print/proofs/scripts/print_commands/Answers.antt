use Rattle.std.proofs.Common.{◌≡◌, ◌<◌, ◌++◌, ◌+◌, List, ℕ, [], take, drop, length, ap, sym, ◌∙◌, subst, arith, append-nil}
use Rattle.std.proofs.lemmas.List.{take_all}
use Rattle.script_read.specs.CommandLists.{commands_of}
use Rattle.smt_print.specs.Prefix.{AppendsPrefix, Drafts}
use Rattle.smt_print.specs.Text.{lines}
use Rattle.smt_print.proofs.CommandLines.{line_of, lines-more, lines-split}
use Rattle.smt_print.proofs.Prefixes.{on_err, drafts-waiting, drafts-more, drafts-all, prefix-behind, prefix-waiting}
use Rattle.smt_print.proofs.scripts.print_commands.Goals as goal

pub loop-i-init : goal.loop-i-init
loop-i-init g c = drafts-waiting (g.O.Output.text c.args.out.now) [] c.new-draft.result.text [] c.new-draft.ensures

pub loop-i-preserved : goal.loop-i-preserved
loop-i-preserved g c =
    let o = g.O.Output.text in
    let cs = c.args.script.now.commands in
    let below = c.loop-i-test.true in
    let lt : c.loop-i.i < length cs = omega (arith, c.len-i-end.ensures) in
    let so_far = lines c.args.layout (commands_of c.args.table.now (take c.loop-i.i cs)) in
    let line = line_of c.args.layout c.args.table.now c.get.result.now in
    let printed = drafts-more (o c.args.out.now) [] (o c.loop-i.out) c.loop-i.draft.text (o c.print_command.new.out) c.print_command.new.draft.text so_far line c.loop-i.invariant c.in_ok-print_command.ensures.ok in
    let passed = drafts-more (o c.args.out.now) [] (o c.print_command.new.out) c.print_command.new.draft.text (o c.pass_on.new.out) c.pass_on.new.text (so_far ++ line) [] printed c.in_ok-pass_on.ensures.ok in
    subst (λ (xs : List ℕ). Drafts (o c.args.out.now) [] (o c.pass_on.new.out) c.pass_on.new.text xs)
    (append-nil (so_far ++ line) ∙ sym (lines-more c.args.layout c.args.table.now cs c.loop-i.i c.get.result.now lt c.get.ensures)) passed

pub returns-in_err-print_command-clause-prefix : goal.returns-in_err-print_command-clause-prefix
returns-in_err-print_command-clause-prefix g c =
    let o = g.O.Output.text in
    let cs = c.args.script.now.commands in
    let below = c.loop-i-test.true in
    let lt : c.loop-i.i < length cs = omega (arith, c.len-i-end.ensures) in
    let so_far = lines c.args.layout (commands_of c.args.table.now (take c.loop-i.i cs)) in
    let line = line_of c.args.layout c.args.table.now c.get.result.now in
    let rest = lines c.args.layout (commands_of c.args.table.now (drop (c.loop-i.i + 1) cs)) in
    let whole = lines c.args.layout (commands_of c.args.table.now cs) in
    on_err c.from_residual.result (AppendsPrefix (o c.args.out.now) (o c.print_command.new.out) whole)
    (prefix-behind (o c.args.out.now) [] (o c.loop-i.out) c.loop-i.draft.text (o c.print_command.new.out) so_far line rest whole c.loop-i.invariant c.in_err-print_command.ensures.prefix
    (ap (λ xs. xs ++ rest) (sym (lines-more c.args.layout c.args.table.now cs c.loop-i.i c.get.result.now lt c.get.ensures)) ∙ lines-split c.args.layout c.args.table.now cs (c.loop-i.i + 1)))

pub returns-in_err-pass_on-clause-prefix : goal.returns-in_err-pass_on-clause-prefix
returns-in_err-pass_on-clause-prefix g c =
    let o = g.O.Output.text in
    let cs = c.args.script.now.commands in
    let below = c.loop-i-test.true in
    let lt : c.loop-i.i < length cs = omega (arith, c.len-i-end.ensures) in
    let so_far = lines c.args.layout (commands_of c.args.table.now (take c.loop-i.i cs)) in
    let line = line_of c.args.layout c.args.table.now c.get.result.now in
    let rest = lines c.args.layout (commands_of c.args.table.now (drop (c.loop-i.i + 1) cs)) in
    let whole = lines c.args.layout (commands_of c.args.table.now cs) in
    let printed = drafts-more (o c.args.out.now) [] (o c.loop-i.out) c.loop-i.draft.text (o c.print_command.new.out) c.print_command.new.draft.text so_far line c.loop-i.invariant c.in_ok-print_command.ensures.ok in
    on_err c.from_residual-in_err-pass_on.result (AppendsPrefix (o c.args.out.now) (o c.pass_on.new.out) whole)
    (prefix-waiting (o c.args.out.now) (o c.print_command.new.out) c.print_command.new.draft.text (o c.pass_on.new.out) (so_far ++ line) rest whole printed c.in_err-pass_on.ensures.prefix
    (ap (λ xs. xs ++ rest) (sym (lines-more c.args.layout c.args.table.now cs c.loop-i.i c.get.result.now lt c.get.ensures)) ∙ lines-split c.args.layout c.args.table.now cs (c.loop-i.i + 1)))

pub returns-in_err-pass_all-clause-prefix : goal.returns-in_err-pass_all-clause-prefix
returns-in_err-pass_all-clause-prefix g c =
    let o = g.O.Output.text in
    let cs = c.args.script.now.commands in
    let so_far = lines c.args.layout (commands_of c.args.table.now (take c.loop-i.i cs)) in
    let whole = lines c.args.layout (commands_of c.args.table.now cs) in
    on_err c.from_residual-in_err-pass_all.result (AppendsPrefix (o c.args.out.now) (o c.pass_all.new.out) whole)
    (prefix-waiting (o c.args.out.now) (o c.loop-i.out) c.loop-i.draft.text (o c.pass_all.new.out) so_far (lines c.args.layout (commands_of c.args.table.now (drop c.loop-i.i cs))) whole c.loop-i.invariant c.in_err-pass_all.ensures.prefix
    (lines-split c.args.layout c.args.table.now cs c.loop-i.i))

pub returns-clause-ok : goal.returns-clause-ok
returns-clause-ok g c =
    let o = g.O.Output.text in
    let cs = c.args.script.now.commands in
    let past = c.loop-i-test.false in
    let all : take c.loop-i.i cs ≡ cs = take_all c.loop-i.i cs (omega (arith, c.len-i-end.ensures)) in
    drafts-all (o c.args.out.now) (o c.loop-i.out) c.loop-i.draft.text (o c.pass_all.new.out) (lines c.args.layout (commands_of c.args.table.now cs))
    (subst (λ (ds : List _). Drafts (o c.args.out.now) [] (o c.loop-i.out) c.loop-i.draft.text (lines c.args.layout (commands_of c.args.table.now ds))) all c.loop-i.invariant)
    c.in_ok-pass_all.ensures.ok
