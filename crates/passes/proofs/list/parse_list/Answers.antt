use Rattle.std.proofs.Common.{◌<◌, length, ◌∙◌, ap, lit<, arith, Err}
use Rattle.std.proofs.lemmas.Iterator.Splits.{YieldsList-from_str_split}
use Rattle.std.proofs.lemmas.Iterator.Consumers.{YieldsList-turn, YieldsList-end}
use Rattle.std.proofs.lemmas.List.{length_push}
use Rattle.std.proofs.lemmas.Result.{err_from_is_err_and}
use Rattle.pass_laws.specs.Lists.{between_commas}
use Rattle.passes.proofs.ListedNames.{turn_at, none_taken, one_taken, no_such_pass, too_many_names, all_taken_at}
use Rattle.passes.proofs.list.parse_list.Goals as goal

pub loop-name-init : goal.loop-name-init
loop-name-init c = rw c.new-passes.ensures (none_taken (between_commas c.args.text.now))

pub returns-in_err-listed : goal.returns-in_err-listed
returns-in_err-listed c =
    let names = YieldsList-from_str_split {s = c.into_iter-name-iterator.result} 44 c.args.text.now (lit< tt) (cc) (cc) (cc) in
    let turn = turn_at c.args.text.now (length c.loop-name.yielded) c.in-Some.name.now (YieldsList-turn names c.loop-name.yielded _ c.loop-name.yielded_by _ _ c.in-Some.name c.in-Some.is c.next.ensures.steps) in
    let p = err_from_is_err_and c.from_residual.result c.from_residual.ensures.1 in
    let why = c.in_err-listed.ensures in
    p.1 ∙ ap Err (p.2 ∙ why.0) ∙ no_such_pass (between_commas c.args.text.now) (length c.loop-name.yielded) c.loop-name.passes.items c.in-Some.name.now turn.0 turn.1 c.loop-name.invariant why.1

pub loop-name-preserved : goal.loop-name-preserved
loop-name-preserved c =
    let names = YieldsList-from_str_split {s = c.into_iter-name-iterator.result} 44 c.args.text.now (lit< tt) (cc) (cc) (cc) in
    let turn = turn_at c.args.text.now (length c.loop-name.yielded) c.in-Some.name.now (YieldsList-turn names c.loop-name.yielded _ c.loop-name.yielded_by _ _ c.in-Some.name c.in-Some.is c.next.ensures.steps) in
    let known = c.in_ok-listed.ensures in
    let pushed = c.in_ok-push.ensures in
    let room : length c.loop-name.yielded < 32 = omega (arith, c.loop-name.invariant.count, pushed.0) in
    let t = one_taken (between_commas c.args.text.now) (length c.loop-name.yielded) c.loop-name.passes.items c.in-Some.name.now turn.0 turn.1 c.loop-name.invariant c.in_ok-listed.field-0 known room in
    rw (length_push c.loop-name.yielded c.in-Some.name, pushed.1) t

pub returns-in_err-push : goal.returns-in_err-push
returns-in_err-push c =
    let names = YieldsList-from_str_split {s = c.into_iter-name-iterator.result} 44 c.args.text.now (lit< tt) (cc) (cc) (cc) in
    let turn = turn_at c.args.text.now (length c.loop-name.yielded) c.in-Some.name.now (YieldsList-turn names c.loop-name.yielded _ c.loop-name.yielded_by _ _ c.in-Some.name c.in-Some.is c.next.ensures.steps) in
    let p = err_from_is_err_and c.from_residual-in_err-push.result c.from_residual-in_err-push.ensures.1 in
    let why = c.in_err-push.ensures in
    p.1 ∙ ap Err (p.2 ∙ why.1) ∙ too_many_names (between_commas c.args.text.now) (length c.loop-name.yielded) c.loop-name.passes.items c.in-Some.name.now turn.0 turn.1 c.loop-name.invariant (omega (arith, c.loop-name.invariant.count, why.0))

pub returns : goal.returns
returns c =
    let names = YieldsList-from_str_split {s = c.into_iter-name-iterator.result} 44 c.args.text.now (lit< tt) (cc) (cc) (cc) in
    let end = YieldsList-end names c.loop-name.yielded _ c.loop-name.yielded_by _ _ c.in-None.is c.next.ensures.steps in
    c.in_order.ensures ∙ all_taken_at c.args.text.now (length c.loop-name.yielded) c.loop-name.passes.items end.1 c.loop-name.invariant
