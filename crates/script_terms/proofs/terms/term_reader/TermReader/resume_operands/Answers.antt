use Rattle.std.proofs.Common.{◌≡◌, ◌-◌, List, length, take, drop, refl, ap, arith}
use Rattle.std.proofs.lemmas.Result.{err_from_is_err_and}
use Rattle.smt_terms.specs.declared.ids.NodeId.{NodeId}
use Rattle.term_subst.proofs.Turning.{last-slice}
use Rattle.script_terms.proofs.StepsOfCalls.{last_call, come, has_callee, first_within, next_operand, passed_shows, passed_spared, application_refused, application_made, operand_less, application_less}
use Rattle.script_terms.proofs.terms.term_reader.TermReader.resume_operands.Goals as goal

pub returns-then-begins-clause-steps : goal.returns-then-begins-clause-steps
returns-then-begins-clause-steps c r going =
    let last = last_call c.args.self.now.frames.items c.requires.awaits in
    next_operand c.args.forest.now.tokens c.args.table.now c.args.sofar.now c.args.self.now c.args.node c.args.behind r going last.0 last.1 last.2
    c.push.new.self c.in_ok-push.ensures.items (c.begins.ensures.yes c.if-begins.true)

pub returns-then-begins-clause-less : goal.returns-then-begins-clause-less
returns-then-begins-clause-less c =
    let last = last_call c.args.self.now.frames.items c.requires.awaits in
    operand_less c.args.forest.now.tokens c.args.self.now.frames.items last.0 last.1 c.args.behind last.2 (c.begins.ensures.yes c.if-begins.true)

pub unreachable-requires : goal.unreachable-requires
unreachable-requires c =
    let some =
    has_callee c.args.forest.now.tokens c.args.table.now c.args.sofar.now c.args.self.now c.args.node c.args.behind c.requires.going.reading c.requires.going.going
    c.take_call-call.new.frames.items c.take_call-call.result c.take_call-call.ensures in
    omega (arith, some, c.in_default.ensures.cases.0)

pub slice_bounds-apply-start : goal.slice_bounds-apply-start
slice_bounds-apply-start c =
    let within =
    first_within c.args.forest.now.tokens c.args.table.now c.args.sofar.now c.args.self.now c.args.node c.args.behind c.requires.going.reading c.requires.going.going
    c.take_call-call.new.frames.items c.take_call-call.result c.take_call-call.ensures c.push.new.self c.in_ok-push.ensures.items in
    let size : length c.deref.result.now ≡ length c.push.new.self.items = ap length c.deref.ensures.value in
    omega (arith, within, size)

pub slice_bounds-apply-count : goal.slice_bounds-apply-count
slice_bounds-apply-count c =
    let within =
    first_within c.args.forest.now.tokens c.args.table.now c.args.sofar.now c.args.self.now c.args.node c.args.behind c.requires.going.reading c.requires.going.going
    c.take_call-call.new.frames.items c.take_call-call.result c.take_call-call.ensures c.push.new.self c.in_ok-push.ensures.items in
    let size : length c.deref.result.now ≡ length c.push.new.self.items = ap length c.deref.ensures.value in
    omega (arith, within, size)

pub apply-requires-clause-list : goal.apply-requires-clause-list
apply-requires-clause-list c =
    let here =
    come c.args.forest.now.tokens c.args.table.now c.args.sofar.now c.args.self.now c.args.node c.args.behind c.requires.going.reading c.requires.going.going
    c.take_call-call.new.frames.items c.take_call-call.result c.take_call-call.ensures in
    here.waiting.1

pub apply-requires-clause-callee : goal.apply-requires-clause-callee
apply-requires-clause-callee c =
    let here =
    come c.args.forest.now.tokens c.args.table.now c.args.sofar.now c.args.self.now c.args.node c.args.behind c.requires.going.reading c.requires.going.going
    c.take_call-call.new.frames.items c.take_call-call.result c.take_call-call.ensures in (
      here.waiting.2.called,
      passed_shows c.args.forest.now.tokens c.args.table.now c.args.sofar.now c.args.self.now c.args.node c.args.behind c.requires.going.reading c.requires.going.going
          c.take_call-call.new.frames.items c.take_call-call.result c.take_call-call.ensures c.push.new.self c.in_ok-push.ensures.items (c.begins.ensures.no c.if-begins.false) c.pop.new.self c.in-Some.callee c.in-Some.ensures.items _
          (last-slice c.push.new.self.items c.deref.result.now c.take_call-call.result.first c.deref.ensures.value),
    )

pub apply-requires-clause-kids : goal.apply-requires-clause-kids
apply-requires-clause-kids c =
    let d = c.deref.result.now in
    let first = c.take_call-call.result.first in
    passed_spared c.args.forest.now.tokens c.args.table.now c.args.sofar.now c.args.self.now c.args.node c.args.behind c.requires.going.reading c.requires.going.going
    c.take_call-call.new.frames.items c.take_call-call.result c.take_call-call.ensures c.push.new.self c.in_ok-push.ensures.items (c.begins.ensures.no c.if-begins.false) c.pop.new.self c.in-Some.callee c.in-Some.ensures.items
    (take (length d - first) (drop first d)) (last-slice c.push.new.self.items d first c.deref.ensures.value)

pub returns-in_err-node-clause-steps : goal.returns-in_err-node-clause-steps
returns-in_err-node-clause-steps c r going =
    let ts = c.args.forest.now.tokens in
    let t = c.args.table.now in
    let sofar = c.args.sofar.now in
    let self = c.args.self.now in
    let left = c.take_call-call.new.frames.items in
    let call = c.take_call-call.result in
    let waiting = c.take_call-call.ensures in
    let d = c.deref.result.now in
    let passed : List NodeId = take (length d - call.first) (drop call.first d) in
    let kids : passed ≡ drop call.first c.push.new.self.items = last-slice c.push.new.self.items d call.first c.deref.ensures.value in
    let here = come ts t sofar self c.args.node c.args.behind r going left call waiting in
    let p = err_from_is_err_and c.from_residual-in_err-node.result c.from_residual-in_err-node.ensures.1 in
    rw (p.1, p.2)
    (application_refused ts t sofar self c.args.node c.args.behind r going left call waiting
    c.push.new.self c.in_ok-push.ensures.items (c.begins.ensures.no c.if-begins.false) c.pop.new.self c.in-Some.callee c.in-Some.ensures.items passed kids
    c.apply.new.table c.apply.new.sofar self _
    (c.in_err-node.ensures.term here.waiting.2.called here.live
    (passed_shows ts t sofar self c.args.node c.args.behind r going left call waiting
    c.push.new.self c.in_ok-push.ensures.items (c.begins.ensures.no c.if-begins.false) c.pop.new.self c.in-Some.callee c.in-Some.ensures.items passed kids) here.known))

pub returns-clause-steps : goal.returns-clause-steps
returns-clause-steps c r going =
    let ts = c.args.forest.now.tokens in
    let t = c.args.table.now in
    let sofar = c.args.sofar.now in
    let self = c.args.self.now in
    let left = c.take_call-call.new.frames.items in
    let call = c.take_call-call.result in
    let waiting = c.take_call-call.ensures in
    let d = c.deref.result.now in
    let passed : List NodeId = take (length d - call.first) (drop call.first d) in
    let kids : passed ≡ drop call.first c.push.new.self.items = last-slice c.push.new.self.items d call.first c.deref.ensures.value in
    let here = come ts t sofar self c.args.node c.args.behind r going left call waiting in
    application_made ts t sofar self c.args.node c.args.behind r going left call waiting
    c.push.new.self c.in_ok-push.ensures.items (c.begins.ensures.no c.if-begins.false) c.pop.new.self c.in-Some.callee c.in-Some.ensures.items passed kids
    c.apply.new.table c.apply.new.sofar c.in_ok-node.ensures.gains c.in_ok-node.node
    (c.in_ok-node.ensures.term here.waiting.2.called here.live
    (passed_shows ts t sofar self c.args.node c.args.behind r going left call waiting
    c.push.new.self c.in_ok-push.ensures.items (c.begins.ensures.no c.if-begins.false) c.pop.new.self c.in-Some.callee c.in-Some.ensures.items passed kids) here.known)
    c.after.result c.after.ensures.behind c.take_call-call.new.frames refl c.truncate.new.self c.truncate.ensures.items

pub returns-clause-less : goal.returns-clause-less
returns-clause-less c =
    application_less c.args.forest.now.tokens c.args.self.now.frames.items c.take_call-call.new.frames.items c.take_call-call.result c.args.behind c.take_call-call.ensures c.after.result c.after.ensures.behind
