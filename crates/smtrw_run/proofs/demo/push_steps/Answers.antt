use Rattle.std.proofs.Common.{◌^◌, ◌%◌}
use Rattle.smtrw_run.proofs.DemoScripts.{closing-begin, closing-end, closing-more, steps-end, steps-more, unclosed}
use Rattle.smtrw_run.proofs.demo.push_steps.Goals as goal

pub loop-step-preserved : goal.loop-step-preserved
loop-step-preserved c =
    steps-more c.args.size c.args.seed c.loop-step.step c.loop-step.generator.state c.push_step.new.generator.state c.args.text.now.items c.loop-step.text.items c.push_step.new.text.items
    c.loop-step-test.true c.in_ok-push_step.ensures.state c.in_ok-push_step.ensures.text c.loop-step.invariant

pub loop-init : goal.loop-init
loop-init c =
    closing-begin c.args.text.now.items (unclosed c.args.size 0 (c.args.seed % 2 ^ 31)) c.push_number.new.text.items
    (steps-end c.args.size c.args.seed c.loop-step.step c.loop-step.generator.state c.args.text.now.items c.loop-step.text.items c.push.new.self.items c.push_number.new.text.items
    c.requires.least c.loop-step.auto.step-end c.loop-step-test.false c.loop-step.invariant c.in_ok-push.ensures.items c.in_ok-push_number.ensures)

pub loop-preserved : goal.loop-preserved
loop-preserved c =
    closing-more c.loop.counter c.args.text.now.items (unclosed c.args.size 0 (c.args.seed % 2 ^ 31)) c.loop.text.items c.push-in-loop.new.self.items c.loop.invariant c.in_ok-push-2.ensures.items

pub returns : goal.returns
returns c = closing-end c.args.size c.loop.counter (c.args.seed % 2 ^ 31) c.args.text.now.items c.loop.text.items c.loop.auto.counter-end c.loop-test.false c.loop.invariant
