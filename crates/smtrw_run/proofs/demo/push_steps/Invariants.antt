use Rattle.std.proofs.Common.{◌≡◌, ◌++◌, ◌^◌, ◌%◌}
use Rattle.smtrw_run.proofs.DemoScripts.{IsUnderWay, closing, unclosed}
use Rattle.smtrw_run.proofs.demo.push_steps.Given as goal

abbrev pub invariant-loop-step : goal.invariant-loop-step
invariant-loop-step l = IsUnderWay l.size l.seed l.step l.generator.state l.fn.text.items l.text.items

abbrev pub invariant-loop : goal.invariant-loop
invariant-loop l = l.text.items ≡ l.fn.text.items ++ unclosed l.size 0 (l.seed % 2 ^ 31) ++ closing l.counter
