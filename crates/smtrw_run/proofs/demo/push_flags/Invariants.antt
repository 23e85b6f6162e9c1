use Rattle.std.proofs.Common.{◌≡◌, ◌++◌}
use Rattle.smtrw_run.proofs.DemoScripts.{flags_before}
use Rattle.smtrw_run.proofs.demo.push_flags.Given as goal

abbrev pub invariant-loop-flag : goal.invariant-loop-flag
invariant-loop-flag l = l.text.items ≡ l.fn.text.items ++ flags_before l.flag
