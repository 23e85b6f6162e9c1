use Rattle.smtrw_run.proofs.DemoScripts.{flags-more}
use Rattle.smtrw_run.proofs.demo.push_flags.Goals as goal

pub loop-flag-preserved : goal.loop-flag-preserved
loop-flag-preserved c =
    flags-more c.loop-flag.flag c.args.text.now.items c.loop-flag.text.items c.extend_from_slice.new.self.items c.push_number.new.text.items c.extend_from_slice-in-loop-flag.new.self.items
    c.loop-flag.invariant c.in_ok-extend_from_slice.ensures.items c.in_ok-push_number.ensures c.in_ok-extend_from_slice-2.ensures.items
