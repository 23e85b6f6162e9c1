use Rattle.smtrw_run.proofs.DemoScripts.{script_made}
use Rattle.smtrw_run.proofs.demo.demo_script.Goals as goal

pub returns : goal.returns
returns c =
    script_made c.args.seed c.args.size c.new-text.result.items c.extend_from_slice.new.self.items c.push_flags.new.text.items c.extend_from_slice-2.new.self.items c.push_steps.new.text.items c.extend_from_slice-3.new.self.items
    c.new-text.ensures.items c.in_ok-extend_from_slice.ensures.items c.in_ok-push_flags.ensures c.in_ok-extend_from_slice-2.ensures.items c.in_ok-push_steps.ensures c.in_ok-extend_from_slice-3.ensures.items
