use Rattle.smtrw_answers.proofs.DemoLengths.{demo_short}
use Rattle.smtrw_answers.proofs.DemoScripts.{demo_accepted}
use Rattle.smtrw_answers.proofs.laws.demo_scripts_are_accepted.Goals as goal

pub returns : goal.returns
returns c = record { accepted = demo_accepted; short = demo_short }
