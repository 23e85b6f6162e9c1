use Rattle.pass_laws.proofs.RulesKeep.{rules_keep}
use Rattle.pass_laws.proofs.laws.rules_keep_commands.Goals as goal

pub returns : goal.returns
returns c = rules_keep c.rewriting_keeps_values.ensures c.eight_rewrite_so.ensures
