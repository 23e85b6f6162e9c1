use Rattle.std.specs.Prelude.{codes}
use Rattle.std.proofs.Common.{refl}
use Rattle.rule_book.specs.EightRules.{absorb_and}
use Rattle.rule_book.proofs.LogicRules.{absorb_and-sound}
use Rattle.rule_book.proofs.RuleAnswers.{answers}
use Rattle.rule_book.proofs.eight_rules.absorb_and.Goals as goal

pub returns : goal.returns
returns c = λ ss. answers (codes "absorb-and") absorb_and ss c.args.view.now c.absorb.result absorb_and-sound refl (c.absorb.ensures ss)
