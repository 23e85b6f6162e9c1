use Rattle.std.specs.Prelude.{codes}
use Rattle.std.proofs.Common.{refl}
use Rattle.rule_book.specs.EightRules.{absorb_or}
use Rattle.rule_book.proofs.LogicRules.{absorb_or-sound}
use Rattle.rule_book.proofs.RuleAnswers.{answers}
use Rattle.rule_book.proofs.eight_rules.absorb_or.Goals as goal

pub returns : goal.returns
returns c = λ ss. answers (codes "absorb-or") absorb_or ss c.args.view.now c.absorb.result absorb_or-sound refl (c.absorb.ensures ss)
