use Rattle.std.proofs.Common.{ap, sym, ◌∙◌}
use Rattle.rule_book.specs.EightRules.{is_op}
use Rattle.rule_book.proofs.OperandsSeen.{shown_op}
use Rattle.rule_book.proofs.eight_rules.shows.Goals as goal

pub returns-in-Some : goal.returns-in-Some
returns-in-Some c = shown_op c.in-Some.shown c.args.op c.is.result c.is.ensures ∙ ap (is_op c.args.op) (sym c.in-Some.is)
