use Rattle.std.proofs.Common.{◌∙◌, sym}
use Rattle.smtrw_answers.proofs.GrammarLists.{list_without, list_with, list_refused}
use Rattle.smtrw_answers.proofs.grammar.list_without_rules.Goals as goal

pub returns-in_default : goal.returns-in_default
returns-in_default c = sym (list_refused c.args.list.now c.in_default.field-0 (sym c.parse_list.ensures ∙ c.in_default.is))

pub returns-then-has_rules : goal.returns-then-has_rules
returns-then-has_rules c = sym (list_with c.args.list.now c.in-Ok.passes (sym c.parse_list.ensures ∙ c.in-Ok.is) (sym c.has_rules.ensures ∙ c.if-has_rules.true))

pub returns : goal.returns
returns c = sym (list_without c.args.list.now c.in-Ok.passes (sym c.parse_list.ensures ∙ c.in-Ok.is) (sym c.has_rules.ensures ∙ c.if-has_rules.false))
