use Rattle.std.proofs.Common.{◌∙◌, ap, sym, take, add-one}
use Rattle.std.specs.List.{list_any}
use Rattle.smtrw_answers.specs.Words.{is_rules}
use Rattle.smtrw_answers.proofs.GrammarLists.{rules_at, no_more_rules}
use Rattle.smtrw_answers.proofs.grammar.has_rules.Goals as goal

pub returns-then-is_rules : goal.returns-then-is_rules
returns-then-is_rules c = sym (rules_at c.args.passes.now c.loop-i.i c.pass.result c.pass.ensures (sym c.is_rules.ensures ∙ c.if-is_rules.true))

pub loop-i-preserved : goal.loop-i-preserved
loop-i-preserved c =
    ap (λ j. list_any is_rules (take j c.args.passes.now)) (add-one c.loop-i.i)
    ∙ no_more_rules c.args.passes.now c.loop-i.i c.pass.result c.pass.ensures (sym c.is_rules.ensures ∙ c.if-is_rules.false) c.loop-i.invariant
