use Rattle.std.proofs.Common.{rules}
use Rattle.rule_book.specs.Seen.{view_seen, template_seen}
use Rattle.rule_book.proofs.AskedRules.{asked-next, asked-more, answers, all-asked}
use Rattle.rule_book.proofs.book.RuleBook.first_answer.Goals as goal

pub returns-in-Some : goal.returns-in-Some
returns-in-Some g c = λ ss t shows.
    let rs = c.args.self.now.rules.items in
    let asked = asked-next rs (λ r. r.name.now) c.loop-rule.rule-index c.rule-item.result (view_seen ss c.args.view.now) (search rules) (search rules) (c.loop-rule.invariant ss t shows) in
    answers _ _ _ _ asked (template_seen c.in-Some.template) (c.in-Some.ensures ss t shows)

pub loop-rule-preserved : goal.loop-rule-preserved
loop-rule-preserved g c = λ ss t shows.
    let rs = c.args.self.now.rules.items in
    let asked = asked-next rs (λ r. r.name.now) c.loop-rule.rule-index c.rule-item.result (view_seen ss c.args.view.now) (search rules) (search rules) (c.loop-rule.invariant ss t shows) in
    asked-more _ _ _ _ asked (c.in_default.ensures ss t shows)

pub returns : goal.returns
returns g c = λ ss t shows. all-asked c.args.self.now.rules.items (λ r. r.name.now) c.loop-rule.rule-index (view_seen ss c.args.view.now) (search rules) (c.loop-rule.invariant ss t shows)
