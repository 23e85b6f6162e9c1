use Rattle.rule_book.proofs.book.Rule.answer.Goals as goal

pub returns : goal.returns
returns g c = λ ss t shows. c.args.self.now.answers ss t c.args.view c.call.result shows c.call.ensures
