use Rattle.rule_book.proofs.RewritingLaw.{rewriting-keeps-values}
use Rattle.rule_book.proofs.laws.rewriting_keeps_values.Goals as goal

pub returns : goal.returns
returns c = rewriting-keeps-values
