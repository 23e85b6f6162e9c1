use Rattle.rule_book.proofs.EightRewrite.{eight-rewrite-so}
use Rattle.rule_book.proofs.laws.eight_rewrite_so.Goals as goal

pub returns : goal.returns
returns c = eight-rewrite-so
