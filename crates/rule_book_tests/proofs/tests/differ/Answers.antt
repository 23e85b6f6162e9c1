use Rattle.std.specs.Prelude.{codes, Some}
use Rattle.std.proofs.Common.{refl, sym, subst}
use Rattle.rule_book.specs.Seen.{view_seen}
use Rattle.rule_book.specs.Told.{IsRuleAnswer}
use Rattle.rule_book_tests.proofs.ExclusiveRules.{differs}
use Rattle.rule_book_tests.proofs.tests.differ.Goals as goal

pub returns : goal.returns
returns c = λ ss t shows.
    let view = c.args.view.now in
    let found = c.in_ok-first in
    subst (λ p. IsRuleAnswer (codes "differ") (view_seen ss view) (Some p)) (sym c.over.ensures)
    (differs (codes "differ") refl ss t view found.first found.second shows found.ensures.root found.ensures.operands)
