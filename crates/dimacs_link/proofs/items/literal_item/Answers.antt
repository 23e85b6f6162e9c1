use Rattle.std.proofs.Common.{sym, ◌<◌, subst}
use Rattle.dimacs_link.proofs.Digits.{not_zero}
use Rattle.dimacs_link.proofs.items.literal_item.Goals as goal

pub returns-in-Some-clause-within : goal.returns-in-Some-clause-within
returns-in-Some-clause-within c =
    (subst (λ n. 0 < n) (sym c.in-Some.ensures.0) (not_zero c.args.digits.now (sym c.if-not-is_number.ensures)), c.in-Some.ensures.1)
