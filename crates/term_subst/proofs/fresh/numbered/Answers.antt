use Rattle.std.proofs.Common.{ap, ◌∷◌, [], ◌++◌, reverse, ◌∙◌, rules}
use Rattle.term_subst.proofs.Numbered.{named-zero, named-some}
use Rattle.term_subst.proofs.fresh.numbered.Goals as goal

pub returns-then-is_empty : goal.returns-then-is_empty
returns-then-is_empty c = λ n e. c.in_ok-name.ensures.items ∙ named-zero c.args.digits.now n (search rules) e

pub returns : goal.returns
returns c = λ n e.
    c.reverse.ensures.items ∙ ap reverse c.in_ok-extend_from_slice.ensures.items
    ∙ ap (λ l. reverse (l ++ 86 ∷ 70 ∷ [])) c.in_ok-name-2.ensures.items ∙ named-some c.args.digits.now n (search rules) e
