use Rattle.std.proofs.Common.{ap, ◌∙◌}
use Rattle.term_table.specs.Formulas.{tree, trees_at}
use Rattle.rule_book.specs.Filling.{with_operands}
use Rattle.rule_book.proofs.RuledTerms.{applied-ruled}
use Rattle.rule_book.proofs.applying.RuleStep.applied.Goals as goal

pub returns-clause-ruled : goal.returns-clause-ruled
returns-clause-ruled g c =
    let t = c.args.table.now in
    let u = tree t c.args.id in
    applied-ruled c.in_place_of.new.table u (tree c.over_operands.new.table c.in_ok-made.made) (trees_at t c.in_ok-kids.kids.items) c.in_ok-result.result
    c.requires.applied c.in_ok-kids.ensures.terms (c.in_ok-made.ensures.term ∙ ap (λ ks. with_operands u (trees_at t ks)) c.deref.ensures.value) c.in_ok-result.ensures.node c.in_ok-result.ensures.replaces
