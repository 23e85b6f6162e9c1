use Rattle.std.proofs.Common.{◌∷◌, ◌++◌, [], ap, ◌∙◌}
use Rattle.term_table.specs.Formulas.{tree, trees_at}
use Rattle.normal_forms.proofs.Bound.{rebound-terms}
use Rattle.normal_forms.proofs.binding.rebound.Goals as goal

pub returns-clause-terms : goal.returns-clause-terms
returns-clause-terms c =
    ap (trees_at c.args.table.now) (c.in_ok-push.ensures.items ∙ ap (λ ks. ks ++ c.args.body ∷ []) c.in_ok-rebound.ensures.items)
    ∙ rebound-terms c.args.table.now (tree c.args.table.now c.args.id) c.requires.quantified c.kids-kids.result.now c.kids-kids.ensures.terms c.args.body
