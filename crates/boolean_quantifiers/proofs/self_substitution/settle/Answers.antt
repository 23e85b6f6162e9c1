use Rattle.boolean_quantifiers.proofs.SelfNodes.{stand-more, told-more}
use Rattle.boolean_quantifiers.proofs.self_substitution.settle.Goals as goal

pub returns-clause-stand : goal.returns-clause-stand
returns-clause-stand c =
    stand-more c.args.table.now c.solve.new.table c.args.fresh.now c.solve.new.fresh c.args.results.now c.set.new.self c.args.id c.in_ok-result.result c.in_ok-result.ensures.grows c.solve.ensures.later c.requires.stand c.in_ok-result.ensures.stands c.in_ok-set.ensures.ok

pub returns-clause-told : goal.returns-clause-told
returns-clause-told c s names are unsolved =
    told-more c.args.table.now c.solve.new.table s c.args.fresh.now c.solve.new.fresh c.args.results.now c.set.new.self c.args.id c.in_ok-result.result c.in_ok-result.ensures.grows c.requires.node c.requires.stand are unsolved (c.in_ok-result.ensures.solved s names are) c.in_ok-set.ensures.ok

pub returns-clause-left : goal.returns-clause-left
returns-clause-left c s names are = (c.in_ok-result.ensures.solved s names are).names
