use Rattle.boolean_quantifiers.proofs.Puts.{sets-put, sets-extends}
use Rattle.boolean_quantifiers.proofs.replacing.settle.Goals as goal

pub returns-clause-put : goal.returns-clause-put
returns-clause-put g c = sets-put c.args.table.now c.put_node.new.table (g.I.Images.images c.args.images.now) c.args.memo.now c.set.new.self c.args.version c.args.id c.in_ok-result.result c.in_ok-result.ensures.grows c.requires.images c.requires.put c.in_ok-result.ensures.put c.in_ok-set.ensures.ok

pub returns-clause-extends : goal.returns-clause-extends
returns-clause-extends g c = sets-extends c.args.memo.now c.set.new.self c.args.version c.args.id c.in_ok-result.result c.in_ok-set.ensures.ok
