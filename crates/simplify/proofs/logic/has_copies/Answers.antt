use Rattle.simplify.proofs.OnceNodes.{copies-counted}
use Rattle.simplify.proofs.logic.has_copies.Goals as goal

pub returns : goal.returns
returns c = copies-counted c.args.table.now c.args.ids.now c.in_ok-kept.kept.keys c.len.result c.in_ok-kept.ensures.terms c.len.ensures.len
