use Rattle.term_walk.proofs.Nodes.{operands-have_results}
use Rattle.term_walk.proofs.walks.give_result.Goals as goal

pub step-requires-clause-kids : goal.step-requires-clause-kids
step-requires-clause-kids g c = operands-have_results _ _ _ c.requires.table c.requires.kids c.requires.fits.closed
