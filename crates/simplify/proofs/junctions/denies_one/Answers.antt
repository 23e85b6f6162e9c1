use Rattle.std.proofs.Common.{sym, ◌∙◌}
use Rattle.term_table.specs.Formulas.{tree, trees_at}
use Rattle.simplify.proofs.JoinedNodes.{denies-found, denies-none}
use Rattle.simplify.proofs.junctions.denies_one.Goals as goal

pub returns-in-Some : goal.returns-in-Some
returns-in-Some c = c.contains.ensures ∙ denies-found c.args.table.now c.know_table.ensures c.args.operands.now.keys c.in-Some.kid (tree c.args.table.now c.args.id) c.requires.operands c.in-Some.ensures.0 c.in-Some.ensures.1

pub returns-in-None : goal.returns-in-None
returns-in-None c = sym (denies-none (trees_at c.args.table.now c.args.operands.now.keys) (tree c.args.table.now c.args.id) c.in-None.ensures)
