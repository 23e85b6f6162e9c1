use Rattle.std.proofs.Common.{option_copied, ap, sym, ◌∙◌}
use Rattle.term_table.specs.Formulas.{no_tree, tree}
use Rattle.rule_book.proofs.RuledTerms.{ruled-at}
use Rattle.rule_book.proofs.applying.apply.Goals as goal

pub returns-clause-node : goal.returns-clause-node
returns-clause-node g c = (c.walk.ensures.fits.related.related c.args.id c.unwrap-result.result.now (sym c.get.ensures ∙ ap option_copied c.unwrap-result.ensures)).node

pub returns-clause-rewrites : goal.returns-clause-rewrites
returns-clause-rewrites g c =
    (ruled-at c.walk.new.table (tree c.walk.new.table c.args.id) (tree c.args.table.now c.args.id) c.unwrap-result.result.now (c.walk.ensures.grows.trees.same c.args.id.0 no_tree c.requires.node)
    (c.walk.ensures.fits.related.related c.args.id c.unwrap-result.result.now (sym c.get.ensures ∙ ap option_copied c.unwrap-result.ensures))).term

pub returns-clause-keeps : goal.returns-clause-keeps
returns-clause-keeps g c =
    c.rewriting_keeps_values.ensures _ (tree c.args.table.now c.args.id) (tree c.walk.new.table c.unwrap-result.result.now) (c.know_table.ensures.sorted c.args.id.0 c.requires.node) (returns-clause-rewrites g c)

pub returns-clause-told : goal.returns-clause-told
returns-clause-told g c = λ eight.
    c.eight_rewrite_so.ensures _ (tree c.args.table.now c.args.id) (tree c.walk.new.table c.unwrap-result.result.now) eight (returns-clause-rewrites g c)
