-- A rewritten term keeps its value.
use Rattle.rule_book.specs.Rewriting.{RewritingKeepsValues}
use Rattle.rule_book.proofs.RewritesKeep.{rewriting-keeps}
use Rattle.rule_book.proofs.RewritingKeeps.{fills-keeps}
use Rattle.rule_book.proofs.ViewLaws.{holes-have-sorts, holes-are-sorted, view-has-sort, views-have-values}

pub rewriting-keeps-values : RewritingKeepsValues
rewriting-keeps-values = rewriting-keeps (fills-keeps holes-have-sorts holes-are-sorted view-has-sort views-have-values)
