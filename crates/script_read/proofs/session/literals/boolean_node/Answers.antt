use Rattle.std.proofs.Common.{rules, ◌≡◌, ap, ◌∙◌}
use Rattle.smt_terms.specs.Rank.{sort_of}
use Rattle.smt_terms.specs.Sorts.{bool}
use Rattle.term_table.specs.Formulas.{symbol_at}
use Rattle.script_terms.proofs.MadeConstants.{boolean_sort}
use Rattle.script_read.proofs.session.literals.boolean_node.Goals as goal

pub returns-clause-node : goal.returns-clause-node
returns-clause-node c =
    let is = c.requires.1 in
    let result : (symbol_at c.args.table.now c.args.constant.symbol).result ≡ bool = search rules in
    record { node = is.node; sort = ap sort_of is.term ∙ boolean_sort (symbol_at c.args.table.now c.args.constant.symbol) is.args result }
