use Rattle.std.proofs.Common.{is_some, ap, sym, ◌∙◌}
use Rattle.smt_values.specs.SortIds.{sort_at}
use Rattle.term_table.specs.Formulas.{kind, tree, operands, symbol_at}
use Rattle.bit_blast.specs.Subterms.{is_vector_term}
use Rattle.bit_blast.proofs.VectorNodes.{number-width, symbol-vector, other-vector}
use Rattle.bit_blast.proofs.constants.is_vector.Goals as goal

pub returns-in-Sym : goal.returns-in-Sym
unfolding kind
returns-in-Sym c =
    let t = c.args.table.now in
    c.is_some.ensures
    ∙ ap is_some (number-width t.sorts c.sort_of.ensures.table.sorts c.sort_of.result c.sort_of.ensures.within c.width.result c.width.ensures)
    ∙ sym (symbol-vector (tree t c.args.id) (symbol_at t c.in-Sym.field-0) (operands (tree t c.args.id)) (sort_at t.sorts c.sort_of.result) c.in-Sym.ensures.term c.sort_of.ensures.sort)

pub returns-in_default : goal.returns-in_default
returns-in_default c =
    let t = c.args.table.now in
    sym (ap is_vector_term c.op.ensures.term ∙ other-vector t c.op.result (operands (tree t c.args.id)) c.in_default.not-Sym)
