use Rattle.std.proofs.Common.{◌∙◌, sym, ap, List}
use Rattle.smt_terms.specs.Term.{Term}
use Rattle.term_table.specs.Formulas.{term_over, tree, operands}
use Rattle.smt_terms.specs.declared.op.Op.TheVariants.{Sym}
use Rattle.dimacs_link.specs.Clauses.{constant_number}
use Rattle.dimacs_link.proofs.NodeParts.{number_of_symbol, number_of_other, no_trees, symbol_in}
use Rattle.dimacs_link.proofs.literals.constant_number.Goals as goal

pub returns-in_default : goal.returns-in_default
returns-in_default c cs are =
    let t = c.args.table.now in
    let u = tree t c.args.id in
    sym (ap (constant_number cs) c.op.ensures.term ∙ number_of_other t cs c.op.result (operands u) c.in_default.not-Sym)

pub returns-in-empty : goal.returns-in-empty
returns-in-empty c cs are =
    let t = c.args.table.now in
    let u = tree t c.args.id in
    let f = c.in-Sym.symbol in
    c.get.ensures ∙ are f (symbol_in t f c.in-Sym.ensures.numbers)
    ∙ sym (ap (constant_number cs) c.in-Sym.ensures.term ∙ ap (λ (us : List Term). constant_number cs (term_over t (Sym f) us)) (sym c.kids.ensures.terms ∙ no_trees t c.kids.result.now c.in-empty.len_below) ∙ number_of_symbol t cs f)
