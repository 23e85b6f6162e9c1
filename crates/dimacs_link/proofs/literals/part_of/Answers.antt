use Rattle.std.proofs.Common.{sym, ap, ◌∙◌, true, List}
use Rattle.smt_terms.specs.Term.{Term, terms}
use Rattle.term_table.specs.Formulas.{tree, operands}
use Rattle.dimacs_link.specs.Clauses.{part, inverse_part, literal_of, constant_number}
use Rattle.dimacs_link.proofs.NodeParts.{part_of_truth, part_of_not, part_of_other}
use Rattle.dimacs_link.proofs.literals.part_of.Goals as goal

pub returns-in-Truth : goal.returns-in-Truth
returns-in-Truth c cs are =
    let t = c.args.table.now in
    sym (ap (part cs) c.in-Truth.ensures.term ∙ part_of_truth t cs c.in-Truth.value (operands (tree t c.args.id)))

pub returns-in-Not : goal.returns-in-Not
returns-in-Not c cs are =
    let t = c.args.table.now in
    let us = operands (tree t c.args.id) in
    c.inverse.ensures cs are ∙ ap (λ (vs : List Term). inverse_part cs (terms vs)) c.kids.ensures.terms ∙ sym (ap (part cs) c.in-Not.ensures.term ∙ part_of_not t cs us)

pub returns-in_default : goal.returns-in_default
returns-in_default c cs are =
    let t = c.args.table.now in
    let us = operands (tree t c.args.id) in
    c.literal_of.ensures cs are ∙ ap (λ (v : Term). literal_of true (constant_number cs v)) c.op.ensures.term
    ∙ sym (ap (part cs) c.op.ensures.term ∙ part_of_other t cs c.op.result us c.in_default.not-Truth c.in_default.not-Not)
