use Rattle.std.proofs.Common.{ap, sym, ◌∙◌}
use Rattle.term_table.specs.Formulas.{tree, operands, term_over}
use Rattle.ackermann.proofs.UsedFunctions.{use-term, use-of, other-use, some-operands, use-symbol, some-kids}
use Rattle.ackermann.proofs.applications.function_of.Goals as goal

pub returns-in_default : goal.returns-in_default
returns-in_default c =
    let t = c.args.table.now in
    record { some = sym (other-use t (tree t c.args.id) c.op.result (operands (tree t c.args.id)) c.in_default.not-Sym c.op.ensures.term); symbol = tt; term = tt }

pub returns-clause-some : goal.returns-clause-some
returns-clause-some c =
    let t = c.args.table.now in
    let us = operands (tree t c.args.id) in
    sym (use-of t c.in-Sym.function (tree t c.args.id) us (some-operands t c.kids.result.now us c.kids.ensures.terms (some-kids c.kids.result.now (sym c.is_empty.ensures ∙ c.if-is_empty.false))) (c.op.ensures.term ∙ ap (λ p. term_over t p us) c.in-Sym.is))

pub returns-clause-symbol : goal.returns-clause-symbol
returns-clause-symbol c = use-symbol c.args.table.now c.op.result c.in-Sym.function c.in-Sym.is c.op.ensures.numbers

pub returns-clause-term : goal.returns-clause-term
returns-clause-term c =
    let t = c.args.table.now in
    let us = operands (tree t c.args.id) in
    use-term t c.in-Sym.function (tree t c.args.id) us (c.op.ensures.term ∙ ap (λ p. term_over t p us) c.in-Sym.is)
