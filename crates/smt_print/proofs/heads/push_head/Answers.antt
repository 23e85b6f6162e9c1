use Rattle.std.proofs.Common.{◌++◌, ap, sym, ◌∙◌}
use Rattle.smt_lex.specs.FormText.{form_text}
use Rattle.term_table.specs.Formulas.{tree, operands, kind}
use Rattle.smt_print.specs.NodeForms.{first_form}
use Rattle.smt_print.proofs.HeadTexts.{first-kind, constant-scalar}
use Rattle.smt_print.proofs.heads.push_head.Goals as goal

pub push_operator-requires-clause-scalar : goal.push_operator-requires-clause-scalar
push_operator-requires-clause-scalar c s same = constant-scalar c.args.table.now c.args.id c.op.result s c.op.ensures.table c.requires c.op.ensures.term same

pub returns : goal.returns
returns c =
    c.in_ok-push_operator.ensures
    ∙ ap (λ f. c.args.out.now ++ form_text f) (sym (ap first_form c.op.ensures.term ∙ first-kind c.args.table.now.symbols c.args.table.now.sorts (kind c.op.result) (operands (tree c.args.table.now c.args.id))))
