use Rattle.std.proofs.Common.{◌++◌, ◌∙◌, ap, arith}
use Rattle.smt_terms.proofs.DecimalTexts.{decimal-numeral}
use Rattle.smtrw_answers.proofs.lines.push_number.Goals as goal

pub returns-clause-bytes : goal.returns-clause-bytes
returns-clause-bytes c =
    c.push_str.ensures.bytes ∙ ap (λ xs. c.args.line.now.bytes ++ xs) (c.format.ensures.text ∙ decimal-numeral c.args.number (omega arith))
