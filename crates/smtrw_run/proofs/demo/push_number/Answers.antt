use Rattle.std.proofs.Common.{◌++◌, ◌∙◌, ap, arith}
use Rattle.smt_terms.proofs.DecimalTexts.{decimal-numeral}
use Rattle.smtrw_run.proofs.demo.push_number.Goals as goal

pub returns : goal.returns
returns c = c.in_ok-extend_from_slice.ensures.items ∙ ap (λ ds. c.args.text.now.items ++ ds) (c.as_bytes.ensures.value ∙ c.format.ensures.text ∙ decimal-numeral c.args.number (omega arith))
