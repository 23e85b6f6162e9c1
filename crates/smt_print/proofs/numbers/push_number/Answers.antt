use Rattle.std.proofs.Common.{◌++◌, ◌∙◌, ap, sym, arith}
use Rattle.smt_print.proofs.NumberTexts.{decimal-numeral, two-digits}
use Rattle.smt_print.proofs.numbers.push_number.Goals as goal

pub returns : goal.returns
returns c = c.in_ok-extend_from_slice.ensures.ok ∙ ap (λ ds. c.args.out.now ++ ds) (c.as_bytes.ensures.value ∙ c.format.ensures.text ∙ decimal-numeral c.args.n (omega arith))

pub returns-then-n-lt100 : goal.returns-then-n-lt100
returns-then-n-lt100 c =
    let low = c.if-n-lt10.false in
    let high = c.if-n-lt100.true in
    c.in_ok-push_short.ensures ∙ ap (λ ds. c.args.out.now ++ ds) (sym (two-digits c.args.n (omega arith) (omega arith)))
