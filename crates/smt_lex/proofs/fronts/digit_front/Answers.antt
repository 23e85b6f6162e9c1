use Rattle.std.proofs.Common.{◌≡◌, ◌⊎◌, inl, inr, true, eqb, not, get_or, sym, ◌∙◌, arith}
use Rattle.smt_lex.proofs.ClassFacts.{told}
use Rattle.smt_lex.proofs.Numbers.{some_digits, numeral_run}
use Rattle.smt_lex.proofs.fronts.digit_front.Goals as goal
use Rattle.smt_lex.proofs.fronts.digit_front.Goals.{then-length-eq1, else-length-eq1}

pub returns-then-text-ne48-clause-within : goal.returns-then-text-ne48-clause-within
returns-then-text-ne48-clause-within c =
    let some = some_digits c.args.text.now c.requires.some ((told (get_or c.args.text.now 0 0)).digit c.requires.digit) in
    (omega (arith, some, c.digits_length-length.ensures.longest), c.digits_length-length.ensures.within)

pub returns-then-text-ne48-clause-value : goal.returns-then-text-ne48-clause-value
returns-then-text-ne48-clause-value c =
    let text = c.args.text.now in
    let length = c.digits_length-length.result in
    let short : (length ≡ 1) ⊎ (not (eqb (get_or text 0 0) 48) ≡ true) =
    (elim c.if-length-eq1.branch [
      | then-length-eq1 w ↦ inl w.if-length-eq1.true
      | else-length-eq1 w ↦ inr (sym w.value-is ∙ c.if-text-ne48.true)
    ]) in
    sym (numeral_run text length c.requires.some ((told (get_or text 0 0)).digit c.requires.digit) c.digits_length-length.ensures.longest short
    (c.ends_run.ensures.ends c.if-ends_run.true))
