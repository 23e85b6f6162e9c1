use Rattle.std.proofs.Common.{◌++◌, ◌∙◌, ap, sym, pos}
use Rattle.std.specs.Prelude.{codes, decimal, unsigned_abs, int_le}
use Rattle.term_table.proofs.Texts.{same_number, plain_integer, negative_integer}
use Rattle.term_table.proofs.text.push_integer.Goals as goal

pub returns-then-n-ge0-clause-ok : goal.returns-then-n-ge0-clause-ok
returns-then-n-ge0-clause-ok c =
    let same = same_number c.args.n c.ranges.n in
    c.in_ok-extend_from_slice.ensures.items ∙ ap (λ ds. c.args.out.now.items ++ ds)
    (plain_integer c.args.n c.as_bytes-digits.result.now c.ranges.n (ap (int_le (pos 0)) (sym same) ∙ c.if-n-ge0.true)
    (c.as_bytes-digits.ensures.value ∙ c.format.ensures.text ∙ ap decimal (c.unsigned_abs.ensures.value ∙ ap unsigned_abs same)))

pub returns-clause-ok : goal.returns-clause-ok
returns-clause-ok c =
    let same = same_number c.args.n c.ranges.n in
    negative_integer c.args.n c.args.out.now.items c.extend_from_slice-2.new.self.items c.extend_from_slice-3.new.self.items c.push.new.self.items c.as_bytes-digits.result.now c.ranges.n
    (ap (int_le (pos 0)) (sym same) ∙ c.if-n-ge0.false) (c.in_ok-extend_from_slice-2.ensures.items ∙ ap (λ xs. xs ++ codes "(- ") c.in_ok-reserve.ensures.items)
    (c.as_bytes-digits.ensures.value ∙ c.format.ensures.text ∙ ap decimal (c.unsigned_abs.ensures.value ∙ ap unsigned_abs same))
    c.in_ok-extend_from_slice-3.ensures.items c.in_ok-push.ensures.items
