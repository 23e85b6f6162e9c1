use Rattle.std.proofs.Common.{arith, ◌++◌, ◌∙◌, ap}
use Rattle.std.specs.Prelude.{codes}
use Rattle.term_table.proofs.Texts.{width_text}
use Rattle.term_table.proofs.text.push_width.Goals as goal

pub returns-clause-ok : goal.returns-clause-ok
returns-clause-ok c =
    width_text c.args.out.now.items c.extend_from_slice.new.self.items c.extend_from_slice-2.new.self.items c.push.new.self.items c.as_bytes-digits.result.now c.args.width (omega arith)
    (c.in_ok-extend_from_slice.ensures.items ∙ ap (λ xs. xs ++ codes "(_ BitVec ") c.in_ok-reserve.ensures.items) (c.as_bytes-digits.ensures.value ∙ c.format.ensures.text)
    c.in_ok-extend_from_slice-2.ensures.items c.in_ok-push.ensures.items
