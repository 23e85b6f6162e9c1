use Rattle.std.proofs.Common.{◌≡◌, true, false, ◌&&◌, ◌||◌, nat_le, length, ap, sym, ◌∙◌}
use Rattle.std.proofs.lemmas.List.{length-map}
use Rattle.term_table.specs.Formulas.{tree, tree_in, operands}
use Rattle.rule_book.specs.View.{is_theory, is_literal, is_short}
use Rattle.rule_book.proofs.ShownOperators.{operand-told}
use Rattle.rule_book.proofs.viewing.shown_operand.Goals as goal
use Rattle.rule_book.proofs.viewing.shown_operand.Goals.{then-is_literal, else-is_literal+then-is_theory, else-is_literal+else-is_theory}

pub returns : goal.returns
returns c =
    let t = c.args.table.now in
    let u = tree t c.args.id in
    let p = c.op-op.result in
    c.then_some.ensures ∙ operand-told t p u c.op-op.ensures.term c.if-is_literal.is_shown (elim c.if-is_literal.branch [
      | then-is_literal w ↦
          let alone : is_literal p ≡ true = sym c.is_literal.ensures ∙ w.if-is_literal.true in
          w.is_shown-is ∙ w.if-is_literal.true ∙ sym (ap (λ b. b || (is_theory p && is_short (operands u))) alone)
      | else-is_literal+then-is_theory w ↦
          let alone : is_literal p ≡ false = sym c.is_literal.ensures ∙ w.if-is_literal.false in
          let of : is_theory p ≡ true = sym w.is_theory.ensures ∙ w.if-is_theory.true in
          let number : length (operands u) ≡ length w.kids.result.now = ap length (sym w.kids.ensures.terms) ∙ length-map w.kids.result.now (tree_in t.trees) in
          w.is_shown-is ∙ sym (λ i. alone i || (of i && nat_le (number i) 4))
      | else-is_literal+else-is_theory w ↦
          let alone : is_literal p ≡ false = sym c.is_literal.ensures ∙ w.if-is_literal.false in
          let of : is_theory p ≡ false = sym w.is_theory.ensures ∙ w.if-is_theory.false in
          w.is_shown-is ∙ w.if-is_theory.false ∙ sym (λ i. alone i || (of i && is_short (operands u)))
    ])
