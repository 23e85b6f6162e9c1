use Rattle.std.proofs.Common.{◌<◌, length, ◌==◌, ap, sym, ◌∙◌, arith}
use Rattle.std.specs.List.{list_any}
use Rattle.smt_terms.proofs.Tests.{and_true}
use Rattle.rule_book.specs.EightRules.{is_op}
use Rattle.rule_book.specs.Operands.{cells_at}
use Rattle.rule_book.proofs.CellsKept.{hole-here, hole-passed}
use Rattle.rule_book.proofs.eight_rules.has_operand.Goals as goal

pub returns-then-get-hole : goal.returns-then-get-hole
returns-then-get-hole c =
    let operands = c.cells_under-operands.result in
    let within : c.loop-i.i < length operands = omega arith in
    sym (and_true (is_op c.args.op c.args.cell.op) (list_any (λ d. d.hole == c.args.hole) (cells_at c.args.up c.args.view.now.cells)) (sym c.shows.ensures ∙ c.if-not-shows.false)
    (ap (list_any (λ d. d.hole == c.args.hole)) (sym c.cells_under-operands.ensures) ∙ hole-here operands c.args.hole c.loop-i.i c.get.result within c.get.ensures c.if-get-hole.true))

pub loop-i-preserved : goal.loop-i-preserved
loop-i-preserved c =
    let operands = c.cells_under-operands.result in
    let within : c.loop-i.i < length operands = omega arith in
    hole-passed operands c.args.hole c.loop-i.i c.get.result within c.get.ensures c.if-get-hole.false c.loop-i.invariant
