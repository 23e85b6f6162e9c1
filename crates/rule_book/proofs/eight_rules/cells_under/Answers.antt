use Rattle.std.proofs.Common.{◌<◌, [], ◌∷◌, ◌++◌, length, ap, sym, ◌∙◌, arith}
use Rattle.rule_book.proofs.CellsKept.{few, more-kept, more-passed}
use Rattle.rule_book.proofs.eight_rules.cells_under.Goals as goal
use Rattle.rule_book.proofs.eight_rules.cells_under.Goals.{then-cell-up, else-cell-up}

pub push-requires : goal.push-requires
push-requires c = omega (arith, few c.args.view.now.cells c.args.up c.loop-i.i, ap length c.loop-i.invariant)

pub loop-i-preserved : goal.loop-i-preserved
loop-i-preserved c =
    let cells = c.args.view.now.cells in
    let within : c.loop-i.i < length cells = omega arith in
    elim c.if-cell-up.branch [
      | then-cell-up w ↦
          w.found-is ∙ w.push.ensures ∙ ap (λ kept. kept ++ c.get-cell.result ∷ []) c.loop-i.invariant
          ∙ sym (more-kept cells c.args.up c.loop-i.i c.get-cell.result within c.get-cell.ensures w.if-cell-up.true)
      | else-cell-up w ↦
          w.found-is ∙ c.loop-i.invariant
          ∙ sym (more-passed cells c.args.up c.loop-i.i c.get-cell.result within c.get-cell.ensures w.if-cell-up.false)
    ]
