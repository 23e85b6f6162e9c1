use Rattle.smt_terms.specs.declared.op.Op.TheVariants.{RotL}
use Rattle.smt_terms.specs.Written.{left_rotation}
use Rattle.sort_check.proofs.Passing.{make_builds}
use Rattle.sort_check.proofs.Widths.{left_rank, left_term}
use Rattle.sort_check.proofs.vectors.left_rotation.Goals as goal

pub returns : goal.returns
returns c =
    make_builds c.args.table.now c.make.new.table (left_rotation c.args.by) c.args.kids.now c.make.result _ (left_rank c.args.by c.operand_width-width.result c.reduced.result c.args.table.now c.args.kids.now c.operand_width-width.ensures.width c.operand_width-width.ensures.sort c.reduced.ensures)
    c.make.ensures.rank c.make.ensures.node c.make.ensures.grows c.make.ensures.symbols c.make.ensures.sorts c.make.ensures.err (RotL c.reduced.result) (left_term c.args.by c.operand_width-width.result c.reduced.result c.args.table.now c.args.kids.now c.operand_width-width.ensures.width c.operand_width-width.ensures.sort c.reduced.ensures) c.make.ensures.term
