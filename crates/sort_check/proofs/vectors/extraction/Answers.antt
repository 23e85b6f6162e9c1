use Rattle.smt_terms.specs.declared.op.Op.TheVariants.{Extract}
use Rattle.smt_terms.specs.Written.{plain}
use Rattle.sort_check.proofs.Passing.{make_builds}
use Rattle.sort_check.proofs.Widths.{extract_rank, extract_term}
use Rattle.sort_check.proofs.vectors.extraction.Goals as goal

pub returns : goal.returns
returns c =
    make_builds c.args.table.now c.make.new.table (plain (Extract c.args.high c.args.low)) c.args.kids.now c.make.result _ (extract_rank c.args.high c.args.low c.operand_width-width.result c.within.result c.within-2.result c.args.table.now c.args.kids.now c.operand_width-width.ensures.width c.within.ensures c.within-2.ensures)
    c.make.ensures.rank c.make.ensures.node c.make.ensures.grows c.make.ensures.symbols c.make.ensures.sorts c.make.ensures.err (Extract c.within.result c.within-2.result) (extract_term c.args.high c.args.low c.operand_width-width.result c.within.result c.within-2.result c.args.table.now c.args.kids.now c.operand_width-width.ensures.width c.within.ensures c.within-2.ensures) c.make.ensures.term
