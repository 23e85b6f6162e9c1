use Rattle.smt_terms.specs.declared.op.Op.TheVariants.{ZeroExt}
use Rattle.smt_terms.specs.Written.{plain}
use Rattle.sort_check.proofs.Passing.{make_builds}
use Rattle.sort_check.proofs.Widths.{zero_rank, zero_term}
use Rattle.sort_check.proofs.vectors.zero_extension.Goals as goal

pub returns : goal.returns
returns c =
    make_builds c.args.table.now c.make.new.table (plain (ZeroExt c.args.by)) c.args.kids.now c.make.result _ (zero_rank c.args.by c.clamped.result c.clamped.ensures c.args.table.now c.args.kids.now)
    c.make.ensures.rank c.make.ensures.node c.make.ensures.grows c.make.ensures.symbols c.make.ensures.sorts c.make.ensures.err (ZeroExt c.clamped.result) (zero_term c.args.by c.clamped.result c.clamped.ensures c.args.table.now c.args.kids.now) c.make.ensures.term
