use Rattle.smt_terms.specs.declared.op.Op.TheVariants.{SignExt}
use Rattle.smt_terms.specs.Written.{plain}
use Rattle.sort_check.proofs.Passing.{make_builds}
use Rattle.sort_check.proofs.Widths.{sign_rank, sign_term}
use Rattle.sort_check.proofs.vectors.sign_extension.Goals as goal

pub returns : goal.returns
returns c =
    make_builds c.args.table.now c.make.new.table (plain (SignExt c.args.by)) c.args.kids.now c.make.result _ (sign_rank c.args.by c.clamped.result c.clamped.ensures c.args.table.now c.args.kids.now)
    c.make.ensures.rank c.make.ensures.node c.make.ensures.grows c.make.ensures.symbols c.make.ensures.sorts c.make.ensures.err (SignExt c.clamped.result) (sign_term c.args.by c.clamped.result c.clamped.ensures c.args.table.now c.args.kids.now) c.make.ensures.term
