use Rattle.std.proofs.Common.{refl}
use Rattle.smt_terms.specs.declared.op.Op.TheVariants.{Neg, Sub}
use Rattle.smt_terms.specs.Rank.{shape}
use Rattle.smt_terms.specs.Written.{subtraction, left_associative}
use Rattle.sort_check.proofs.Passing.{make_builds, alike_builds}
use Rattle.sort_check.proofs.Theory.{minus_rank, minus_term, differences_rank, differences_term}
use Rattle.sort_check.proofs.operators.subtraction.Goals as goal

pub returns-then-kids-lt2 : goal.returns-then-kids-lt2
returns-then-kids-lt2 c =
    make_builds c.args.table.now c.make.new.table subtraction c.args.kids.now c.make.result _ (minus_rank c.args.table.now c.args.kids.now c.if-kids-lt2.true)
    c.make.ensures.rank c.make.ensures.node c.make.ensures.grows c.make.ensures.symbols c.make.ensures.sorts c.make.ensures.err Neg
    (minus_term c.args.table.now c.args.kids.now c.if-kids-lt2.true) c.make.ensures.term

pub left_associative-requires-clause-apt : goal.left_associative-requires-clause-apt
unfolding shape
left_associative-requires-clause-apt c = refl

pub returns : goal.returns
returns c =
    alike_builds c.args.table.now c.left_associative.new.table (left_associative Sub) subtraction c.args.kids.now c.left_associative.result
    (differences_rank c.args.table.now c.args.kids.now c.if-kids-lt2.false) (differences_term c.args.table.now c.args.kids.now c.if-kids-lt2.false) c.left_associative.ensures
