use Rattle.smt_terms.specs.Rank.{shape}
use Rattle.smt_terms.specs.Written.{left_associative}
use Rattle.sort_check.proofs.Answering.{fold_pair}
use Rattle.sort_check.proofs.Pairs.{pair_numbers}
use Rattle.sort_check.proofs.Passing.{make_builds}
use Rattle.sort_check.proofs.Twos.{pair_other, left_rank, left_term}
use Rattle.sort_check.proofs.folds.left_associative.Goals as goal

pub node-requires-clause-other : goal.node-requires-clause-other
node-requires-clause-other c = pair_other c.args.op (fold_pair (shape c.args.op) c.requires.apt)

pub node-requires-clause-numbers : goal.node-requires-clause-numbers
node-requires-clause-numbers c = pair_numbers c.args.table.now c.args.op (fold_pair (shape c.args.op) c.requires.apt)

pub returns-then-kids-eq2 : goal.returns-then-kids-eq2
returns-then-kids-eq2 c =
    let t = c.args.table.now in
    make_builds t c.node.new.table (left_associative c.args.op) c.args.kids.now c.node.result _ (left_rank t c.args.op c.requires.apt c.args.kids.now c.if-kids-eq2.true)
    c.node.ensures.rank c.node.ensures.node c.node.ensures.grows c.node.ensures.symbols c.node.ensures.sorts c.node.ensures.err c.args.op
    (λ _. left_term t c.args.op c.requires.apt c.args.kids.now c.if-kids-eq2.true) c.node.ensures.term
