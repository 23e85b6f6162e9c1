use Rattle.smt_terms.specs.Written.{plain}
use Rattle.sort_check.proofs.Passing.{make_builds}
use Rattle.sort_check.proofs.Theory.{theory_numbers, plain_rank, plain_term}
use Rattle.sort_check.proofs.operators.plain.Goals as goal

pub make-requires-clause-numbers : goal.make-requires-clause-numbers
make-requires-clause-numbers c = theory_numbers c.args.table.now c.args.op c.requires.apt

pub returns : goal.returns
returns c =
    make_builds c.args.table.now c.make.new.table (plain c.args.op) c.args.kids.now c.make.result _ (plain_rank c.args.table.now c.args.op c.args.kids.now c.requires.apt)
    c.make.ensures.rank c.make.ensures.node c.make.ensures.grows c.make.ensures.symbols c.make.ensures.sorts c.make.ensures.err c.args.op (λ _. plain_term c.args.table.now c.args.op c.args.kids.now c.requires.apt) c.make.ensures.term
