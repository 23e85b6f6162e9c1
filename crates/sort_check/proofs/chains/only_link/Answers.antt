use Rattle.std.proofs.Common.{Bool, true, false, sym, ◌∙◌, subst}
use Rattle.smt_terms.specs.Rank.{shape}
use Rattle.smt_terms.specs.Written.{exchanged}
use Rattle.term_table.proofs.Ranks.{length-kid_sorts}
use Rattle.sort_check.specs.Making.{Builds}
use Rattle.sort_check.specs.Operands.{chained}
use Rattle.sort_check.proofs.Linking.{link_pair, exchanged_rank}
use Rattle.sort_check.proofs.Pairs.{pair_numbers}
use Rattle.sort_check.proofs.Passing.{make_builds, alike_builds}
use Rattle.sort_check.proofs.Twos.{pair_other, link_rank, turned_term, straight_term}
use Rattle.sort_check.proofs.chains.only_link.Goals as goal

pub returns-then-turned : goal.returns-then-turned
returns-then-turned c =
    let t = c.args.table.now in
    let count = length-kid_sorts t c.args.kids.now ∙ c.requires.two in
    subst (λ (turned : Bool). Builds t c.exchanged.new.table (chained turned c.args.op) c.args.kids.now c.exchanged.result) (sym c.if-turned.true)
    (alike_builds t c.exchanged.new.table (exchanged c.args.op) (chained true c.args.op) c.args.kids.now c.exchanged.result
    (link_rank c.args.op true _ c.requires.apt count) (turned_term t c.args.op c.args.kids.now c.requires.two) c.exchanged.ensures)

pub node-requires-clause-other : goal.node-requires-clause-other
node-requires-clause-other c = pair_other c.args.op (link_pair (shape c.args.op) c.requires.apt)

pub node-requires-clause-numbers : goal.node-requires-clause-numbers
node-requires-clause-numbers c = pair_numbers c.args.table.now c.args.op (link_pair (shape c.args.op) c.requires.apt)

pub returns : goal.returns
returns c =
    let t = c.args.table.now in
    let count = length-kid_sorts t c.args.kids.now ∙ c.requires.two in
    subst (λ (turned : Bool). Builds t c.node.new.table (chained turned c.args.op) c.args.kids.now c.node.result) (sym c.if-turned.false)
    (make_builds t c.node.new.table (chained false c.args.op) c.args.kids.now c.node.result _ (exchanged_rank t c.args.op c.args.kids.now c.requires.apt ∙ link_rank c.args.op false _ c.requires.apt count)
    c.node.ensures.rank c.node.ensures.node c.node.ensures.grows c.node.ensures.symbols c.node.ensures.sorts c.node.ensures.err c.args.op
    (λ _. straight_term t c.args.op c.args.kids.now c.requires.apt c.requires.two) c.node.ensures.term)
