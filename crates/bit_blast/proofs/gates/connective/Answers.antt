use Rattle.std.proofs.Common.{ap, ◌∙◌}
use Rattle.smt_terms.specs.Rank.{sort_of}
use Rattle.bit_blast.proofs.ConnectiveNodes.{connective-ranked, makes-connective, connective-term, connective-sort}
use Rattle.bit_blast.proofs.gates.connective.Goals as goal

pub intern_of_sort-requires-clause-makes : goal.intern_of_sort-requires-clause-makes
intern_of_sort-requires-clause-makes c = makes-connective c.args.table.now c.args.op c.args.kids.now c.requires.kids c.requires.rank

pub intern_of_sort-requires-clause-rank : goal.intern_of_sort-requires-clause-rank
intern_of_sort-requires-clause-rank c = connective-ranked c.args.table.now c.args.op c.args.kids.now c.requires.kids c.requires.rank

pub returns-clause-term : goal.returns-clause-term
returns-clause-term c = c.in_ok-id.ensures.term ∙ connective-term c.args.table.now c.args.op c.args.kids.now c.requires.kids c.requires.rank

pub returns-clause-formula : goal.returns-clause-formula
returns-clause-formula c = record {
  node = c.in_ok-id.ensures.node;
  sort =
      ap sort_of (c.in_ok-id.ensures.term ∙ connective-term c.args.table.now c.args.op c.args.kids.now c.requires.kids c.requires.rank)
      ∙ connective-sort c.args.table.now c.args.op c.args.kids.now c.requires.kids c.requires.rank;
}
