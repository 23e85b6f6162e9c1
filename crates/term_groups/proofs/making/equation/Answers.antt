use Rattle.std.proofs.Common.{◌∙◌, ap}
use Rattle.smt_terms.specs.Rank.{sort_of}
use Rattle.term_table.specs.Formulas.{kind}
use Rattle.term_groups.proofs.MadeNodes.{sort-equal, makes-equal, ranked-equal}
use Rattle.term_groups.proofs.making.equation.Goals as goal

pub intern_of_sort-requires-clause-makes : goal.intern_of_sort-requires-clause-makes
intern_of_sort-requires-clause-makes c = makes-equal c.args.table.now c.args.a c.args.b c.know_table.ensures c.requires.a c.requires.b c.requires.sort

pub intern_of_sort-requires-clause-rank : goal.intern_of_sort-requires-clause-rank
intern_of_sort-requires-clause-rank c = ranked-equal c.args.table.now c.args.a c.args.b c.know_table.ensures c.requires.a c.requires.b c.requires.sort

pub returns-clause-formula : goal.returns-clause-formula
unfolding kind
returns-clause-formula c = record {
  node = c.in_ok-id.ensures.node;
  sort = ap sort_of c.in_ok-id.ensures.term ∙ sort-equal c.args.table.now c.args.a c.args.b c.know_table.ensures c.requires.a c.requires.b c.requires.sort;
}
