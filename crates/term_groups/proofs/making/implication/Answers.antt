use Rattle.std.proofs.Common.{◌∙◌, ap}
use Rattle.smt_terms.specs.Rank.{sort_of}
use Rattle.term_table.specs.Formulas.{kind}
use Rattle.term_groups.proofs.MadeNodes.{sort-implies, makes-implies, ranked-implies}
use Rattle.term_groups.proofs.making.implication.Goals as goal

pub intern_of_sort-requires-clause-makes : goal.intern_of_sort-requires-clause-makes
intern_of_sort-requires-clause-makes c = makes-implies c.args.table.now c.args.a c.args.b c.requires.a c.requires.b

pub intern_of_sort-requires-clause-rank : goal.intern_of_sort-requires-clause-rank
intern_of_sort-requires-clause-rank c = ranked-implies c.args.table.now c.args.a c.args.b c.requires.a c.requires.b

pub returns-clause-formula : goal.returns-clause-formula
unfolding kind
returns-clause-formula c = record {
  node = c.in_ok-id.ensures.node;
  sort = ap sort_of c.in_ok-id.ensures.term ∙ sort-implies c.args.table.now c.args.a c.args.b c.requires.a c.requires.b;
}
