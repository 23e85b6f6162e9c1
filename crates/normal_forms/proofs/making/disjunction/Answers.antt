use Rattle.std.proofs.Common.{◌∙◌, ap}
use Rattle.smt_terms.specs.Rank.{sort_of}
use Rattle.term_table.specs.Formulas.{kind}
use Rattle.normal_forms.proofs.MadeNodes.{makes-or, ranked-or, sort-or}
use Rattle.normal_forms.proofs.making.disjunction.Goals as goal

pub intern_of_sort-requires-clause-makes : goal.intern_of_sort-requires-clause-makes
intern_of_sort-requires-clause-makes c = makes-or c.args.table.now c.args.kids.now c.requires.kids c.requires.several

pub intern_of_sort-requires-clause-rank : goal.intern_of_sort-requires-clause-rank
intern_of_sort-requires-clause-rank c = ranked-or c.args.table.now c.args.kids.now c.requires.kids c.requires.several

pub returns-clause-formula : goal.returns-clause-formula
unfolding kind
returns-clause-formula c = record {
  node = c.in_ok-id.ensures.node;
  sort = ap sort_of c.in_ok-id.ensures.term ∙ sort-or c.args.table.now c.args.kids.now c.requires.kids c.requires.several;
}
