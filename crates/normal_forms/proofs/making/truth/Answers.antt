use Rattle.std.proofs.Common.{◌∙◌, ap}
use Rattle.smt_terms.specs.Rank.{sort_of}
use Rattle.term_table.specs.Formulas.{kind}
use Rattle.normal_forms.proofs.MadeNodes.{makes-truth, ranked-truth, sort-truth}
use Rattle.normal_forms.proofs.making.truth.Goals as goal

pub intern_of_sort-requires-clause-makes : goal.intern_of_sort-requires-clause-makes
intern_of_sort-requires-clause-makes c = makes-truth c.args.table.now c.args.value

pub intern_of_sort-requires-clause-rank : goal.intern_of_sort-requires-clause-rank
intern_of_sort-requires-clause-rank c = ranked-truth c.args.table.now c.args.value

pub returns-clause-formula : goal.returns-clause-formula
unfolding kind
returns-clause-formula c = record {
  node = c.in_ok-id.ensures.node;
  sort = ap sort_of c.in_ok-id.ensures.term ∙ sort-truth c.args.table.now c.args.value;
}
