use Rattle.smt_lex.specs.Names.{is_theory_sort}
use Rattle.script_terms.proofs.names.is_theory_sort.Goals as goal

pub returns : goal.returns
unfolding is_theory_sort
returns c = c.is_among.ensures
