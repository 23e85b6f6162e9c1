use Rattle.smt_terms.proofs.Equal.{Decides-name_eq, Decides-sort_eq, Decides-symbol_eq, Decides-variable_eq, Decides-op_eq, Decides-head_eq, Decides-term_eq}
use Rattle.smt_terms.proofs.laws.tests_tell_equality.Goals as goal

pub returns : goal.returns
returns c = record {
  names = Decides-name_eq;
  sorts = Decides-sort_eq;
  symbols = Decides-symbol_eq;
  variables = Decides-variable_eq;
  operators = Decides-op_eq;
  heads = Decides-head_eq;
  terms = Decides-term_eq;
}
