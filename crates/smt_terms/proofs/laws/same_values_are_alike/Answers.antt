use Rattle.smt_terms.proofs.Same.{same-itself, same-back, same-through, same-select, array_sorts}
use Rattle.smt_terms.proofs.laws.same_values_are_alike.Goals as goal

pub returns : goal.returns
returns c = record {
  reflexive = same-itself;
  symmetric = same-back;
  transitive = same-through;
  at_every_key = λ i e sizes a b k fine. same-select i e sizes a b k (array_sorts i e fine).0;
}
