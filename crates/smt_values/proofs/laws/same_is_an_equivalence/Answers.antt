use Rattle.smt_terms.proofs.Same.{same-itself, same-back, same-through}
use Rattle.smt_values.specs.SortIds.{sort_at}
use Rattle.smt_values.specs.Meaning.{meaning}
use Rattle.smt_values.proofs.SortIds.{sort_is}
use Rattle.smt_values.proofs.laws.same_is_an_equivalence.Goals as goal

pub returns : goal.returns
returns c = record {
  reflexive = λ ss s sizes a. same-itself (sort_at ss s) sizes (meaning a);
  symmetric = λ ss s sizes a b. same-back (sort_at ss s) sizes (meaning a) (meaning b);
  transitive = λ ss s sizes a b d list id va vb vd. same-through (sort_at ss s) sizes (meaning a) (meaning b) (meaning d) (sort_is ss list s.0 id) va.valid vb.valid vd.valid;
}
