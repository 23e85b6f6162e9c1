use Rattle.std.proofs.Common.{◌∙◌, ap, cond}
use Rattle.smt_terms.specs.Values.{same, select, pairs_of, default_of}
use Rattle.smt_terms.proofs.Same.{same_scalar}
use Rattle.smt_terms.proofs.SameStores.{value_at-put}
use Rattle.smt_values.proofs.laws.stored_values_are_read.Goals as goal

pub returns : goal.returns
returns c = record {
  stored = λ i sizes a k v j plain h. value_at-put (same i sizes) (same_scalar i sizes plain) k v j (pairs_of a) (default_of a) ∙ ap (λ b. cond b v (select i sizes a j)) h;
  others = λ i sizes a k v j plain h. value_at-put (same i sizes) (same_scalar i sizes plain) k v j (pairs_of a) (default_of a) ∙ ap (λ b. cond b v (select i sizes a j)) h;
}
