use Rattle.smt_terms.proofs.Valid.{val_valid}
use Rattle.smt_terms.proofs.laws.value_has_the_sort.Goals as goal

pub returns : goal.returns
returns c = λ t s m e has model env. val_valid t s m e model env has
