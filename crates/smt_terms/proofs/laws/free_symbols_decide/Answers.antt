use Rattle.smt_terms.proofs.Depends.{val_agrees}
use Rattle.smt_terms.proofs.laws.free_symbols_decide.Goals as goal

pub returns : goal.returns
returns c = val_agrees
