use Rattle.smt_terms.proofs.Substitution.{subst-keeps_meaning, subst-gives_later}
use Rattle.smt_terms.proofs.SubstNames.{subst-spares_names}
use Rattle.smt_terms.proofs.SubstFree.{subst-leaves_free}
use Rattle.smt_terms.proofs.SubstClear.{subst-hides_nothing, subst-keeps_clear}
use Rattle.smt_terms.proofs.laws.substitution_keeps_meaning.Goals as goal

pub returns : goal.returns
returns c = record { meaning = subst-keeps_meaning; later = subst-gives_later; names = subst-spares_names; free = subst-leaves_free; bound = subst-hides_nothing; clear = subst-keeps_clear }
