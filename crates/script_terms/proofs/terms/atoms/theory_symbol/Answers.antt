use Rattle.script_terms.proofs.TheoryConstants.{truth_is}
use Rattle.script_terms.proofs.terms.atoms.theory_symbol.Goals as goal

pub constant-requires : goal.constant-requires
constant-requires c = truth_is _
