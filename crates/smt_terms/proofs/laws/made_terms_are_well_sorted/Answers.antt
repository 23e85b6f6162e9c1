use Rattle.smt_terms.proofs.Nodes.{heads_have_sorts, binders_have_sorts}
use Rattle.smt_terms.proofs.laws.made_terms_are_well_sorted.Goals as goal

pub returns : goal.returns
returns c = record { heads = heads_have_sorts; quantifiers = binders_have_sorts }
