use Rattle.array_forms.proofs.ValueTerms.{terms_denote}
use Rattle.array_forms.proofs.laws.terms_of_values_have_these_values.Goals as goal

pub returns : goal.returns
returns c = terms_denote
