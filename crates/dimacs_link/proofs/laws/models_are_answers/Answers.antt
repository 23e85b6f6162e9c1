use Rattle.dimacs_link.proofs.ClauseValues.{all_clauses}
use Rattle.dimacs_link.proofs.laws.models_are_answers.Goals as goal

pub returns : goal.returns
returns c m cs roots all = all_clauses m cs roots all
