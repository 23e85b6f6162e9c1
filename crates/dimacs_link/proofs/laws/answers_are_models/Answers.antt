use Rattle.std.proofs.Common.{◌∙◌, ap, List, Bool}
use Rattle.dimacs_link.specs.AnswerModels.{answered}
use Rattle.dimacs_link.specs.Clauses.{clauses}
use Rattle.dimacs_link.specs.Laws.{satisfies}
use Rattle.dimacs_link.proofs.AnsweredModels.{answered_over, truths_back}
use Rattle.dimacs_link.proofs.ClauseValues.{all_clauses}
use Rattle.dimacs_link.proofs.laws.answers_are_models.Goals as goal

pub returns : goal.returns
returns c sig cs vs roots flags distinct size all =
    (answered_over sig cs vs flags, all_clauses (answered sig cs vs) cs roots all ∙ ap (λ (ws : List Bool). satisfies ws (clauses cs roots)) (truths_back sig cs vs distinct size))
