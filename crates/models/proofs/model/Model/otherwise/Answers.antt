use Rattle.std.proofs.Common.{◌∙◌, ap, Some}
use Rattle.std.specs.Prelude.{option_map}
use Rattle.smt_terms.specs.Models.{Graph}
use Rattle.models.proofs.model.Model.otherwise.Goals as goal

pub returns-in-Some-clause-value : goal.returns-in-Some-clause-value
returns-in-Some-clause-value c = λ t table within. ap Some c.otherwise.ensures.value ∙ ap (option_map (λ (g : Graph). g.otherwise)) (c.in-Some.ensures.graph t table within)

pub returns-in-None-clause-value : goal.returns-in-None-clause-value
returns-in-None-clause-value c = λ t table within. ap (option_map (λ (g : Graph). g.otherwise)) (c.in-None.ensures.graph t table within)
