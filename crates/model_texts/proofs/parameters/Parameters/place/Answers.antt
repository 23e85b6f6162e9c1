use Rattle.std.proofs.Common.{ap, ◌∙◌}
use Rattle.model_texts.specs.GivenParameters.{place_named}
use Rattle.model_texts.proofs.NamedEntries.{placed_by_name}
use Rattle.model_texts.proofs.parameters.Parameters.place.Goals as goal

pub returns-clause-place : goal.returns-clause-place
returns-clause-place c =
    c.get_index_of.ensures.index ∙ placed_by_name c.self.inside.sorts.entries c.args.name.now ∙ ap (λ ps. place_named ps c.args.name.now) c.self.view_is
