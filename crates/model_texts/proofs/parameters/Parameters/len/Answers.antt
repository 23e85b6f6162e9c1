use Rattle.std.proofs.Common.{map, true, ◌≡◌, subst}
use Rattle.model_texts.specs.Proper.{are_distinct}
use Rattle.model_texts.proofs.NamedEntries.{distinct_by_name}
use Rattle.model_texts.proofs.parameters.Parameters.len.Goals as goal

pub returns-clause-distinct : goal.returns-clause-distinct
returns-clause-distinct c =
    subst (λ ps. are_distinct (map (λ p. p.0) ps) ≡ true) c.self.view_is (distinct_by_name c.self.inside.sorts.entries c.len.ensures.unique)
