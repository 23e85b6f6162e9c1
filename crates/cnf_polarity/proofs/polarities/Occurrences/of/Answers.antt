use Rattle.std.proofs.Common.{sym, ap, ◌∙◌}
use Rattle.std.specs.Prelude.{unwrap_or}
use Rattle.cnf_polarity.specs.Marks.{Marks, no_polarities, marked}
use Rattle.cnf_polarity.proofs.KeptMarks.{mark-lookup}
use Rattle.cnf_polarity.proofs.polarities.Occurrences.of.Goals as goal

pub returns : goal.returns
returns c =
    c.unwrap_or.ensures
    ∙ ap (λ o. unwrap_or o no_polarities) (c.copied.ensures ∙ c.get.ensures.value ∙ sym (mark-lookup c.self.inside.found.entries c.args.id))
    ∙ ap (λ (ms : Marks). marked ms c.args.id) c.self.view_is
