use Rattle.std.proofs.Common.{slice_get, ap, sym, ◌∙◌}
use Rattle.std.specs.Prelude.{option_map}
use Rattle.model_texts.proofs.NamedEntries.{got_by_name}
use Rattle.model_texts.proofs.parameters.Parameters.sort.Goals as goal

pub returns : goal.returns
returns c = (
  c.in-Some.field-0-0.now.now,
  ap (λ ps. slice_get ps c.args.place) (sym c.self.view_is) ∙ got_by_name c.self.inside.sorts.entries c.args.place
      ∙ ap (option_map (λ e. (e.0.now, e.1))) (sym c.in-Some.ensures.entry),
)
