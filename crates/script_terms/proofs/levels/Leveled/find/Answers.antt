use Rattle.std.proofs.Common.{◌∙◌, sym, ap}
use Rattle.script_terms.specs.Known.{find}
use Rattle.script_terms.proofs.Laying.{find-entries}
use Rattle.script_terms.proofs.levels.Leveled.find.Goals as goal

pub returns : goal.returns
returns g c =
    c.copied.ensures ∙ c.get.ensures.value ∙ sym (find-entries _ c.self.inside.entries.entries c.args.name.now c.self.invariant.names) ∙ ap (λ bs. find bs c.args.name.now) c.self.view_is
