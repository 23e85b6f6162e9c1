use Rattle.std.proofs.Common.{sym, ap, ◌∙◌}
use Rattle.model_texts.specs.SignatureNames.{SignatureNames, sort_of_name}
use Rattle.model_texts.proofs.NamedEntries.{looked_up}
use Rattle.model_texts.proofs.names.Names.sort.Goals as goal

pub returns : goal.returns
returns c =
    c.copied.ensures ∙ c.get.ensures.value ∙ sym (looked_up c.self.inside.sorts.entries c.args.name.now) ∙ ap (λ (names : SignatureNames). sort_of_name names c.args.name.now) c.self.view_is
