use Rattle.std.proofs.Common.{None, sym, ap, ◌∙◌}
use Rattle.model_texts.specs.SignatureNames.{SignatureNames, part_or_symbol, at_name, owner_of_name, by_name}
use Rattle.model_texts.proofs.NamedEntries.{looked_up}
use Rattle.model_texts.proofs.names.Names.owner.Goals as goal

pub returns-in_err-get : goal.returns-in_err-get
returns-in_err-get c =
    let n = c.args.name.now in
    c.from_residual.ensures
    ∙ sym (ap (λ (names : SignatureNames). owner_of_name names n) (sym c.self.view_is)
    ∙ ap (λ o. part_or_symbol o (at_name (by_name c.self.inside.symbols.entries) n)) (sym c.in_default.ensures)
    ∙ ap (part_or_symbol None) (looked_up c.self.inside.symbols.entries n ∙ sym c.in_err-get.ensures.value))

pub returns : goal.returns
returns c =
    let n = c.args.name.now in
    sym (ap (λ (names : SignatureNames). owner_of_name names n) (sym c.self.view_is)
    ∙ ap (λ o. part_or_symbol o (at_name (by_name c.self.inside.symbols.entries) n)) (sym c.in_default.ensures)
    ∙ ap (part_or_symbol None) (looked_up c.self.inside.symbols.entries n ∙ sym c.in_ok-get.ensures.value))
