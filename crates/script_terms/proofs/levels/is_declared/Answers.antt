use Rattle.std.proofs.Common.{◌≡◌, ◌∙◌, Some, None, ap, sym, option_copied}
use Rattle.script_terms.specs.Known.{declared_among}
use Rattle.script_terms.proofs.Laying.{declared-entries, is_symbol_found}
use Rattle.script_terms.proofs.levels.is_declared.Goals as goal

pub returns-in-Some : goal.returns-in-Some
returns-in-Some c =
    let found : is_symbol_found (option_copied c.get.result) ≡ is_symbol_found (option_copied (Some c.in-Some.entry)) = ap (λ o. is_symbol_found (option_copied o)) c.in-Some.is in
    c.is_symbol.ensures ∙ sym (ap (λ bs. declared_among bs c.args.name.now) (sym c.names.view_is)
    ∙ declared-entries _ c.names.inside.entries.entries c.args.name.now c.names.invariant.names ∙ ap is_symbol_found (sym c.get.ensures.value) ∙ found)

pub returns-in-None : goal.returns-in-None
returns-in-None c =
    let found : is_symbol_found (option_copied c.get.result) ≡ is_symbol_found (option_copied None) = ap (λ o. is_symbol_found (option_copied o)) c.in-None.is in
    sym (ap (λ bs. declared_among bs c.args.name.now) (sym c.names.view_is)
    ∙ declared-entries _ c.names.inside.entries.entries c.args.name.now c.names.invariant.names ∙ ap is_symbol_found (sym c.get.ensures.value) ∙ found)
