use Rattle.std.proofs.Common.{Some, ap, sym, ◌∙◌}
use Rattle.script_read.specs.Outlines.{placed}
use Rattle.script_terms.specs.Places.{form_from}
use Rattle.script_terms.specs.Bound.{name_at}
use Rattle.script_terms.proofs.Placing.{place_here}
use Rattle.script_read.proofs.shapes.named.Goals as goal

pub returns-then-is_symbol-clause-name : goal.returns-then-is_symbol-clause-name
returns-then-is_symbol-clause-name c =
    let ts = c.args.forest.now.tokens in
    let f = form_from ts c.args.i in
    (λ j. Some (record { it = name_at ts c.args.i; place = sym (place_here ts c.args.i c.requires) j }))
    ∙ sym (ap (placed f) (c.is_symbol.ensures.yes c.if-is_symbol.true))
