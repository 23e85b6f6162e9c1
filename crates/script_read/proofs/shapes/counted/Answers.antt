use Rattle.std.proofs.Common.{Some, ap, sym, ◌∙◌}
use Rattle.std.specs.Str.Parse.{digits_value}
use Rattle.smt_lex.specs.Forest.{token_at}
use Rattle.script_read.specs.Outlines.{placed}
use Rattle.script_terms.specs.Places.{form_from}
use Rattle.script_terms.proofs.Placing.{place_here, numeral_here, numeral_is, no_numeral}
use Rattle.script_read.proofs.shapes.counted.Goals as goal

pub returns-in-Numeral-clause-number : goal.returns-in-Numeral-clause-number
returns-in-Numeral-clause-number c =
    let ts = c.args.forest.now.tokens in
    let t = token_at ts c.args.i in
    let f = form_from ts c.args.i in
    (λ j. Some (record { it = digits_value 10 t.text; place = sym (place_here ts c.args.i c.requires) j }))
    ∙ sym (ap (placed f) (numeral_here ts c.args.i c.requires ∙ numeral_is t (sym c.item.ensures ∙ c.in-Numeral.is)))

pub returns-in_default : goal.returns-in_default
returns-in_default c =
    let ts = c.args.forest.now.tokens in
    record {
      number = sym (ap (placed (form_from ts c.args.i)) (numeral_here ts c.args.i c.requires ∙ no_numeral (token_at ts c.args.i) (λ is. c.in_default.not-Numeral (c.item.ensures ∙ is))));
      within = tt;
    }
