use Rattle.std.proofs.Common.{Some, option_map, sym, ap, ◌∙◌}
use Rattle.std.specs.Str.Parse.{digits_value}
use Rattle.smt_lex.specs.Forest.{token_at}
use Rattle.script_terms.specs.Places.{capped}
use Rattle.script_terms.proofs.Placing.{numeral_here, no_numeral, numeral_is}
use Rattle.script_terms.proofs.places.numeral_at.Goals as goal

pub returns-in-Numeral : goal.returns-in-Numeral
returns-in-Numeral c =
    ap Some (c.capped_value.ensures ∙ ap (λ text. capped (digits_value 10 text)) c.text.ensures.text)
    ∙ sym (ap (option_map capped) (numeral_here c.args.forest.now.tokens c.args.i c.requires
    ∙ numeral_is (token_at c.args.forest.now.tokens c.args.i) (sym c.item.ensures ∙ c.in-Numeral.is)))

pub returns-in_default : goal.returns-in_default
returns-in_default c =
    sym (ap (option_map capped) (numeral_here c.args.forest.now.tokens c.args.i c.requires
    ∙ no_numeral (token_at c.args.forest.now.tokens c.args.i) (λ is. c.in_default.not-Numeral (c.item.ensures ∙ is))))
