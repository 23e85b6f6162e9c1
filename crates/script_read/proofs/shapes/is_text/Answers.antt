use Rattle.std.proofs.Common.{ap, sym, ◌∙◌}
use Rattle.smt_lex.specs.Forest.{token_at}
use Rattle.script_terms.specs.Parts.{is_text_by}
use Rattle.script_terms.proofs.Placing.{text_here}
use Rattle.script_read.proofs.Shaping.{no_text_by}
use Rattle.script_read.proofs.shapes.is_text.Goals as goal

pub returns-in-Text : goal.returns-in-Text
returns-in-Text c =
    let ts = c.args.forest.now.tokens in
    sym (text_here ts c.args.i c.requires ∙ ap is_text_by (sym c.item.ensures ∙ c.in-Text.is))

pub returns-in_default : goal.returns-in_default
returns-in_default c =
    let ts = c.args.forest.now.tokens in
    sym (text_here ts c.args.i c.requires ∙ no_text_by (token_at ts c.args.i).item (λ is. c.in_default.not-Text (c.item.ensures ∙ is)))
