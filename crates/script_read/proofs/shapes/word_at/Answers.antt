use Rattle.std.proofs.Common.{Some, ap, sym, ◌∙◌}
use Rattle.smt_lex.specs.Forest.{token_at}
use Rattle.script_terms.proofs.Placing.{word_here, word_is, no_word}
use Rattle.script_read.proofs.shapes.word_at.Goals as goal

pub returns-in-Word : goal.returns-in-Word
returns-in-Word c =
    let ts = c.args.forest.now.tokens in
    ap Some c.text.ensures.text ∙ sym (word_here ts c.args.i c.requires ∙ word_is (token_at ts c.args.i) (sym c.item.ensures ∙ c.in-Word.is))

pub returns-in_default : goal.returns-in_default
returns-in_default c =
    let ts = c.args.forest.now.tokens in
    sym (word_here ts c.args.i c.requires ∙ no_word (token_at ts c.args.i) (λ is. c.in_default.not-Word (c.item.ensures ∙ is)))
