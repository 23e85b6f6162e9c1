use Rattle.std.proofs.Common.{Some, sym, ap, ◌∙◌}
use Rattle.smt_lex.specs.Forest.{token_at}
use Rattle.script_terms.specs.Parts.{is_name}
use Rattle.script_terms.proofs.Placing.{word_here, word_is, no_word}
use Rattle.script_terms.proofs.places.is_word.Goals as goal

pub returns-in-Word : goal.returns-in-Word
returns-in-Word c =
    c.eq.ensures
    ∙ sym (ap (is_name c.args.word.now) (word_here c.args.forest.now.tokens c.args.i c.requires
    ∙ word_is (token_at c.args.forest.now.tokens c.args.i) (sym c.item.ensures ∙ c.in-Word.is) ∙ ap Some (sym c.text.ensures.text)))

pub returns-in_default : goal.returns-in_default
returns-in_default c =
    sym (ap (is_name c.args.word.now) (word_here c.args.forest.now.tokens c.args.i c.requires
    ∙ no_word (token_at c.args.forest.now.tokens c.args.i) (λ is. c.in_default.not-Word (c.item.ensures ∙ is))))
