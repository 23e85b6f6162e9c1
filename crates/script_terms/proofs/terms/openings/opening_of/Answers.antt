use Rattle.std.proofs.Common.{Some, sym, ap, ◌∙◌}
use Rattle.smt_lex.specs.Forest.{token_at}
use Rattle.script_terms.specs.Parts.{opening_word}
use Rattle.script_terms.specs.Places.{form_from}
use Rattle.script_terms.proofs.Placing.{word_here, word_is, no_word}
use Rattle.script_terms.proofs.terms.openings.opening_of.Goals as goal

pub returns-in-Word : goal.returns-in-Word
returns-in-Word c =
    c.opening_by.ensures c.args.forest.now.tokens c.args.first
    ∙ sym (ap (opening_word (form_from c.args.forest.now.tokens c.args.first)) (word_here c.args.forest.now.tokens c.args.first c.requires
    ∙ word_is (token_at c.args.forest.now.tokens c.args.first) (sym c.item.ensures ∙ c.in-Word.is) ∙ ap Some (sym c.text.ensures.text)))

pub returns-in_default : goal.returns-in_default
returns-in_default c =
    sym (ap (opening_word (form_from c.args.forest.now.tokens c.args.first)) (word_here c.args.forest.now.tokens c.args.first c.requires
    ∙ no_word (token_at c.args.forest.now.tokens c.args.first) (λ is. c.in_default.not-Word (c.item.ensures ∙ is))))
