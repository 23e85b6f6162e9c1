use Rattle.std.proofs.Common.{None, Some, if◌then◌else◌, ap, sym, ◌∙◌, Option}
use Rattle.std.proofs.lemmas.Result.{on_ok_weaker}
use Rattle.smt_lex.specs.Forest.{token_at}
use Rattle.smt_lex.specs.Lex.{symbol_by}
use Rattle.smt_lex.specs.Names.{Name, is_reserved}
use Rattle.script_read.specs.DrawnNames.{drawn_among}
use Rattle.script_terms.specs.TextNames.{with_name}
use Rattle.script_terms.proofs.Placing.{symbol_quoted, no_symbol_of}
use Rattle.script_read.proofs.text_names.add_symbol.Goals as goal

pub returns-in-Word : goal.returns-in-Word
returns-in-Word c =
    on_ok_weaker c.add_word.result
    (λ kept ns held.
    kept ns held ∙ ap (λ text. drawn_among (with_name ns (if is_reserved text then None else Some text))) c.text.ensures.text
    ∙ ap (λ item. drawn_among (with_name ns (symbol_by item (token_at c.args.forest.now.tokens c.args.i).text))) (sym (sym c.item.ensures ∙ c.in-Word.is)))
    c.add_word.ensures

pub returns-in-Quoted : goal.returns-in-Quoted
returns-in-Quoted c =
    on_ok_weaker c.add_name.result
    (λ kept ns held.
    kept ns held
    ∙ ap (λ (o : Option Name). drawn_among (with_name ns o)) (ap Some c.name.ensures ∙ sym (symbol_quoted (token_at c.args.forest.now.tokens c.args.i) (sym c.item.ensures ∙ c.in-Quoted.is))))
    c.add_name.ensures

pub returns-in_default : goal.returns-in_default
returns-in_default c = λ ns held.
    held ∙ ap (λ (o : Option Name). drawn_among (with_name ns o))
    (sym (no_symbol_of (token_at c.args.forest.now.tokens c.args.i) (λ is. c.in_default.not-Word (c.item.ensures ∙ is)) (λ is. c.in_default.not-Quoted (c.item.ensures ∙ is))))
