use Rattle.std.proofs.Common.{sym, ◌∙◌}
use Rattle.std.proofs.lemmas.Result.{on_ok_weaker}
use Rattle.smt_lex.specs.Names.{is_reserved}
use Rattle.script_read.proofs.TextNames.{name_kept, word_kept}
use Rattle.script_read.proofs.text_names.add_word.Goals as goal

pub returns-then-not-is_reserved : goal.returns-then-not-is_reserved
returns-then-not-is_reserved c =
    on_ok_weaker c.add.result
    (λ is.
    word_kept c.args.names.now c.add.new.self c.args.word.now (is_reserved c.args.word.now) (sym c.is_reserved.ensures ∙ c.if-not-is_reserved.true)
    (name_kept c.args.names.now c.add.new.self c.args.word.now (sym c.begins_as_drawn.ensures ∙ c.if-begins_as_drawn.true) is))
    c.add.ensures.ok
