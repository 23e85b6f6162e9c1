use Rattle.std.proofs.Common.{sym, ◌∙◌}
use Rattle.std.proofs.lemmas.Result.{on_ok_weaker}
use Rattle.script_read.proofs.TextNames.{name_kept}
use Rattle.script_read.proofs.text_names.add_name.Goals as goal

pub returns-then-begins_as_drawn : goal.returns-then-begins_as_drawn
returns-then-begins_as_drawn c =
    on_ok_weaker c.add.result (name_kept c.args.names.now c.add.new.self c.args.name.now (sym c.begins_as_drawn.ensures ∙ c.if-begins_as_drawn.true)) c.add.ensures.ok
