use Rattle.std.proofs.Common.{arith, ◌∙◌}
use Rattle.std.proofs.lemmas.Grind.{common_steps}
use Rattle.sort_check.proofs.Placing.{by_place, empty_name}
use Rattle.sort_check.proofs.written.form_by_slot.Goals as goal

pub returns-then-is_empty : goal.returns-then-is_empty
returns-then-is_empty c = empty_name c.args.name.now (grind (arith, common_steps))

pub returns : goal.returns
returns c = c.form_at.ensures ∙ by_place c.args.name.now c.place.result c.place.ensures.place c.place.ensures.within
