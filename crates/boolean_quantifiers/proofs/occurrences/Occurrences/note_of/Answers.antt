use Rattle.std.proofs.Common.{sym, ◌∙◌}
use Rattle.boolean_quantifiers.proofs.Noted.{note-lookup}
use Rattle.boolean_quantifiers.proofs.occurrences.Occurrences.note_of.Goals as goal

pub returns : goal.returns
returns c = c.get.ensures.value ∙ sym (note-lookup c.args.self.now.notes.entries c.args.id)
