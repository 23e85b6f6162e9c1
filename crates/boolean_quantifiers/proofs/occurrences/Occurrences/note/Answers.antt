use Rattle.boolean_quantifiers.proofs.Noted.{notes-more}
use Rattle.boolean_quantifiers.proofs.occurrences.Occurrences.note.Goals as goal

pub returns-clause-notes : goal.returns-clause-notes
returns-clause-notes c =
    notes-more c.args.table.now c.args.self.now.candidates.keys c.args.self.now.notes.entries c.insert.new.self.entries c.args.id (record { few = c.in_ok-few.few; binds = c.binds_below-binds.result })
    c.requires.node c.requires.notes (record { lacking = c.in_ok-few.ensures; plain = λ e. c.binds_below-binds.ensures e }) c.in_ok-insert.ensures.updates.0
