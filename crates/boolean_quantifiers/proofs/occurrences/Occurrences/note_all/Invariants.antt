use Rattle.std.proofs.Common.{◌≡◌}
use Rattle.boolean_quantifiers.specs.Occurrences.{AreTrue}
use Rattle.boolean_quantifiers.proofs.occurrences.Occurrences.note_all.Given as goal

abbrev pub invariant-loop-id : goal.invariant-loop-id
invariant-loop-id l = record {
  notes : AreTrue l.fn.table l.self.candidates.keys l.self.notes.entries;
  candidates : l.self.candidates ≡ l.fn.self.candidates;
}
