use Rattle.std.proofs.Common.{◌≤◌, ◌-◌, length}
use Rattle.script_terms.specs.Places.{forms_from}
use Rattle.models.specs.LiveNumbers.{LiveNumbers, signature_of}
use Rattle.model_texts.specs.Behind.{LeavesToRead}
use Rattle.model_texts.specs.Entries.{entries_given}
use Rattle.model_texts.specs.GivenEntries.{tables_given, AreNamedBy}
use Rattle.model_texts.specs.SignatureNames.{AreNamesOf}
use Rattle.model_texts.proofs.entries.read_entries.Given as goal

-- what is left are the entries from here on, behind the tables so far
abbrev pub invariant-loop-alloc : goal.invariant-loop-alloc
invariant-loop-alloc l = record {
  within : l.next ≤ length l.forest.tokens;
  given : AreNamedBy l.names l.given.entries;
  left : (live : LiveNumbers) → AreNamesOf l.table live l.names
      → LeavesToRead l.table l.fn.elements l.elements (entries_given (signature_of l.table live) (tables_given l.fn.given.entries) (forms_from l.forest.tokens l.first))
      (entries_given (signature_of l.table live) (tables_given l.given.entries) (forms_from l.forest.tokens l.next));
}

abbrev pub decreases-loop-alloc : goal.decreases-loop-alloc
decreases-loop-alloc l = length l.forest.tokens - l.next
