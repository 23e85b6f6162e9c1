use Rattle.script_terms.specs.Waiting.{left_of}
use Rattle.script_terms.proofs.Running.{RunsFrom}
use Rattle.script_terms.proofs.terms.term_reader.TermReader.run.Given as goal

abbrev pub invariant-loop-next : goal.invariant-loop-next
invariant-loop-next l = RunsFrom l.forest.tokens l.fn.table l.table l.fn.sofar l.sofar l.fn.self l.self l.fn.i l.next

abbrev pub decreases-loop-next : goal.decreases-loop-next
decreases-loop-next l = left_of l.forest.tokens l.self l.next
