use Rattle.std.proofs.Common.{◌≡◌, ◌+◌, length}
use Rattle.dimacs_link.specs.AnswerTexts.{line_items}
use Rattle.dimacs_link.proofs.Passages.{Continues}
use Rattle.dimacs_link.proofs.progress.Progress.read_text.Given as goal

abbrev pub invariant-lines : goal.invariant-lines
invariant-lines l = record {
  place : l.start + length l.rest ≡ length l.text;
  read : Continues line_items 10 0 l.text l.start l.rest l.fn.self l.self;
}

abbrev pub decreases-lines : goal.decreases-lines
decreases-lines l = length l.rest
