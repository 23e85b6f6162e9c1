use Rattle.std.proofs.Common.{◌≡◌, ◌+◌, length}
use Rattle.dimacs_link.specs.AnswerTexts.{word_items}
use Rattle.dimacs_link.proofs.Passages.{Continues}
use Rattle.dimacs_link.proofs.progress.Progress.read_words.Given as goal

abbrev pub invariant-words : goal.invariant-words
invariant-words l = record {
  place : l.start + length l.rest ≡ l.place + length l.words;
  read : Continues word_items 32 l.place l.words l.start l.rest l.fn.self l.self;
}

abbrev pub decreases-words : goal.decreases-words
decreases-words l = length l.rest
