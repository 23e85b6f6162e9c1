use Rattle.std.proofs.Common.{◌≡◌, ◌+◌, map, string_bytes}
use Rattle.smtrw_answers.specs.Asking.{command_of}
use Rattle.smtrw_answers.proofs.GrammarWords.{Met}
use Rattle.smtrw_answers.proofs.grammar.plan_of.Given as goal

abbrev pub invariant-loop-word : goal.invariant-loop-word
invariant-loop-word l = (l.number ≡ l.word-index + 2) × Met (command_of l.command) (map string_bytes l.rest) l.word-index l.seen
