use Rattle.std.proofs.Common.{◌≡◌, take}
use Rattle.rule_book.proofs.eight_rules.template.Given as goal

abbrev pub invariant-loop-piece : goal.invariant-loop-piece
invariant-loop-piece l = l.parts ≡ take l.piece-index l.pieces
