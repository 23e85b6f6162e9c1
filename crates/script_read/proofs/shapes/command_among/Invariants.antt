use Rattle.std.proofs.Common.{◌≡◌, drop, map}
use Rattle.script_read.specs.Outlines.{word_among}
use Rattle.script_read.specs.ShapeSteps.{entry_seen}
use Rattle.script_read.proofs.shapes.command_among.Given as goal

abbrev pub invariant-loop-name : goal.invariant-loop-name
invariant-loop-name l = word_among (map entry_seen l.table) l.word ≡ word_among (map entry_seen (drop l.name-index l.table)) l.word
