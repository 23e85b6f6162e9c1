use Rattle.std.proofs.Common.{length}
use Rattle.pass_laws.specs.Lists.{between_commas}
use Rattle.passes.proofs.ListedNames.{Taken}
use Rattle.passes.proofs.list.parse_list.Given as goal

abbrev pub invariant-loop-name : goal.invariant-loop-name
invariant-loop-name l = Taken (between_commas l.text) (length l.yielded) l.passes.items
