use Rattle.std.proofs.Common.{◌≡◌, map, take}
use Rattle.quantifier_forms.specs.Memos.{known_in}
use Rattle.quantifier_forms.proofs.memo.Memo.known_all.Given as goal

abbrev pub invariant-loop-node : goal.invariant-loop-node
invariant-loop-node l = l.results.items ≡ map (known_in l.self l.version) (take l.node-index l.nodes)
