use Rattle.model_texts.proofs.KeysRead.{Keying}
use Rattle.model_texts.proofs.conditions.read_keys.Given as goal

-- the values so far, at their places
abbrev pub invariant-loop-equation : goal.invariant-loop-equation
invariant-loop-equation l = Keying l.table l.forest.tokens l.sorts l.equations l.fn.elements l.equation-index l.keys.items l.elements
