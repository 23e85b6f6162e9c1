use Rattle.std.proofs.Common.{◌+◌, ◌-◌, ◌≡◌, ℕ, ◌≤◌, List, Some, take, vec_len, vec_items}
use Rattle.smt_io.specs.Counts.{NeverFalls, RoseBy}
use Rattle.smt_io.specs.Told.{behind, longest_text}
use Rattle.smt_io.proofs.transfer.read_all.Given as goal

abbrev pub invariant-loop-filled : goal.invariant-loop-filled
invariant-loop-filled g l = record {
  within : l.filled ≤ vec_len l.bytes;
  most : vec_len l.bytes ≤ longest_text + 1;
  begun : g.I.Inputs.begun l.inputs ≡ Some l.fn.name;
  taken : g.I.Inputs.text l.fn.inputs l.fn.name ≡ behind (take l.filled (vec_items l.bytes)) (g.I.Inputs.rest l.inputs);
  given : RoseBy l.filled (g.I.Inputs.given l.fn.inputs) (g.I.Inputs.given l.inputs);
  texts : (n : List ℕ) → g.I.Inputs.text l.inputs n ≡ g.I.Inputs.text l.fn.inputs n;
  counts : (n : List ℕ) → NeverFalls (g.I.Inputs.faults l.fn.inputs n) (g.I.Inputs.faults l.inputs n);
}

abbrev pub decreases-loop-filled : goal.decreases-loop-filled
decreases-loop-filled g l = 67108864 + 1 - l.filled
