use Rattle.std.proofs.Common.{◌∙◌}
use Rattle.simplify.proofs.arrays.bare.Goals as goal

pub returns : goal.returns
returns c = record {
  node = c.loop-before.invariant.node;
  sort = c.loop-before.invariant.sort;
  term = λ v. c.loop-before.invariant.term v ∙ c.in_default.ensures v;
}
