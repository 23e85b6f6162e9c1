use Rattle.std.proofs.Common.{◌≡◌, ℕ, ◌<◌, get_or, is_some, false}
use Rattle.smt_terms.specs.declared.ids.NodeId.{NodeId}
use Rattle.boolean_quantifiers.specs.Replacing.{image_of}
use Rattle.boolean_quantifiers.proofs.replacing.binds.Given as goal

abbrev pub invariant-loop-kid : goal.invariant-loop-kid
invariant-loop-kid g l = (i : ℕ) (d : NodeId) → i < l.kid-index → is_some (image_of (g.I.Images.images l.fn.images) (get_or l.kid-items i d)) ≡ false
