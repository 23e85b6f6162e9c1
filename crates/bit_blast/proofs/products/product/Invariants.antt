use Rattle.bit_blast.specs.VectorLoops.{AreProducts}
use Rattle.bit_blast.proofs.products.product.Given as goal

abbrev pub invariant-loop-place : goal.invariant-loop-place
invariant-loop-place l = AreProducts l.fn.table l.table l.none l.a l.b l.place l.total.items
