use Rattle.std.proofs.Common.{refl}
use Rattle.term_table.specs.Formulas.{tree}
use Rattle.bit_blast.specs.Subterms.{is_open}
use Rattle.bit_blast.proofs.SubtermNodes.{one-subterms}
use Rattle.bit_blast.proofs.subterms.below_one.Goals as goal

pub returns : goal.returns
returns c =
    one-subterms c.args.table.now c.in_ok-order.order.items (tree c.args.table.now c.args.root) c.in_ok-order.ensures.nodes
    (c.in_ok-order.ensures.parts is_open (λ k node. refl) (λ q xs v. refl))
    (λ wanted. c.in_ok-order.ensures.collected is_open wanted (λ k node. refl) (λ q xs v. refl))
