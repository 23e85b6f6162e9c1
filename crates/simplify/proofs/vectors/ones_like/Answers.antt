use Rattle.std.proofs.Common.{◌≡◌, ◌-◌, ◌^◌, ◌<◌, subst, arith}
use Rattle.std.specs.Prelude.{IfOk}
use Rattle.smt_terms.specs.Constants.{bits_term}
use Rattle.simplify.specs.Reduced.{Names}
use Rattle.simplify.proofs.NodesOfSorts.{names_bits}
use Rattle.simplify.proofs.vectors.ones_like.Goals as goal

pub returns-clause-ones : goal.returns-clause-ones
returns-clause-ones c =
    let w = c.width_of-width.result in
    let n = c.all_ones-bits.result in
    let bits = c.all_ones-bits.ensures in
    let most : n ≡ 2 ^ w - 1 = omega (arith, bits) in
    let small : n < 2 ^ w = omega (arith, bits) in
    subst (λ v. IfOk c.node_of.result (Names c.node_of.new.table (bits_term v (2 ^ v - 1)))) c.width_of-width.ensures.width
    (subst (λ m. IfOk c.node_of.result (Names c.node_of.new.table (bits_term w m))) most
    (names_bits c.node_of.new.table w n c.node_of.result small c.node_of.ensures.node c.node_of.ensures.term))
