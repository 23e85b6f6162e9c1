use Rattle.std.proofs.Common.{◌^◌, ◌<◌, pow_pos, subst}
use Rattle.std.specs.Prelude.{IfOk}
use Rattle.smt_terms.specs.Constants.{bits_term}
use Rattle.simplify.specs.Reduced.{Names}
use Rattle.simplify.proofs.NodesOfSorts.{names_bits}
use Rattle.simplify.proofs.vectors.zero_like.Goals as goal

pub returns-clause-zero : goal.returns-clause-zero
returns-clause-zero c =
    let w = c.width_of-width.result in
    let some : 0 < 2 ^ w = pow_pos w in
    subst (λ v. IfOk c.node_of.result (Names c.node_of.new.table (bits_term v 0))) c.width_of-width.ensures.width
    (names_bits c.node_of.new.table w 0 c.node_of.result some c.node_of.ensures.node c.node_of.ensures.term)
