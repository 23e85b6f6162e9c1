use Rattle.std.proofs.Common.{List, IfOk, ◌∙◌, subst}
use Rattle.smt_terms.specs.Term.{Term}
use Rattle.bit_blast.specs.BitNodes.{AreBits}
use Rattle.bit_blast.proofs.ProductNodes.{row-terms}
use Rattle.bit_blast.proofs.products.row_where.Goals as goal

pub returns-clause-bits : goal.returns-clause-bits
returns-clause-bits c =
    let bits_are = c.deref.ensures.value ∙ c.in_ok-bits.ensures in
    subst (λ (us : List Term). IfOk c.pairs.result (λ ks. AreBits c.pairs.new.table ks.items us)) (row-terms c.args.table.now c.args.bit c.args.row.now c.deref.result.now bits_are) c.pairs.ensures.bits
