use Rattle.std.proofs.Common.{◌∙◌, sym, arith}
use Rattle.smt_terms.specs.Values.{same}
use Rattle.smt_values.specs.SizeTable.{sizes_by}
use Rattle.smt_values.specs.SortIds.{sort_at}
use Rattle.evaluation.proofs.OperandPlaces.{first-at, second-at}
use Rattle.evaluation.proofs.operators.equality.are_equal.Goals as goal

pub returns : goal.returns
returns c =
    let two = c.requires.two in
    c.same.ensures
    ∙ (λ i. same (sort_at c.args.sorts.now c.args.sort) (sizes_by c.args.sorts.now c.args.sizes.now) (sym (first-at c.args.args.now c.index-args-0.result (omega (arith, two)) c.index-args-0.is) i) (sym (second-at c.args.args.now c.index-args-1.result (omega (arith, two)) c.index-args-1.is) i))
