use Rattle.std.proofs.Common.{◌≡◌, ◌∙◌, map}
use Rattle.std.proofs.lemmas.Result.{IfOk-weaker}
use Rattle.smt_terms.specs.BitVectors.{nat2bv}
use Rattle.term_table.specs.Formulas.{no_tree}
use Rattle.normal_forms.specs.Nodes.{formula_stays}
use Rattle.bit_blast.specs.BitNodes.{AreBits}
use Rattle.bit_blast.specs.Blasted.{term_gates}
use Rattle.bit_blast.specs.Circuits as plain
use Rattle.bit_blast.proofs.BitParts.{digit, digit-bits}
use Rattle.bit_blast.proofs.parts.constant.Goals as goal

pub returns-clause-bits : goal.returns-clause-bits
returns-clause-bits c =
    let bits = nat2bv c.args.width c.args.number in
    let zero = c.in_ok-zero.zero in
    let one = c.in_ok-one.one in
    let new = c.truth-2.new.table in
    let grows = c.in_ok-one.ensures.grows in
    IfOk-weaker c.digits.result (λ ks. ks.items ≡ map (digit zero one) bits) (λ ks. AreBits new ks.items (map (plain.constant term_gates) bits))
    (λ ks is.
    digit-bits new zero one
    (formula_stays c.truth.new.table new zero grows c.in_ok-zero.ensures.formula)
    (grows.trees.same zero.0 no_tree c.in_ok-zero.ensures.formula.node ∙ c.in_ok-zero.ensures.term)
    c.in_ok-one.ensures.formula c.in_ok-one.ensures.term bits ks.items is)
    c.digits.ensures
