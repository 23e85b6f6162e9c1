use Rattle.std.proofs.Common.{◌∙◌, ◌<◌, ◌^◌, ap, subst, length}
use Rattle.std.proofs.lemmas.Bool.{eq-eqb}
use Rattle.smt_terms.specs.BitVectors.{nat2bv}
use Rattle.smt_terms.specs.Values.{bits, is_value}
use Rattle.smt_terms.proofs.BitLengths.{length-nat2bv}
use Rattle.smt_values.specs.SizeTable.{sizes_by}
use Rattle.bit_blast.specs.Blasted.{width_of}
use Rattle.bit_scripts.proofs.lifting.define_vector.Goals as goal

pub define-requires-clause-value : goal.define-requires-clause-value
define-requires-clause-value c =
    let t = c.args.table.now in
    let w = c.width_of-width.result in
    let n = c.args.number in
    let sizes = sizes_by t.sorts c.args.made.now.sizes in
    let vector = c.width_of-width.ensures.vector in
    record {
      held = (c.width_of-width.ensures.some, c.width_of-width.ensures.narrow, subst (λ s. n < 2 ^ width_of s) vector c.requires.fits);
      valid = ap (λ s. is_value s sizes (bits (nat2bv w n))) vector ∙ eq-eqb (length (nat2bv w n)) w (length-nat2bv w n);
    }
