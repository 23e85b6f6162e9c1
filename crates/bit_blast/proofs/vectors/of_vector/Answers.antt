use Rattle.std.proofs.Common.{◌≡◌, ◌+◌, ◌-◌, [], ◌∷◌, ◌++◌, take, drop, length, ap, sym, subst, refl}
use Rattle.std.proofs.lemmas.List.{length-map}
use Rattle.std.proofs.lemmas.Result.{IfOk-weaker}
use Rattle.term_table.specs.Formulas.{tree_in, trees_at}
use Rattle.bit_blast.specs.BitNodes.{AreBits}
use Rattle.bit_blast.specs.Blasted.{term_gates}
use Rattle.bit_blast.specs.Circuits.{circuit}
use Rattle.bit_blast.proofs.BitParts.{part-bits, turned-bits}
use Rattle.bit_blast.proofs.vectors.of_vector.Goals as goal

pub returns-in-Extract-clause-bits : goal.returns-in-Extract-clause-bits
unfolding circuit
returns-in-Extract-clause-bits c ss =
    let t = c.args.table.now in
    let us = c.args.a.now in
    let low = c.in-Extract.low in
    let count = c.in-Extract.high + 1 - low in
    IfOk-weaker c.part.result (λ ks. ks.items ≡ take count (drop low us)) (λ ks. AreBits t ks.items (circuit term_gates c.args.op ss (trees_at t us ∷ [])))
    (λ ks is. subst (λ o. AreBits t ks.items (circuit term_gates o ss (trees_at t us ∷ []))) (sym c.in-Extract.is) (part-bits t us ks.items count low c.requires.a is))
    c.part.ensures

pub returns-in-RotL-clause-bits : goal.returns-in-RotL-clause-bits
unfolding circuit
returns-in-RotL-clause-bits c ss =
    let t = c.args.table.now in
    let us = c.args.a.now in
    let cut = length us - c.in-RotL.n in
    let same : length (trees_at t us) - c.in-RotL.n ≡ cut = ap (λ k. k - c.in-RotL.n) (length-map us (tree_in t.trees)) in
    IfOk-weaker c.turned.result (λ ks. ks.items ≡ drop cut us ++ take cut us) (λ ks. AreBits t ks.items (circuit term_gates c.args.op ss (trees_at t us ∷ [])))
    (λ ks is.
    subst (λ o. AreBits t ks.items (circuit term_gates o ss (trees_at t us ∷ []))) (sym c.in-RotL.is)
    (turned-bits t us ks.items cut (length (trees_at t us) - c.in-RotL.n) c.requires.a same is))
    c.turned.ensures

pub returns-in-RotR-clause-bits : goal.returns-in-RotR-clause-bits
unfolding circuit
returns-in-RotR-clause-bits c ss =
    let t = c.args.table.now in
    let us = c.args.a.now in
    let cut = c.in-RotR.n in
    IfOk-weaker c.turned-in-RotR.result (λ ks. ks.items ≡ drop cut us ++ take cut us) (λ ks. AreBits t ks.items (circuit term_gates c.args.op ss (trees_at t us ∷ [])))
    (λ ks is. subst (λ o. AreBits t ks.items (circuit term_gates o ss (trees_at t us ∷ []))) (sym c.in-RotR.is) (turned-bits t us ks.items cut cut c.requires.a refl is))
    c.turned-in-RotR.ensures
