use Rattle.std.proofs.Common.{◌≡◌, List, length, replicate, IfOk, ap, sym, ◌∙◌, subst}
use Rattle.std.proofs.lemmas.List.{length-map}
use Rattle.smt_terms.specs.Term.{Term}
use Rattle.term_table.specs.Formulas.{tree_in, trees_at}
use Rattle.bit_blast.specs.BitNodes.{AreBits}
use Rattle.bit_blast.specs.Blasted.{term_gates}
use Rattle.bit_blast.specs.Circuits.{difference}
use Rattle.bit_blast.proofs.BitLists.{trees-stay, trees-repeated}
use Rattle.bit_blast.proofs.sums.opposite.Goals as goal

pub returns-clause-bits : goal.returns-clause-bits
returns-clause-bits c =
    let t = c.args.table.now in
    let now = c.truth.new.table in
    let count : length (trees_at t c.args.a.now) ≡ length c.args.a.now = length-map c.args.a.now (tree_in t.trees) in
    let zeros =
    ap (trees_at now) (c.deref.ensures.value ∙ c.in_ok-zeros.ensures)
    ∙ trees-repeated now c.in_ok-zero.zero (length c.args.a.now)
    ∙ (λ i. replicate (sym count i) (c.in_ok-zero.ensures.term i)) in
    subst (λ (us : List Term). IfOk c.difference.result (λ ks. AreBits c.difference.new.table ks.items us))
    (λ i. difference term_gates (zeros i) (trees-stay t now c.args.a.now c.truth.ensures.grows c.requires.a i))
    c.difference.ensures.bits
