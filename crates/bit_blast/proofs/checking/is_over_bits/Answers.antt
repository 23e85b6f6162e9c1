use Rattle.std.proofs.Common.{◌≡◌, ◌<◌, true, not, get_or, sym, ◌∙◌, ap, arith}
use Rattle.smt_terms.specs.Rank.{sort_of}
use Rattle.term_table.specs.Formulas.{tree, AreNodes}
use Rattle.bit_blast.specs.Blasted.{is_bits_sort}
use Rattle.bit_blast.specs.Subterms.{is_plain}
use Rattle.bit_blast.proofs.FaultNodes.{over-bits}
use Rattle.bit_blast.proofs.checking.is_over_bits.Goals as goal
use Rattle.bit_blast.proofs.checking.is_over_bits.Goals.{then-is_plain, else-is_plain}

both : (c : goal.After-any_fault) → (is_plain (tree c.args.table.now c.args.id) ≡ true) × (is_bits_sort (sort_of (tree c.args.table.now c.args.id)) ≡ true)
both c = elim c.if-is_plain.branch [
  | then-is_plain w ↦ (sym c.is_plain.ensures ∙ w.if-is_plain.true, sym w.has_bits.ensures ∙ sym w.value-is ∙ c.if-has_bits.true)
  | else-is_plain w ↦ absurd cc
]

pub returns-then-has_bits : goal.returns-then-has_bits
returns-then-has_bits c =
    let t = c.args.table.now in
    let ks = c.kids.result.now in
    let test = both c in
    let here = c.requires.node in
    let nodes : AreNodes t ks = λ i d lt. (let below : (get_or ks i d).0 < c.args.id.0 = c.kids.ensures.below i d lt in omega arith) in
    ap not c.any_fault.ensures ∙ over-bits t c.args.faults.now.keys ks (tree t c.args.id) test.0 test.1 nodes c.kids.ensures.terms c.requires.operands
