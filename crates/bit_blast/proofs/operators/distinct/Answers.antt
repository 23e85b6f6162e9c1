use Rattle.std.proofs.Common.{◌≡◌, ◌<◌, [], ◌∷◌, true, map, length, get_or, replicate, All, Some, ap, sym, ◌∙◌, subst, arith}
use Rattle.std.proofs.lemmas.Result.{IfOk-weaker}
use Rattle.smt_terms.specs.Operators.{first_sort}
use Rattle.smt_terms.specs.Rank.{sort_of}
use Rattle.smt_terms.specs.Sorts.{bool}
use Rattle.term_table.specs.Formulas.{sorts_in, tree, trees_at}
use Rattle.normal_forms.specs.Nodes.{IsFormula}
use Rattle.bit_blast.specs.BitNodes.{AreBits}
use Rattle.bit_blast.specs.Blasted.{term_gates}
use Rattle.bit_blast.specs.Circuits as plain
use Rattle.bit_blast.specs.OperandBits.{nodes_of, operand_bits}
use Rattle.bit_blast.proofs.DistinctOperands.{distinct-rank, distinct-vectors, first-other, each-copied, copied-bits, each-width}
use Rattle.bit_blast.proofs.OperandLists.{alone-bits, number}
use Rattle.bit_blast.proofs.operators.distinct.Goals as goal
use Rattle.bit_blast.proofs.operators.distinct.Goals.{After-deref}

pub connected-requires-clause-rank : goal.connected-requires-clause-rank
connected-requires-clause-rank c = distinct-rank c.args.lists.now c.args.kids.now c.requires.same

copied : (c : After-deref) → map (λ v. v.now) c.deref.result.now ≡ map (nodes_of c.args.lists.now) c.args.kids.now
copied c = ap (map (λ v. v.now)) c.deref.ensures.value ∙ c.in_ok-vectors.ensures

pub apart-requires-clause-vectors : goal.apart-requires-clause-vectors
apart-requires-clause-vectors c =
    each-copied (λ v. v.now) c.args.lists.now c.deref.result.now c.args.kids.now (copied c) (All (IsFormula c.args.table.now)) (λ i d lt. (c.requires.kids i d lt).formulas)

pub apart-requires-clause-width : goal.apart-requires-clause-width
apart-requires-clause-width c =
    let alike = c.requires.same in
    (alike.0, alike.2, each-copied (λ v. v.now) c.args.lists.now c.deref.result.now c.args.kids.now (copied c) (λ us. length us ≡ alike.0) (each-width c.args.lists.now c.args.kids.now alike))

pub returns-clause-bits : goal.returns-clause-bits
returns-clause-bits c =
    let t = c.args.table.now in
    let ls = c.args.lists.now in
    let kids = c.args.kids.now in
    let new = c.apart.new.table in
    let bit = c.in_ok-bit.bit in
    let uss = operand_bits t ls kids in
    let bits : map (λ v. trees_at t v.now) c.deref.result.now ≡ uss = copied-bits (λ v. v.now) ls c.deref.result.now kids (copied (goal.at.returns-clause-bits c).After-deref) t in
    let count = number ls kids (c.requires.same.0 ∷ c.requires.same.0 ∷ replicate c.requires.same.1 c.requires.same.0) c.requires.same.3 in
    let some : 0 < length kids = omega (arith, count) in
    let other = λ (e : sort_of (tree t (get_or kids 0 record { 0 = 0 })) ≡ Some bool). let yes : c.is_formula.result ≡ true = c.is_formula.ensures.1 e in let no = c.if-is_formula.false in absurd {A = ⊥} cc in
    let vectors : plain.distinct term_gates (first_sort (sorts_in (trees_at t kids))) uss ≡ plain.joined term_gates (plain.apart term_gates uss) ∷ [] =
    distinct-vectors term_gates (first_sort (sorts_in (trees_at t kids))) uss (first-other t kids (record { 0 = 0 }) c.requires.table c.requires.nodes some other) in
    IfOk-weaker c.alone.result (λ ks. ks.items ≡ bit ∷ []) (λ ks. AreBits new ks.items (plain.distinct term_gates (first_sort (sorts_in (trees_at t kids))) uss))
    (λ ks is.
    subst (AreBits new ks.items) (sym vectors)
    (alone-bits new ks.items bit (plain.joined term_gates (plain.apart term_gates uss)) c.in_ok-bit.ensures.formula
    (c.in_ok-bit.ensures.term ∙ ap (λ vss. plain.joined term_gates (plain.apart term_gates vss)) bits) is))
    c.alone.ensures
