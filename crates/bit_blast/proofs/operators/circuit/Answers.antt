use Rattle.std.proofs.Common.{◌≡◌, ◌<◌, [], ◌∷◌, length, IfOk, ap, sym, ◌∙◌, subst, arith}
use Rattle.smt_terms.specs.declared.op.Op.TheVariants.{Ite}
use Rattle.smt_terms.specs.Sorts.{bool}
use Rattle.smt_terms.specs.Term.{op}
use Rattle.smt_terms.specs.Rank.{rank}
use Rattle.term_table.specs.Formulas.{sorts_in, trees_at}
use Rattle.bit_blast.specs.BitNodes.{AreBits}
use Rattle.bit_blast.specs.Blasted.{term_gates}
use Rattle.bit_blast.specs.Circuits as plain
use Rattle.bit_blast.specs.OperandBits.{nodes_of, operand_bits, widths, TakesVectors, TakesOne, TakesTwo, TakesBits}
use Rattle.bit_blast.proofs.OperandLists.{constant-map, operand-formulas, only-first, one-operand, two-operands, three-operands, number, width-at}
use Rattle.bit_blast.proofs.OperandsTaken.{IsOther, takes-flags, takes-one, takes-two}
use Rattle.bit_blast.proofs.operators.circuit.Goals as goal
use Rattle.bit_blast.proofs.operators.circuit.Goals.{After-operand-in-Extract, After-operand-in_default-2}

pub connected-requires-clause-rank : goal.connected-requires-clause-rank
connected-requires-clause-rank c =
    ap (rank (op c.args.op)) (sym (constant-map (λ k. length (nodes_of c.args.lists.now k)) bool c.args.kids.now))
    ∙ takes-flags c.args.op (widths c.args.lists.now c.args.kids.now) c.requires.takes c.in-Truth.is

-- ---- one vector

takes_one : (c : After-operand-in-Extract) → TakesOne c.args.op (widths c.args.lists.now c.args.kids.now)
takes_one c = takes-one c.args.op (widths c.args.lists.now c.args.kids.now) c.requires.takes c.in-Extract.is

one : (c : After-operand-in-Extract) → length c.args.kids.now ≡ 1
one c = number c.args.lists.now c.args.kids.now ((takes_one c).0 ∷ []) (takes_one c).1

pub of_vector-requires-clause-a : goal.of_vector-requires-clause-a
of_vector-requires-clause-a c =
    let count = one c in
    operand-formulas c.args.table.now c.args.lists.now c.args.kids.now c.operand-in-Extract.result.now 0 c.requires.kids (omega (arith, count)) c.operand-in-Extract.ensures

pub returns-in-Extract-clause-bits : goal.returns-in-Extract-clause-bits
returns-in-Extract-clause-bits c =
    let t = c.args.table.now in
    let ss = sorts_in (trees_at t c.args.kids.now) in
    subst (λ uss. IfOk c.of_vector.result (λ ks. AreBits c.of_vector.new.table ks.items (plain.circuit term_gates c.args.op ss uss)))
    (sym (one-operand t c.args.lists.now c.args.kids.now c.operand-in-Extract.result.now (one (goal.at.returns-in-Extract-clause-bits c).After-operand-in-Extract) c.operand-in-Extract.ensures))
    (c.of_vector.ensures.bits ss)

-- ---- two vectors

other : (c : After-operand-in_default-2) → IsOther c.args.op
other c = record {
  truth = c.in_default.not-Truth;
  constant = c.in_default.not-Bits;
  negation = c.in_default.not-Not;
  conjunction = c.in_default.not-And;
  disjunction = c.in_default.not-Or;
  exclusive = c.in_default.not-Xor;
  implication = c.in_default.not-Implies;
  distinction = c.in_default.not-Distinct;
  choice = c.in_default.not-Ite;
  part = c.in_default.not-Extract;
  inverse = c.in_default.not-BvNot;
  opposite = c.in_default.not-BvNeg;
  zero_extension = c.in_default.not-ZeroExt;
  sign_extension = c.in_default.not-SignExt;
  turn_left = c.in_default.not-RotL;
  turn_right = c.in_default.not-RotR;
}

takes_two : (c : After-operand-in_default-2) → TakesTwo c.args.op (widths c.args.lists.now c.args.kids.now)
takes_two c = takes-two c.args.op (widths c.args.lists.now c.args.kids.now) c.requires.takes (other c)

two : (c : After-operand-in_default-2) → length c.args.kids.now ≡ 2
two c = number c.args.lists.now c.args.kids.now ((takes_two c).0 ∷ (takes_two c).1 ∷ []) (takes_two c).2

pub of_vectors-requires : goal.of_vectors-requires
of_vectors-requires c =
    let ls = c.args.lists.now in
    let ks = c.args.kids.now in
    let a = c.operand-in_default.result.now in
    let b = c.operand-in_default-2.result.now in
    let count = two c in
    let first : 0 < length ks = omega (arith, count) in
    let second : 1 < length ks = omega (arith, count) in
    let taken = takes_two c in
    let ws = taken.0 ∷ taken.1 ∷ [] in
    let a_width : length a ≡ taken.0 = width-at ls ks ws 0 a taken.2 first c.operand-in_default.ensures in
    let b_width : length b ≡ taken.1 = width-at ls ks ws 1 b taken.2 second c.operand-in_default-2.ensures in
    record {
      a = operand-formulas c.args.table.now ls ks a 0 c.requires.kids first c.operand-in_default.ensures;
      b = operand-formulas c.args.table.now ls ks b 1 c.requires.kids second c.operand-in_default-2.ensures;
      takes = subst (λ v. TakesVectors c.args.op v (length b)) (sym a_width) (subst (λ w. TakesVectors c.args.op taken.0 w) (sym b_width) taken.3);
    }

pub returns-in_default-clause-bits : goal.returns-in_default-clause-bits
returns-in_default-clause-bits c =
    let t = c.args.table.now in
    let ss = sorts_in (trees_at t c.args.kids.now) in
    subst (λ uss. IfOk c.of_vectors.result (λ ks. AreBits c.of_vectors.new.table ks.items (plain.circuit term_gates c.args.op ss uss)))
    (sym (two-operands t c.args.lists.now c.args.kids.now c.operand-in_default.result.now c.operand-in_default-2.result.now (two (goal.at.returns-in_default-clause-bits c).After-operand-in_default-2) c.operand-in_default.ensures c.operand-in_default-2.ensures))
    (c.of_vectors.ensures.bits ss)

-- ---- a choice

pub returns-in-Ite-clause-bits : goal.returns-in-Ite-clause-bits
unfolding plain.circuit
returns-in-Ite-clause-bits c =
    let t = c.args.table.now in
    let ls = c.args.lists.now in
    let kids = c.args.kids.now in
    let ss = sorts_in (trees_at t kids) in
    let g = term_gates in
    let us = c.operand.result.now in
    let vs = c.operand-in-Ite.result.now in
    let ws = c.operand-in-Ite-2.result.now in
    let new = c.choices.new.table in
    let taken : TakesBits Ite (widths ls kids) = subst (λ o. TakesBits o (widths ls kids)) c.in-Ite.is c.requires.takes in
    let count = number ls kids (1 ∷ taken.0 ∷ taken.0 ∷ []) taken.1 in
    let first : 0 < length kids = omega (arith, count) in
    let some : length us ≡ 1 = width-at ls kids (1 ∷ taken.0 ∷ taken.0 ∷ []) 0 us taken.1 first c.operand.ensures in
    subst (λ o. IfOk c.choices.result (λ ks. AreBits new ks.items (plain.circuit g o ss (operand_bits t ls kids)))) (sym c.in-Ite.is)
    (subst (λ uss. IfOk c.choices.result (λ ks. AreBits new ks.items (plain.circuit g Ite ss uss)))
    (sym (three-operands t ls kids us vs ws count c.operand.ensures c.operand-in-Ite.ensures c.operand-in-Ite-2.ensures))
    (subst (λ u. IfOk c.choices.result (λ ks. AreBits new ks.items (plain.chosen g u (trees_at t vs) (trees_at t ws))))
    (only-first t us (record { 0 = 0 }) (omega (arith, some)))
    c.choices.ensures.bits))
