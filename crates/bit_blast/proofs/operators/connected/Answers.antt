use Rattle.std.proofs.Common.{◌≡◌, [], ◌∷◌, map, All, ap, sym, ◌∙◌, subst}
use Rattle.std.proofs.lemmas.Result.{IfOk-weaker}
use Rattle.smt_terms.specs.Sorts.{bool}
use Rattle.smt_terms.specs.Term.{op}
use Rattle.smt_terms.specs.Rank.{rank}
use Rattle.term_table.specs.Formulas.{trees_at}
use Rattle.normal_forms.specs.Nodes.{IsFormula}
use Rattle.bit_blast.specs.BitNodes.{AreBits}
use Rattle.bit_blast.specs.Blasted.{term_gates}
use Rattle.bit_blast.specs.Circuits as plain
use Rattle.bit_blast.specs.OperandBits.{first_of, operand_bits}
use Rattle.bit_blast.proofs.OperandLists.{alone-bits, constant-map, first-formulas, first-terms}
use Rattle.bit_blast.proofs.operators.connected.Goals as goal

firsts : (c : goal.After-deref) → c.deref.result.now ≡ map (first_of c.args.lists.now) c.args.kids.now
firsts c = c.deref.ensures.value ∙ c.in_ok-operands.ensures

pub connective-requires-clause-kids : goal.connective-requires-clause-kids
connective-requires-clause-kids c =
    subst (λ ks. All (IsFormula c.args.table.now) ks) (sym (firsts c)) (first-formulas c.args.table.now c.args.lists.now c.args.kids.now c.requires.kids)

pub connective-requires-clause-rank : goal.connective-requires-clause-rank
connective-requires-clause-rank c =
    ap (λ ks. rank (op c.args.op) (map (λ _. bool) ks)) (firsts c)
    ∙ ap (rank (op c.args.op)) (constant-map (first_of c.args.lists.now) bool c.args.kids.now)
    ∙ c.requires.rank

pub returns-clause-bits : goal.returns-clause-bits
returns-clause-bits c =
    let t = c.args.table.now in
    let ls = c.args.lists.now in
    let is : trees_at t c.deref.result.now ≡ map (plain.only_bit term_gates) (operand_bits t ls c.args.kids.now) =
    ap (trees_at t) (c.deref.ensures.value ∙ c.in_ok-operands.ensures) ∙ first-terms t ls c.args.kids.now c.requires.kids in
    IfOk-weaker c.alone.result (λ ks. ks.items ≡ c.in_ok-bit.bit ∷ []) (λ ks. AreBits c.connective.new.table ks.items (plain.connective term_gates c.args.op (operand_bits t ls c.args.kids.now)))
    (λ ks alone.
    alone-bits c.connective.new.table ks.items c.in_ok-bit.bit (term_gates c.args.op (map (plain.only_bit term_gates) (operand_bits t ls c.args.kids.now)))
    c.in_ok-bit.ensures.formula (c.in_ok-bit.ensures.term ∙ ap (term_gates c.args.op) is) alone)
    c.alone.ensures
