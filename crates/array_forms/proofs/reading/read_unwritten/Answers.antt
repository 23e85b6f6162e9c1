use Rattle.std.proofs.Common.{ap, sym, ◌∙◌, arith}
use Rattle.smt_terms.specs.declared.ids.NodeId.{NodeId}
use Rattle.term_table.specs.Formulas.{tree}
use Rattle.array_forms.specs.Reads.{read}
use Rattle.array_forms.proofs.OverWrites.{filled-kids, never-filled, read-other}
use Rattle.array_forms.proofs.reading.read_unwritten.Goals as goal

pub bounds-kids-0 : goal.bounds-kids-0
bounds-kids-0 c =
    let s = filled-kids c.args.table.now c.args.array c.in-ConstArray.field-0 c.kids.result.now c.op.ensures.table c.requires.array c.in-ConstArray.ensures.term c.kids.ensures.terms in
    let n = s.number in
    omega arith

pub returns-in-ConstArray-clause-term : goal.returns-in-ConstArray-clause-term
returns-in-ConstArray-clause-term c =
    let t = c.args.table.now in
    let s = filled-kids t c.args.array c.in-ConstArray.field-0 c.kids.result.now c.op.ensures.table c.requires.array c.in-ConstArray.ensures.term c.kids.ensures.terms in
    let none_yet : NodeId = record { 0 = 0 } in
    ap (λ a. read a (tree t c.args.index)) (sym (s.term none_yet))

pub returns-in_ok-id-in_default-clause-term : goal.returns-in_ok-id-in_default-clause-term
returns-in_ok-id-in_default-clause-term c =
    let t = c.args.table.now in
    let u = tree t c.args.array in
    c.in_ok-id-in_default.ensures.term ∙ sym (read-other u (tree t c.args.index) c.requires.unwritten (never-filled t c.op.result u c.op.ensures.term c.in_default.not-ConstArray))
