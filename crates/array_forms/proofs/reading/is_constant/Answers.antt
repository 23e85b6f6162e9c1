use Rattle.std.proofs.Common.{sym}
use Rattle.term_table.specs.Formulas.{tree}
use Rattle.smt_terms.proofs.StoredTerms.{fine_term}
use Rattle.array_forms.proofs.OverWrites.{a-constant, no-constant, a-literal, other-literal}
use Rattle.array_forms.proofs.reading.is_constant.Goals as goal

pub returns-in-Truth : goal.returns-in-Truth
returns-in-Truth c =
    let t = c.args.table.now in
    let u = tree t c.args.id in
    let f = fine_term u (c.op.ensures.table.sorted c.args.id.0 c.requires) in
    sym (a-constant t c.op.result u c.op.ensures.term f.sort f.has (a-literal c.op.result c.in-Truth.is))

pub returns-in_default : goal.returns-in_default
returns-in_default c =
    sym (no-constant c.args.table.now c.op.result (tree c.args.table.now c.args.id) c.op.ensures.term (other-literal c.op.result c.in_default.not-Truth c.in_default.not-Whole c.in_default.not-Bits))
