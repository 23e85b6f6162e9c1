use Rattle.term_table.specs.Formulas.{tree}
use Rattle.smt_terms.proofs.StoredTerms.{fine_term}
use Rattle.array_forms.proofs.OverWrites.{makes-equal}
use Rattle.array_forms.proofs.reading.equation.Goals as goal

pub intern-requires : goal.intern-requires
intern-requires c =
    let t = c.args.table.now in
    let f = fine_term (tree t c.args.a) (c.know_table.ensures.sorted c.args.a.0 c.requires.a) in
    makes-equal t c.args.a c.args.b c.requires.a c.requires.b f.sort f.has c.requires.same_sort
