use Rattle.quantifier_forms_tests.proofs.Spared.{marked-over}
use Rattle.quantifier_forms_tests.proofs.tests.spared.is_spared_over.Goals as goal

pub returns-then-is_short : goal.returns-then-is_short
returns-then-is_short c s told = marked-over s c.args.table.now c.args.marks.now c.args.id c.kids-kids.result.now (c.is_short.ensures s c.if-is_short.true) c.kids-kids.ensures.terms (c.are_marked.ensures told) (c.requires.marks s)
