use Rattle.term_subst.proofs.Gaining.{none-gained}
use Rattle.passes.proofs.rewriters.ExpansionRewriter.rewrite.Goals as goal

pub returns-in_err-id-clause-drawn : goal.returns-in_err-id-clause-drawn
returns-in_err-id-clause-drawn c = none-gained c.args.fresh.now c.args.table.now.symbols c.shannon.new.table.symbols c.shannon.ensures.symbols

pub returns-clause-drawn : goal.returns-clause-drawn
returns-clause-drawn c = none-gained c.args.fresh.now c.args.table.now.symbols c.shannon.new.table.symbols c.shannon.ensures.symbols
