use Rattle.term_subst.proofs.Gaining.{none-gained}
use Rattle.passes.proofs.rewriters.NegationRewriter.rewrite.Goals as goal

pub returns-in_err-id-clause-drawn : goal.returns-in_err-id-clause-drawn
returns-in_err-id-clause-drawn g c = none-gained c.args.fresh.now c.args.table.now.symbols c.nnf_kept.new.table.symbols c.nnf_kept.ensures.symbols

pub returns-clause-drawn : goal.returns-clause-drawn
returns-clause-drawn g c = none-gained c.args.fresh.now c.args.table.now.symbols c.nnf_kept.new.table.symbols c.nnf_kept.ensures.symbols
