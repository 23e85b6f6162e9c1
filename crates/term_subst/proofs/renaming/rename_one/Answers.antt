use Rattle.term_subst.proofs.Growing.{findings-grow}
use Rattle.term_subst.proofs.renaming.rename_one.Goals as goal

pub returns-clause-findings : goal.returns-clause-findings
returns-clause-findings c = findings-grow c.args.table.now c.bind.new.table c.in_ok-bound.ensures.gains.grows c.is_captured.new.findings c.in_ok-captured.ensures.findings
