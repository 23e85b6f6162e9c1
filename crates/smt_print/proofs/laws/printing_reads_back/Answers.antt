use Rattle.smt_print.proofs.ScriptsRead.{printing_reads_back}
use Rattle.smt_print.proofs.laws.printing_reads_back.Goals as goal

pub returns : goal.returns
returns c = printing_reads_back
