use Rattle.smt_values.proofs.Words.{nat2bv-and}
use Rattle.smt_values.proofs.apply.word.Word.bvand.Goals as goal

pub returns-clause-vector : goal.returns-clause-vector
returns-clause-vector c = nat2bv-and c.args.self.width c.args.self.bits c.args.other.bits
