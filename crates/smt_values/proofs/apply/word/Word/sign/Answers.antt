use Rattle.smt_values.proofs.WordLaws.{sign_bit}
use Rattle.smt_values.proofs.apply.word.Word.sign.Goals as goal

pub returns : goal.returns
returns c = sign_bit c.args.self.width c.args.self.bits c.args.self.some c.args.self.below
