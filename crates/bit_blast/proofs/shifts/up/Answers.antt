use Rattle.std.proofs.Common.{arith}
use Rattle.std.proofs.lemmas.Grind.{common_steps}
use Rattle.bit_blast.proofs.MovedBits.{up-parts}
use Rattle.bit_blast.proofs.shifts.up.Goals as goal

pub returns : goal.returns
returns c =
    let parts = up-parts c.args.bit c.args.n c.args.a.now in
    grind (arith, common_steps, parts)
