use Rattle.std.proofs.Common.{◌-◌, length, take, ap, ◌∙◌, arith}
use Rattle.std.proofs.lemmas.List.{length-take}
use Rattle.ackermann.proofs.ReachedUses.{taken-fewer}
use Rattle.ackermann.proofs.uses.LiveUses.truncate.Goals as goal

pub loop-self-smaller : goal.loop-self-smaller
loop-self-smaller c =
    let more = c.loop-self-test.true in
    let is = c.pop.ensures in
    let l = length-take (length c.loop-self.self - 1) c.loop-self.self in
    let n = ap length is ∙ l in
    omega (arith, n, c.len.ensures)

pub loop-self-preserved : goal.loop-self-preserved
loop-self-preserved c =
    let more = c.loop-self-test.true in
    let is = c.len.ensures in
    ap (take c.args.len) c.pop.ensures ∙ taken-fewer c.args.len (length c.loop-self.self - 1) c.loop-self.self (omega arith) ∙ c.loop-self.invariant
