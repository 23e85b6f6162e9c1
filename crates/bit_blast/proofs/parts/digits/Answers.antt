use Rattle.std.proofs.Common.{◌≡◌, ◌==◌, ◌%◌, map}
use Rattle.smt_terms.specs.BitVectors.{nat2bv}
use Rattle.bit_blast.proofs.BitParts.{digit, digit-one, digit-zero, digits-push}
use Rattle.bit_blast.proofs.parts.digits.Goals as goal
use Rattle.bit_blast.proofs.parts.digits.Goals.{then-rest-eq1, else-rest-eq1}

pushed : (c : goal.In_ok-push) → c.if-rest-eq1.push ≡ digit c.args.zero c.args.one (c.loop.rest % 2 == 1)
pushed c =
    elim c.if-rest-eq1.branch [
      | then-rest-eq1 w ↦ digit-one c.args.zero c.args.one c.if-rest-eq1.push (c.loop.rest % 2) w.if-rest-eq1.true w.push-is
      | else-rest-eq1 w ↦ digit-zero c.args.zero c.args.one c.if-rest-eq1.push (c.loop.rest % 2) w.if-rest-eq1.false w.push-is
    ]

pub loop-preserved : goal.loop-preserved
loop-preserved c =
    digits-push c.args.zero c.args.one c.if-rest-eq1.push c.loop.nodes.items c.push.new.self.items (map (digit c.args.zero c.args.one) (nat2bv c.args.width c.args.number)) c.args.width c.loop.counter c.loop.rest
    c.loop-test.true c.loop.invariant (pushed c) c.in_ok-push.ensures.items
