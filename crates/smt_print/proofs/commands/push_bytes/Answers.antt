use Rattle.std.proofs.Common.{arith}
use Rattle.smt_print.proofs.CommandLines.{byte-more}
use Rattle.smt_print.proofs.commands.push_bytes.Goals as goal

pub loop-i-preserved : goal.loop-i-preserved
loop-i-preserved c =
    let lt = c.loop-i-test.true in
    byte-more c.args.out.now c.loop-i.out c.push.new.self c.args.bytes.now c.loop-i.i c.get.result (omega (arith, c.len-i-end.ensures)) c.get.ensures c.loop-i.invariant c.in_ok-push.ensures
