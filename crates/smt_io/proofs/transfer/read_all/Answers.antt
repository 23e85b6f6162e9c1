use Rattle.std.proofs.Common.{rules, vec_items}
use Rattle.smt_io.proofs.Transfers.{taken_more, given_more, NeverFalls-trans}
use Rattle.smt_io.proofs.transfer.read_all.Goals as goal

pub loop-filled-preserved : goal.loop-filled-preserved
loop-filled-preserved g c =
    let before = c.loop-filled.invariant in
    let block = c.in_ok-n.ensures in
    record {
      within = block.fits;
      most = block.most;
      begun = search rules;
      taken = taken_more _ _ _ (vec_items c.loop-filled.bytes) (vec_items c.read_block.new.bytes) c.loop-filled.filled c.in_ok-n.n before.taken block.front block.bytes;
      given = given_more _ _ _ c.loop-filled.filled c.in_ok-n.n before.given block.given;
      texts = search rules;
      counts = λ n. NeverFalls-trans _ _ _ (before.counts n) (block.counts n);
    }
