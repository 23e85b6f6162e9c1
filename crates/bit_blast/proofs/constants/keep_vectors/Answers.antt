use Rattle.std.proofs.Common.{◌≡◌, ◌+◌, true, get_or, take, ap, arith}
use Rattle.std.proofs.lemmas.List.Elements.{All-more, All-weaker}
use Rattle.smt_terms.specs.declared.ids.NodeId.{NodeId}
use Rattle.term_groups.specs.Seen.{named_at}
use Rattle.bit_blast.specs.Subterms.{is_kept}
use Rattle.bit_blast.proofs.VectorBits.{within, more-length, vector-kept}
use Rattle.bit_blast.proofs.SettledBits.{sets-kept, sets-stay, sets-here}
use Rattle.bit_blast.proofs.constants.keep_vectors.Goals as goal

abbrev first : NodeId
first = record { 0 = 0 }

pub prove-unreachable-requires : goal.prove-unreachable-requires
prove-unreachable-requires c =
    let some = within c.args.table.now c.know_table.ensures c.args.vectors.now c.args.constants.now c.requires c.loop-vector.vector-index first c.loop-vector-test.true in
    omega arith

pub overflow_add-end : goal.overflow_add-end
overflow_add-end c =
    let some = within c.args.table.now c.know_table.ensures c.args.vectors.now c.args.constants.now c.requires c.loop-vector.vector-index first c.loop-vector-test.true in
    omega arith

pub nodes_between-requires-clause-end : goal.nodes_between-requires-clause-end
nodes_between-requires-clause-end c =
    let some = within c.args.table.now c.know_table.ensures c.args.vectors.now c.args.constants.now c.requires c.loop-vector.vector-index first c.loop-vector-test.true in
    omega arith

pub loop-vector-preserved : goal.loop-vector-preserved
loop-vector-preserved c =
    let t = c.args.table.now in
    let vs = c.args.vectors.now in
    let i = c.loop-vector.vector-index in
    let k = get_or vs i first in
    let js = c.in_ok-bits.bits in
    let old = c.loop-vector.lists in
    let new = c.set.new.self in
    let more = more-length t c.know_table.ensures vs c.args.constants.now c.requires i first c.loop-vector-test.true in
    record {
      start = omega arith;
      kept =
          sets-kept t (named_at t c.args.constants.now.symbols) old new k js.items c.in_ok-set.ensures.ok c.loop-vector.invariant.kept
          (vector-kept t c.know_table.ensures vs c.args.constants.now c.requires i first c.loop-vector-test.true c.loop-vector.start (c.loop-vector.start + c.width.result) js.items c.loop-vector.invariant.start (ap (λ n. c.loop-vector.start + n) c.width.ensures) c.in_ok-bits.ensures);
      done =
          All-more (λ j. is_kept new j ≡ true) vs i first c.loop-vector-test.true
          (All-weaker (λ j. is_kept old j ≡ true) (λ j. is_kept new j ≡ true) (sets-stay old new k js.items c.in_ok-set.ensures.ok) (take i vs) c.loop-vector.invariant.done)
          (sets-here old new k js.items c.in_ok-set.ensures.ok);
    }
