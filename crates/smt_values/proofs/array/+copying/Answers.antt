use Rattle.std.proofs.Common.{rules, ◌≡◌, ◌<◌, ◌≤◌, ◌∙◌, sym, ap, arith, length}
use Rattle.smt_terms.specs.Values.{Pairs}
use Rattle.smt_values.specs.Meaning.{meaning, pairs_of}
use Rattle.smt_values.specs.Tables.{Table, with_pair, value_depth, pairs_depth}
use Rattle.smt_values.proofs.Pairs.{held_at, depth_at, pairs_of-take}
use Rattle.smt_values.proofs.array.+copying.Goals as goal

pub copy_array-copy_value-requires-in-loop-pair : goal.copy_array-copy_value-requires-in-loop-pair
copy_array-copy_value-requires-in-loop-pair t c =
    let lt : c.loop-pair.pair-index < length c.pairs-pairs.result.now = omega arith in
    let deep : value_depth (meaning c.pair-item.result.key) ≤ pairs_depth (pairs_of c.pairs-pairs.result.now) = (depth_at c.pairs-pairs.result.now c.loop-pair.pair-index c.pair-item.result lt c.pair-item.is).0 in
    let whole : pairs_depth (pairs_of c.pairs-pairs.result.now) ≡ pairs_depth c.args.array.now.pairs = ap pairs_depth c.pairs-pairs.ensures.pairs in
    (search rules, (held_at c.pairs-pairs.result.now c.loop-pair.pair-index c.pair-item.result lt c.pair-item.is c.pairs-pairs.ensures.held).0)

pub copy_array-copy_value-requires-in-loop-pair-2 : goal.copy_array-copy_value-requires-in-loop-pair-2
copy_array-copy_value-requires-in-loop-pair-2 t c =
    let lt : c.loop-pair.pair-index < length c.pairs-pairs.result.now = omega arith in
    let deep : value_depth (meaning c.pair-item.result.value) ≤ pairs_depth (pairs_of c.pairs-pairs.result.now) = (depth_at c.pairs-pairs.result.now c.loop-pair.pair-index c.pair-item.result lt c.pair-item.is).1 in
    let whole : pairs_depth (pairs_of c.pairs-pairs.result.now) ≡ pairs_depth c.args.array.now.pairs = ap pairs_depth c.pairs-pairs.ensures.pairs in
    (search rules, (held_at c.pairs-pairs.result.now c.loop-pair.pair-index c.pair-item.result lt c.pair-item.is c.pairs-pairs.ensures.held).1)

pub copy_array-loop-pair-preserved : goal.copy_array-loop-pair-preserved
copy_array-loop-pair-preserved t c =
    let lt : c.loop-pair.pair-index < length c.pairs-pairs.result.now = omega arith in
    let before = c.loop-pair.invariant in
    let whole : Pairs → Table = λ ps. record { fallback = c.args.array.now.fallback; pairs = ps } in
    c.in_ok-push.ensures
    ∙ (λ j. record { fallback = (before j).fallback; pairs = with_pair (before j).pairs (c.in_ok-key.ensures.value j) (c.in_ok-value.ensures.value j) })
    ∙ ap whole (sym (pairs_of-take c.pairs-pairs.result.now c.loop-pair.pair-index c.pair-item.result lt c.pair-item.is))
