use Rattle.std.proofs.Common.{◌<◌, length, take, sym, subst, arith}
use Rattle.std.proofs.lemmas.Option.{IfSome_then}
use Rattle.smt_values.specs.FlatKeys.{AreKeysOf}
use Rattle.smt_values.specs.Meaning.{meaning, pairs_of}
use Rattle.smt_values.proofs.Pairs.{pairs_of-take}
use Rattle.smt_values.proofs.value.keys_of.Goals as goal

pub loop-pair-preserved : goal.loop-pair-preserved
loop-pair-preserved c =
    let ps = c.args.pairs.now in
    let i = c.loop-pair.pair-index in
    let lt : i < length ps = omega arith in
    IfSome_then c.in_ok-places.places c.in_ok-places.ensures
    (λ s more. subst (λ qs. AreKeysOf qs s.keys) (sym (pairs_of-take ps i c.pair-item.result lt c.pair-item.is)) (more (pairs_of (take i ps)) (meaning c.pair-item.result.value) c.loop-pair.invariant))
