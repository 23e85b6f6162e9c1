use Rattle.std.proofs.Common.{arith}
use Rattle.smt_terms.specs.declared.ids.NodeId.{NodeId}
use Rattle.smt_terms.specs.declared.ids.SymId.{SymId}
use Rattle.term_subst.specs.Substituting.{IsPair}
use Rattle.term_subst.proofs.Images.{images-set, pairs-set}
use Rattle.term_subst.proofs.cut.as_map.Goals as goal

pub loop-place-preserved : goal.loop-place-preserved
loop-place-preserved c =
    let some = c.loop-place-test.true in
    let room = c.loop-place.invariant.room in
    let d : SymId × NodeId = (record { 0 = 0 }, record { 0 = 0 }) in record {
      images = images-set c.args.pairs.now c.loop-place.place d c.loop-place.map c.set.new.self some room c.in_ok-set.ensures.set c.loop-place.invariant.images;
      within = λ t all. pairs-set c.args.pairs.now c.loop-place.place d c.loop-place.map c.set.new.self some room c.in_ok-set.ensures.set (IsPair t) all (c.loop-place.invariant.within t all);
      room = omega arith;
    }
