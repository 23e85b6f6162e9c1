use Rattle.std.proofs.Common.{◌<◌, length, get_or, sym, ◌∙◌, subst}
use Rattle.std.proofs.lemmas.List.{length-set}
use Rattle.smt_terms.specs.declared.ids.NodeId.{NodeId}
use Rattle.term_walk.proofs.Marks.{mark-one}
use Rattle.term_walk.proofs.count.mark.Goals as goal

pub loop-id-preserved : goal.loop-id-preserved
loop-id-preserved c =
    let d : NodeId = record { 0 = 0 } in
    let k = get_or c.args.ids.now c.loop-id.id-index d in
    let within : k.0 < length c.loop-id.marks.items = subst (λ (n : _). k.0 < n) (sym c.loop-id.invariant.len) (c.requires c.loop-id.id-index d c.loop-id-test.true) in
    record {
      len = length-set c.loop-id.marks.items k.0 _ ∙ c.loop-id.invariant.len;
      marks = mark-one c.loop-id.marks.items c.args.marks.now.items c.args.ids.now c.loop-id.id-index d c.loop-id-test.true within c.loop-id.invariant.marks;
    }
