use Rattle.std.proofs.Common.{ap, ◌∙◌, length}
use Rattle.term_walk.specs.Marks.{marked_below}
use Rattle.term_walk.proofs.Marks.{count-marked}
use Rattle.term_walk.proofs.count.count_nodes.Goals as goal

pub returns : goal.returns
returns c =
    c.count_marks.ensures
    ∙ ap (λ ms. marked_below ms (length ms)) c.as_slice.ensures.value
    ∙ count-marked c.args.table.now c.args.roots.now c.in_ok-marks.marks.items c.in_ok-marks.ensures.marks c.requires c.in_ok-marks.ensures.table c.in_ok-marks.ensures.len
