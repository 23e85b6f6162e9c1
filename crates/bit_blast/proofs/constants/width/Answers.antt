use Rattle.std.proofs.Common.{unwrap_or, ap, ◌∙◌}
use Rattle.smt_values.specs.SortIds.{sort_at}
use Rattle.bit_blast.specs.Blasted.{width_of}
use Rattle.bit_blast.proofs.VectorNodes.{number-width, width-or-none, vector-sort}
use Rattle.bit_blast.proofs.constants.width.Goals as goal

pub returns : goal.returns
returns c =
    let t = c.args.table.now in
    c.unwrap_or.ensures
    ∙ ap (λ o. unwrap_or o 0) (number-width t.sorts c.sort_of.ensures.table.sorts c.sort_of.result c.sort_of.ensures.within c.width.result c.width.ensures)
    ∙ width-or-none (sort_at t.sorts c.sort_of.result)
    ∙ ap width_of (vector-sort t c.sort_of.ensures.table c.args.vector c.requires (sort_at t.sorts c.sort_of.result) c.sort_of.ensures.sort)
