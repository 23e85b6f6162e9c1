use Rattle.std.proofs.Common.{◌≡◌, map, length, sym, ◌∙◌, None}
use Rattle.smt_values.specs.SortIds.{sort_at}
use Rattle.std.proofs.lemmas.List.{length-map}
use Rattle.smt_terms.specs.Rank.{fixed}
use Rattle.term_table.specs.ShapeRank.{kid_sorts, shape_rank}
use Rattle.term_table.proofs.Ranks.{fixed-rank, sort-narrow, accepted-narrow, length-kid_sorts}
use Rattle.term_table.proofs.table.Table.application.Goals as goal

pub returns-in-None-clause-rank : goal.returns-in-None-clause-rank
returns-in-None-clause-rank c =
    let ss = c.args.self.now.sorts in
    let us = kid_sorts c.args.self.now c.args.kids.now in
    let from = map (sort_at ss) c.symbol_rank.result.0.now in
    let to = sort_at ss c.symbol_rank.result.1 in
    let number : length us ≡ length from = length-kid_sorts c.args.self.now c.args.kids.now ∙ c.if-kids-args.false ∙ sym (length-map c.symbol_rank.result.0.now (sort_at ss)) in
    sym ((λ i. shape_rank (fixed (sym c.symbol_rank.ensures.args i) (sym c.symbol_rank.ensures.to i)) us) ∙ fixed-rank from us to None number (sym c.in-None.ensures.fault)
    ∙ accepted-narrow to (sort-narrow ss c.symbol_rank.ensures.table.sorts c.symbol_rank.result.1 c.symbol_rank.ensures.to_within))
