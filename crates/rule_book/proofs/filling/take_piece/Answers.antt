use Rattle.std.proofs.Common.{List, sym, subst}
use Rattle.smt_terms.specs.declared.ids.NodeId.{NodeId}
use Rattle.term_table.specs.Formulas.{trees_at}
use Rattle.rule_book.specs.Filling.{Give}
use Rattle.rule_book.specs.Seen.{piece_seen}
use Rattle.rule_book.proofs.Fillings.{sorted-trees, next-results}
use Rattle.rule_book.proofs.filling.take_piece.Goals as goal

pub returns-clause-give : goal.returns-clause-give
returns-clause-give c =
    λ ps whole gives.
    let t = c.args.table.now in
    let u = c.result_of.new.table in
    let holes = c.args.holes.now in
    subst (λ (ks : List NodeId). Give u (trees_at t holes) ps whole ks) (sym c.push.ensures.items)
    (next-results t u (trees_at t holes) (piece_seen c.args.piece) ps whole c.args.results.now.items c.result_of.new.results.items c.in_ok-id.id
    c.know_table.ensures (sorted-trees t holes c.know_table.ensures c.requires.holes) gives c.in_ok-id.ensures.grows c.in_ok-id.ensures.node c.in_ok-id.ensures.term c.in_ok-id.ensures.left c.in_ok-id.ensures.nodes)
