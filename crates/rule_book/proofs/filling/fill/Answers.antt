use Rattle.std.proofs.Common.{◌+◌, drop, slice_get, ◌∙◌, subst, arith}
use Rattle.term_table.specs.Formulas.{trees_at}
use Rattle.term_walk.proofs.Visits.{table-grows}
use Rattle.rule_book.specs.Filling.{Give}
use Rattle.rule_book.specs.Seen.{template_seen}
use Rattle.rule_book.specs.Template.{filled}
use Rattle.rule_book.proofs.Fillings.{next-give, trees-stay}
use Rattle.rule_book.proofs.filling.fill.Goals as goal

pub take_piece-requires-clause-give : goal.take_piece-requires-clause-give
take_piece-requires-clause-give c =
    let t = c.args.table.now in
    let holes = c.args.holes.now in (
      drop (c.loop-i.i + 1) (template_seen c.args.template.now),
      (
        filled (slice_get (trees_at t holes)) (template_seen c.args.template.now),
        next-give t c.loop-i.table holes c.args.template.now.pieces c.loop-i.i c.get.result (filled (slice_get (trees_at t holes)) (template_seen c.args.template.now)) c.loop-i.results.items c.loop-i.invariant.grows c.requires.holes c.get.ensures c.loop-i.invariant.give,
      ),
    )

pub loop-i-preserved : goal.loop-i-preserved
loop-i-preserved c =
    let t = c.args.table.now in
    let u = c.loop-i.table in
    let holes = c.args.holes.now in
    let inv = c.loop-i.invariant in
    let whole = filled (slice_get (trees_at t holes)) (template_seen c.args.template.now) in
    let before = inv.few in
    let more = c.in_ok-take_piece.ensures.more in
    let now = c.in_ok-take_piece.ensures.give (drop (c.loop-i.i + 1) (template_seen c.args.template.now)) whole
    (next-give t u holes c.args.template.now.pieces c.loop-i.i c.get.result whole c.loop-i.results.items inv.grows c.requires.holes c.get.ensures inv.give) in
    record {
      grows = table-grows t u c.take_piece.new.table inv.grows c.in_ok-take_piece.ensures.grows;
      symbols = c.in_ok-take_piece.ensures.symbols ∙ inv.symbols;
      sorts = c.in_ok-take_piece.ensures.sorts ∙ inv.sorts;
      give = subst (λ hs. Give c.take_piece.new.table hs (drop (c.loop-i.i + 1) (template_seen c.args.template.now)) whole c.take_piece.new.results.items) (trees-stay t u holes inv.grows c.requires.holes) now;
      few = omega arith;
    }
