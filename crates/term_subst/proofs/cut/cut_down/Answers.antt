use Rattle.std.proofs.Common.{get_or, refl}
use Rattle.smt_terms.specs.declared.ids.SymId.{SymId}
use Rattle.term_subst.specs.Maps.{map_at}
use Rattle.term_subst.proofs.MapsAt.{cut-more}
use Rattle.term_subst.proofs.cut.cut_down.Goals as goal

pub loop-symbol-preserved : goal.loop-symbol-preserved
loop-symbol-preserved c =
    let t = c.args.table.now in
    let i = c.loop-symbol.symbol-index in
    let d : SymId = record { 0 = 0 } in record {
      map =
          cut-more t (map_at t c.args.map.now) c.args.symbols.now i d (get_or c.args.symbols.now i d) (map_at t c.loop-symbol.cut.items) (map_at t c.take_along.new.cut.items) c.loop-symbol-test.true refl c.loop-symbol.invariant.map
          c.in_ok-take_along.ensures.map;
      within = c.in_ok-take_along.ensures.within;
    }
