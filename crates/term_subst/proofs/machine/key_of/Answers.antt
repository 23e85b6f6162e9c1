use Rattle.std.proofs.Common.{◌∙◌, ap}
use Rattle.smt_terms.specs.Subst.{cut_to}
use Rattle.term_subst.specs.Maps.{map_at}
use Rattle.term_subst.proofs.NamesFound.{list-found}
use Rattle.term_subst.proofs.machine.key_of.Goals as goal

pub cut_down-requires-clause-symbols : goal.cut_down-requires-clause-symbols
cut_down-requires-clause-symbols c = (list-found c.args.table.now c.find.new.self.lists c.args.node c.symbols.result.now c.in_ok-find.ensures.fits.lists c.in_ok-find.ensures.found c.symbols.ensures).symbols

pub returns-clause-fits : goal.returns-clause-fits
returns-clause-fits c =
    c.in_ok-cut.ensures.map
    ∙ ap (λ gs. cut_to gs (map_at c.args.table.now c.args.map.now)) (list-found c.args.table.now c.find.new.self.lists c.args.node c.symbols.result.now c.in_ok-find.ensures.fits.lists c.in_ok-find.ensures.found c.symbols.ensures).names
