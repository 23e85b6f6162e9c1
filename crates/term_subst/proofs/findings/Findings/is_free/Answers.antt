use Rattle.term_subst.proofs.NamesFound.{list-found, names-found, names-put}
use Rattle.term_subst.proofs.findings.Findings.is_free.Goals as goal

pub names_of-requires : goal.names_of-requires
names_of-requires c = (list-found c.args.table.now c.find.new.self.lists c.args.node c.symbols.result.now c.in_ok-find.ensures.fits.lists c.in_ok-find.ensures.found c.symbols.ensures).symbols

pub returns-clause-fits : goal.returns-clause-fits
returns-clause-fits c =
    let list = list-found c.args.table.now c.find.new.self.lists c.args.node c.symbols.result.now c.in_ok-find.ensures.fits.lists c.in_ok-find.ensures.found c.symbols.ensures in
    let names = names-found c.args.table.now c.args.node c.symbols.result.now c.in_ok-names.names list c.in_ok-names.ensures in record {
      lists = c.in_ok-find.ensures.fits.lists;
      names = names-put c.args.table.now c.find.new.self.names c.put.new.self c.args.node c.in_ok-names.names c.in_ok-find.ensures.fits.names c.requires.node names c.in_ok-put.ensures;
    }
