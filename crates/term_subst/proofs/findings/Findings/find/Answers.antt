use Rattle.term_subst.proofs.NamesFound.{lists-put}
use Rattle.term_subst.proofs.findings.Findings.find.Goals as goal

pub returns-clause-fits : goal.returns-clause-fits
returns-clause-fits c = record {
  lists =
      lists-put c.args.table.now c.list_free.new.lists c.put.new.self c.args.node c.in_ok-symbols.symbols c.in_ok-symbols.ensures.lists c.requires.node c.in_ok-symbols.ensures.free c.in_ok-put.ensures;
  names = c.requires.fits.names;
}
