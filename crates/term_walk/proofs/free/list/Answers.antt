use Rattle.std.proofs.Common.{◌∙◌, ap}
use Rattle.term_walk.specs.FreeLists.{named}
use Rattle.term_walk.proofs.FreeScan.{listed-one}
use Rattle.term_walk.proofs.free.list.Goals as goal

pub returns-clause-names : goal.returns-clause-names
returns-clause-names c = ap (named c.args.table.now) c.in_ok-insert.ensures.keys ∙ listed-one c.args.table.now c.know_table.ensures c.args.listed.now.keys c.args.symbol c.requires.listed c.requires.symbol
