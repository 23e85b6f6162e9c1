use Rattle.std.proofs.Common.{◌∙◌, ap, sym, true, false}
use Rattle.term_walk.specs.FreeLists.{named}
use Rattle.term_walk.proofs.FreeScan.{unbound-one}
use Rattle.term_walk.proofs.free.keep_unbound.Goals as goal

pub returns-then-contains-clause-names : goal.returns-then-contains-clause-names
returns-then-contains-clause-names c = unbound-one c.args.table.now c.know_table.ensures c.args.bound.now.keys c.args.free.now.items c.args.symbol c.requires.bound c.requires.symbol true (sym c.contains.ensures ∙ c.if-contains.true)

pub returns-clause-names : goal.returns-clause-names
returns-clause-names c = ap (named c.args.table.now) c.in_ok-push.ensures.items ∙ unbound-one c.args.table.now c.know_table.ensures c.args.bound.now.keys c.args.free.now.items c.args.symbol c.requires.bound c.requires.symbol false (sym c.contains.ensures ∙ c.if-contains.false)
