use Rattle.std.proofs.Common.{◌≤◌, arith}
use Rattle.smt_values.specs.Compounds.{sorts_of}
use Rattle.smt_values.proofs.Compounds.{IsBelow-found}
use Rattle.smt_values.proofs.sort_table.SortTable.compound.Goals as goal

pub returns-clause-below : goal.returns-clause-below
returns-clause-below c =
    let le : 130 ≤ c.args.sort.0 = omega arith in
    IsBelow-found c.self.inside.compounds.keys (sorts_of c.self.inside.compounds.keys) c.self.invariant c.args.sort.0 le c.get_index.result c.get_index.ensures.key
