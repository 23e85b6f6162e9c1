use Rattle.std.proofs.Common.{◌≡◌, map, drop}
use Rattle.smt_terms.specs.Rank.{has_name, symbol_name}
use Rattle.term_table.specs.Formulas.{trees_at}
use Rattle.term_table.proofs.table.Table.is_named.Given as goal

abbrev pub invariant-loop-kid : goal.invariant-loop-kid
invariant-loop-kid l = has_name l.name (map symbol_name (trees_at l.self l.kids)) ≡ has_name l.name (drop l.kid-index (map symbol_name (trees_at l.self l.kids)))
