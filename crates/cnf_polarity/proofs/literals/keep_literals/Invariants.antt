use Rattle.std.proofs.Common.{◌≡◌}
use Rattle.term_walk.specs.Walking.{GrowsTo}
use Rattle.cnf_polarity.specs.Literals.{names_at}
use Rattle.cnf_polarity.proofs.KeptNames.{KeepsNames}
use Rattle.cnf_polarity.proofs.KeptLiterals.{KeepsLiterals}
use Rattle.cnf_polarity.proofs.literals.keep_literals.Given as goal

abbrev pub invariant-loop-i : goal.invariant-loop-i
invariant-loop-i l = KeepsNames l.fn.named l.fn.names l.i l.literals

abbrev pub invariant-loop-id : goal.invariant-loop-id
invariant-loop-id l = record {
  grows : GrowsTo l.fn.table l.table;
  symbols : l.table.symbols ≡ l.fn.table.symbols;
  sorts : l.table.sorts ≡ l.fn.table.sorts;
  literals : KeepsLiterals l.fn.table l.table (names_at l.fn.table l.fn.named l.fn.names) l.fn.order l.id-index l.literals;
}
