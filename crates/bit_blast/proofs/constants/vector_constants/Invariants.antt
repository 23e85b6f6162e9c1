use Rattle.std.proofs.Common.{◌≡◌, filter, take}
use Rattle.term_table.specs.Formulas.{trees_at, AreNodes}
use Rattle.bit_blast.specs.Subterms.{is_vector_term}
use Rattle.bit_blast.proofs.constants.vector_constants.Given as goal

abbrev pub invariant-loop-id : goal.invariant-loop-id
invariant-loop-id l = record {
  nodes : AreNodes l.table l.vectors.items;
  terms : trees_at l.table l.vectors.items ≡ filter is_vector_term (trees_at l.table (take l.id-index l.order));
}
