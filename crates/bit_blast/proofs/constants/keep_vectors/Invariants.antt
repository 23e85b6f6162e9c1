use Rattle.std.proofs.Common.{◌≡◌, true, length, take, All}
use Rattle.std.specs.List.{flat_map}
use Rattle.term_table.specs.Formulas.{trees_at}
use Rattle.term_groups.specs.Seen.{named_at}
use Rattle.bit_blast.specs.Subterms.{constant_bits, is_kept, AreKept}
use Rattle.bit_blast.proofs.constants.keep_vectors.Given as goal

abbrev pub invariant-loop-vector : goal.invariant-loop-vector
invariant-loop-vector l = record {
  start : l.start ≡ length (flat_map constant_bits (trees_at l.table (take l.vector-index l.vectors)));
  kept : AreKept l.table (named_at l.table l.constants.symbols) l.lists;
  done : All (λ k. is_kept l.lists k ≡ true) (take l.vector-index l.vectors);
}
