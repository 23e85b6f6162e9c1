use Rattle.std.proofs.Common.{◌≡◌, true, take, All}
use Rattle.term_walk.specs.Walking.{GrowsTo}
use Rattle.term_groups.specs.Seen.{named_at}
use Rattle.bit_blast.specs.Subterms.{is_kept, AreKept}
use Rattle.bit_blast.proofs.blasting.keep_all.Given as goal

abbrev pub invariant-loop-id : goal.invariant-loop-id
invariant-loop-id l = record {
  grows : GrowsTo l.fn.table l.table;
  symbols : l.table.symbols ≡ l.fn.table.symbols;
  sorts : l.table.sorts ≡ l.fn.table.sorts;
  kept : AreKept l.table (named_at l.fn.table l.constants.symbols) l.lists;
  vectors : All (λ k. is_kept l.lists k ≡ true) l.vectors;
  done : All (λ k. is_kept l.lists k ≡ true) (take l.id-index l.order);
}
