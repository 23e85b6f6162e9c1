use Rattle.std.proofs.Common.{◌≡◌, ◌==◌, max, length, if◌then◌else◌, take}
use Rattle.std.specs.List.{list_any}
use Rattle.smt_terms.specs.declared.ids.SortId.{SortId}
use Rattle.smt_values.specs.SizeTable.{size_at}
use Rattle.model_texts.specs.Met.{names_kept}
use Rattle.model_texts.proofs.reader.sizes_of.Given as goal

-- the sorts so far have their sizes
abbrev pub invariant-loop-sort : goal.invariant-loop-sort
invariant-loop-sort l =
    (s : SortId) → size_at l.sizes s ≡ (if list_any (λ sort. s.0 == sort.0) (take l.sort-index l.sort-items) then max 1 (length (names_kept l.elements s)) else 1)
