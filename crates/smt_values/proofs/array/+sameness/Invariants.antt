use Rattle.std.proofs.Common.{◌≡◌, ◌<◌, ◌≤◌, ℕ, ◌+◌, ◌-◌, ◌*◌, max, drop, true}
use Rattle.smt_terms.specs.Values as plain
use Rattle.smt_values.specs.Meaning.{meaning, pairs_of}
use Rattle.smt_values.specs.Places.{place_from}
use Rattle.smt_values.specs.SizeTable.{sizes_by}
use Rattle.smt_values.specs.SortIds.{sort_at}
use Rattle.smt_values.specs.Valid.{agree_at, has_number}
use Rattle.smt_values.proofs.array.+sameness.Given as goal

abbrev pub decreases-same : goal.decreases-same
decreases-same l = 8 * l.sort.0 + 8

abbrev pub decreases-same_arrays : goal.decreases-same_arrays
decreases-same_arrays l = 8 * l.sort.0 + 7

abbrev pub decreases-agree : goal.decreases-agree
decreases-agree l = 8 * max l.index.0 l.element.0 + 13

abbrev pub decreases-cover : goal.decreases-cover
decreases-cover l = 8 * l.index.0 + 13

abbrev pub decreases-has_number : goal.decreases-has_number
decreases-has_number l = 8 * l.index.0 + 12

abbrev pub decreases-has_key : goal.decreases-has_key
decreases-has_key l = 8 * l.index.0 + 11

abbrev pub decreases-select : goal.decreases-select
decreases-select l = 8 * l.index.0 + 11

abbrev pub decreases-find : goal.decreases-find
decreases-find l = 8 * l.index.0 + 10

abbrev pub decreases-find_among : goal.decreases-find_among
decreases-find_among l = 8 * l.index.0 + 9

-- what the pairs that are left still say
abbrev pub invariant-agree-loop-pair : goal.invariant-agree-loop-pair
invariant-agree-loop-pair l =
    agree_at (sort_at l.sorts l.index) (sort_at l.sorts l.element) (sizes_by l.sorts l.sizes) (pairs_of l.pairs) l.a l.b
    ≡ agree_at (sort_at l.sorts l.index) (sort_at l.sorts l.element) (sizes_by l.sorts l.sizes) (pairs_of (drop l.pair-index l.pairs)) l.a l.b

-- each number so far is that of a key
abbrev pub invariant-cover-loop-index : goal.invariant-cover-loop-index
invariant-cover-loop-index l =
    (l.number ≤ l.last) × ((n : ℕ) → n < l.number → has_number (sort_at l.sorts l.index) (sizes_by l.sorts l.sizes) l.a l.b n ≡ true)

abbrev pub decreases-cover-loop-index : goal.decreases-cover-loop-index
decreases-cover-loop-index l = l.last - l.number

abbrev pub invariant-find_among-loop-i : goal.invariant-find_among-loop-i
invariant-find_among-loop-i l =
    place_from 0 (plain.same (sort_at l.sorts l.index) (sizes_by l.sorts l.sizes)) (meaning l.key) (pairs_of l.pairs)
    ≡ place_from l.i (plain.same (sort_at l.sorts l.index) (sizes_by l.sorts l.sizes)) (meaning l.key) (pairs_of (drop l.i l.pairs))
