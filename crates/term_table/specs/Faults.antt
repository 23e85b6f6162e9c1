-- The faults of a rank as a caller sees them, whose sorts are numbers.
use Rattle.std.specs.Prelude.{List, Result, Ok, Err}
use Rattle.smt_terms.specs.declared.ids.SortId.{SortId}
use Rattle.smt_terms.specs.Sorts.{Sort}
use Rattle.smt_terms.specs.Rank.{Fault, wrong_arity, wrong_sort, bad_index, width_limit}
use Rattle.smt_values.specs.SortIds.{sort_at, IsSortId}
use Rattle.term_table.specs.declared.fault.RankFault.{RankFault}
use Rattle.term_table.specs.declared.fault.RankFault.TheVariants.{WrongArity, WrongSort, BadIndex, WidthLimit}

abbrev pub fault_seen : List Sort → RankFault → Fault
fault_seen ss WrongArity = wrong_arity
fault_seen ss (WrongSort k have want) = wrong_sort k (sort_at ss have) (sort_at ss want)
fault_seen ss BadIndex = bad_index
fault_seen ss WidthLimit = width_limit

-- the answer of a rank, with the sorts that its numbers name
abbrev pub rank_seen : List Sort → Result SortId RankFault → Result Sort Fault
rank_seen ss (Ok s) = Ok (sort_at ss s)
rank_seen ss (Err e) = Err (fault_seen ss e)

abbrev pub IsFaultOver : List Sort → RankFault → Type 0
IsFaultOver ss (WrongSort k have want) = IsSortId ss have × IsSortId ss want
IsFaultOver ss _ = Unit {0}

-- the numbers in the answer are numbers of sorts
abbrev pub IsRankOver : List Sort → Result SortId RankFault → Type 0
IsRankOver ss (Ok s) = IsSortId ss s
IsRankOver ss (Err e) = IsFaultOver ss e
