-- The rank of a shape, and the sorts of a node's operands as a table names them.
use Rattle.std.specs.Prelude.{List, length, Option, Some, None, Result, Err, if◌then◌else◌}
use Rattle.smt_terms.specs.declared.ids.NodeId.{NodeId}
use Rattle.smt_terms.specs.Sorts.{Sort}
use Rattle.smt_terms.specs.Rank.{Fault, wrong_arity, Shape, admits, arity, places, first_misfit, accepted, in_range, result_of}
use Rattle.term_table.specs.declared.fault.RankFault.{RankFault}
use Rattle.term_table.specs.Faults.{fault_seen}
use Rattle.term_table.specs.Formulas.{Formulas, trees_at, sorts_in}

abbrev pub shape_rank : Shape → List Sort → Result Sort Fault
shape_rank sh ss =
    if admits (arity sh) (length ss)
    then accepted (first_misfit 0 (places sh ss) ss) (in_range sh ss) (result_of sh ss)
    else Err wrong_arity

-- the sorts of these nodes
abbrev pub kid_sorts : Formulas → List NodeId → List Sort
kid_sorts t ks = sorts_in (trees_at t ks)

abbrev pub misfit_seen : List Sort → Option RankFault → Option Fault
misfit_seen ss None = None
misfit_seen ss (Some e) = Some (fault_seen ss e)
