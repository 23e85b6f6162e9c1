-- Applications as the code makes them.
use Rattle.std.specs.Prelude.{◌≡◌, ℕ, List, [], map, Option, Some, None, Result, Ok, Err}
use Rattle.smt_terms.specs.declared.ids.NodeId.{NodeId}
use Rattle.smt_terms.specs.declared.ids.SymId.{SymId}
use Rattle.smt_terms.specs.Fresh.{Supply}
use Rattle.smt_terms.specs.Rank.{rank, Fault}
use Rattle.smt_terms.specs.Sorts.{Sort, bool}
use Rattle.smt_terms.specs.Term.{symbol, Term}
use Rattle.term_table.specs.declared.fault.RankFault.{RankFault}
use Rattle.term_table.specs.declared.fault.RankFault.TheVariants.{WrongArity as WrongArityFault, WrongSort as WrongSortFault, BadIndex as BadIndexFault, WidthLimit as WidthLimitFault}
use Rattle.term_table.specs.Formulas.{Formulas, tree, symbol_at}
use Rattle.term_table.specs.ShapeRank.{kid_sorts}
use Rattle.sort_check.specs.declared.fault.MakeFault.{MakeFault}
use Rattle.sort_check.specs.declared.fault.MakeFault.TheVariants.{Rank, Memory as MakeMemory}
use Rattle.script_terms.specs.declared.causes.Cause.{Cause}
use Rattle.script_terms.specs.declared.causes.Cause.TheVariants.{WrongArity, WrongSort, BadIndex, WidthLimit}
use Rattle.script_terms.specs.declared.faults.ReadFault.{ReadFault}
use Rattle.script_terms.specs.declared.faults.ReadFault.TheVariants.{Refused as RefusedFor, Memory}
use Rattle.script_terms.specs.Known.{IsSpared}
use Rattle.script_terms.specs.Reading.{ReadBinding, Sofar}
use Rattle.script_terms.specs.Refusals.{Refused, cause_of}
use Rattle.script_terms.specs.Replies.{Refuses}

-- the causes of an application's faults, as the code has them
abbrev pub cause_for : RankFault → Cause
cause_for WrongArityFault = WrongArity
cause_for (WrongSortFault k have want) = WrongSort
cause_for BadIndexFault = BadIndex
cause_for WidthLimitFault = WidthLimit

-- what is answered where a node was to be made for a list at this place
abbrev pub answer_of : ℕ → Result NodeId MakeFault → Result NodeId ReadFault
answer_of place (Ok k) = Ok k
answer_of place (Err (Rank e)) = Err (RefusedFor (record { cause = cause_for e; place = place }))
answer_of place (Err MakeMemory) = Err Memory

-- the answer is the term of the reading, which leaves these names and the live bindings as they are
abbrev pub ReadsWith : Formulas → Supply → List ReadBinding → Result (Term × Sofar) Refused → Result NodeId ReadFault → Type 0
ReadsWith t supply live r (Ok k) = IsSpared t supply k × (r ≡ Ok (tree t k, record { live = live; supply = supply }))
ReadsWith t supply live r (Err e) = Refuses r e

-- the rank of a definition's arguments
abbrev pub arguments_rank : Formulas → List SymId → List NodeId → Result Sort Fault
arguments_rank t params arguments = rank (symbol (record { name = []; args = map (λ f. (symbol_at t f).result) params; result = bool })) (kid_sorts t arguments)

-- the cause of the rank's fault, if it has one
abbrev pub MeetsFault : Result Sort Fault → Option Cause → Type 0
MeetsFault r None = r ≡ Ok bool
MeetsFault r (Some cause) = (e : Fault) × (r ≡ Err e) × (cause_of e ≡ cause)
