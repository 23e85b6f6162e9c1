-- Refusals of scripts: their causes, numbers and places.
use Rattle.std.specs.Prelude.{ℕ, Bool, true, false, Result, Ok, Err, Option, Some, None}
use Rattle.smt_lex.specs.Lex.{Fault}
use Rattle.smt_terms.specs.Rank.{wrong_arity, wrong_sort, bad_index, width_limit, Fault as RankFault}
use Rattle.script_terms.specs.declared.causes.Cause.{Cause}
use Rattle.script_terms.specs.declared.causes.Cause.TheVariants.{WrongArity, WrongSort, WidthLimit, BadIndex, UnknownCommand, UnsupportedCommand, BadForm, UnknownName, Redeclared, ReservedName, PopTooFar, NumberLimit, RealSort, QuantifiedSort, IndexSort, SortArity, UnsupportedOption}

abbrev pub code_of : Cause → ℕ
code_of WrongArity = 20
code_of WrongSort = 21
code_of WidthLimit = 22
code_of BadIndex = 23
code_of UnknownCommand = 30
code_of UnsupportedCommand = 31
code_of BadForm = 32
code_of UnknownName = 33
code_of Redeclared = 34
code_of ReservedName = 35
code_of PopTooFar = 36
code_of NumberLimit = 37
code_of RealSort = 38
code_of QuantifiedSort = 39
code_of IndexSort = 40
code_of SortArity = 41
code_of UnsupportedOption = 42

-- what is wrong, and the first byte of the form that it is wrong with
pub record Refused : Type 0 where
  pub cause : Cause
  pub place : ℕ

abbrev pub at : {A : Type 0} → Cause → ℕ → Result A Refused
at cause place = Err (record { cause = cause; place = place })

-- the same of a command, whose number counts from 1, with the line of the byte
pub record Refusal : Type 0 where
  pub cause : Cause
  pub command : ℕ
  pub line : ℕ
  pub byte : ℕ

-- why a text isn't accepted: a fault of its tokens or parentheses, with its line, or a refusal
pub data Unaccepted : Type 0 where
  unread : Fault → ℕ → Unaccepted
  refused : Refusal → Unaccepted

-- the causes of an application's faults
abbrev pub cause_of : RankFault → Cause
cause_of wrong_arity = WrongArity
cause_of (wrong_sort k have want) = WrongSort
cause_of bad_index = BadIndex
cause_of width_limit = WidthLimit

-- ---- the first refusal counts

abbrev pub and_then : {A B E : Type 0} → (A → Result B E) → Result A E → Result B E
and_then next (Ok a) = next a
and_then next (Err fault) = Err fault

-- refused where the test holds, else what is given
abbrev pub unless : {A : Type 0} → Bool → Cause → ℕ → Result A Refused → Result A Refused
unless true cause place otherwise = at cause place
unless false cause place otherwise = otherwise

-- what is there, or else a refusal
abbrev pub given : {A : Type 0} → Cause → ℕ → Option A → Result A Refused
given cause place (Some a) = Ok a
given cause place None = at cause place

abbrev pub mapped : {A B E : Type 0} → (A → B) → Result A E → Result B E
mapped f (Ok a) = Ok (f a)
mapped f (Err fault) = Err fault
