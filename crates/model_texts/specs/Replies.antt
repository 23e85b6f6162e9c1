-- How the code's answers stand for what the definitions give: a value with the elements that were met then, or a refusal.
use Rattle.std.specs.Prelude.{◌≡◌, ℕ, List, map, Result, Ok, Err}
use Rattle.smt_lex.specs.Names.{Name}
use Rattle.smt_lex.specs.Lex.{line_at}
use Rattle.smt_terms.specs.declared.ids.SortId.{SortId}
use Rattle.smt_values.specs.SortIds.{sort_at}
use Rattle.term_table.specs.Formulas.{Formulas}
use Rattle.script_read.specs.CommandLists.{free_name}
use Rattle.models.specs.LiveNumbers.{IsFreeSort}
use Rattle.model_texts.specs.declared.faults.Cause.{Cause}
use Rattle.model_texts.specs.declared.faults.Cause.TheVariants.{ModelForm, ModelSort, NotATable, ModelNumber, ModelTwice}
use Rattle.model_texts.specs.declared.faults.TextFault.{TextFault}
use Rattle.model_texts.specs.declared.faults.TextFault.TheVariants.{Refused, Memory}
use Rattle.model_texts.specs.Refusals as plain
use Rattle.model_texts.specs.Reading.{Element, names_in}

abbrev pub cause_of : Cause → plain.Cause
cause_of ModelForm = plain.model_form
cause_of ModelSort = plain.model_sort
cause_of NotATable = plain.not_a_table
cause_of ModelNumber = plain.model_number
cause_of ModelTwice = plain.model_twice

-- the elements of each sort that were met, in order, by the sort's number: the lists that are kept are these names
abbrev pub AreElementsOf : Formulas → (SortId → List Name) → List Element → Type 0
AreElementsOf t names es = (s : SortId) → IsFreeSort t s → names_in es (free_name (sort_at t.sorts s)) ≡ names s

-- an answer of code for what a definition gives: related to it, with the elements that are known then, or its refusal
abbrev pub Replies : {A B : Type 0} → (A → B → Type 0) → (List Element → Type 0) → Result (B × List Element) plain.Refused → Result A TextFault → Type 0
Replies R known (Ok p) (Ok a) = R a p.0 × known p.1
Replies R known (Err r) (Err (Refused cause place)) = r ≡ record { cause = cause_of cause; place = place }
Replies R known r (Err Memory) = Unit {0}
Replies R known _ _ = ⊥
