-- The tables that a text gives, before a model is made of them.
use Rattle.std.specs.Prelude.{◌≡◌, ℕ, List, [], codes, Result}
use Rattle.smt_lex.specs.Forms.{Forms}
use Rattle.smt_lex.specs.Lex.{line_at}
use Rattle.term_table.specs.Formulas.{Formulas}
use Rattle.script_read.specs.Commands.{Signature}
use Rattle.script_terms.specs.Refusals.{and_then}
use Rattle.models.specs.LiveNumbers.{LiveNumbers, signature_of}
use Rattle.model_texts.specs.Entries.{Given, entries_given}
use Rattle.model_texts.specs.GivenFits.{AreFit}
use Rattle.model_texts.specs.GivenEntries.{NamedTables, tables_given}
use Rattle.model_texts.specs.Met.{MetNames, names_kept}
use Rattle.model_texts.specs.ModelText.{parts, nothing_behind, without_word}
use Rattle.model_texts.specs.Reading.{Element}
use Rattle.model_texts.specs.Refusals.{Refused}
use Rattle.model_texts.specs.Replies.{AreElementsOf}
use Rattle.model_texts.specs.declared.faults.Cause.{Cause}
use Rattle.model_texts.specs.declared.faults.Cause.TheVariants as causes
use Rattle.model_texts.specs.declared.faults.TextFault.{TextFault}
use Rattle.model_texts.specs.declared.faults.TextFault.TheVariants as faults
use Rattle.model_texts.specs.declared.faults.ModelFault.{ModelFault}
use Rattle.model_texts.specs.declared.faults.ModelFault.TheVariants.{ModelForm, ModelSort, NotATable, ModelNumber, ModelTwice, Memory}

abbrev pub tables_of_entries : Signature → Forms × Forms → Result (List Given × List Element) Refused
tables_of_entries sig p = and_then (nothing_behind p.1) (entries_given sig [] p.0 [])

-- the tables with the elements that were met; the text ends at this place
abbrev pub tables_in : Signature → ℕ → Forms → Result (List Given × List Element) Refused
tables_in sig end fs = and_then (tables_of_entries sig) (parts end (without_word (codes "sat") fs))

-- the tables and elements that a program holds are these, and fit the signature
pub record AreOfText (t : Formulas) (l : LiveNumbers) (tables : NamedTables) (ms : MetNames) (es : List Element) : Type 0 where
  pub known : AreElementsOf t (names_kept ms) es
  pub fit : AreFit (signature_of t l) es (tables_given tables)

-- ---- refusals with their lines

abbrev pub fault_at : Cause → ℕ → ℕ → ModelFault
fault_at causes.ModelForm line byte = ModelForm line byte
fault_at causes.ModelSort line byte = ModelSort line byte
fault_at causes.NotATable line byte = NotATable line byte
fault_at causes.ModelNumber line byte = ModelNumber line byte
fault_at causes.ModelTwice line byte = ModelTwice line byte

abbrev pub fault_in : List ℕ → TextFault → ModelFault
fault_in bytes (faults.Refused cause byte) = fault_at cause (line_at bytes byte) byte
fault_in bytes faults.Memory = Memory
