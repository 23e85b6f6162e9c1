-- Entries, and the tables that they give, as a program holds them.
use Rattle.std.specs.Prelude.{◌≡◌, ℕ, ◌≤◌, false, List, map, length, Option, Some, None, All, IfSome}
use Rattle.std.specs.Borrow.{Bor}
use Rattle.smt_lex.specs.Lex.{Token}
use Rattle.smt_terms.specs.Sorts.{Name}
use Rattle.term_table.specs.Formulas.{Formulas}
use Rattle.script_read.specs.Commands.{Signature}
use Rattle.models.specs.LiveNumbers.{IsFreeSort}
use Rattle.script_terms.specs.Places.{IsForm, form_from, forms_from}
use Rattle.model_texts.specs.Entries as plain
use Rattle.model_texts.specs.Entries.{symbol_named}
use Rattle.model_texts.specs.GivenParameters.{parameters_of}
use Rattle.model_texts.specs.GivenTables.{graph_given, IsHeldTable}
use Rattle.model_texts.specs.Proper.{is_table_name}
use Rattle.model_texts.specs.SignatureNames.{SignatureNames, sort_of_name, owner_of_name, owned, IsOwnerOf, table_name}
use Rattle.model_texts.specs.declared.entries.Entry.{Entry}
use Rattle.model_texts.specs.declared.entries.Entry.TheVariants.{Function as FunctionHeld, SortName, Elements}
use Rattle.model_texts.specs.declared.entries.Function.{Function}
use Rattle.model_texts.specs.declared.entries.Given.{Given}
use Rattle.model_texts.specs.declared.names.Owner.{Owner}
use Rattle.model_texts.specs.declared.names.Owner.TheVariants.{Symbol, Numbers}

-- ---- entries, by the numbers of tokens

abbrev pub function_held : List Token → Function → plain.Entry
function_held ts f = plain.function f.name.now (parameters_of ts f.parameters) (form_from ts f.to) (form_from ts f.body)

pub record IsFunctionAt (ts : List Token) (f : Function) : Type 0 where
  pub parameters : All (λ p. IsForm ts p.1) f.parameters
  pub to : IsForm ts f.to
  pub body : IsForm ts f.body

-- what an entry is
abbrev pub IsEntryAt : List Token → Option plain.Entry → Option Entry → Type 0
IsEntryAt ts e None = e ≡ None
IsEntryAt ts e (Some (FunctionHeld f)) = (e ≡ Some (function_held ts f)) × IsFunctionAt ts f
IsEntryAt ts e (Some SortName) = e ≡ Some plain.sort_name
IsEntryAt ts e (Some (Elements sort first)) = (e ≡ Some (plain.elements (form_from ts sort) (forms_from ts first))) × IsForm ts sort × (first ≤ length ts)

abbrev pub IsFunctionIn : List Token → Option plain.Entry → Option Function → Type 0
IsFunctionIn ts e None = e ≡ None
IsFunctionIn ts e (Some f) = (e ≡ Some (function_held ts f)) × IsFunctionAt ts f

-- ---- tables with their names

abbrev pub NamedTables : Type 0
NamedTables = List (Bor (List ℕ) × Given)

abbrev pub table_given : Bor (List ℕ) × Given → plain.Given
table_given e = record { name = e.0.now; graph = graph_given e.1.table }

abbrev pub tables_given : NamedTables → List plain.Given
tables_given es = map table_given es

-- a table is for what its name says
pub record IsNamedBy (names : SignatureNames) (e : Bor (List ℕ) × Given) : Type 0 where
  pub owner : owner_of_name names e.0.now ≡ Some e.1.owner
  pub held : IsHeldTable e.1.table

abbrev pub AreNamedBy : SignatureNames → NamedTables → Type 0
AreNamedBy names es = All (IsNamedBy names) es

-- the sorts and symbols of these names are of the table
pub record AreNamesIn (t : Formulas) (names : SignatureNames) : Type 0 where
  pub sorts : (n : Name) → IfSome (sort_of_name names n) (IsFreeSort t)
  pub owners : (n : Name) → IfSome (owner_of_name names n) (IsOwnerOf t)

-- ---- tables for the symbols of a signature

-- a symbol has no name of a table of `div` or `mod` by zero
abbrev pub IsNameOfOwner : Name → Owner → Type 0
IsNameOfOwner n (Symbol f) = is_table_name n ≡ false
IsNameOfOwner n (Numbers part) = n ≡ table_name part

pub record IsTableOf (t : Formulas) (sig : Signature) (e : Bor (List ℕ) × Given) : Type 0 where
  pub named : symbol_named sig e.0.now ≡ Some (owned t e.1.owner)
  pub name : IsNameOfOwner e.0.now e.1.owner
  pub owner : IsOwnerOf t e.1.owner
  pub held : IsHeldTable e.1.table

abbrev pub AreTablesOf : Formulas → Signature → NamedTables → Type 0
AreTablesOf t sig es = All (IsTableOf t sig) es
