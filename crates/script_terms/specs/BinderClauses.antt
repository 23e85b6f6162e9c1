-- Sorted variables as the code holds them.
use Rattle.std.specs.Prelude.{◌≡◌, ◌<◌, List, length, All, Some}
use Rattle.smt_lex.specs.Lex.{Token, symbol_of}
use Rattle.smt_lex.specs.Forest.{token_at}
use Rattle.smt_values.specs.SortIds.{IsSortId}
use Rattle.term_table.specs.Formulas.{Formulas}
use Rattle.script_terms.specs.declared.binders.Binder.{Binder}
use Rattle.script_terms.specs.declared.binders.Binder.TheVariants.{Quantifier, Definition}
use Rattle.script_terms.specs.declared.binders.SortedName.{SortedName}
use Rattle.script_terms.specs.Bound.{name_at}
use Rattle.script_terms.specs.Known.{IsOwnName}
use Rattle.script_terms.specs.Variables.{Binder as BinderOf, quantifier_binder, definition_binder}

abbrev pub binder_seen : Binder → BinderOf
binder_seen Quantifier = quantifier_binder
binder_seen Definition = definition_binder

-- a token that is a symbol and no name of the theories, and a sort of the table
pub record IsSortedName (t : Formulas) (ts : List Token) (x : SortedName) : Type 0 where
  pub token : x.name < length ts
  pub symbol : symbol_of (token_at ts x.name) ≡ Some (name_at ts x.name)
  pub own : IsOwnName (name_at ts x.name)
  pub sort : IsSortId t.sorts x.sort

abbrev pub AreSortedNames : Formulas → List Token → List SortedName → Type 0
AreSortedNames t ts xs = All (IsSortedName t ts) xs
