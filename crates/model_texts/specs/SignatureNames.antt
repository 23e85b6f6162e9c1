-- The sorts and symbols of a signature by their names, as a program holds them.
use Rattle.std.specs.Prelude.{◌≡◌, ℕ, if◌then◌else◌, List, [], ◌∷◌, map, Option, Some, None, option_map, IfSome}
use Rattle.std.specs.Borrow.{Bor}
use Rattle.smt_lex.specs.Names.{is_among}
use Rattle.smt_terms.specs.Equal.{name_eq}
use Rattle.smt_terms.specs.Sorts.{Name, Symbol, free_sort}
use Rattle.smt_terms.specs.declared.ids.SortId.{SortId}
use Rattle.smt_terms.specs.declared.ids.SymId.{SymId}
use Rattle.smt_values.specs.SortIds.{sort_at}
use Rattle.term_table.specs.Formulas.{Formulas, symbol_at, IsSymbol}
use Rattle.script_read.specs.CommandLists.{free_name}
use Rattle.models.specs.LiveNumbers.{LiveNumbers, signature_of, IsFreeSort}
use Rattle.models.specs.declared.model.Division.{Division}
use Rattle.models.specs.declared.model.Division.TheVariants.{Quotient, Remainder}
use Rattle.model_texts.specs.declared.names.Owner.{Owner}
use Rattle.model_texts.specs.declared.names.Owner.TheVariants.{Symbol as OfSymbol, Numbers}
use Rattle.model_texts.specs.Entries.{division_table, modulus_table, table_symbol, symbol_among, symbol_named}

pub record SignatureNames : Type 0 where
  pub sorts : List (Name × SortId)
  pub symbols : List (Name × SymId)

-- the entries of a map, with the names as they are read
abbrev pub by_name : {A : Type 0} → List (Bor (List ℕ) × A) → List (Name × A)
by_name es = map (λ e. (e.0.now, e.1)) es

-- what a list has at a name
abbrev pub at_name : {A : Type 0} → List (Name × A) → Name → Option A
at_name [] n = None
at_name (e ∷ es) n = if name_eq n e.0 then Some e.1 else at_name es n

abbrev pub sort_of_name : SignatureNames → Name → Option SortId
sort_of_name names n = at_name names.sorts n

-- the part of the results of division by zero whose table has this name
abbrev pub part_named : Name → Option Division
part_named n = if name_eq n division_table then Some Quotient else (if name_eq n modulus_table then Some Remainder else None)

-- a table is for a part, or else for the symbol of its name
abbrev pub part_or_symbol : Option Division → Option SymId → Option Owner
part_or_symbol (Some part) f = Some (Numbers part)
part_or_symbol None f = option_map OfSymbol f

abbrev pub owner_of_name : SignatureNames → Name → Option Owner
owner_of_name names n = part_or_symbol (part_named n) (at_name names.symbols n)

abbrev pub table_name : Division → Name
table_name Quotient = division_table
table_name Remainder = modulus_table

-- the symbol that a table is for
abbrev pub owned : Formulas → Owner → Symbol
owned t (OfSymbol f) = symbol_at t f
owned t (Numbers part) = table_symbol (table_name part)

abbrev pub IsOwnerOf : Formulas → Owner → Type 0
IsOwnerOf t (OfSymbol f) = IsSymbol t f
IsOwnerOf t (Numbers part) = Unit {0}

-- the sorts of these numbers, by their names
pub record AreSortsNamed (t : Formulas) (ss : List SortId) (es : List (Name × SortId)) : Type 0 where
  pub sorts : (n : Name) → option_map (λ s. sort_at t.sorts s) (at_name es n) ≡ (if is_among (map (λ s. free_name (sort_at t.sorts s)) ss) n then Some (free_sort n) else None)
  pub free : (n : Name) → IfSome (at_name es n) (IsFreeSort t)

-- the first of the symbols of these numbers that has a name, by the name
pub record AreSymbolsNamed (t : Formulas) (fs : List SymId) (es : List (Name × SymId)) : Type 0 where
  pub symbols : (n : Name) → option_map (symbol_at t) (at_name es n) ≡ symbol_among (map (symbol_at t) fs) n
  pub within : (n : Name) → IfSome (at_name es n) (IsSymbol t)

-- the names are those of the signature
pub record AreNamesOf (t : Formulas) (l : LiveNumbers) (names : SignatureNames) : Type 0 where
  pub owners : (n : Name) → option_map (owned t) (owner_of_name names n) ≡ symbol_named (signature_of t l) n
  pub symbols : (n : Name) → IfSome (owner_of_name names n) (IsOwnerOf t)
  pub sorts : (n : Name) → option_map (λ s. sort_at t.sorts s) (sort_of_name names n) ≡ (if is_among (signature_of t l).sorts n then Some (free_sort n) else None)
  pub free : (n : Name) → IfSome (sort_of_name names n) (IsFreeSort t)
