-- The equations of conditions as a program holds them: by the places of parameters and the numbers of tokens.
use Rattle.std.specs.Prelude.{◌≡◌, ℕ, ◌<◌, ◌==◌, List, [], map, length, get_or, count_by, Option, option_map, IfSome, All, IsTrue}
use Rattle.smt_lex.specs.Lex.{Token}
use Rattle.smt_terms.specs.Sorts.{Sort, bool, Variable}
use Rattle.smt_terms.specs.declared.ids.SortId.{SortId}
use Rattle.smt_values.specs.SortIds.{sort_at, IsSortId, IsSortList}
use Rattle.term_table.specs.Formulas.{Formulas}
use Rattle.script_terms.specs.Places.{IsForm, form_from}
use Rattle.model_texts.specs.declared.conditions.Side.{Side}
use Rattle.model_texts.specs.declared.conditions.Side.TheVariants.{Holds, Written}
use Rattle.model_texts.specs.declared.conditions.Equation.{Equation}
use Rattle.model_texts.specs.GivenParameters.{NamedSorts, variables_at}
use Rattle.model_texts.specs.Proper.{are_distinct}
use Rattle.model_texts.specs.Tables as plain

abbrev pub no_variable : Variable
no_variable = record { name = []; sort = bool }

abbrev pub side_at : List Token → Side → plain.Side
side_at ts (Holds b) = plain.holds b
side_at ts (Written i) = plain.written (form_from ts i)

abbrev pub equation_at : List Token → List Variable → Equation → plain.Equation
equation_at ts xs e = record { parameter = get_or xs e.parameter no_variable; side = side_at ts e.side }

abbrev pub equations_at : List Token → List Variable → List Equation → List plain.Equation
equations_at ts xs es = map (equation_at ts xs) es

-- ---- what holds of each

-- sorts of the table
pub record AreSortsOf (t : Formulas) (args : List SortId) : Type 0 where
  pub table : IsSortList t.sorts
  pub within : All (IsSortId t.sorts) args

abbrev pub sort_of : List SortId → ℕ → SortId
sort_of args i = get_or args i (record { 0 = 0 })

-- a truth value stands at sort Bool alone
abbrev pub IsSideAt : List Token → SortId → Side → Type 0
IsSideAt ts s (Holds b) = s.0 ≡ 0
IsSideAt ts s (Written i) = IsForm ts i

-- an equation about one of the parameters of these sorts
pub record IsEquationAt (ts : List Token) (args : List SortId) (e : Equation) : Type 0 where
  pub within : e.parameter < length args
  pub side : IsSideAt ts (sort_of args e.parameter) e.side

-- each of so many parameters has one equation
abbrev pub NamesEachOnce : ℕ → List Equation → Type 0
NamesEachOnce n es = (i : ℕ) → i < n → count_by (λ e. e.parameter == i) es ≡ 1

-- variables of these sorts, of distinct names
pub record AreVariablesOf (ss : List Sort) (args : List SortId) (xs : List Variable) : Type 0 where
  pub sorts : map (λ x. x.sort) xs ≡ map (sort_at ss) args
  pub distinct : IsTrue (are_distinct (map (λ x. x.name) xs))

-- ---- answers

-- what is found is what a reading of the parameters gives
pub record GivesEquation (ts : List Token) (args : List SortId) (ps : NamedSorts) (read : List Variable → Option plain.Equation) (found : Option Equation) : Type 0 where
  pub equation : (t : Formulas) → AreSortsOf t args → read (variables_at t ts args ps) ≡ option_map (equation_at ts (variables_at t ts args ps)) found
  pub held : IfSome found (IsEquationAt ts args)

pub record GivesEquations (ts : List Token) (args : List SortId) (ps : NamedSorts) (read : List Variable → Option (List plain.Equation)) (found : Option (List Equation)) : Type 0 where
  pub equations : (t : Formulas) → AreSortsOf t args → read (variables_at t ts args ps) ≡ option_map (equations_at ts (variables_at t ts args ps)) found
  pub held : IfSome found (All (IsEquationAt ts args))
