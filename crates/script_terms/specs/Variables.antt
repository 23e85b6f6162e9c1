-- Sorted variables, `(x SORT)`: SMT-LIB 2.6, section 3.6, and the parameters of section 4.2.3.
use Rattle.std.specs.Prelude.{ℕ, Bool, true, not, List, [], ◌∷◌, Result, Ok, Option, Some, None}
use Rattle.smt_lex.specs.Names.{Name, is_among, is_reserved_for_declaring}
use Rattle.smt_lex.specs.Forms.{Form, node, Forms, none, ◌⨾◌}
use Rattle.smt_terms.specs.Rank.{is_quantifiable}
use Rattle.smt_terms.specs.Sorts.{Sort, Variable}
use Rattle.script_terms.specs.declared.causes.Cause.TheVariants.{BadForm, Redeclared, ReservedName, QuantifiedSort}
use Rattle.script_terms.specs.Refusals.{Refused, at, and_then, unless, mapped}
use Rattle.script_terms.specs.Parts.{place_of, symbol_in}
use Rattle.script_terms.specs.SortForms.{Sorts, sort_in}

-- what binds a variable
pub data Binder : Type 0 where
  quantifier_binder : Binder
  definition_binder : Binder

-- a quantifier is over truth values and bit vectors alone
abbrev pub may_have : Binder → Sort → Bool
may_have quantifier_binder s = is_quantifiable s
may_have definition_binder s = true

-- a name that stands behind others of its list
abbrev pub fresh_name : {A : Type 0} → List Name → ℕ → Name → Result A Refused → Result A Refused
fresh_name earlier place n next =
    unless (is_reserved_for_declaring n) ReservedName place (unless (is_among earlier n) Redeclared place next)

abbrev pub variable_of : Binder → Sorts → List Name → ℕ → ℕ → Form → Option Name → Result Variable Refused
variable_of b live earlier part place f None = at BadForm part
variable_of b live earlier part place f (Some n) =
    fresh_name earlier place n
    (and_then (λ s. unless (not (may_have b s)) QuantifiedSort (place_of f) (Ok (record { name = n; sort = s }))) (sort_in live f))

-- one variable behind these names: its name is examined, then its sort
abbrev pub variable_in : Binder → Sorts → List Name → Form → Result Variable Refused
variable_in b live earlier (node part (x ⨾ s ⨾ none)) = variable_of b live earlier part (place_of x) s (symbol_in x)
variable_in b live earlier f = at BadForm (place_of f)

-- the variables of a list from left to right
abbrev pub variables_in : Binder → Sorts → List Name → Forms → Result (List Variable) Refused
variables_in b live earlier none = Ok []
variables_in b live earlier (f ⨾ fs) =
    and_then (λ x. mapped (λ xs. x ∷ xs) (variables_in b live (x.name ∷ earlier) fs)) (variable_in b live earlier f)
