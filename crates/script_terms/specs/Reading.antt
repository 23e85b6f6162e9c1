-- What is known while a script is read: the bindings with the terms that their forms are read as, and the names that are
-- left to draw.
use Rattle.std.specs.Prelude.{ℕ, Bool, true, false, ◌||◌, List, [], ◌∷◌, map, Result, Ok, Err, Option, Some, None}
use Rattle.smt_lex.specs.Names.{Name, is_among}
use Rattle.smt_lex.specs.Forms.{Form, Forms}
use Rattle.smt_terms.specs.Equal.{name_eq}
use Rattle.smt_terms.specs.Fresh.{Supply}
use Rattle.smt_terms.specs.Sorts.{Sort, Symbol, Variable}
use Rattle.smt_terms.specs.Term.{Term, variable}
use Rattle.script_terms.specs.declared.causes.Cause.{Cause}
use Rattle.script_terms.specs.Refusals.{Refused, at}
use Rattle.script_terms.specs.Scope.{Local, let_names, quantified_name, parameter_name, Binding, sort_name, function, definition, named, level, or_later, live_sort}
use Rattle.script_terms.specs.SortForms.{Sorts}

-- what a form binds, with what the names are read as: terms, or constants of the variable's sort under this name
pub data ReadLocal : Type 0 where
  lets_as : Forms → List (Name × Term) → ReadLocal
  quantified_as : Variable → Name → ReadLocal
  parameter_as : Variable → Name → ReadLocal

-- what a command binds, with the terms of definitions and names
pub data ReadBinding : Type 0 where
  sort_known : Name → Sort → ReadBinding
  function_known : Symbol → ReadBinding
  definition_as : Name → List Variable → Form → Term → ReadBinding
  named_as : List Name → Form → Term → List ReadLocal → ReadBinding
  level_known : ReadBinding

pub record Sofar : Type 0 where
  -- the live bindings, the latest first
  pub live : List ReadBinding
  pub supply : Supply

-- ---- the same without terms

abbrev pub as_local : ReadLocal → Local
as_local (lets_as fs ts) = let_names fs
as_local (quantified_as x n) = quantified_name x
as_local (parameter_as x n) = parameter_name x

abbrev pub as_binding : ReadBinding → Binding
as_binding (sort_known n s) = sort_name n s
as_binding (function_known f) = function f
as_binding (definition_as n xs body t) = definition n xs body
as_binding (named_as ns f t ls) = named ns f (map as_local ls)
as_binding level_known = level

abbrev pub as_bindings : List ReadBinding → List Binding
as_bindings bs = map as_binding bs

abbrev pub live_sorts : List ReadBinding → Sorts
live_sorts bs = live_sort (as_bindings bs)

abbrev pub is_level_known : ReadBinding → Bool
is_level_known level_known = true
is_level_known _ = false

-- ---- names

-- what a live name stands for
pub data Entry : Type 0 where
  symbol_entry : Symbol → Entry
  definition_entry : List Variable → Term → Entry
  term_entry : Term → Entry

abbrev pub entry_of : List ReadBinding → Name → Option Entry
entry_of [] n = None
entry_of (function_known f ∷ bs) n = or_later (name_eq f.name n) (symbol_entry f) (entry_of bs n)
entry_of (definition_as m xs body t ∷ bs) n = or_later (name_eq m n) (definition_entry xs t) (entry_of bs n)
entry_of (named_as ms f t ls ∷ bs) n = or_later (is_among ms n) (term_entry t) (entry_of bs n)
entry_of (_ ∷ bs) n = entry_of bs n

abbrev pub term_among : List (Name × Term) → Name → Option Term
term_among [] n = None
term_among (p ∷ ps) n = or_later (name_eq p.0 n) p.1 (term_among ps n)

abbrev pub term_or : Option Term → Option Term → Option Term
term_or (Some t) later = Some t
term_or None later = later

abbrev pub constant_as : Variable → Name → Term
constant_as x n = variable (record { name = n; sort = x.sort })

-- what a name is read as that is bound locally: the innermost counts
abbrev pub bound_as : List ReadLocal → Name → Option Term
bound_as [] n = None
bound_as (lets_as fs ts ∷ ls) n = term_or (term_among ts n) (bound_as ls n)
bound_as (quantified_as x m ∷ ls) n = or_later (name_eq x.name n) (constant_as x m) (bound_as ls n)
bound_as (parameter_as x m ∷ ls) n = or_later (name_eq x.name n) (constant_as x m) (bound_as ls n)

-- a live declared symbol has this name
abbrev pub is_declared : List ReadBinding → Name → Bool
is_declared [] n = false
is_declared (function_known f ∷ bs) n = name_eq f.name n || is_declared bs n
is_declared (_ ∷ bs) n = is_declared bs n

-- a quantifier around the place binds this name
abbrev pub is_quantified : List ReadLocal → Name → Bool
is_quantified [] n = false
is_quantified (quantified_as x m ∷ ls) n = name_eq x.name n || is_quantified ls n
is_quantified (_ ∷ ls) n = is_quantified ls n

-- ---- readings

-- what reads a part of a script: it gives a thing, and what is known then, or refuses
abbrev pub Reading : Type 0 → Type 0
Reading A = Sofar → Result (A × Sofar) Refused

abbrev pub continued : {A B : Type 0} → (A → Reading B) → Result (A × Sofar) Refused → Result (B × Sofar) Refused
continued next (Ok p) = next p.0 p.1
continued next (Err refused) = Err refused

infixr 10 ◌>>=◌
abbrev pub ◌>>=◌ : {A B : Type 0} → Reading A → (A → Reading B) → Reading B
◌>>=◌ reading next s = continued next (reading s)

abbrev pub gives : {A : Type 0} → A → Reading A
gives a s = Ok (a, s)

abbrev pub refuses : {A : Type 0} → Cause → ℕ → Reading A
refuses cause place s = at cause place

abbrev pub refused_if : {A : Type 0} → Bool → Cause → ℕ → Reading A → Reading A
refused_if true cause place next = refuses cause place
refused_if false cause place next = next

abbrev pub beside : {A : Type 0} → Sofar → Result A Refused → Result (A × Sofar) Refused
beside s (Ok a) = Ok (a, s)
beside s (Err refused) = Err refused

-- what the live bindings alone decide
abbrev pub by_live : {A : Type 0} → (List ReadBinding → Result A Refused) → Reading A
by_live test s = beside s (test s.live)

abbrev pub by_rule : {A : Type 0} → Result A Refused → Reading A
by_rule r s = beside s r

abbrev pub binds : {A : Type 0} → ReadBinding → A → Reading A
binds b a s = Ok (a, record s { live = b ∷ s.live })
