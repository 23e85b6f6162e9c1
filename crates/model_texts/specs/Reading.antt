-- What is known while a model's text is read: the elements of the free sorts that were met. They are numbered, in each sort,
-- in the order in which their names first occur.
use Rattle.std.specs.Prelude.{ℕ, zero, suc, max, if◌then◌else◌, List, [], ◌∷◌, ◌++◌, map, filter, length, Result, Ok, Err}
use Rattle.smt_lex.specs.Names.{is_among}
use Rattle.smt_terms.specs.Equal.{name_eq}
use Rattle.smt_terms.specs.Sorts.{Name}
use Rattle.smt_terms.specs.Values.{Value, element, Sizes}
use Rattle.model_texts.specs.Refusals.{Cause, Refused, at}

-- a name of an element of a free sort
pub record Element : Type 0 where
  pub sort : Name
  pub name : Name

-- the names of a sort's elements, in order
abbrev pub names_in : List Element → Name → List Name
names_in es s = map (λ e. e.name) (filter (λ e. name_eq e.sort s) es)

-- the place of a name, or of the next one
abbrev pub place_among : List Name → Name → ℕ
place_among [] n = zero
place_among (m ∷ ms) n = if name_eq m n then zero else suc (place_among ms n)

-- with an element that was met
abbrev pub with_element : Name → Name → List Element → List Element
with_element s n es = if is_among (names_in es s) n then es else es ++ record { sort = s; name = n } ∷ []

-- a sort has the elements that were met, and at least one
abbrev pub sizes : List Element → Sizes
sizes es s = max 1 (length (names_in es s))

-- ---- what reads a part of a text: it gives a thing and the elements that were met then, or refuses

abbrev pub Reading : Type 0 → Type 0
Reading A = List Element → Result (A × List Element) Refused

abbrev pub continued : {A B : Type 0} → (A → Reading B) → Result (A × List Element) Refused → Result (B × List Element) Refused
continued next (Ok p) = next p.0 p.1
continued next (Err refused) = Err refused

infixr 10 ◌>>=◌
abbrev pub ◌>>=◌ : {A B : Type 0} → Reading A → (A → Reading B) → Reading B
◌>>=◌ reading next es = continued next (reading es)

abbrev pub gives : {A : Type 0} → A → Reading A
gives a es = Ok (a, es)

abbrev pub refuses : {A : Type 0} → Cause → ℕ → Reading A
refuses cause place es = at cause place

abbrev pub beside : {A : Type 0} → List Element → Result A Refused → Result (A × List Element) Refused
beside es (Ok a) = Ok (a, es)
beside es (Err refused) = Err refused

-- what needs no elements
abbrev pub by_rule : {A : Type 0} → Result A Refused → Reading A
by_rule r es = beside es r

-- the element of this name
abbrev pub meets : Name → Name → Reading Value
meets s n es = Ok (element (place_among (names_in es s) n), with_element s n es)
