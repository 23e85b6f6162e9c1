-- The elements of declared sorts that were met, as a program holds them: the names of each sort, by the sort's number.
use Rattle.std.specs.Prelude.{◌≡◌, ℕ, ◌≤◌, ◌==◌, max, if◌then◌else◌, List, [], ◌∷◌, ◌++◌, map, length, All, IsTrue}
use Rattle.std.specs.Borrow.{Bor}
use Rattle.smt_lex.specs.Names.{is_among}
use Rattle.smt_terms.specs.Sorts.{Name}
use Rattle.smt_terms.specs.Values.{Sizes, is_value, are_values}
use Rattle.smt_terms.specs.declared.ids.SortId.{SortId}
use Rattle.smt_values.specs.Meaning.{meaning, IsHeld}
use Rattle.smt_values.specs.SortIds.{sort_at}
use Rattle.smt_values.specs.declared.value.Value.{Value}
use Rattle.term_table.specs.Formulas.{Formulas}
use Rattle.script_read.specs.CommandLists.{free_name}
use Rattle.models.specs.GraphRows.{meanings}
use Rattle.models.specs.LiveNumbers.{IsFreeSort}

-- each sort with the names of its elements, in order
abbrev pub MetNames : Type 0
MetNames = List (SortId × List Name)

abbrev pub names_kept : MetNames → SortId → List Name
names_kept [] s = []
names_kept (m ∷ ms) s = if s.0 == m.0.0 then m.1 else names_kept ms s

-- with a name that was met
abbrev pub with_name : Name → List Name → List Name
with_name n ns = if is_among ns n then ns else ns ++ n ∷ []

-- borrowed names as they are read
abbrev pub names_read : List (Bor (List ℕ)) → List Name
names_read ks = map (λ k. k.now) ks

-- the first of the names are these
abbrev pub Begins : List Name → List Name → Type 0
Begins ns ms = (more : List Name) × (ms ≡ ns ++ more)

-- no element is lost or gets another number
abbrev pub Gains : MetNames → MetNames → Type 0
Gains old new = (s : SortId) → Begins (names_kept old s) (names_kept new s)

-- each sort is large enough for its elements that were met, and isn't empty
abbrev pub AreSizesFor : Formulas → MetNames → Sizes → Type 0
AreSizesFor t ms sizes = (s : SortId) → IsFreeSort t s → max 1 (length (names_kept ms s)) ≤ sizes (free_name (sort_at t.sorts s))

-- a value of the sort, in every structure that has the elements that were met
pub record IsMetValue (t : Formulas) (ms : MetNames) (s : SortId) (v : Value) : Type 0 where
  pub held : IsHeld v
  pub valid : (sizes : Sizes) → AreSizesFor t ms sizes → IsTrue (is_value (sort_at t.sorts s) sizes (meaning v))

-- values of these sorts, one for each, in every structure that has the elements that were met
pub record AreMetValues (t : Formulas) (ms : MetNames) (ss : List SortId) (vs : List Value) : Type 0 where
  pub held : All IsHeld vs
  pub valid : (sizes : Sizes) → AreSizesFor t ms sizes → IsTrue (are_values (map (sort_at t.sorts) ss) sizes (meanings vs))
