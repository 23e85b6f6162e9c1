-- Heads of applications as the code reads them: their indices, and what their names call.
use Rattle.std.specs.Prelude.{◌≡◌, ℕ, zero, suc, nat_lt, if◌then◌else◌, Bool, false, List, ◌∷◌, map, Option, Some, None, unwrap_or, Result}
use Rattle.smt_lex.specs.Names.{Name, is_bit_vector_constant}
use Rattle.smt_lex.specs.Forms.{Forms, none, ◌⨾◌}
use Rattle.smt_terms.specs.Fresh.{Supply}
use Rattle.term_table.specs.Formulas.{Formulas}
use Rattle.script_terms.specs.declared.terms.indices.Indices.{Indices}
use Rattle.script_terms.specs.declared.causes.Cause.TheVariants.{BadForm}
use Rattle.script_terms.specs.Heads.{Callee, takes_no_index, indexed_head}
use Rattle.script_terms.specs.Known.{Scoping}
use Rattle.script_terms.specs.Parts.{place_of, symbol_in, numeral_in, numerals_in, greatest_number}
use Rattle.script_terms.specs.Places.{capped}
use Rattle.script_terms.specs.Reading.{ReadLocal, ReadBinding}
use Rattle.script_terms.specs.Refusals.{Refused, at}
use Rattle.script_terms.specs.Waiting.{World}

-- the place of the first numeral that is greater than one may be
abbrev pub beyond_in : Forms → Option ℕ
beyond_in none = None
beyond_in (f ⨾ fs) = if nat_lt greatest_number (unwrap_or (numeral_in f) 0) then Some (place_of f) else beyond_in fs

-- the indices that these forms are; those that are greater than they may be are all alike
pub record AreIndices (fs : Forms) (ns : List ℕ) (x : Indices) : Type 0 where
  pub numerals : numerals_in fs ≡ Some ns
  pub values : x.values.items ≡ map capped ns
  pub beyond : x.beyond ≡ beyond_in fs

-- they are some forms' indices
abbrev pub SomeIndices : Indices → Type 0
SomeIndices x = (fs : Forms) × (ns : List ℕ) × AreIndices fs ns x

-- one or more numerals
abbrev pub some_of : Option (List ℕ) → Option (List ℕ)
some_of (Some (n ∷ ns)) = Some (n ∷ ns)
some_of _ = None

abbrev pub ReadsIndices : Forms → Option Indices → Type 0
ReadsIndices fs (Some x) = (n : ℕ) × (ns : List ℕ) × AreIndices fs (n ∷ ns) x
ReadsIndices fs None = some_of (numerals_in fs) ≡ None

-- names of the theories that stand for no operator, with so many indices
abbrev pub is_constant_with : Name → ℕ → Bool
is_constant_with n zero = takes_no_index n
is_constant_with n (suc zero) = is_bit_vector_constant n
is_constant_with n (suc (suc k)) = false

-- a table, names that are left and a scope
abbrev pub world_of : Formulas → Supply → Scoping → World
world_of t supply s = record { table = t; supply = supply; definitions = s.definitions }

-- a list that begins with `_`, from what is behind it
abbrev pub indexed_list : List ReadLocal → List ReadBinding → ℕ → Forms → Result Callee Refused
indexed_list locals live place none = at BadForm place
indexed_list locals live place (f ⨾ fs) = indexed_head locals live place fs (symbol_in f) (numerals_in fs)
