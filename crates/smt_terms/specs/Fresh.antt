-- Supplies of names that stand nowhere yet. The names are simple symbols (SMT-LIB 2.6, section 3.1).
use Rattle.std.specs.Prelude.{◌≡◌, ◌≤◌, ℕ, zero, suc, true, false, List, [], ◌∷◌, length}
use Rattle.smt_terms.specs.Sorts.{Name, Sort, Symbol, Variable}
use Rattle.smt_terms.specs.Free.{name_among}
use Rattle.smt_terms.specs.Numeral.{numeral}

-- the names that are taken, and the number from which on names are drawn, at first 0
pub record Supply : Type 0 where
  pub taken : List Name
  pub number : ℕ

-- `FV` and the numeral
abbrev pub numbered_name : ℕ → Name
numbered_name i = 70 ∷ 86 ∷ numeral i

-- the least number from i on whose name isn't taken, found by passing over at most `room` names that are
abbrev pub free_number : List Name → ℕ → ℕ → ℕ
free_number taken zero i = i
free_number taken (suc room) i =
    elim (name_among taken (numbered_name i)) [ true ↦ free_number taken room (suc i) | false ↦ i ]

-- as many names as are taken can be skipped, and no more
abbrev pub next_number : Supply → ℕ
next_number s = free_number s.taken (length s.taken) s.number

abbrev pub next_name : Supply → Name
next_name s = numbered_name (next_number s)

-- what is left behind the next name
abbrev pub after_draw : Supply → Supply
after_draw s = record { taken = s.taken; number = suc (next_number s) }

abbrev pub fresh_for : Variable → Supply → Variable
fresh_for x s = record { name = next_name s; sort = x.sort }

abbrev pub fresh_constant : Sort → Supply → Symbol
fresh_constant to s = record { name = next_name s; args = []; result = to }

-- a name that this supply doesn't give, neither next nor later
abbrev pub NeverGives : Supply → Name → Type 0
NeverGives s n = (i : ℕ) → s.number ≤ i → n ≡ numbered_name i → name_among s.taken n ≡ true
