-- Statements of the laws of fresh names.
use Rattle.std.specs.Prelude.{◌≡◌, ℕ, ◌<◌, ◌≤◌, true, false}
use Rattle.smt_terms.specs.Sorts.{Name}
use Rattle.smt_terms.specs.Free.{name_among}
use Rattle.smt_terms.specs.Fresh.{Supply, numbered_name, next_number, next_name, after_draw, NeverGives}

abbrev pub NumbersNameApart : Type 0
NumbersNameApart = (i j : ℕ) → numbered_name i ≡ numbered_name j → i ≡ j

-- the number of the next name is the least from the supply's number on whose name isn't taken
abbrev pub NextIsFree : Type 0
NextIsFree = (s : Supply) → name_among s.taken (next_name s) ≡ false

abbrev pub NextIsLeast : Type 0
NextIsLeast = (s : Supply) (i : ℕ) → s.number ≤ i → i < next_number s → name_among s.taken (numbered_name i) ≡ true

abbrev pub NextIsLater : Type 0
NextIsLater = (s : Supply) → s.number ≤ next_number s

-- a name that was drawn isn't drawn again, nor one that isn't given before
abbrev pub DrawnIsGone : Type 0
DrawnIsGone = (s : Supply) → NeverGives (after_draw s) (next_name s)

abbrev pub GoneStaysGone : Type 0
GoneStaysGone = (s : Supply) (n : Name) → NeverGives s n → NeverGives (after_draw s) n
