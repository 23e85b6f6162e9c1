-- Sorts and symbols: SMT-LIB 2.6, sections 3.5 and 3.6, with the sorts of the theories Core, Ints,
-- FixedSizeBitVectors and ArraysEx and the free sorts of arity 0.
use Rattle.std.specs.Prelude.{ℕ, List}

-- a name, as the list of its bytes, without bars
abbrev pub Name : Type 0
Name = List ℕ

pub data Sort : Type 0 where
  bool : Sort
  int : Sort
  bit_vector : ℕ → Sort
  array : Sort → Sort → Sort
  free_sort : Name → Sort

-- a symbol is a name with its rank; one name may stand with several ranks
pub record Symbol : Type 0 where
  pub name : Name
  pub args : List Sort
  pub result : Sort

-- what a quantifier binds
pub record Variable : Type 0 where
  pub name : Name
  pub sort : Sort
