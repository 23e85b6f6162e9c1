-- Constants at operands, as scalars.
use Rattle.std.specs.Prelude.{◌≡◌, ◌<◌, List, map, length, All, Some, None}
use Rattle.smt_terms.specs.declared.op.Op.{Op}
use Rattle.smt_terms.specs.Sorts.{Sort}
use Rattle.smt_terms.specs.Term.{Term}
use Rattle.smt_values.specs.Meaning.{scalar_value, scalar_sort, IsScalar}
use Rattle.smt_values.specs.declared.scalar.Scalar.{Scalar}
use Rattle.term_table.specs.Formulas.{sorts_in}
use Rattle.simplify.specs.Folding.{constant_values, folded}

-- the operands, of which there are some, are these constants
pub record AreConstants (ts : List Term) (ks : List Scalar) : Type 0 where
  pub some : 0 < length ts
  pub values : constant_values ts ≡ Some (map scalar_value ks)
  pub sorts : sorts_in ts ≡ map scalar_sort ks
  pub scalars : All IsScalar ks

-- not all of the operands are constants, or there is none
abbrev pub AreUnfolded : List Term → Type 0
AreUnfolded ts = (o : Op) (ss : List Sort) → folded o ss ts ≡ None
