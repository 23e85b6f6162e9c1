-- What it means that a rewriting keeps values (SMT-LIB 2.6, section 5.3): the result is well sorted, has the term's sort, and has
-- the same value in every model, whatever the values of quantified variables are.
use Rattle.std.specs.Prelude.{◌≡◌, Some, IsTrue}
use Rattle.smt_terms.specs.Sorts.{Sort}
use Rattle.smt_terms.specs.Term.{Term}
use Rattle.smt_terms.specs.Rank.{sort_of, IsWellSorted}
use Rattle.smt_terms.specs.Values.{same}
use Rattle.smt_terms.specs.Models.{Model, IsModel}
use Rattle.smt_terms.specs.Val.{Env, val}
use Rattle.smt_terms.specs.Laws.{IsEnv}

-- of a term and its result
pub record Keeps (t u : Term) : Type 0 where
  pub sorted : IsWellSorted u
  pub sort : sort_of u ≡ sort_of t
  pub value : (m : Model) (e : Env) (s : Sort) → IsModel m → IsEnv m.sizes e → sort_of t ≡ Some s → IsTrue (same s m.sizes (val m t e) (val m u e))

-- of a function on terms
abbrev pub KeepsValues : (Term → Term) → Type 0
KeepsValues f = (t : Term) → IsWellSorted t → Keeps t (f t)
