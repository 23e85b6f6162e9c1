-- A term over other operands.
use Rattle.std.specs.Prelude.{◌≡◌, ℕ, ◌<◌, Bool, false, List, length, get_or}
use Rattle.smt_terms.specs.Rank.{sort_of, is_whole}
use Rattle.smt_terms.specs.Term.{op, Term, apply, quantified, none, over}
use Rattle.term_table.specs.Formulas.{no_tree, binders, body}

abbrev pub with_operands : Term → List Term → Term
with_operands (apply h _) us = over h us
with_operands (quantified q _ _) us = quantified q (binders us) (body us)

-- whether a term is an integer constant, over which no unary minus stands
abbrev pub is_number : Term → Bool
is_number (apply (op c) none) = is_whole c
is_number _ = false

-- what may take the place of a term below any operator: a term of its sort, which is an integer constant where the other is
pub record IsLike (t u : Term) : Type 0 where
  pub sort : sort_of u ≡ sort_of t
  pub number : is_number u ≡ is_number t

pub record AreLike (ts us : List Term) : Type 0 where
  pub count : length us ≡ length ts
  pub each : (i : ℕ) → i < length ts → IsLike (get_or ts i no_tree) (get_or us i no_tree)
