-- The size of a term as a tree.
use Rattle.std.specs.Prelude.{ℕ, suc, ◌+◌}
use Rattle.smt_terms.specs.Term.{Term, apply, quantified, Terms, none, ◌⨾◌}

abbrev mutual
  pub size : Term → ℕ
  size (apply h ts) = suc (sizes ts)
  size (quantified q xs t) = suc (size t)

  pub sizes : Terms → ℕ
  sizes none = 0
  sizes (t ⨾ ts) = size t + sizes ts
