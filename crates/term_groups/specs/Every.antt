-- Tests of all heads of a term and of all lists of variables that its quantifiers bind.
use Rattle.std.specs.Prelude.{Bool, true, ◌&&◌, List}
use Rattle.smt_terms.specs.Sorts.{Variable}
use Rattle.smt_terms.specs.Term.{Head, Term, apply, quantified, Terms, none, ◌⨾◌}

abbrev mutual
  pub every : (Head → Bool) → (List Variable → Bool) → Term → Bool
  every heads binders (apply h ts) = heads h && every_of heads binders ts
  every heads binders (quantified q xs t) = binders xs && every heads binders t

  pub every_of : (Head → Bool) → (List Variable → Bool) → Terms → Bool
  every_of heads binders none = true
  every_of heads binders (t ⨾ ts) = every heads binders t && every_of heads binders ts
