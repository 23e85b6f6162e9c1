-- Subterms in the order in which their results are made: each once, behind its operands, these from left to right.
use Rattle.std.specs.Prelude.{Bool, cond, ◌||◌, List, [], ◌∷◌, ◌++◌}
use Rattle.smt_terms.specs.Sorts.{Variable}
use Rattle.smt_terms.specs.Term.{Term, apply, quantified, Terms, none, ◌⨾◌, variable}
use Rattle.smt_terms.specs.Groups.{has_term}

-- some terms are skipped, with all that stands below them alone; below some the operands aren't looked at
module _ (skips opens : Term → Bool) where
  -- the term behind what was listed below it
  abbrev pub behind : List Term → List Term → Term → List Term
  behind ts below t = cond (skips t || has_term ts t) ts (cond (opens t) below ts ++ t ∷ [])

  abbrev pub listed_variables : List Variable → List Term → List Term
  listed_variables [] ts = ts
  listed_variables (x ∷ xs) ts = listed_variables xs (behind ts ts (variable x))

  abbrev mutual
    -- these terms, and the subterms of a term that aren't among them
    pub listed : Term → List Term → List Term
    listed (apply h us) ts = behind ts (listed_each us ts) (apply h us)
    listed (quantified q xs body) ts = behind ts (listed body (listed_variables xs ts)) (quantified q xs body)

    pub listed_each : Terms → List Term → List Term
    listed_each none ts = ts
    listed_each (u ⨾ us) ts = listed_each us (listed u ts)
