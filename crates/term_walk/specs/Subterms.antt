-- Subterms: SMT-LIB 2.6, section 3.6. Those of a quantified term are its variables, as constants, and its body.
use Rattle.std.specs.Prelude.{ℕ, suc, ◌+◌, Bool, List, [], ◌∷◌, map, length}
use Rattle.smt_terms.specs.Groups.{has_term, with_new}
use Rattle.smt_terms.specs.Term.{Term, apply, quantified, Terms, none, ◌⨾◌, variable}
use Rattle.term_table.specs.Formulas.{operands}

-- the distinct subterms of a term, itself among them
abbrev mutual
  pub subterms : Term → List Term
  subterms (apply h ts) = with_new (subterms_of ts) (apply h ts ∷ [])
  subterms (quantified q xs body) = with_new (with_new (map variable xs) (subterms body)) (quantified q xs body ∷ [])

  pub subterms_of : Terms → List Term
  subterms_of none = []
  subterms_of (t ⨾ ts) = with_new (subterms t) (subterms_of ts)

-- the distinct subterms of all these terms
abbrev pub all_subterms : List Term → List Term
all_subterms [] = []
all_subterms (t ∷ ts) = with_new (subterms t) (all_subterms ts)

-- whether a term is a subterm of one of these terms
abbrev pub is_subterm : List Term → Term → Bool
is_subterm ts u = has_term (all_subterms ts) u

-- how many terms these are, and how many places for operands they have
abbrev pub places : List Term → ℕ
places [] = 0
places (u ∷ us) = suc (length (operands u)) + places us
