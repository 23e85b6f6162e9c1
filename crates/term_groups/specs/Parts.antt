-- The parts of a term that a pass looks into: those that are reached through what it opens.
use Rattle.std.specs.Prelude.{◌≡◌, Bool, true, false, cond, List, [], ◌∷◌, ◌++◌, All}
use Rattle.smt_terms.specs.Groups.{has_term, with_new, where_so}
use Rattle.smt_terms.specs.Term.{Term, apply, quantified, Terms, none, ◌⨾◌, list}

abbrev pub operands_of : Term → List Term
operands_of (apply h ts) = list ts
operands_of (quantified q xs body) = []

module _ (opens wanted : Term → Bool) where
  abbrev mutual
    -- the distinct parts that are wanted, in post-order of first occurrence, operands from left to right
    pub collected : Term → List Term
    collected (apply h ts) = with_new (cond (opens (apply h ts)) (collected_of ts) []) (where_so (wanted (apply h ts)) (apply h ts ∷ []))
    collected (quantified q xs body) = where_so (wanted (quantified q xs body)) (quantified q xs body ∷ [])

    pub collected_of : Terms → List Term
    collected_of none = []
    collected_of (t ⨾ ts) = with_new (collected t) (collected_of ts)

-- parts in an order in which each stands once, behind its operands where it is opened, and the root last
pub record AreParts (opens : Term → Bool) (root : Term) (ts : List Term) : Type 0 where
  pub before : List Term
  pub last : ts ≡ before ++ root ∷ []
  pub behind : (us : List Term) (t : Term) (vs : List Term) → ts ≡ us ++ t ∷ vs → opens t ≡ true → All (λ u. has_term us u ≡ true) (operands_of t)
  pub once : (us : List Term) (t : Term) (vs : List Term) → ts ≡ us ++ t ∷ vs → has_term us t ≡ false
