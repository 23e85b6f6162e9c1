-- When a term that is made of well-sorted operands is well sorted: SMT-LIB 2.6, sections 3.6 and 5.2.2.
use Rattle.std.specs.Prelude.{◌≡◌, List, Some, Ok, IsTrue, IsFalse}
use Rattle.std.specs.List.{list_all}
use Rattle.smt_terms.specs.Sorts.{Sort}
use Rattle.smt_terms.specs.Term.{Quantifier, Head, Term, apply, quantified, terms}
use Rattle.smt_terms.specs.Rank.{rank, sort_of, sorts_of, has_sorts, is_minus_of, is_well_sorted, IsWellSorted}
use Rattle.smt_terms.specs.Laws.{IsBinder}

-- a term that is well sorted and has this sort
pub record HasSort (t : Term) (s : Sort) : Type 0 where
  pub well_sorted : IsWellSorted t
  pub sort : sort_of t ≡ Some s

-- well-sorted operands of these sorts
pub record OperandsHaveSorts (ts : List Term) (ss : List Sort) : Type 0 where
  pub well_sorted : IsTrue (list_all is_well_sorted ts)
  pub sorts : sorts_of (terms ts) ≡ Some ss

-- a head whose sorts are well formed over operands that it takes, other than a unary minus over a constant
abbrev pub HeadsHaveSorts : Type 0
HeadsHaveSorts = (h : Head) (ts : List Term) (ss : List Sort) (s : Sort) → OperandsHaveSorts ts ss → IsTrue (has_sorts h) → IsFalse (is_minus_of h (terms ts)) → rank h ss ≡ Ok s → HasSort (apply h (terms ts)) s

-- a quantifier over the operands of its node
abbrev pub BindersHaveSorts : Type 0
BindersHaveSorts = (q : Quantifier) (ts : List Term) (ss : List Sort) (s : Sort) → OperandsHaveSorts ts ss → (b : IsBinder ts ss s) → HasSort (quantified q b.variables b.body) s
