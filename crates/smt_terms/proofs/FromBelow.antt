-- A function that goes through a term from below, and keeps the value where it makes a term anew over kept operands, keeps values.
use Rattle.std.proofs.Common.{◌≡◌, true, List, Some, sym, subst}
use Rattle.std.specs.Prelude.{is_some}
use Rattle.std.specs.List.{list_all}
use Rattle.smt_terms.specs.Sorts.{Sort, bool, Variable}
use Rattle.smt_terms.specs.Term.{Quantifier, Head, Term, apply, quantified, Terms, none, ◌⨾◌}
use Rattle.smt_terms.specs.Rank.{sort_of, sorts_of, is_sort, is_regular, are_regular, IsWellSorted}
use Rattle.smt_terms.specs.Keeps.{Keeps, KeepsValues}
use Rattle.smt_terms.proofs.Tests.{both_true}
use Rattle.smt_terms.proofs.Keeping.{KeepsAll, keeps_none, keeps_more, the_sort}
use Rattle.smt_terms.proofs.Operands.{well_sorted}
use Rattle.smt_terms.proofs.Sorted.{applied, sorted, quantified_sort}
use Rattle.smt_terms.proofs.SortsOfTerms.{regular}

-- a function on terms, by what it makes of a head over its results and of a quantifier over its result
pub record GoesFromBelow (f : Term → Term) (over : Head → Terms → Term) (bound : Quantifier → List Variable → Term → Term) : Type 0 where
  pub operands : Terms → Terms
  pub at_head : (h : Head) (ts : Terms) → f (apply h ts) ≡ over h (operands ts)
  pub at_quantifier : (q : Quantifier) (xs : List Variable) (t : Term) → f (quantified q xs t) ≡ bound q xs (f t)
  pub at_none : operands none ≡ none
  pub at_more : (t : Term) (ts : Terms) → operands (t ⨾ ts) ≡ f t ⨾ operands ts

module _ (f : Term → Term) (over : Head → Terms → Term) (bound : Quantifier → List Variable → Term → Term) (goes : GoesFromBelow f over bound)
    (heads : (h : Head) (ts us : Terms) → IsWellSorted (apply h ts) → KeepsAll ts us → Keeps (apply h ts) (over h us))
    (quantifiers : (q : Quantifier) (xs : List Variable) (t u : Term) → IsWellSorted (quantified q xs t) → Keeps t u → Keeps (quantified q xs t) (bound q xs u))
  where
    mutual
      pub from_below : KeepsValues f
      from_below (apply h ts) fine =
          let parts = both_true (is_some (sort_of (apply h ts))) (is_regular (apply h ts)) fine in
          let found = the_sort (sort_of (apply h ts)) parts.0 in
          let over_operands = applied h ts found.0 found.1 in
          let all = all_from_below ts over_operands.sorts (regular h ts parts.1).operands over_operands.operands in
          subst (λ u. Keeps (apply h ts) u) (sym (goes.at_head h ts)) (heads h ts (goes.operands ts) fine all)
      from_below (quantified q xs t) fine =
          let parts = both_true (is_some (sort_of (quantified q xs t))) (is_regular (quantified q xs t)) fine in
          let found = the_sort (sort_of (quantified q xs t)) parts.0 in
          let rest = both_true (list_all (λ (x : Variable). is_sort x.sort) xs) (is_regular t) parts.1 in
          let body : IsWellSorted t = well_sorted t bool (quantified_sort q xs t found.0 found.1).body rest.1 in
          subst (λ u. Keeps (quantified q xs t) u) (sym (goes.at_quantifier q xs t)) (quantifiers q xs t (f t) fine (from_below t body))

      all_from_below : (ts : Terms) (ss : List Sort) → are_regular ts ≡ true → sorts_of ts ≡ Some ss → KeepsAll ts (goes.operands ts)
      all_from_below none ss fine has = subst (λ us. KeepsAll none us) (sym goes.at_none) keeps_none
      all_from_below (t ⨾ ts) ss fine has =
          let parts = sorted t ts ss has in
          let rules = both_true (is_regular t) (are_regular ts) fine in
          let here : Keeps t (f t) = from_below t (well_sorted t parts.sort parts.first rules.0) in
          subst (λ us. KeepsAll (t ⨾ ts) us) (sym (goes.at_more t ts)) (keeps_more t (f t) ts (goes.operands ts) here (all_from_below ts parts.sorts rules.1 parts.others))
