-- What a book makes of a term keeps the term's value.
use Rattle.std.proofs.Common.{◌≡◌, true, List, Some, ◌⊎◌, inl, inr, sym, subst}
use Rattle.std.specs.Prelude.{is_some}
use Rattle.std.specs.List.{list_all}
use Rattle.smt_terms.specs.Keeps.{Keeps}
use Rattle.smt_terms.specs.Made.{made}
use Rattle.smt_terms.specs.Rank.{sort_of, sorts_of, is_sort, is_regular, are_regular, IsWellSorted}
use Rattle.smt_terms.specs.Sorts.{Name, Sort, bool, Variable}
use Rattle.smt_terms.specs.Term.{Term, apply, quantified, Terms, none, ◌⨾◌}
use Rattle.smt_terms.proofs.Keeping.{KeepsAll, keeps_none, keeps_more, keeps_itself, keeps_through, keeps_made, keeps_quantified, the_sort}
use Rattle.smt_terms.proofs.Operands.{well_sorted}
use Rattle.smt_terms.proofs.Sorted.{applied, sorted, quantified_sort}
use Rattle.smt_terms.proofs.SortsOfTerms.{regular}
use Rattle.smt_terms.proofs.Tests.{both_true}
use Rattle.rule_book.specs.Rewriting.{Fills, Replaces, RewritesEach, RewritingKeepsValues}

module _ (fills-keeps : (t u : Term) → IsWellSorted t → Fills t u → Keeps t u) where
  replaces-keeps : (ns : List Name) (t u : Term) → IsWellSorted t → Replaces ns t u → Keeps t u
  replaces-keeps ns t u fine r = kept r.replaced
    where
      kept : (u ≡ t) ⊎ Fills t u → Keeps t u
      kept (inl same) = subst (λ w. Keeps t w) (sym same) (keeps_itself t fine)
      kept (inr fills) = fills-keeps t u fine fills

  mutual
    pub rewriting-keeps : RewritingKeepsValues
    rewriting-keeps ns (apply h ts) u fine r =
        let parts = both_true (is_some (sort_of (apply h ts))) (is_regular (apply h ts)) fine in
        let found = the_sort (sort_of (apply h ts)) parts.0 in
        let over_operands = applied h ts found.0 found.1 in
        let operands = operands-keep ns ts r.0 over_operands.sorts (regular h ts parts.1).operands over_operands.operands r.1 in
        let anew = keeps_made h ts r.0 fine operands in
        keeps_through (apply h ts) (made h r.0) u fine anew (replaces-keeps ns (made h r.0) u anew.sorted r.2)
    rewriting-keeps ns (quantified q xs t) u fine r =
        let parts = both_true (is_some (sort_of (quantified q xs t))) (is_regular (quantified q xs t)) fine in
        let found = the_sort (sort_of (quantified q xs t)) parts.0 in
        let rest = both_true (list_all (λ (x : Variable). is_sort x.sort) xs) (is_regular t) parts.1 in
        let body : IsWellSorted t = well_sorted t bool (quantified_sort q xs t found.0 found.1).body rest.1 in
        subst (λ w. Keeps (quantified q xs t) w) (sym r.2) (keeps_quantified q xs t r.0 fine (rewriting-keeps ns t r.0 body r.1))

    operands-keep : (ns : List Name) (ts us : Terms) (ss : List Sort) → are_regular ts ≡ true → sorts_of ts ≡ Some ss → RewritesEach ns ts us → KeepsAll ts us
    operands-keep ns none us ss fine has r = subst (λ vs. KeepsAll none vs) (sym r) keeps_none
    operands-keep ns (t ⨾ ts) us ss fine has r =
        let parts = sorted t ts ss has in
        let rules = both_true (is_regular t) (are_regular ts) fine in
        let first = rewriting-keeps ns t r.0 (well_sorted t parts.sort parts.first rules.0) r.1.1.1.0 in
        let others = operands-keep ns ts r.1.0 parts.sorts rules.1 parts.others r.1.1.1.1 in
        subst (λ vs. KeepsAll (t ⨾ ts) vs) (sym r.1.1.0) (keeps_more t r.0 ts r.1.0 first others)
