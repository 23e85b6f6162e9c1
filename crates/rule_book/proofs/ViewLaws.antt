-- What a view is of its term: the sorts and values of the holes are those of the terms that stand there, and the view has the sort
-- and the value of the term.
use Rattle.std.proofs.Common.{◌≡◌, ℕ, ◌&&◌, ◌∷◌, Some, ap, sym, ◌∙◌, subst}
use Rattle.std.specs.Prelude.{slice_get}
use Rattle.std.proofs.lemmas.List.Elements.{All-from_recursion}
use Rattle.std.proofs.lemmas.Option.{cond_some}
use Rattle.smt_terms.specs.declared.op.Op.{Op}
use Rattle.smt_terms.specs.Term.{op, Term, apply, Terms, ◌⨾◌, list}
use Rattle.smt_terms.specs.Rank.{sort_of, IsWellSorted}
use Rattle.rule_book.specs.View.{TermView, is_theory, is_short, operands_of, places, view_over, view_of, view_holes}
use Rattle.rule_book.specs.Soundness.{hole_sort}
use Rattle.rule_book.specs.RuleLaws.{sorts_of_terms, HolesHaveSorts, HolesAreSorted, ViewHasSort, HasViewValue, ViewsHaveValues}
use Rattle.rule_book.proofs.Holes.{sort_of_term, sorts_of_holes}
use Rattle.rule_book.proofs.SortedPlaces.{all_sorted, places_sorted, holes_sorted, terms-list, sort-some}
use Rattle.rule_book.proofs.ViewValues.{has_view_value}

-- what holds of each view over an operator and its operands holds of a term's view
pub of_view : (P : Term → TermView → Type 0) → ((o : Op) (ts : Terms) → P (apply (op o) ts) (view_over o (list ts))) → (t : Term) (v : TermView) → view_of t ≡ Some v → P t v
of_view P each (apply (op o) (t ⨾ ts)) v seen =
    subst (P (apply (op o) (t ⨾ ts))) (cond_some (is_theory o && is_short (t ∷ list ts)) (view_over o (t ∷ list ts)) v seen).1 (each o (t ⨾ ts))
of_view P each _ v seen = absurd cc

pub holes-have-sorts : HolesHaveSorts
holes-have-sorts = of_view (λ t v. (i : ℕ) → hole_sort v.cells i ≡ slice_get (sorts_of_terms (view_holes t)) i) (λ o ts. sorts_of_holes (places (list ts)))

pub holes-are-sorted : HolesAreSorted
holes-are-sorted t fine = All-from_recursion IsWellSorted (view_holes t) (holes_sorted (places (operands_of t)) (places_sorted (operands_of t) (all_sorted t fine)))

pub view-has-sort : ViewHasSort
view-has-sort t v fine seen =
    of_view (λ u w. IsWellSorted u → sort_of u ≡ Some w.sort)
    (λ o ts fine. sort-some (apply (op o) ts) fine ∙ ap (λ us. Some (sort_of_term (apply (op o) us))) (sym (terms-list ts)))
    t v seen fine

pub views-have-values : ViewsHaveValues
views-have-values t v m e fine seen model env =
    of_view (λ u w. IsWellSorted u → HasViewValue u w m e) (λ o ts good. has_view_value m e model env o ts good) t v seen fine
