-- What makes the node of a negation, and the sort of a constant.
use Rattle.std.proofs.Common.{◌≡◌, ◌≤◌, false, [], ◌∷◌, Some, Ok, is_ok, refl, ap, sym, ◌∙◌, arith}
use Rattle.std.proofs.lemmas.List.Elements.{All-nil, All-cons}
use Rattle.smt_terms.specs.declared.ids.NodeId.{NodeId}
use Rattle.smt_terms.specs.declared.op.Op.TheVariants.{Not}
use Rattle.smt_terms.specs.Connectives.{negated}
use Rattle.smt_terms.specs.Rank.{shape, rank, sort_of, with_sort, width, most_bits, is_minus, is_minus_of}
use Rattle.smt_terms.specs.Sorts.{bool, Symbol}
use Rattle.smt_terms.specs.Term.{Term, apply, op, symbol, none, ◌⨾◌, constant}
use Rattle.smt_terms.proofs.Ranked.{takes-rank}
use Rattle.smt_terms.proofs.Sorted.{sort_of-apply}
use Rattle.term_table.specs.Formulas.{Formulas, tree, sort_or_bool, kind, Makes, IsNode}

narrow : width bool ≤ most_bits
narrow = omega arith

not_rank : rank (op Not) (bool ∷ []) ≡ Ok bool
unfolding shape
not_rank = takes-rank (op Not) (bool ∷ []) bool (refl, refl) narrow

pub boolean_sort : (f : Symbol) → f.args ≡ [] → f.result ≡ bool → sort_of (constant f) ≡ Some bool
boolean_sort f args result = sort_of-apply (symbol f) none [] bool refl (takes-rank (symbol f) [] bool (sym args, sym result) narrow)

no_minus : (u : Term) → is_minus_of (op Not) (u ⨾ none) ≡ false
unfolding is_minus_of is_minus
no_minus (apply (op o) none) = refl
no_minus u = refl

pub makes_negation : (t : Formulas) (k : NodeId) → IsNode t k → sort_of (tree t k) ≡ Some bool → Makes t Not (k ∷ [])
unfolding kind
makes_negation t k node sort = record {
  kids = All-cons (λ j. IsNode t j) k [] node (All-nil (λ j. IsNode t j));
  numbers = tt;
  ranked = ap is_ok (ap (λ s. rank (op Not) (sort_or_bool s ∷ [])) sort ∙ not_rank);
  minus = no_minus (tree t k);
}

pub negation_sort : (t : Formulas) (k : NodeId) → sort_of (tree t k) ≡ Some bool → sort_of (negated (tree t k)) ≡ Some bool
negation_sort t k sort = sort_of-apply (op Not) (tree t k ⨾ none) (bool ∷ []) bool (ap (λ s. with_sort s (Some [])) sort) not_rank
