-- The simplifier keeps values.
use Rattle.std.proofs.Common.{◌≡◌, ◌^◌, ◌<◌, zero, suc, Bool, true, false, cond, ◌&&◌, ℤ, pos, negsuc, neg_ℤ, nat_abs, inl, inr, List, [], ◌∷◌, Option, Some, None, refl, ap, sym, ◌∙◌, subst}
use Rattle.std.specs.Prelude.{IfSome, unwrap_or}
use Rattle.std.proofs.lemmas.Bool.Decides.{Decides-ltb}
use Rattle.smt_terms.specs.declared.op.Op.{Op}
use Rattle.smt_terms.specs.declared.op.Op.TheVariants.{Whole, Neg}
use Rattle.smt_terms.specs.Sorts.{Sort, Variable}
use Rattle.smt_terms.specs.Term.{Quantifier, Head, op, symbol, const_array, Term, apply, quantified, Terms, none, ◌⨾◌, list}
use Rattle.smt_terms.specs.Constants.{whole_term, literal_value}
use Rattle.smt_terms.specs.Equal.{op_eq}
use Rattle.smt_terms.specs.Keeps.{Keeps, KeepsValues}
use Rattle.smt_terms.specs.Operators.{op_value}
use Rattle.smt_terms.specs.Rank.{shape, sort_of, sorts_of, is_sort, is_minus, is_whole, is_minus_of, is_regular, IsWellSorted}
use Rattle.smt_terms.specs.Takes.{Takes}
use Rattle.smt_terms.specs.Val.{val, within_range}
use Rattle.smt_terms.proofs.FromBelow.{from_below}
use Rattle.smt_terms.proofs.Keeping.{KeepsAll, keeps_through, keeps_apply, keeps_quantified, value_over, two_or_more}
use Rattle.smt_terms.proofs.Ranked.{rank-takes}
use Rattle.smt_terms.proofs.Same.{same-through}
use Rattle.smt_terms.proofs.Sorted.{applied, sorted, sort_of-apply}
use Rattle.smt_terms.proofs.SortsOfTerms.{sort_is_sort}
use Rattle.smt_terms.proofs.StoredTerms.{fine_term, keeps}
use Rattle.smt_terms.proofs.Tests.{both_true, true_or_false}
use Rattle.smt_terms.proofs.Valid.{val_valid}
use Rattle.simplify.specs.Folding.{folded}
use Rattle.simplify.specs.Logic.{quantification}
use Rattle.simplify.specs.Simplify.{law, folded_or_law, red, simp, simp_all}
use Rattle.simplify.proofs.FoldGives.{folded_gives}
use Rattle.simplify.proofs.Gives.{Gives}
use Rattle.simplify.proofs.LawsGive.{law_gives}
use Rattle.simplify.proofs.QuantifiersKeep.{fewer_variables_keep}

-- ---- a minus over a constant is folded

the_minus : (o : Op) → is_minus o ≡ true → o ≡ Neg
unfolding is_minus
the_minus Neg h = refl
the_minus _ h = absurd cc

record IsMinus (o : Op) (us : Terms) : Type 0 where
  number : ℤ
  operator : o ≡ Neg
  operands : us ≡ whole_term number ⨾ none

minus_over : (o c : Op) → (is_minus o && is_whole c) ≡ true → IsMinus o (apply (op c) none ⨾ none)
unfolding is_whole
minus_over o (Whole n) h = record { number = n; operator = the_minus o (both_true (is_minus o) true h).0; operands = refl }
minus_over o c h = absurd (failed (is_minus o) h)
  where
    failed : (b : Bool) → (b && false) ≡ true → ⊥
    failed true k = absurd cc
    failed false k = absurd cc

minus_of : (o : Op) (us : Terms) → is_minus_of (op o) us ≡ true → IsMinus o us
unfolding is_minus_of
minus_of o none h = absurd cc
minus_of o (t ⨾ u ⨾ us) h = let none : true ≡ false = sym h ∙ two_or_more o t u us in absurd cc
minus_of o (quantified q xs t ⨾ none) h = absurd cc
minus_of o (apply (symbol f) ts ⨾ none) h = absurd cc
minus_of o (apply (const_array s) ts ⨾ none) h = absurd cc
minus_of o (apply (op c) (t ⨾ ts) ⨾ none) h = absurd cc
minus_of o (apply (op c) none ⨾ none) h = minus_over o c h

size_turned : (n : ℤ) → nat_abs (neg_ℤ n) ≡ nat_abs n
size_turned (pos zero) = refl
size_turned (pos (suc n)) = refl
size_turned (negsuc n) = refl

constant_small : (n : ℤ) (s : Sort) → sort_of (whole_term n) ≡ Some s → nat_abs n < 2 ^ 127
unfolding shape
constant_small n s has =
    let parts = applied (op (Whole n)) none s has in
    (rank-takes (op (Whole n)) parts.sorts s parts.rank).1

minus_folded : (n : ℤ) (ss : List Sort) → within_range (neg_ℤ n) ≡ true → folded Neg ss (whole_term n ∷ []) ≡ Some (whole_term (neg_ℤ n))
unfolding op_eq op_value literal_value
minus_folded n ss small = ap (λ b. cond b (Some (whole_term (neg_ℤ n))) None) small

no_minus : (o : Op) (us : Terms) (ss : List Sort) → sorts_of us ≡ Some ss → folded o ss (list us) ≡ None → is_minus_of (op o) us ≡ false
no_minus o us ss has unfolded = elim (true_or_false (is_minus_of (op o) us)) [
  | inr plain ↦ plain
  | inl minus ↦
      let i = minus_of o us minus in
      let operand = sorted (whole_term i.number) none ss (ap sorts_of (sym i.operands) ∙ has) in
      let small : nat_abs (neg_ℤ i.number) < 2 ^ 127 = subst (λ k. k < 2 ^ 127) (sym (size_turned i.number)) (constant_small i.number operand.sort operand.first) in
      let left : folded o ss (list us) ≡ folded Neg ss (whole_term i.number ∷ []) = (λ x. folded (i.operator x) ss (list (i.operands x))) in
      let answer : None ≡ Some (whole_term (neg_ℤ i.number)) = sym unfolded ∙ left ∙ minus_folded i.number ss ((Decides-ltb (nat_abs (neg_ℤ i.number)) (2 ^ 127)).1 small) in
      absurd cc
]

-- ---- an operator over simplified operands

folding_gives : (o : Op) (us : Terms) (ss : List Sort) (s : Sort) → sorts_of us ≡ Some ss → Takes (shape o) ss s → is_sort s ≡ true → IfSome (folded o ss (list us)) (λ r. Gives s (apply (op o) us) r)
folding_gives o none ss s has takes fine = tt
folding_gives o (u ⨾ us) ss s has takes fine = folded_gives o u us ss s has takes fine

module _ (o : Op) (ts us : Terms) (fine : IsWellSorted (apply (op o) ts)) (k : KeepsAll ts us) where
  -- what stands for the node over the simplified operands stands for the one over the operands
  given_keeps : (s : Sort) (r : Term) → sort_of (apply (op o) ts) ≡ Some s → sort_of (apply (op o) us) ≡ Some s → is_regular (apply (op o) ts) ≡ true → Gives s (apply (op o) us) r → Keeps (apply (op o) ts) r
  given_keeps s r has over rules g = keeps (apply (op o) ts) r s has g.result.has g.result.rules
      (λ m e model env. same-through s m.sizes (val m (apply (op o) ts) e) (val m (apply (op o) us) e) (val m r e)
      (sort_is_sort (apply (op o) ts) s rules has)
      (val_valid (apply (op o) ts) s m e model env has) (val_valid (apply (op o) us) s m e model env over) (val_valid r s m e model env g.result.has)
      (value_over (op o) ts us rules k m e s model env has) (g.values m e model env))

  first_answer : (s : Sort) (fold rule : Option Term) → sort_of (apply (op o) ts) ≡ Some s → sort_of (apply (op o) us) ≡ Some s → is_regular (apply (op o) ts) ≡ true → IfSome fold (λ r. Gives s (apply (op o) us) r) → IfSome rule (λ r. Gives s (apply (op o) us) r) → (fold ≡ None → is_minus_of (op o) us ≡ false) → Keeps (apply (op o) ts) (folded_or_law fold rule (apply (op o) us))
  first_answer s (Some r) rule has over rules folds gives plain = given_keeps s r has over rules folds
  first_answer s None (Some r) has over rules folds gives plain = given_keeps s r has over rules gives
  first_answer s None None has over rules folds gives plain = keeps_apply (op o) ts us fine k (plain refl)

  operator_keeps : Keeps (apply (op o) ts) (red (op o) us)
  operator_keeps =
      let f = fine_term (apply (op o) ts) fine in
      let parts = applied (op o) ts f.sort f.has in
      let takes = rank-takes (op o) parts.sorts f.sort parts.rank in
      let sort = sort_is_sort (apply (op o) ts) f.sort f.rules f.has in
      let sorts : sorts_of us ≡ Some parts.sorts = k.sorts ∙ parts.operands in
      subst (λ (q : Option (List Sort)). Keeps (apply (op o) ts) (folded_or_law (folded o (unwrap_or q []) (list us)) (law o (list us)) (apply (op o) us))) (sym sorts)
      (first_answer f.sort (folded o parts.sorts (list us)) (law o (list us)) f.has (sort_of-apply (op o) us parts.sorts f.sort sorts parts.rank) f.rules
      (folding_gives o us parts.sorts f.sort sorts takes sort) (law_gives o us parts.sorts f.sort sorts k.regular takes sort) (no_minus o us parts.sorts sorts))

-- ---- the law

pub red_keeps : (h : Head) (ts us : Terms) → IsWellSorted (apply h ts) → KeepsAll ts us → Keeps (apply h ts) (red h us)
unfolding is_minus_of
red_keeps (op o) ts us fine k = operator_keeps o ts us fine k
red_keeps (symbol f) ts us fine k = keeps_apply (symbol f) ts us fine k refl
red_keeps (const_array s) ts us fine k = keeps_apply (const_array s) ts us fine k refl

pub quantification_keeps : (q : Quantifier) (xs : List Variable) (t u : Term) → IsWellSorted (quantified q xs t) → Keeps t u → Keeps (quantified q xs t) (quantification q xs u)
quantification_keeps q xs t u fine k =
    let over = keeps_quantified q xs t u fine k in
    keeps_through (quantified q xs t) (quantified q xs u) (quantification q xs u) fine over (fewer_variables_keep q xs u over.sorted)

pub simplify_keeps : KeepsValues simp
simplify_keeps = from_below simp red quantification (record {
  operands = simp_all;
  at_head = λ h ts. refl;
  at_quantifier = λ q xs t. refl;
  at_none = refl;
  at_more = λ t ts. refl;
}) red_keeps quantification_keeps
