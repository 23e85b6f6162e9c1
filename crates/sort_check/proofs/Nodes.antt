-- The terms that are made.
use Rattle.std.proofs.Common.{◌≡◌, zero, suc, ◌<◌, false, ◌&&◌, List, [], ◌∷◌, length, get_or, Option, Some, None, Result, Ok, Err, IsOk, refl, ap, sym, ◌∙◌, subst, arith}
use Rattle.smt_terms.specs.declared.ids.NodeId.{NodeId}
use Rattle.smt_terms.specs.declared.op.Op.{Op}
use Rattle.smt_terms.specs.declared.op.Op.TheVariants.{Neg, Sym, Forall, Exists, ConstArray}
use Rattle.smt_terms.specs.Made.{minus, made}
use Rattle.smt_terms.specs.Rank.{Fault, rank, shape, sort_of, with_sort, is_minus, is_whole, is_minus_of}
use Rattle.smt_terms.specs.Sorts.{Sort, int, Symbol}
use Rattle.smt_terms.specs.Term.{op, Term, apply, none, ◌⨾◌, terms, over}
use Rattle.smt_terms.specs.Written.{apply_to_both}
use Rattle.smt_terms.proofs.Ranked.{rank-takes}
use Rattle.smt_terms.proofs.Sorted.{sort_of-apply}
use Rattle.smt_terms.proofs.Made.{made-sort}
use Rattle.term_table.specs.Formulas.{Formulas, Kind, theory, applied, filled, binder, kind, kind_term, tree, trees_at, term_over, rank_over, sort_or_bool, sorts_in, is_minus_over, kind_rank, IsKindOf, IsNode, AreNodes, IsOpOf, Makes}
use Rattle.term_table.proofs.Operators.{kind-theory}
use Rattle.sort_check.specs.Making.{made_kind, made_over, term_algebra}
use Rattle.sort_check.specs.Operands.{rank_pair, node_sort}

-- ---- a unary minus

whole_sort : (o : Option Sort) → sort_or_bool o ≡ int → o ≡ Some int
whole_sort (Some s) e = ap Some e
whole_sort None e = absurd cc

one_whole : (t : Formulas) (ks : List NodeId) → sorts_in (trees_at t ks) ≡ int ∷ [] → (0 < length ks) × ((d : NodeId) → sort_of (tree t (get_or ks 0 d)) ≡ Some int) × ((d : NodeId) → ks ≡ get_or ks 0 d ∷ [])
one_whole t [] e = absurd cc
one_whole t (k ∷ []) e = let is : sort_or_bool (sort_of (tree t k)) ≡ int = cc in (omega arith, (λ d. whole_sort (sort_of (tree t k)) is), (λ d. refl))
one_whole t (k ∷ l ∷ ks) e = let more : sorts_in (trees_at t (l ∷ ks)) ≡ [] = cc in absurd cc

abbrev pub IsNegated : Formulas → List NodeId → Type 0
IsNegated t ks = (0 < length ks) × ((d : NodeId) → sort_of (tree t (get_or ks 0 d)) ≡ Some int) × ((d : NodeId) → ks ≡ get_or ks 0 d ∷ [])

pub negated : (t : Formulas) (o : Op) (ks : List NodeId) (s : Sort) → o ≡ Neg → Ok s ≡ rank_over t o (trees_at t ks) → IsNegated t ks
unfolding kind shape
negated t o ks s is ranked =
    let at : rank (op Neg) (sorts_in (trees_at t ks)) ≡ Ok s = sym (subst (λ p. Ok s ≡ rank_over t p (trees_at t ks)) is ranked) in
    one_whole t ks (rank-takes (op Neg) (sorts_in (trees_at t ks)) s at).0

pub minus_made : (t : Formulas) (o : Op) (ks : List NodeId) → o ≡ Neg → IsNegated t ks → (d : NodeId) → minus (tree t (get_or ks 0 d)) ≡ made_over t o (trees_at t ks)
unfolding kind
minus_made t o ks is one d =
    (λ i. made_over t (sym is i) (trees_at t (sym (one.2 d) i)))

-- ---- another operator

made-other : (p : Op) (ts : List Term) → (p ≡ Neg → ⊥) → over (op p) ts ≡ made (op p) (terms ts)
made-other Neg ts not = absurd (not refl)
made-other _ ts not = refl

kind-other : (fs : List Symbol) (ss : List Sort) (k : Kind) (ts : List Term) → ((p : Op) → k ≡ theory p → p ≡ Neg → ⊥) → kind_term fs ss k ts ≡ made_kind fs ss k ts
kind-other fs ss (theory p) ts not = made-other p ts (not p refl)
kind-other fs ss (applied f) ts not = refl
kind-other fs ss (filled s) ts not = refl
kind-other fs ss (binder q) ts not = refl

pub other_made : (t : Formulas) (o : Op) (ts : List Term) → (o ≡ Neg → ⊥) → term_over t o ts ≡ made_over t o ts
other_made t o ts not = kind-other t.symbols t.sorts (kind o) ts (λ p e is. not (kind-theory o p e ∙ is))

minus_only : (p : Op) → (p ≡ Neg → ⊥) → is_minus p ≡ false
unfolding is_minus
minus_only Neg not = absurd (not refl)
minus_only _ not = refl

no_minus : (o : Op) (ts : List Term) → is_minus o ≡ false → is_minus_over o ts ≡ false
unfolding is_minus_of
no_minus o (apply (op c) none ∷ []) e = ap (λ b. b && is_whole c) e
no_minus o _ e = refl

pub other_makes : (t : Formulas) (o : Op) (ks : List NodeId) (s : Sort) → AreNodes t ks → IsOpOf t o → (o ≡ Neg → ⊥) → Ok s ≡ rank_over t o (trees_at t ks) → Makes t o ks
other_makes t o ks s kids numbers not ranked =
    record { kids = kids; numbers = numbers; ranked = subst IsOk ranked refl; minus = no_minus o (trees_at t ks) (minus_only o not) }

-- ---- an operator over two operands

ranked_theory : (o : Op) (ss : List Sort) (r : Sort) → rank (op o) ss ≡ Ok r → kind o ≡ theory o
unfolding kind shape
ranked_theory (Sym f) ss r e = absurd (rank-takes (op (Sym f)) ss r e)
ranked_theory Forall ss r e = absurd (rank-takes (op Forall) ss r e)
ranked_theory Exists ss r e = absurd (rank-takes (op Exists) ss r e)
ranked_theory (ConstArray s) ss r e = absurd (rank-takes (op (ConstArray s)) ss r e)
ranked_theory _ ss r e = refl

pub ok_value : (r : Result Sort Fault) → IsOk r → (s : Sort) × (r ≡ Ok s)
ok_value (Ok s) e = (s, refl)
ok_value (Err f) e = absurd cc

two_operands : (o : Op) (t u : Term) → is_minus_of (op o) (t ⨾ u ⨾ none) ≡ false
unfolding is_minus_of
two_operands o (apply (op c) none) u = refl
two_operands o _ u = refl

made-pair : (o : Op) (t u : Term) → apply (op o) (t ⨾ u ⨾ none) ≡ made (op o) (t ⨾ u ⨾ none)
made-pair Neg t u = refl
made-pair _ t u = refl

two_nodes : (t : Formulas) (k l : NodeId) → IsNode t k → IsNode t l → AreNodes t (k ∷ l ∷ [])
two_nodes t k l a b zero d lt = a
two_nodes t k l a b (suc zero) d lt = b
two_nodes t k l a b (suc (suc i)) d lt = absurd (omega arith)

module _ (t : Formulas) (o : Op) (k l : NodeId) (ranked : IsOk (rank_pair o (node_sort t k) (node_sort t l))) where
  pair_kind : kind o ≡ theory o
  pair_kind = let ok = ok_value (rank_pair o (node_sort t k) (node_sort t l)) ranked in ranked_theory o (node_sort t k ∷ node_sort t l ∷ []) ok.0 ok.1

  pub pair_rank : rank_over t o (trees_at t (k ∷ l ∷ [])) ≡ rank_pair o (node_sort t k) (node_sort t l)
  pair_rank = ap (λ q. kind_rank t.symbols t.sorts q (trees_at t (k ∷ l ∷ []))) pair_kind

  pub pair_makes : IsNode t k → IsNode t l → Makes t o (k ∷ l ∷ [])
  pair_makes left right = record {
    kids = two_nodes t k l left right;
    numbers = subst (λ q. IsKindOf t.symbols t.sorts q) (sym pair_kind) tt;
    ranked = subst (λ q. IsOk (kind_rank t.symbols t.sorts q (trees_at t (k ∷ l ∷ [])))) (sym pair_kind) ranked;
    minus = two_operands o (tree t k) (tree t l);
  }

  pub pair_term : term_over t o (trees_at t (k ∷ l ∷ [])) ≡ apply_to_both term_algebra o (tree t k) (tree t l)
  pair_term = ap (λ q. kind_term t.symbols t.sorts q (trees_at t (k ∷ l ∷ []))) pair_kind ∙ made-pair o (tree t k) (tree t l)

-- the sort of an operator over two terms of these sorts
pub pair_sort : (o : Op) (u v : Term) (r s to : Sort) → sort_of u ≡ Some r → sort_of v ≡ Some s → rank_pair o r s ≡ Ok to → sort_of (apply_to_both term_algebra o u v) ≡ Some to
pair_sort o u v r s to a b ranked =
    made-sort (op o) (u ⨾ v ⨾ none) ∙ sort_of-apply (op o) (u ⨾ v ⨾ none) (r ∷ s ∷ []) to ((λ i. with_sort (a i) (with_sort (b i) (Some [])))) ranked
