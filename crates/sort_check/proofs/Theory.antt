-- Operators of the theories over all their operands.
use Rattle.std.proofs.Common.{◌≡◌, ◌<◌, ◌≤◌, ◌≢◌, Bool, true, false, cond, nat_le, List, [], ◌∷◌, map, length, get_or, replicate, All, Some, None, Ok, Err, IsOk, refl, ap, sym, ◌∙◌, subst, arith}
use Rattle.std.proofs.lemmas.List.Elements.{All-head, All-tail, All-weaker}
use Rattle.smt_terms.specs.declared.ids.NodeId.{NodeId}
use Rattle.smt_terms.specs.declared.op.Op.{Op}
use Rattle.smt_terms.specs.declared.op.Op.TheVariants.{Sym, Forall, Exists, ConstArray, And, Neg, Sub}
use Rattle.smt_terms.specs.Equal.{sort_eq}
use Rattle.smt_terms.specs.Rank.{wrong_arity, wrong_sort, Shape, several, only, before, first_misfit, accepted, result_of, rank, shape, sort_of}
use Rattle.smt_terms.specs.Sorts.{Sort, bool, int}
use Rattle.smt_terms.specs.Term.{op, Term}
use Rattle.smt_terms.specs.Written.{plain, over_all, subtraction, left_associative, written_rank, written_arity, written_places, written_in_range, written_result, itself_or_join, alike, build}
use Rattle.smt_terms.proofs.Ranked.{takes-rank, le_true}
use Rattle.term_table.specs.Formulas.{Formulas, theory, kind, kind_rank, tree, trees_at, term_over, rank_over, sort_or_bool, sorts_in, IsNode, IsOpOf, IsKindOf, Makes}
use Rattle.term_table.specs.ShapeRank.{shape_rank, kid_sorts}
use Rattle.term_table.proofs.Ranks.{length-kid_sorts}
use Rattle.sort_check.specs.Forms.{is_theory, is_several}
use Rattle.sort_check.specs.Making.{made_kind, made_over, term_algebra}
use Rattle.sort_check.specs.Operands.{IsOfSort}
use Rattle.sort_check.proofs.Nodes.{other_makes}

theory_kind : (o : Op) → is_theory (shape o) ≡ true → kind o ≡ theory o
unfolding kind shape is_theory
theory_kind (Sym f) e = absurd cc
theory_kind Forall e = absurd cc
theory_kind Exists e = absurd cc
theory_kind (ConstArray s) e = absurd cc
theory_kind _ e = refl

pub theory_numbers : (t : Formulas) (o : Op) → is_theory (shape o) ≡ true → IsOpOf t o
theory_numbers t o e = subst (λ q. IsKindOf t.symbols t.sorts q) (sym (theory_kind o e)) tt

pub theory_rank : (t : Formulas) (o : Op) (ts : List Term) → is_theory (shape o) ≡ true → rank_over t o ts ≡ rank (op o) (sorts_in ts)
theory_rank t o ts e = ap (λ q. kind_rank t.symbols t.sorts q ts) (theory_kind o e)

pub theory_term : (t : Formulas) (o : Op) (ts : List Term) → is_theory (shape o) ≡ true → made_over t o ts ≡ term_algebra.make o ts
theory_term t o ts e = ap (λ q. made_kind t.symbols t.sorts q ts) (theory_kind o e)

pub plain_rank : (t : Formulas) (o : Op) (ks : List NodeId) → is_theory (shape o) ≡ true → rank_over t o (trees_at t ks) ≡ written_rank (plain o) (kid_sorts t ks)
unfolding rank written_rank written_arity written_places written_in_range written_result
plain_rank t o ks e = theory_rank t o (trees_at t ks) e

pub plain_term : (t : Formulas) (o : Op) (ks : List NodeId) → is_theory (shape o) ≡ true → made_over t o (trees_at t ks) ≡ build term_algebra (plain o) (trees_at t ks)
unfolding build
plain_term t o ks e = theory_term t o (trees_at t ks) e

-- ---- an operator over all operands

pub several_theory : (sh : Shape) → is_several sh ≡ true → is_theory sh ≡ true
unfolding is_theory
several_theory (several s) e = refl
several_theory _ e = absurd cc

one_rank : (sh : Shape) (a : Sort) → is_several sh ≡ true → shape_rank sh (a ∷ a ∷ []) ≡ cond (nat_le 1 1) (accepted (first_misfit 0 (alike sh (a ∷ [])) (a ∷ [])) true (result_of sh (a ∷ []))) (Err wrong_arity)
one_rank (several s) a e = by (sort_eq a s)
  where
    by : (b : Bool) → accepted (before (cond b None (Some (wrong_sort 0 a s))) (before (cond b None (Some (wrong_sort 1 a s))) None)) true s ≡ accepted (before (cond b None (Some (wrong_sort 0 a s))) None) true s
    by true = refl
    by false = refl
one_rank _ a e = absurd cc

-- the rank over the one operand is that over it twice
pub twice_rank : (t : Formulas) (o : Op) (ks : List NodeId) (d : NodeId) → is_several (shape o) ≡ true → length ks ≡ 1 → rank_over t o (trees_at t (get_or ks 0 d ∷ get_or ks 0 d ∷ [])) ≡ written_rank (over_all o) (kid_sorts t ks)
unfolding rank written_rank written_arity written_places written_in_range written_result
twice_rank t o [] d e one = absurd (omega arith)
twice_rank t o (k ∷ []) d e one = theory_rank t o (trees_at t (k ∷ k ∷ [])) (several_theory (shape o) e) ∙ one_rank (shape o) (sort_or_bool (sort_of (tree t k))) e
twice_rank t o (k ∷ l ∷ ks) d e one = absurd (omega arith)

pub itself : (t : Formulas) (o : Op) (ks : List NodeId) (d : NodeId) → length ks ≡ 1 → tree t (get_or ks 0 d) ≡ build term_algebra (over_all o) (trees_at t ks)
unfolding build
itself t o [] d one = absurd (omega arith)
itself t o (k ∷ []) d one = refl
itself t o (k ∷ l ∷ ks) d one = absurd (omega arith)

joined_rank : (sh : Shape) (ss : List Sort) → is_several sh ≡ true → length ss ≢ 1 → shape_rank sh ss ≡ cond (nat_le 1 (length ss)) (accepted (first_misfit 0 (alike sh ss) ss) true (result_of sh ss)) (Err wrong_arity)
joined_rank (several s) [] e not = refl
joined_rank (several s) (a ∷ []) e not = absurd (not refl)
joined_rank (several s) (a ∷ b ∷ ss) e not =
    let r = accepted (first_misfit 0 (map (λ _. only s) (a ∷ b ∷ ss)) (a ∷ b ∷ ss)) true s in
    ap (λ v. cond v r (Err wrong_arity)) (le_true 2 (length (a ∷ b ∷ ss)) (omega arith)) ∙ sym (ap (λ v. cond v r (Err wrong_arity)) (le_true 1 (length (a ∷ b ∷ ss)) (omega arith)))
joined_rank _ ss e not = absurd cc

pub over_rank : (t : Formulas) (o : Op) (ks : List NodeId) → is_several (shape o) ≡ true → length ks ≢ 1 → rank_over t o (trees_at t ks) ≡ written_rank (over_all o) (kid_sorts t ks)
unfolding rank written_rank written_arity written_places written_in_range written_result
over_rank t o ks e not =
    theory_rank t o (trees_at t ks) (several_theory (shape o) e) ∙ joined_rank (shape o) (kid_sorts t ks) e (λ one. not (sym (length-kid_sorts t ks) ∙ one))

pub over_term : (t : Formulas) (o : Op) (ks : List NodeId) → is_several (shape o) ≡ true → length ks ≢ 1 → made_over t o (trees_at t ks) ≡ build term_algebra (over_all o) (trees_at t ks)
unfolding build
over_term t o ks e not = theory_term t o (trees_at t ks) (several_theory (shape o) e) ∙ by ks not
  where
    by : (ks : List NodeId) → length ks ≢ 1 → term_algebra.make o (trees_at t ks) ≡ itself_or_join term_algebra o (trees_at t ks)
    by [] not = refl
    by (k ∷ []) not = absurd (not refl)
    by (k ∷ l ∷ ks) not = refl

-- ---- a unary minus, and differences

pub minus_rank : (t : Formulas) (ks : List NodeId) → length ks < 2 → rank_over t Neg (trees_at t ks) ≡ written_rank subtraction (kid_sorts t ks)
unfolding kind shape rank written_rank written_arity written_places written_in_range written_result
minus_rank t [] few = refl
minus_rank t (k ∷ []) few = refl
minus_rank t (k ∷ l ∷ ks) few = absurd (omega arith)

pub minus_term : (t : Formulas) (ks : List NodeId) → length ks < 2 → IsOk (written_rank subtraction (kid_sorts t ks)) → made_over t Neg (trees_at t ks) ≡ build term_algebra subtraction (trees_at t ks)
unfolding kind build written_rank written_arity written_places written_in_range written_result
minus_term t [] few ok = absurd cc
minus_term t (k ∷ []) few ok = refl
minus_term t (k ∷ l ∷ ks) few ok = absurd (omega arith)

pub differences_rank : (t : Formulas) (ks : List NodeId) → 2 ≤ length ks → written_rank (left_associative Sub) (kid_sorts t ks) ≡ written_rank subtraction (kid_sorts t ks)
unfolding shape written_rank written_arity written_places written_in_range written_result
differences_rank t ks two =
    let count = length-kid_sorts t ks in
    let r = accepted (first_misfit 0 (map (λ _. only int) (kid_sorts t ks)) (kid_sorts t ks)) true int in
    ap (λ v. cond v r (Err wrong_arity)) (le_true 2 (length (kid_sorts t ks)) (omega (arith, count)))
    ∙ sym (ap (λ v. cond v r (Err wrong_arity)) (le_true 1 (length (kid_sorts t ks)) (omega (arith, count))))

pub differences_term : (t : Formulas) (ks : List NodeId) → 2 ≤ length ks → build term_algebra (left_associative Sub) (trees_at t ks) ≡ build term_algebra subtraction (trees_at t ks)
unfolding build
differences_term t [] two = absurd (omega arith)
differences_term t (k ∷ []) two = absurd (omega arith)
differences_term t (k ∷ l ∷ ks) two = refl

-- ---- conjunctions

all_bool : (t : Formulas) (ks : List NodeId) → All (λ k. IsOfSort t k bool) ks → sorts_in (trees_at t ks) ≡ replicate (length ks) bool
all_bool t [] all = refl
all_bool t (k ∷ ks) all =
    (λ i. sort_or_bool ((All-head (λ k. IsOfSort t k bool) k ks all).sort i) ∷ all_bool t ks (All-tail (λ k. IsOfSort t k bool) k ks all) i)

and_ranked : (t : Formulas) (ks : List NodeId) → All (λ k. IsOfSort t k bool) ks → 0 < length ks → length ks ≢ 1 → Ok bool ≡ rank_over t And (trees_at t ks)
unfolding kind shape
and_ranked t [] all some not = absurd (omega arith)
and_ranked t (k ∷ []) all some not = absurd (not refl)
and_ranked t (k ∷ l ∷ ks) all some not =
    sym (takes-rank (op And) (kid_sorts t (k ∷ l ∷ ks)) bool (length ks, all_bool t (k ∷ l ∷ ks) all, refl) (omega arith))

pub and_makes : (t : Formulas) (ks : List NodeId) → All (λ k. IsOfSort t k bool) ks → 0 < length ks → length ks ≢ 1 → Makes t And ks
unfolding kind
and_makes t ks all some not = other_makes t And ks bool (All-weaker (λ k. IsOfSort t k bool) (λ k. IsNode t k) (λ k is. is.node) ks all) tt (λ e. absurd cc) (and_ranked t ks all some not)

pub and_term : (t : Formulas) (ks : List NodeId) → length ks ≢ 1 → term_over t And (trees_at t ks) ≡ itself_or_join term_algebra And (trees_at t ks)
unfolding kind
and_term t [] not = refl
and_term t (k ∷ []) not = absurd (not refl)
and_term t (k ∷ l ∷ ks) not = refl
