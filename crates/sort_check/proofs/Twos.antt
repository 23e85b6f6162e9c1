-- An operator over exactly two operands is that node.
use Rattle.std.proofs.Common.{◌≡◌, ◌≢◌, ◌&&◌, Bool, true, false, nat_le, List, [], ◌∷◌, length, refl, sym, ◌∙◌, subst, arith}
use Rattle.smt_terms.specs.declared.ids.NodeId.{NodeId}
use Rattle.smt_terms.specs.declared.op.Op.{Op}
use Rattle.smt_terms.specs.declared.op.Op.TheVariants.{Neg}
use Rattle.smt_terms.specs.Equal.{sort_eq}
use Rattle.smt_terms.specs.Rank.{Shape, fixed, equation, bitwise_pair, bits_comparison, only, first_misfit, accepted, most_bits, width, places, result_of, rank, shape}
use Rattle.smt_terms.specs.Sorts.{Sort, bool}
use Rattle.smt_terms.specs.Written.{left_associative, right_associative, exchanged, written_rank, written_arity, written_places, written_in_range, written_result, alike, build}
use Rattle.smt_terms.proofs.Equal.{Decides-sort_eq}
use Rattle.smt_terms.proofs.Tests.{both_true}
use Rattle.term_table.specs.Formulas.{Formulas, trees_at, rank_over}
use Rattle.term_table.specs.ShapeRank.{shape_rank, kid_sorts}
use Rattle.sort_check.specs.Forms.{is_theory, is_pair, is_fold, is_link}
use Rattle.sort_check.specs.Making.{made_over, term_algebra}
use Rattle.sort_check.specs.Operands.{chained}
use Rattle.sort_check.proofs.Answering.{fold_pair}
use Rattle.sort_check.proofs.Linking.{link_pair, chain_rank}
use Rattle.sort_check.proofs.Pairs.{pair_over}
use Rattle.sort_check.proofs.Theory.{theory_term}

pair_theory : (sh : Shape) → is_pair sh ≡ true → is_theory sh ≡ true
unfolding is_theory
pair_theory (fixed (s ∷ t ∷ []) r) e = refl
pair_theory equation e = refl
pair_theory bitwise_pair e = refl
pair_theory (bits_comparison r) e = refl
pair_theory _ e = absurd cc

pub pair_other : (o : Op) → is_pair (shape o) ≡ true → o ≢ Neg
unfolding shape
pair_other o e is = let minus : is_pair (shape Neg) ≡ true = subst (λ p. is_pair (shape p) ≡ true) is e in absurd cc

-- ---- an operator that folds

fold_two : (sh : Shape) (a b : Sort) → is_fold sh ≡ true → shape_rank sh (a ∷ b ∷ []) ≡ accepted (first_misfit 0 (alike sh (a ∷ b ∷ [])) (a ∷ b ∷ [])) true (result_of sh (a ∷ b ∷ []))
fold_two (fixed (s ∷ t ∷ []) r) a b e =
    let parts = both_true (sort_eq s t) (sort_eq s r && nat_le (width r) most_bits) e in
    let same : s ≡ t = (Decides-sort_eq s t).0 parts.0 in
    (λ i. accepted (first_misfit 0 (only s ∷ only (sym same i) ∷ []) (a ∷ b ∷ [])) true r)
fold_two bitwise_pair a b e = refl
fold_two _ a b e = absurd cc

module _ (t : Formulas) (o : Op) (fold : is_fold (shape o) ≡ true) where
  fold_rank : (k l : NodeId) → rank_over t o (trees_at t (k ∷ l ∷ [])) ≡ accepted (first_misfit 0 (alike (shape o) (kid_sorts t (k ∷ l ∷ []))) (kid_sorts t (k ∷ l ∷ []))) true (result_of (shape o) (kid_sorts t (k ∷ l ∷ [])))
  unfolding rank
  fold_rank k l = pair_over t o (trees_at t (k ∷ l ∷ [])) (fold_pair (shape o) fold) ∙ fold_two (shape o) _ _ fold

  pub left_rank : (ks : List NodeId) → length ks ≡ 2 → rank_over t o (trees_at t ks) ≡ written_rank (left_associative o) (kid_sorts t ks)
  unfolding written_rank written_arity written_places written_in_range written_result
  left_rank (k ∷ l ∷ []) two = fold_rank k l
  left_rank _ two = absurd (omega arith)

  pub right_rank : (ks : List NodeId) → length ks ≡ 2 → rank_over t o (trees_at t ks) ≡ written_rank (right_associative o) (kid_sorts t ks)
  unfolding written_rank written_arity written_places written_in_range written_result
  right_rank (k ∷ l ∷ []) two = fold_rank k l
  right_rank _ two = absurd (omega arith)

  pub left_term : (ks : List NodeId) → length ks ≡ 2 → made_over t o (trees_at t ks) ≡ build term_algebra (left_associative o) (trees_at t ks)
  unfolding build
  left_term (k ∷ l ∷ []) two = theory_term t o (trees_at t (k ∷ l ∷ [])) (pair_theory (shape o) (fold_pair (shape o) fold))
  left_term _ two = absurd (omega arith)

  pub right_term : (ks : List NodeId) → length ks ≡ 2 → made_over t o (trees_at t ks) ≡ build term_algebra (right_associative o) (trees_at t ks)
  unfolding build
  right_term (k ∷ l ∷ []) two = theory_term t o (trees_at t (k ∷ l ∷ [])) (pair_theory (shape o) (fold_pair (shape o) fold))
  right_term _ two = absurd (omega arith)

-- ---- an operator that links

record LinkTwo (sh : Shape) (ss : List Sort) : Type 0 where
  places : places sh ss ≡ alike sh ss
  result : result_of sh ss ≡ bool

link_two : (sh : Shape) (a b : Sort) → is_link sh ≡ true → LinkTwo sh (a ∷ b ∷ [])
link_two (fixed (s ∷ t ∷ []) r) a b e =
    let parts = both_true (sort_eq s t) (sort_eq r bool) e in
    let same : s ≡ t = (Decides-sort_eq s t).0 parts.0 in
    record { places = (λ i. only s ∷ only (sym same i) ∷ []); result = (Decides-sort_eq r bool).0 parts.1 }
link_two equation a b e = record { places = refl; result = refl }
link_two (bits_comparison r) a b e = record { places = refl; result = (Decides-sort_eq r bool).0 e }
link_two _ a b e = absurd cc

-- one link has the rank of the operator over its operands, exchanged or not
pub link_rank : (o : Op) (turned : Bool) (ss : List Sort) → is_link (shape o) ≡ true → length ss ≡ 2 → written_rank (exchanged o) ss ≡ written_rank (chained turned o) ss
unfolding written_rank written_arity written_places written_in_range written_result
link_rank o turned (a ∷ b ∷ []) link two =
    let known = link_two (shape o) a b link in
    (λ i. accepted (first_misfit 0 (known.places i) (a ∷ b ∷ [])) true (known.result i)) ∙ sym (chain_rank o turned (a ∷ b ∷ []))
link_rank o turned _ link two = absurd (omega arith)

pub turned_term : (t : Formulas) (o : Op) (ks : List NodeId) → length ks ≡ 2 → build term_algebra (exchanged o) (trees_at t ks) ≡ build term_algebra (chained true o) (trees_at t ks)
unfolding build
turned_term t o (k ∷ l ∷ []) two = refl
turned_term t o _ two = absurd (omega arith)

pub straight_term : (t : Formulas) (o : Op) (ks : List NodeId) → is_link (shape o) ≡ true → length ks ≡ 2 → made_over t o (trees_at t ks) ≡ build term_algebra (chained false o) (trees_at t ks)
unfolding build
straight_term t o (k ∷ l ∷ []) link two = theory_term t o (trees_at t (k ∷ l ∷ [])) (pair_theory (shape o) (link_pair (shape o) link))
straight_term t o _ link two = absurd (omega arith)
