-- The three kinds of answer, and the rank of operands that are alike.
use Rattle.std.proofs.Common.{◌≡◌, ◌<◌, ◌≤◌, Bool, true, false, cond, ◌&&◌, nat_le, List, [], ◌∷◌, length, get_or, All, Option, Some, None, Result, Ok, Err, IsOk, refl, ap, sym, ◌∙◌, subst, arith}
use Rattle.smt_terms.specs.declared.ids.NodeId.{NodeId}
use Rattle.smt_terms.specs.declared.op.Op.{Op}
use Rattle.smt_terms.specs.Equal.{sort_eq}
use Rattle.smt_terms.specs.Rank.{Fault, wrong_arity, width_limit, Shape, fixed, bitwise_pair, first_misfit, accepted, most_bits, width, result_of, shape}
use Rattle.smt_terms.specs.Sorts.{Sort, bool, bit_vector}
use Rattle.smt_terms.specs.Takes.{Takes}
use Rattle.smt_terms.specs.Term.{op}
use Rattle.smt_terms.specs.Written.{Written, left_associative, right_associative, written_rank, written_arity, written_places, written_in_range, written_result, alike, build}
use Rattle.smt_terms.proofs.Equal.{Decides-sort_eq}
use Rattle.smt_terms.proofs.Ranked.{rank-takes, rank-narrow, le_true}
use Rattle.smt_terms.proofs.Tests.{both_true, and_true}
use Rattle.term_table.specs.Faults.{fault_seen, IsFaultOver}
use Rattle.term_table.specs.Formulas.{Formulas, tree, trees_at, IsNode, sort_or_bool}
use Rattle.term_table.proofs.Ranks.{length-kid_sorts}
use Rattle.std.proofs.lemmas.List.Elements.{All-head}
use Rattle.term_table.specs.ShapeRank.{kid_sorts}
use Rattle.term_table.specs.declared.fault.RankFault.{RankFault}
use Rattle.sort_check.specs.declared.fault.MakeFault.TheVariants.{Rank, Memory}
use Rattle.sort_check.specs.Forms.{is_pair, is_fold}
use Rattle.sort_check.specs.Making.{term_algebra, Extends, Builds}
use Rattle.sort_check.specs.Operands.{rank_pair, alike_fault, IsOfSort, TakesEach}
use Rattle.sort_check.proofs.Growing.{extends-refl}

-- ---- answers

pub refused_builds : (t : Formulas) (w : Written) (ks : List NodeId) (e : RankFault) → written_rank w (kid_sorts t ks) ≡ Err (fault_seen t.sorts e) → IsFaultOver t.sorts e → Builds t t w ks (Err (Rank e))
refused_builds t w ks e fault sorts = record { rank = (fault, sorts); node = tt; term = tt; extends = extends-refl t; refused = refl }

pub memory_builds : (old new : Formulas) (w : Written) (ks : List NodeId) → IsOk (written_rank w (kid_sorts old ks)) → Extends old new → Builds old new w ks (Err Memory)
memory_builds old new w ks ranked extends = record { rank = ranked; node = tt; term = tt; extends = extends; refused = tt }

pub made_builds : (old new : Formulas) (w : Written) (ks : List NodeId) (k : NodeId) → IsOk (written_rank w (kid_sorts old ks)) → IsNode new k → tree new k ≡ build term_algebra w (trees_at old ks) → Extends old new → Builds old new w ks (Ok k)
made_builds old new w ks k ranked node term extends = record { rank = ranked; node = node; term = term; extends = extends; refused = tt }

-- ---- operands that are alike

abbrev pub alike_rank : Shape → List Sort → Sort → Result Sort Fault
alike_rank sh ss to = cond (nat_le 2 (length ss)) (accepted (first_misfit 0 (alike sh ss) ss) true to) (Err wrong_arity)

pub alike_refused : (sh : Shape) (ss : List Sort) (to : Sort) (e : Fault) → alike_fault sh ss ≡ Some e → alike_rank sh ss to ≡ Err e
alike_refused sh ss to e fault = by (nat_le 2 (length ss)) (first_misfit 0 (alike sh ss) ss) fault
  where
    by : (b : Bool) (m : Option Fault) → cond b m (Some wrong_arity) ≡ Some e → cond b (accepted m true to) (Err wrong_arity) ≡ Err e
    by true (Some f) is = cc
    by true None is = absurd cc
    by false m is = cc

pub alike_ranked : (sh : Shape) (ss : List Sort) (to : Sort) → alike_fault sh ss ≡ None → nat_le (width to) most_bits ≡ true → alike_rank sh ss to ≡ Ok to
alike_ranked sh ss to none narrow = by (nat_le 2 (length ss)) (first_misfit 0 (alike sh ss) ss) none
  where
    by : (b : Bool) (m : Option Fault) → cond b m (Some wrong_arity) ≡ None → cond b (accepted m true to) (Err wrong_arity) ≡ Ok to
    by true (Some f) is = absurd cc
    by true None is = ap (λ b. cond b (Ok to) (Err width_limit)) narrow
    by false m is = absurd cc

pub is_ok : {r : Result Sort Fault} {s : Sort} → r ≡ Ok s → IsOk r
is_ok e = subst IsOk (sym e) refl

-- at least two
pub alike_two : (sh : Shape) (ss : List Sort) → alike_fault sh ss ≡ None → 2 ≤ length ss
alike_two sh [] none = absurd cc
alike_two sh (s ∷ []) none = absurd cc
alike_two sh (s ∷ t ∷ ss) none = omega arith

-- ---- an operator that folds

pub fold_pair : (sh : Shape) → is_fold sh ≡ true → is_pair sh ≡ true
fold_pair (fixed (s ∷ t ∷ []) r) e =
    let outer = both_true (sort_eq s t) (sort_eq s r && nat_le (width r) most_bits) e in
    let inner = both_true (sort_eq s r) (nat_le (width r) most_bits) outer.1 in
    and_true (sort_eq s t) (nat_le (width r) most_bits) outer.0 inner.1
fold_pair bitwise_pair e = refl
fold_pair _ e = absurd cc

fold_same : (sh : Shape) (s r : Sort) → is_fold sh ≡ true → Takes sh (s ∷ s ∷ []) r → r ≡ s
fold_same (fixed (u ∷ v ∷ []) to) s r e takes =
    let outer = both_true (sort_eq u v) (sort_eq u to && nat_le (width to) most_bits) e in
    let inner = both_true (sort_eq u to) (nat_le (width to) most_bits) outer.1 in
    let same : u ≡ to = (Decides-sort_eq u to).0 inner.0 in
    let first : s ≡ u = let lists : s ∷ s ∷ [] ≡ u ∷ v ∷ [] = takes.0 in cc in
    takes.1 ∙ sym same ∙ sym first
fold_same bitwise_pair s r e takes = let first : s ≡ bit_vector takes.0 = let lists : s ∷ s ∷ [] ≡ bit_vector takes.0 ∷ bit_vector takes.0 ∷ [] = takes.1 in cc in takes.2 ∙ sym first
fold_same _ s r e takes = absurd cc

pub fold_result : (o : Op) (s r : Sort) → is_fold (shape o) ≡ true → rank_pair o s s ≡ Ok r → r ≡ s
fold_result o s r e ranked = fold_same (shape o) s r e (rank-takes (op o) (s ∷ s ∷ []) r ranked)

fold_width : (sh : Shape) (ss : List Sort) (s : Sort) → is_fold sh ≡ true → get_or ss 0 bool ≡ s → nat_le (width s) most_bits ≡ true → nat_le (width (result_of sh ss)) most_bits ≡ true
fold_width (fixed (u ∷ v ∷ []) to) ss s e first narrow =
    let outer = both_true (sort_eq u v) (sort_eq u to && nat_le (width to) most_bits) e in
    (both_true (sort_eq u to) (nat_le (width to) most_bits) outer.1).1
fold_width bitwise_pair ss s e first narrow = subst (λ u. nat_le (width u) most_bits ≡ true) (sym first) narrow
fold_width _ ss s e first narrow = absurd cc

first_sort : (t : Formulas) (s : Sort) (ks : List NodeId) → 0 < length ks → All (λ k. IsOfSort t k s) ks → get_or (kid_sorts t ks) 0 bool ≡ s
first_sort t s [] lt all = absurd (omega arith)
first_sort t s (k ∷ ks) lt all = ap sort_or_bool (All-head (λ k. IsOfSort t k s) k ks all).sort

module _ (t : Formulas) (o : Op) (ks : List NodeId) (fold : is_fold (shape o) ≡ true) (none : alike_fault (shape o) (kid_sorts t ks) ≡ None) (x : TakesEach t o ks) where
  pub some_kids : 2 ≤ length ks
  some_kids = let count = length-kid_sorts t ks in let two = alike_two (shape o) (kid_sorts t ks) none in omega arith

  fold_narrow : nat_le (width (result_of (shape o) (kid_sorts t ks))) most_bits ≡ true
  fold_narrow =
      let within : 0 < length ks = omega (arith, some_kids) in
      fold_width (shape o) (kid_sorts t ks) x.sort fold (first_sort t x.sort ks within x.operands)
      (le_true (width x.sort) most_bits (subst (λ u. width u ≤ most_bits) (fold_result o x.sort x.result fold x.ranked) (rank-narrow (op o) (x.sort ∷ x.sort ∷ []) x.result x.ranked)))

  pub left_ranked : IsOk (written_rank (left_associative o) (kid_sorts t ks))
  unfolding written_rank written_arity written_places written_in_range written_result
  left_ranked = is_ok (alike_ranked (shape o) (kid_sorts t ks) (result_of (shape o) (kid_sorts t ks)) none fold_narrow)

  pub right_ranked : IsOk (written_rank (right_associative o) (kid_sorts t ks))
  unfolding written_rank written_arity written_places written_in_range written_result
  right_ranked = is_ok (alike_ranked (shape o) (kid_sorts t ks) (result_of (shape o) (kid_sorts t ks)) none fold_narrow)

module _ (o : Op) (ss : List Sort) (e : Fault) (fault : alike_fault (shape o) ss ≡ Some e) where
  pub left_refused : written_rank (left_associative o) ss ≡ Err e
  unfolding written_rank written_arity written_places written_in_range written_result
  left_refused = alike_refused (shape o) ss (result_of (shape o) ss) e fault

  pub right_refused : written_rank (right_associative o) ss ≡ Err e
  unfolding written_rank written_arity written_places written_in_range written_result
  right_refused = alike_refused (shape o) ss (result_of (shape o) ss) e fault
