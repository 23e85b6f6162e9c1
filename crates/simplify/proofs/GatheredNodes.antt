-- The operands of `+` and `*` as nodes: the constants, the others, and the node over what is left.
use Rattle.std.proofs.Common.{◌≡◌, ℕ, zero, suc, ◌+◌, ◌^◌, ◌<◌, ◌≤◌, ◌&&◌, ◌||◌, Bool, true, false, cond, ℤ, List, [], ◌∷◌, ◌++◌, length, get_or, drop, replicate, All, Option, Some, None, Result, Ok, Err, IsOk, is_ok, refl, ap, sym, ◌∙◌, subst, arith, add-one, drop-cons, append_assoc}
use Rattle.std.specs.Prelude.{filter, unsigned_abs, IfOk}
use Rattle.std.specs.Ordering.{int_eq}
use Rattle.std.specs.List.{list_any}
use Rattle.std.proofs.lemmas.List.{append-nil}
use Rattle.std.proofs.lemmas.List.Elements.{All-nil, All-cons, All-head, All-tail, All-same, All-push}
use Rattle.smt_terms.specs.declared.ids.NodeId.{NodeId}
use Rattle.smt_terms.specs.declared.op.Op.{Op}
use Rattle.smt_terms.specs.Constants.{whole_term, constant_value}
use Rattle.smt_terms.specs.Sorts.{int}
use Rattle.smt_terms.specs.Term.{op, Term, apply, none, ◌⨾◌, Terms, terms, over}
use Rattle.smt_terms.specs.Rank.{rank, sort_of, width, most_bits, is_minus, is_whole, is_minus_of}
use Rattle.smt_terms.specs.Values.{Value}
use Rattle.smt_terms.proofs.Ranked.{takes-rank}
use Rattle.term_table.specs.Formulas.{Formulas, no_tree, tree, trees_at, sort_or_bool, sorts_in, Kind, kind_rank, kind_term, term_over, IsKindOf, IsNode, Makes}
use Rattle.term_walk.specs.Walking.{GrowsTo}
use Rattle.simplify.specs.Folding.{over_left}
use Rattle.simplify.specs.Gathering.{Gathers, is_other, value_first, values_in}
use Rattle.simplify.specs.NodesOfSorts.{IsNumber}
use Rattle.simplify.specs.Numbers.{unless_neutral}
use Rattle.simplify.specs.Reduced.{Names}
use Rattle.simplify.proofs.Gathered.{AreInt, gathering, several}
use Rattle.simplify.proofs.Gives.{whole_operand}
use Rattle.simplify.proofs.NodesOfSorts.{ranked, numbers_from}

-- ---- lists that are made of nodes one after the other

drop-next : (ks : List NodeId) (i : ℕ) (d : NodeId) → i < length ks → drop i ks ≡ get_or ks i d ∷ drop (i + 1) ks
drop-next ks i d lt = rw (add-one, drop-cons ks i d)

drop-past : (ks : List NodeId) (i : ℕ) → length ks ≤ i → drop i ks ≡ []
drop-past [] zero le = refl
drop-past [] (suc i) le = refl
drop-past (k ∷ ks) zero le = absurd (omega arith)
drop-past (k ∷ ks) (suc i) le = drop-past ks i (omega arith)

module _ {Y : Type 0} (g : List Term → List Y) (splits : (u : Term) (us : List Term) → g (u ∷ us) ≡ g (u ∷ []) ++ g us) (t : Formulas) (ks : List NodeId) (i : ℕ) (all : List Y) where
  made_more : (d : NodeId) (old new : List Y) → i < length ks → new ≡ old ++ g (tree t (get_or ks i d) ∷ []) → old ++ g (trees_at t (drop i ks)) ≡ all → new ++ g (trees_at t (drop (i + 1) ks)) ≡ all
  made_more d old new lt more so_far =
      let u = tree t (get_or ks i d) in
      let us = trees_at t (drop (i + 1) ks) in
      ap (λ ys. ys ++ g us) more
      ∙ append_assoc old (g (u ∷ [])) (g us)
      ∙ ap (λ ys. old ++ ys) (sym (splits u us))
      ∙ ap (λ js. old ++ g (trees_at t js)) (sym (drop-next ks i d lt))
      ∙ so_far

  made_all : (ys : List Y) → g [] ≡ [] → length ks ≤ i → ys ++ g (trees_at t (drop i ks)) ≡ all → ys ≡ all
  made_all ys nothing le so_far =
      sym (append-nil ys) ∙ ap (λ zs. ys ++ zs) (sym nothing) ∙ ap (λ js. ys ++ g (trees_at t js)) (sym (drop-past ks i le)) ∙ so_far

-- ---- the others

others_split : (u : Term) (us : List Term) → filter is_other (u ∷ us) ≡ filter is_other (u ∷ []) ++ filter is_other us
others_split u us = by (is_other u)
  where
    by : (b : Bool) → cond b (u ∷ filter is_other us) (filter is_other us) ≡ cond b (u ∷ []) [] ++ filter is_other us
    by true = refl
    by false = refl

module _ (t : Formulas) (ks : List NodeId) (i : ℕ) where
  pub others-more : (d : NodeId) (old new : List NodeId) → i < length ks → trees_at t new ≡ trees_at t old ++ filter is_other (tree t (get_or ks i d) ∷ []) → trees_at t old ++ filter is_other (trees_at t (drop i ks)) ≡ filter is_other (trees_at t ks) → trees_at t new ++ filter is_other (trees_at t (drop (i + 1) ks)) ≡ filter is_other (trees_at t ks)
  others-more d old new lt more so_far = made_more (filter is_other) others_split t ks i (filter is_other (trees_at t ks)) d (trees_at t old) (trees_at t new) lt more so_far

  pub others-all : (js : List NodeId) → length ks ≤ i → trees_at t js ++ filter is_other (trees_at t (drop i ks)) ≡ filter is_other (trees_at t ks) → trees_at t js ≡ filter is_other (trees_at t ks)
  others-all js le so_far = made_all (filter is_other) others_split t ks i (filter is_other (trees_at t ks)) (trees_at t js) refl le so_far

-- ---- the constants

values_split : (u : Term) (us : List Term) → values_in (u ∷ us) ≡ values_in (u ∷ []) ++ values_in us
values_split u us = by (constant_value u)
  where
    by : (q : Option Value) → value_first q (values_in us) ≡ value_first q [] ++ values_in us
    by None = refl
    by (Some v) = refl

module _ (t : Formulas) (ks : List NodeId) (i : ℕ) (all : List Value) where
  pub constants-more : (d : NodeId) (old new : List Value) → i < length ks → new ≡ old ++ values_in (tree t (get_or ks i d) ∷ []) → old ++ values_in (trees_at t (drop i ks)) ≡ all → new ++ values_in (trees_at t (drop (i + 1) ks)) ≡ all
  constants-more d old new lt more so_far = made_more values_in values_split t ks i all d old new lt more so_far

  pub constants-all : (vs : List Value) → length ks ≤ i → vs ++ values_in (trees_at t (drop i ks)) ≡ all → vs ≡ all
  constants-all vs le so_far = made_all values_in values_split t ks i all vs refl le so_far

-- ---- a node over them

not_minus : (p : Op) (us : Terms) → is_minus p ≡ false → is_minus_of (op p) us ≡ false
unfolding is_minus_of
not_minus p (apply (op c) none ⨾ none) e = ap (λ b. b && is_whole c) e
not_minus p _ e = refl

int_operands : (t : Formulas) (ks : List NodeId) → All (IsNumber t) ks → sorts_in (trees_at t ks) ≡ replicate (length ks) int
int_operands t [] all = refl
int_operands t (k ∷ ks) all = (λ i. sort_or_bool ((All-head (IsNumber t) k ks all).sort i) ∷ int_operands t ks (All-tail (IsNumber t) k ks all) i)

module _ (t : Formulas) (p : Op) (n : ℤ) (gathers : Gathers p n) (ks : List NodeId) where
  pub all_numbers : Makes t p ks → All (IsNumber t) ks
  all_numbers makes =
      let r = ranked t p ks (gathering p n gathers).theory makes in
      let taken = (gathering p n gathers).parts (sorts_in (trees_at t ks)) r.sort r.takes in
      numbers_from t (suc (suc taken.0)) ks taken.1 makes.kids

  pub makes_over : All (IsNumber t) ks → 2 ≤ length ks → Makes t p ks
  makes_over all le =
      let g = gathering p n gathers in
      let narrow : width int ≤ most_bits = omega arith in
      let takes : rank (op p) (sorts_in (trees_at t ks)) ≡ Ok int = ap (rank (op p)) (int_operands t ks all) ∙ takes-rank (op p) (replicate (length ks) int) int (several p n g (length ks) le) narrow in
      record {
        kids = λ i d lt. (all i d lt).node;
        numbers = subst (λ (k : Kind). IsKindOf t.symbols t.sorts k) (sym g.theory) tt;
        ranked = subst (λ (k : Kind). IsOk (kind_rank t.symbols t.sorts k (trees_at t ks))) (sym g.theory) (ap is_ok takes);
        minus = not_minus p (terms (trees_at t ks)) g.minus;
      }

pub int_terms : (t : Formulas) (ks : List NodeId) → All (IsNumber t) ks → AreInt (trees_at t ks)
int_terms t [] all = All-nil (λ u. sort_of u ≡ Some int)
int_terms t (k ∷ ks) all = All-cons (λ u. sort_of u ≡ Some int) (tree t k) (trees_at t ks) (All-head (IsNumber t) k ks all).sort (int_terms t ks (All-tail (IsNumber t) k ks all))

several_left : (p : Op) (u : Term) (t : Formulas) (ks : List NodeId) → 2 ≤ length ks → over (op p) (trees_at t ks) ≡ over_left p u (trees_at t ks)
several_left p u t [] le = absurd (omega arith)
several_left p u t (k ∷ []) le = absurd (omega arith)
several_left p u t (k ∷ j ∷ ks) le = refl

pub names_over : {E : Type 0} (old new : Formulas) (p : Op) (n : ℤ) (ks : List NodeId) (r : Result NodeId E) → Gathers p n → 2 ≤ length ks → IfOk r (IsNode new) → IfOk r (λ k. tree new k ≡ term_over old p (trees_at old ks)) → IfOk r (Names new (over_left p (whole_term n) (trees_at old ks)))
names_over old new p n ks (Err e) gathers le node term = tt
names_over old new p n ks (Ok k) gathers le node term =
    record { node = node; term = term ∙ ap (λ (h : Kind). kind_term old.symbols old.sorts h (trees_at old ks)) (gathering p n gathers).theory ∙ several_left p (whole_term n) old ks le }

-- ---- what is left

trees-push : (t : Formulas) (js : List NodeId) (k : NodeId) → trees_at t (js ++ k ∷ []) ≡ trees_at t js ++ tree t k ∷ []
trees-push t [] k = refl
trees-push t (j ∷ js) k = ap (λ us. tree t j ∷ us) (trees-push t js k)

numbers_stay : (old new : Formulas) (ks : List NodeId) → GrowsTo old new → All (IsNumber old) ks → All (IsNumber new) ks
numbers_stay old new ks grows all i d lt =
    let was = all i d lt in
    let node = was.node in
    let longer = grows.trees.longer in
    record { node = omega arith; sort = ap sort_of (grows.trees.same (get_or ks i d).0 no_tree was.node) ∙ was.sort }

trees_stay : (old new : Formulas) (ks : List NodeId) → GrowsTo old new → All (IsNumber old) ks → trees_at new ks ≡ trees_at old ks
trees_stay old new [] grows all = refl
trees_stay old new (k ∷ ks) grows all =
    let first : tree new k ≡ tree old k = grows.trees.same k.0 no_tree (All-head (IsNumber old) k ks all).node in
    let rest = trees_stay old new ks grows (All-tail (IsNumber old) k ks all) in
    λ i. first i ∷ rest i

module _ (old new : Formulas) (grows : GrowsTo old new) (js ks : List NodeId) (k : NodeId) (m : ℤ) (all : All (IsNumber old) js) (pushed : ks ≡ js ++ k ∷ []) (names : Names new (whole_term m) k) where
  pub left-terms : (n : ℤ) (ts : List Term) → trees_at old js ≡ filter is_other ts → int_eq m n ≡ false → trees_at new ks ≡ filter is_other ts ++ unless_neutral n m
  left-terms n ts others apart =
      ap (trees_at new) pushed
      ∙ trees-push new js k
      ∙ (λ i. (trees_stay old new js grows all ∙ others) i ++ names.term i ∷ [])
      ∙ ap (λ b. filter is_other ts ++ cond b [] (whole_term m ∷ [])) (sym apart)

  pub left-numbers : unsigned_abs m < 2 ^ 127 → All (IsNumber new) ks
  left-numbers small =
      All-same (IsNumber new) ks (js ++ k ∷ []) pushed
      (All-push (IsNumber new) js k (numbers_stay old new js grows all) (record { node = names.node; sort = ap sort_of names.term ∙ (whole_operand m small).has }))

-- ---- an operand that passes a test

module _ (test : Term → Bool) (t : Formulas) (ks : List NodeId) (i : ℕ) where
  any-split : (d : NodeId) → i < length ks → list_any test (trees_at t (drop i ks)) ≡ (test (tree t (get_or ks i d)) || list_any test (trees_at t (drop (i + 1) ks)))
  any-split d lt = ap (λ js. list_any test (trees_at t js)) (drop-next ks i d lt)

  pub any-here : (d : NodeId) → i < length ks → test (tree t (get_or ks i d)) ≡ true → list_any test (trees_at t (drop i ks)) ≡ true
  any-here d lt passes = any-split d lt ∙ ap (λ b. b || list_any test (trees_at t (drop (i + 1) ks))) passes

  pub any-later : (d : NodeId) → i < length ks → test (tree t (get_or ks i d)) ≡ false → list_any test (trees_at t (drop i ks)) ≡ list_any test (trees_at t (drop (i + 1) ks))
  any-later d lt fails = any-split d lt ∙ ap (λ b. b || list_any test (trees_at t (drop (i + 1) ks))) fails

  pub any-none : length ks ≤ i → list_any test (trees_at t (drop i ks)) ≡ false
  any-none le = ap (λ js. list_any test (trees_at t js)) (drop-past ks i le)
