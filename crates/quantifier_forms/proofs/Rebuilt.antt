-- An operator over operands that are like its own makes a node, like the one that it made.
use Rattle.std.proofs.Common.{◌≡◌, suc, Bool, true, false, ◌&&◌, List, [], ◌∷◌, length, map, get_or, Option, Some, None, is_ok, refl, ap, sym, ◌∙◌, arith}
use Rattle.std.specs.Prelude.{is_some}
use Rattle.smt_terms.specs.declared.ids.NodeId.{NodeId}
use Rattle.smt_terms.specs.declared.ids.SymId.{SymId}
use Rattle.smt_terms.specs.declared.ids.SortId.{SortId}
use Rattle.smt_terms.specs.declared.op.Op.{Op}
use Rattle.smt_terms.specs.declared.op.Op.TheVariants.{Neg, Whole}
use Rattle.smt_terms.specs.Sorts.{Sort, bool, int, Symbol}
use Rattle.smt_terms.specs.Term.{Head, op, symbol, const_array, Term, apply, quantified, Terms, none, ◌⨾◌, list, terms, over}
use Rattle.smt_terms.specs.Rank.{rank, shape, sort_over, with_sort, sort_of, sorts_of, is_minus, is_minus_of, is_regular, is_whole, IsWellSorted}
use Rattle.smt_terms.proofs.Ranked.{rank-takes}
use Rattle.smt_terms.proofs.Sorted.{IsApplied, applied}
use Rattle.smt_terms.proofs.SortsOfTerms.{IsRegular, regular}
use Rattle.smt_terms.proofs.Tests.{both_true, not_true}
use Rattle.term_table.specs.Formulas.{Formulas, no_symbol, trees_at, operands, term_over, sort_or_bool, sorts_in, Kind, theory, applied as applied_kind, filled, binder, kind, kind_term, kind_rank, is_minus_over, IsOpOf, Makes, AreNodes}
use Rattle.term_table.proofs.Operators.{kind-theory}
use Rattle.smt_values.specs.SortIds.{sort_at}
use Rattle.term_walk.specs.Binders.{is_quantified}
use Rattle.normal_forms.proofs.NnfShape.{no-minus}
use Rattle.quantifier_forms.specs.Rebuilding.{with_operands, is_number, IsLike, AreLike}

pub terms-list : (ts : Terms) → terms (list ts) ≡ ts
terms-list none = refl
terms-list (t ⨾ ts) = ap (λ us. t ⨾ us) (terms-list ts)

-- ---- lists of terms that are like others

pub like-first : (t u : Term) (ts us : List Term) → AreLike (t ∷ ts) (u ∷ us) → IsLike t u
like-first t u ts us h = h.each 0 (omega arith)

pub like-others : (t u : Term) (ts us : List Term) → AreLike (t ∷ ts) (u ∷ us) → AreLike ts us
like-others t u ts us h = let n : suc (length us) ≡ suc (length ts) = h.count in record { count = omega arith; each = λ i lt. h.each (suc i) (omega arith) }

pub like-sorts : (ts us : List Term) → AreLike ts us → sorts_of (terms us) ≡ sorts_of (terms ts)
like-sorts [] [] h = refl
like-sorts [] (u ∷ us) h = let n : suc (length us) ≡ 0 = h.count in absurd (omega arith)
like-sorts (t ∷ ts) [] h = let n : 0 ≡ suc (length ts) = h.count in absurd (omega arith)
like-sorts (t ∷ ts) (u ∷ us) h =
    let first = (like-first t u ts us h).sort in
    let rest = like-sorts ts us (like-others t u ts us h) in
    λ i. with_sort (first i) (rest i)

like-numbers : (ts us : List Term) → AreLike ts us → map is_number us ≡ map is_number ts
like-numbers [] [] h = refl
like-numbers [] (u ∷ us) h = let n : suc (length us) ≡ 0 = h.count in absurd (omega arith)
like-numbers (t ∷ ts) [] h = let n : 0 ≡ suc (length ts) = h.count in absurd (omega arith)
like-numbers (t ∷ ts) (u ∷ us) h =
    let first = (like-first t u ts us h).number in
    let rest = like-numbers ts us (like-others t u ts us h) in
    λ i. first i ∷ rest i

sorts-in : (us : List Term) (ss : List Sort) → sorts_of (terms us) ≡ Some ss → sorts_in us ≡ ss
sorts-in [] ss e = cc
sorts-in (u ∷ us) ss e = by (sort_of u) (sorts_of (terms us)) refl refl e (λ rs. sorts-in us rs)
  where
    by : (o : Option Sort) (p : Option (List Sort)) → sort_of u ≡ o → sorts_of (terms us) ≡ p → with_sort (sort_of u) (sorts_of (terms us)) ≡ Some ss → ((rs : List Sort) → sorts_of (terms us) ≡ Some rs → sorts_in us ≡ rs) → sorts_in (u ∷ us) ≡ ss
    by None p a b f below = let no : with_sort None (sorts_of (terms us)) ≡ Some ss = ap (λ o. with_sort o (sorts_of (terms us))) (sym a) ∙ f in absurd cc
    by (Some s) None a b f below = let no : with_sort (Some s) None ≡ Some ss = (λ i. with_sort (sym a i) (sym b i)) ∙ f in absurd cc
    by (Some s) (Some rs) a b f below =
        let yes : with_sort (Some s) (Some rs) ≡ Some ss = (λ i. with_sort (sym a i) (sym b i)) ∙ f in
        let all : s ∷ rs ≡ ss = cc in
        (λ i. sort_or_bool (a i) ∷ below rs b i) ∙ all

-- ---- no unary minus over a constant

abbrev pub minus_over : Head → List Bool → Bool
minus_over (op p) (b ∷ []) = is_minus p && b
minus_over _ _ = false

never : (b : Bool) → false ≡ (b && false)
never true = refl
never false = refl

pub minus-numbers : (h : Head) (us : List Term) → is_minus_of h (terms us) ≡ minus_over h (map is_number us)
unfolding is_minus_of
minus-numbers (symbol f) us = refl
minus-numbers (const_array s) us = refl
minus-numbers (op p) [] = refl
minus-numbers (op p) (apply (op c) none ∷ []) = refl
minus-numbers (op p) (apply (op c) (w ⨾ ws) ∷ []) = never (is_minus p)
minus-numbers (op p) (apply (symbol f) ws ∷ []) = never (is_minus p)
minus-numbers (op p) (apply (const_array s) ws ∷ []) = never (is_minus p)
minus-numbers (op p) (quantified q xs w ∷ []) = never (is_minus p)
minus-numbers (op p) (apply (op c) none ∷ u ∷ us) = refl
minus-numbers (op p) (apply (op c) (w ⨾ ws) ∷ u ∷ us) = refl
minus-numbers (op p) (apply (symbol f) ws ∷ u ∷ us) = refl
minus-numbers (op p) (apply (const_array s) ws ∷ u ∷ us) = refl
minus-numbers (op p) (quantified q xs w ∷ u ∷ us) = refl

pub like-minus : (h : Head) (ts us : List Term) → AreLike ts us → is_minus_of h (terms us) ≡ is_minus_of h (terms ts)
like-minus h ts us like = minus-numbers h us ∙ ap (minus_over h) (like-numbers ts us like) ∙ sym (minus-numbers h ts)

symbol-minus : (p : Op) (f : SymId) → kind p ≡ applied_kind f → is_minus p ≡ false
unfolding kind is_minus
symbol-minus Neg f e = absurd cc
symbol-minus _ f e = refl

filled-minus : (p : Op) (s : SortId) → kind p ≡ filled s → is_minus p ≡ false
unfolding kind is_minus
filled-minus Neg s e = absurd cc
filled-minus _ s e = refl

no-minus-symbol : (f : Symbol) (ts : Terms) → is_minus_of (symbol f) ts ≡ false
unfolding is_minus_of
no-minus-symbol f ts = refl

no-minus-filled : (s : Sort) (ts : Terms) → is_minus_of (const_array s) ts ≡ false
unfolding is_minus_of
no-minus-filled s ts = refl

-- ---- the operator of a head

record IsHead (t : Formulas) (p : Op) (h : Head) (us : List Term) : Type 0 where
  term : term_over t p us ≡ over h us
  ranks : kind_rank t.symbols t.sorts (kind p) us ≡ rank h (sorts_in us)
  minus : is_minus_over p us ≡ is_minus_of h (terms us)

head-is : (t : Formulas) (p : Op) (h : Head) (ts : Terms) (k : Kind) → kind p ≡ k → apply h ts ≡ kind_term t.symbols t.sorts k (list ts) → (us : List Term) → IsHead t p h us
head-is t p h ts (theory q) is e us =
    let same : h ≡ op q = cc in
    let one : p ≡ q = kind-theory p q is in
    record {
      term = ap (λ k. kind_term t.symbols t.sorts k us) is ∙ ap (λ g. over g us) (sym same);
      ranks = ap (λ k. kind_rank t.symbols t.sorts k us) is ∙ ap (λ g. rank g (sorts_in us)) (sym same);
      minus = ap (λ o. is_minus_of (op o) (terms us)) one ∙ ap (λ g. is_minus_of g (terms us)) (sym same);
    }
head-is t p h ts (applied_kind f) is e us =
    let same : h ≡ symbol (get_or t.symbols f.0 no_symbol) = cc in
    record {
      term = ap (λ k. kind_term t.symbols t.sorts k us) is ∙ ap (λ g. over g us) (sym same);
      ranks = ap (λ k. kind_rank t.symbols t.sorts k us) is ∙ ap (λ g. rank g (sorts_in us)) (sym same);
      minus = no-minus p (terms us) (symbol-minus p f is) ∙ sym (no-minus-symbol (get_or t.symbols f.0 no_symbol) (terms us)) ∙ ap (λ g. is_minus_of g (terms us)) (sym same);
    }
head-is t p h ts (filled s) is e us =
    let same : h ≡ const_array (sort_at t.sorts s) = cc in
    record {
      term = ap (λ k. kind_term t.symbols t.sorts k us) is ∙ ap (λ g. over g us) (sym same);
      ranks = ap (λ k. kind_rank t.symbols t.sorts k us) is ∙ ap (λ g. rank g (sorts_in us)) (sym same);
      minus = no-minus p (terms us) (filled-minus p s is) ∙ sym (no-minus-filled (sort_at t.sorts s) (terms us)) ∙ ap (λ g. is_minus_of g (terms us)) (sym same);
    }
head-is t p h ts (binder q) is e us = absurd cc

-- ---- the node

number-over : (h : Head) (ts : Terms) (us : List Term) → length us ≡ length (list ts) → is_number (over h us) ≡ is_number (apply h ts)
number-over (op c) none [] e = refl
number-over (op c) none (u ∷ us) e = absurd (omega arith)
number-over (op c) (t ⨾ ts) [] e = absurd (omega arith)
number-over (op c) (t ⨾ ts) (u ∷ us) e = refl
number-over (symbol f) ts us e = refl
number-over (const_array s) ts us e = refl

pub record AreRebuilt (t : Formulas) (u : Term) (p : Op) (ks : List NodeId) : Type 0 where
  pub makes : Makes t p ks
  pub term : term_over t p (trees_at t ks) ≡ with_operands u (trees_at t ks)
  pub like : IsLike u (with_operands u (trees_at t ks))

rebuilt-over : (t : Formulas) (h : Head) (ts : Terms) (p : Op) (ks : List NodeId) (s : Sort) → sort_of (apply h ts) ≡ Some s → is_regular (apply h ts) ≡ true → apply h ts ≡ term_over t p (list ts) → IsOpOf t p → AreNodes t ks → AreLike (list ts) (trees_at t ks) → AreRebuilt t (apply h ts) p ks
rebuilt-over t h ts p ks s has fine seen numbers nodes like =
    let a : IsApplied h ts s = applied h ts s has in
    let r : IsRegular h ts = regular h ts fine in
    let head : IsHead t p h (trees_at t ks) = head-is t p h ts (kind p) refl seen (trees_at t ks) in
    let sorts : sorts_of (terms (trees_at t ks)) ≡ sorts_of ts = like-sorts (list ts) (trees_at t ks) like ∙ ap sorts_of (terms-list ts) in
    let inside : sorts_in (trees_at t ks) ≡ a.sorts = sorts-in (trees_at t ks) a.sorts (sorts ∙ a.operands) in
    record {
      makes = record {
        kids = nodes;
        numbers = numbers;
        ranked = ap is_ok (head.ranks ∙ ap (rank h) inside ∙ a.rank);
        minus = head.minus ∙ like-minus h (list ts) (trees_at t ks) like ∙ ap (is_minus_of h) (terms-list ts) ∙ not_true (is_minus_of h ts) r.no_minus;
      };
      term = head.term;
      like = record { sort = ap (sort_over h) sorts; number = number-over h ts (trees_at t ks) like.count };
    }

pub some-sort : (o : Option Sort) → is_some o ≡ true → (s : Sort) × (o ≡ Some s)
some-sort (Some s) e = (s, refl)
some-sort None e = absurd cc

pub rebuilt-term : (t : Formulas) (u : Term) (p : Op) (ks : List NodeId) → IsWellSorted u → is_quantified u ≡ false → u ≡ term_over t p (operands u) → IsOpOf t p → AreNodes t ks → AreLike (operands u) (trees_at t ks) → AreRebuilt t u p ks
rebuilt-term t (quantified q xs body) p ks fine plain seen numbers nodes like = absurd cc
rebuilt-term t (apply h ts) p ks fine plain seen numbers nodes like =
    let parts = both_true (is_some (sort_of (apply h ts))) (is_regular (apply h ts)) fine in
    let sort = some-sort (sort_of (apply h ts)) parts.0 in
    rebuilt-over t h ts p ks sort.0 sort.1 parts.1 seen numbers nodes like

-- ---- a formula is no integer constant

whole-sort : (p : Op) → is_whole p ≡ true → sort_of (apply (op p) none) ≡ Some bool → ⊥
unfolding is_whole shape
whole-sort (Whole n) e has =
    let a = applied (op (Whole n)) none bool has in
    let takes = rank-takes (op (Whole n)) a.sorts bool a.rank in
    let same : bool ≡ int = takes.2 in
    absurd cc
whole-sort _ e has = absurd cc

pub formula-number : (u : Term) → sort_of u ≡ Some bool → is_number u ≡ false
formula-number (apply (op p) none) has = by (is_whole p) refl
  where
    by : (b : Bool) → is_whole p ≡ b → b ≡ false
    by false e = refl
    by true e = absurd (whole-sort p e has)
formula-number (apply (op p) (t ⨾ ts)) has = refl
formula-number (apply (symbol f) ts) has = refl
formula-number (apply (const_array s) ts) has = refl
formula-number (quantified q xs body) has = refl
