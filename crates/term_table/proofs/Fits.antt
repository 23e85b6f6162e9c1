-- An operator that has a rank over its operands makes a well-sorted term, whose operands they are.
use Rattle.std.proofs.Common.{◌≡◌, ℕ, ◌<◌, true, false, ◌&&◌, not, List, [], ◌∷◌, ◌++◌, length, map, get_or, Option, Some, None, Ok, refl, ap, sym, ◌∙◌, subst, arith}
use Rattle.std.specs.List.{list_all}
use Rattle.smt_terms.specs.declared.op.Op.{Op}
use Rattle.smt_terms.specs.Sorts.{Sort, bool, Symbol, Variable}
use Rattle.smt_terms.specs.Term.{Head, op, symbol, const_array, Term, quantified, Terms, list, terms, over, variable}
use Rattle.smt_terms.specs.Rank.{sort_of, sorts_of, is_sort, has_sorts, is_minus_of, is_regular, are_regular}
use Rattle.smt_terms.proofs.Tests.{both_true, and_true}
use Rattle.smt_terms.proofs.Sorted.{sort_of-apply, sort_of-quantified}
use Rattle.smt_terms.proofs.Binders.{rank_quantifier-ok}
use Rattle.smt_values.specs.SortIds.{sort_at, IsSortList}
use Rattle.smt_values.proofs.SortIds.{sort_is}
use Rattle.term_table.specs.Formulas.{no_symbol, Kind, theory, applied, filled, binder, kind, kind_term, kind_rank, binders, body, operands, IsKindOf, sort_or_bool, sorts_in, is_minus_over}
use Rattle.term_table.proofs.Operators.{kind-theory}

-- ---- lists of operands

pub list-terms : (ts : List Term) → list (terms ts) ≡ ts
list-terms [] = refl
list-terms (t ∷ ts) = ap (λ us. t ∷ us) (list-terms ts)

binders-binder : (xs : List Variable) (t : Term) → binders (map variable xs ++ t ∷ []) ≡ xs
binders-binder [] t = refl
binders-binder (x ∷ []) t = refl
binders-binder (x ∷ y ∷ xs) t = ap (λ ys. x ∷ ys) (binders-binder (y ∷ xs) t)

body-binder : (xs : List Variable) (t : Term) → body (map variable xs ++ t ∷ []) ≡ t
body-binder [] t = refl
body-binder (x ∷ []) t = refl
body-binder (x ∷ y ∷ xs) t = body-binder (y ∷ xs) t

-- ---- each has a sort, and is regular

abbrev pub AllGood : List Term → Type 0
AllGood [] = Unit {0}
AllGood (t ∷ ts) = ((s : Sort) × (sort_of t ≡ Some s)) × (is_regular t ≡ true) × AllGood ts

sorts-good : (ts : List Term) → AllGood ts → sorts_of (terms ts) ≡ Some (sorts_in ts)
sorts-good [] h = refl
sorts-good (t ∷ ts) h =
    let first : sort_of t ≡ Some h.0.0 = h.0.1 in
    let rest : sorts_of (terms ts) ≡ Some (sorts_in ts) = sorts-good ts h.2 in
    cc

regular-good : (ts : List Term) → AllGood ts → are_regular (terms ts) ≡ true
regular-good [] h = refl
regular-good (t ∷ ts) h = and_true (is_regular t) (are_regular (terms ts)) h.1 (regular-good ts h.2)

-- the last of a quantifier's operands
good_last : (xs : List Variable) (t : Term) → AllGood (map variable xs ++ t ∷ []) → ((s : Sort) × (sort_of t ≡ Some s)) × (is_regular t ≡ true)
good_last [] t h = (h.0, h.1)
good_last (x ∷ xs) t h = good_last xs t h.2

last_sort : (xs : List Variable) (t : Term) (ss : List Sort) → length ss ≡ length xs → sorts_in (map variable xs ++ t ∷ []) ≡ ss ++ bool ∷ [] → sort_or_bool (sort_of t) ≡ bool
last_sort [] t [] n e = cc
last_sort [] t (s ∷ ss) n e = absurd (omega arith)
last_sort (x ∷ xs) t [] n e = absurd (omega arith)
last_sort (x ∷ xs) t (s ∷ ss) n e =
    let rest : sorts_in (map variable xs ++ t ∷ []) ≡ ss ++ bool ∷ [] = cc in
    last_sort xs t ss (omega arith) rest

good_variables : (xs : List Variable) (t : Term) → AllGood (map variable xs ++ t ∷ []) → list_all (λ x. is_sort x.sort) xs ≡ true
unfolding is_minus_of
good_variables [] t h = refl
good_variables (x ∷ xs) t h =
    let parts = both_true (is_sort x.sort) true h.1 in
    and_true (is_sort x.sort) (list_all (λ y. is_sort y.sort) xs) parts.0 (good_variables xs t h.2)

some_bool : (o : Option Sort) (s : Sort) → o ≡ Some s → sort_or_bool o ≡ bool → o ≡ Some bool
some_bool (Some u) s e f = ap Some f
some_bool None s e f = absurd cc

-- ---- the term over its operands

module _ (fs : List Symbol) (ss : List Sort) where
  pub kind_term-sort : (k : Kind) (ts : List Term) (s : Sort) → AllGood ts → kind_rank fs ss k ts ≡ Ok s → sort_of (kind_term fs ss k ts) ≡ Some s
  kind_term-sort (theory p) ts s h e = sort_of-apply (op p) (terms ts) (sorts_in ts) s (sorts-good ts h) e
  kind_term-sort (applied f) ts s h e = sort_of-apply (symbol (get_or fs f.0 no_symbol)) (terms ts) (sorts_in ts) s (sorts-good ts h) e
  kind_term-sort (filled t) ts s h e = sort_of-apply (const_array (sort_at ss t)) (terms ts) (sorts_in ts) s (sorts-good ts h) e
  kind_term-sort (binder q) ts s h e =
      let b = rank_quantifier-ok ts (sorts_in ts) s e in
      let good : AllGood (map variable b.variables ++ b.body ∷ []) = subst AllGood b.operands h in
      let sorts : sorts_in (map variable b.variables ++ b.body ∷ []) ≡ b.sorts ++ bool ∷ [] = ap sorts_in (sym b.operands) ∙ b.operand_sorts in
      let last = (good_last b.variables b.body good).0 in
      let truth : sort_of b.body ≡ Some bool = some_bool (sort_of b.body) last.0 last.1 (last_sort b.variables b.body b.sorts b.number sorts) in
      let names : binders ts ≡ b.variables = ap binders b.operands ∙ binders-binder b.variables b.body in
      let inner : body ts ≡ b.body = ap body b.operands ∙ body-binder b.variables b.body in
      (λ i. sort_of (quantified q (names i) (inner i))) ∙ sort_of-quantified q b.variables b.body b.bindable truth ∙ ap Some (sym b.result)

  pub kind_term-operands : (k : Kind) (ts : List Term) (s : Sort) → kind_rank fs ss k ts ≡ Ok s → operands (kind_term fs ss k ts) ≡ ts
  kind_term-operands (theory p) ts s e = list-terms ts
  kind_term-operands (applied f) ts s e = list-terms ts
  kind_term-operands (filled t) ts s e = list-terms ts
  kind_term-operands (binder q) ts s e =
      let b = rank_quantifier-ok ts (sorts_in ts) s e in
      let names : binders ts ≡ b.variables = ap binders b.operands ∙ binders-binder b.variables b.body in
      let inner : body ts ≡ b.body = ap body b.operands ∙ body-binder b.variables b.body in
      (λ i. map variable (names i) ++ inner i ∷ []) ∙ sym b.operands

  module _ (table : IsSortList ss) (symbols : (i : ℕ) → i < length fs → has_sorts (symbol (get_or fs i no_symbol)) ≡ true) where
    no_minus : (h : Head) (ts : List Term) → is_minus_of h (terms ts) ≡ false → not (is_minus_of h (terms ts)) ≡ true
    no_minus h ts e = ap not e

    minus-symbol : (f : Symbol) (ts : Terms) → is_minus_of (symbol f) ts ≡ false
    unfolding is_minus_of
    minus-symbol f _ = refl

    minus-filled : (s : Sort) (ts : Terms) → is_minus_of (const_array s) ts ≡ false
    unfolding is_minus_of
    minus-filled s _ = refl

    over_regular : (h : Head) (ts : List Term) → AllGood ts → has_sorts h ≡ true → is_minus_of h (terms ts) ≡ false → is_regular (over h ts) ≡ true
    over_regular h ts good sorts minus =
        and_true (has_sorts h) (not (is_minus_of h (terms ts)) && are_regular (terms ts)) sorts
        (and_true (not (is_minus_of h (terms ts))) (are_regular (terms ts)) (no_minus h ts minus) (regular-good ts good))

    pub kind_term-regular : (p : Op) (k : Kind) (ts : List Term) (s : Sort) → kind p ≡ k → AllGood ts → IsKindOf fs ss k → kind_rank fs ss k ts ≡ Ok s → is_minus_over p ts ≡ false → is_regular (kind_term fs ss k ts) ≡ true
    kind_term-regular p (theory q) ts s is good n e minus =
        let same : p ≡ q = kind-theory p q is in
        over_regular (op q) ts good refl (subst (λ o. is_minus_of (op o) (terms ts) ≡ false) same minus)
    kind_term-regular p (applied f) ts s is good n e minus = over_regular (symbol (get_or fs f.0 no_symbol)) ts good (symbols f.0 n) (minus-symbol (get_or fs f.0 no_symbol) (terms ts))
    kind_term-regular p (filled t) ts s is good n e minus = over_regular (const_array (sort_at ss t)) ts good (sort_is ss table t.0 n) (minus-filled (sort_at ss t) (terms ts))
    kind_term-regular p (binder q) ts s is good n e minus =
        let b = rank_quantifier-ok ts (sorts_in ts) s e in
        let fine : AllGood (map variable b.variables ++ b.body ∷ []) = subst AllGood b.operands good in
        let names : binders ts ≡ b.variables = ap binders b.operands ∙ binders-binder b.variables b.body in
        let inner : body ts ≡ b.body = ap body b.operands ∙ body-binder b.variables b.body in
        (λ i. is_regular (quantified q (names i) (inner i)))
        ∙ and_true (list_all (λ x. is_sort x.sort) b.variables) (is_regular b.body) (good_variables b.variables b.body fine) (good_last b.variables b.body fine).1
