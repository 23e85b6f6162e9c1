-- A term made anew over operands, or a quantifier over a body, that keep their values keeps its own.
use Rattle.std.proofs.Common.{◌≡◌, ℕ, zero, suc, ◌^◌, ◌<◌, ◌≤◌, Bool, true, false, not, cond, ◌&&◌, ℤ, pos, negsuc, neg_ℤ, nat_abs, List, [], ◌∷◌, length, Option, Some, None, IsTrue, refl, ap, sym, ◌∙◌, subst, arith}
use Rattle.std.specs.Prelude.{unwrap_or, IfSome, is_some}
use Rattle.std.specs.List.{list_all}
use Rattle.smt_terms.specs.declared.op.Op.{Op}
use Rattle.smt_terms.specs.declared.op.Op.TheVariants.{Whole, Neg}
use Rattle.smt_terms.specs.Sorts.{Sort, bool, int, bit_vector, array, free_sort, Symbol, Variable}
use Rattle.smt_terms.specs.Term.{Quantifier, Head, op, symbol, const_array, Term, apply, quantified, Terms, none, ◌⨾◌, constant_of}
use Rattle.smt_terms.specs.Equal.{symbol_eq}
use Rattle.smt_terms.specs.Made.{made}
use Rattle.smt_terms.specs.Constants.{whole_term}
use Rattle.smt_terms.specs.Rank.{shape, width, most_bits, sort_of, sorts_of, sort_over, sort_bound, with_sort, are_bindable, is_sort, is_minus, is_whole, is_minus_of, is_regular, are_regular, IsWellSorted}
use Rattle.smt_terms.specs.BitVectors.{BitVector}
use Rattle.smt_terms.specs.Values.{Value, truth, bits, element, Sizes, is_true, over_bits, over_elements, over_values, joined, same, all_same, is_value}
use Rattle.smt_terms.specs.Operators.{op_value}
use Rattle.smt_terms.specs.Models.{Model, IsModel}
use Rattle.smt_terms.specs.Val.{Env, assign, runs, head_value, val, vals}
use Rattle.smt_terms.specs.Laws.{IsEnv}
use Rattle.smt_terms.specs.Keeps.{Keeps}
use Rattle.smt_terms.proofs.Tests.{both_true, and_true}
use Rattle.smt_terms.proofs.Equal.{Decides-symbol_eq}
use Rattle.smt_terms.proofs.Same.{same-itself, same-through}
use Rattle.smt_terms.proofs.Respects.{equal_same, truths_alike}
use Rattle.smt_terms.proofs.SameOperands.{head_gives}
use Rattle.smt_terms.proofs.Ranked.{rank-takes, takes-rank}
use Rattle.smt_terms.proofs.Sorted.{applied, sorted, quantified_sort, sort_of-apply}
use Rattle.smt_terms.proofs.SortsOfTerms.{regular, regular_over, sort_is_sort, sorts_are_sorts}
use Rattle.smt_terms.proofs.Valid.{val_valid, vals_valid}
use Rattle.std.proofs.lemmas.Bool.Decides.{Decides-eqb, Decides-ltb}

-- ---- tests of all values of a sort that agree at each of them

over_bits_alike : (q : Quantifier) (w : ℕ) (A B : BitVector → Bool) → ((bs : BitVector) → length bs ≡ w → A bs ≡ B bs) → over_bits q w A ≡ over_bits q w B
unfolding over_bits
over_bits_alike q zero A B alike = alike [] refl
over_bits_alike q (suc w) A B alike =
    λ i. joined q
    (over_bits_alike q w (λ bs. A (false ∷ bs)) (λ bs. B (false ∷ bs)) (λ bs e. alike (false ∷ bs) (ap suc e)) i)
    (over_bits_alike q w (λ bs. A (true ∷ bs)) (λ bs. B (true ∷ bs)) (λ bs e. alike (true ∷ bs) (ap suc e)) i)

over_elements_alike : (q : Quantifier) (n : ℕ) (A B : ℕ → Bool) → ((i : ℕ) → i < n → A i ≡ B i) → over_elements q n A ≡ over_elements q n B
unfolding over_elements
over_elements_alike q zero A B alike = refl
over_elements_alike q (suc n) A B alike =
    λ x. joined q (over_elements_alike q n A B (λ i less. let below : i < suc n = omega arith in alike i below) x) (let last : n < suc n = omega arith in alike n last x)

over_alike : (q : Quantifier) (s : Sort) (sizes : Sizes) (A B : Value → Bool) → ((v : Value) → is_value s sizes v ≡ true → A v ≡ B v) → over_values q s sizes A ≡ over_values q s sizes B
over_alike q bool sizes A B alike = λ i. joined q (alike (truth false) refl i) (alike (truth true) refl i)
over_alike q (bit_vector w) sizes A B alike = over_bits_alike q w (λ bs. A (bits bs)) (λ bs. B (bits bs)) (λ bs e. alike (bits bs) ((Decides-eqb (length bs) w).1 e))
over_alike q (free_sort n) sizes A B alike = over_elements_alike q (sizes n) (λ i. A (element i)) (λ i. B (element i)) (λ i less. alike (element i) ((Decides-ltb i (sizes n)).1 less))
over_alike q int sizes A B alike = refl
over_alike q (array i e) sizes A B alike = refl

known_cond : (b : Bool) (s : Sort) (sizes : Sizes) (v : Value) (o : Option Value) → (b ≡ true → is_value s sizes v ≡ true) → IfSome o (λ w. IsTrue (is_value s sizes w)) → IfSome (cond b (Some v) o) (λ w. IsTrue (is_value s sizes w))
known_cond true s sizes v o new old = new refl
known_cond false s sizes v o new old = old

pub env_assign : (sizes : Sizes) (x : Variable) (v : Value) (e : Env) → is_value x.sort sizes v ≡ true → IsEnv sizes e → IsEnv sizes (assign x v e)
env_assign sizes x v e valid env f =
    known_cond (symbol_eq (constant_of x) f) f.result sizes v (e f)
    (λ here. subst (λ (g : Symbol). is_value g.result sizes v ≡ true) ((Decides-symbol_eq (constant_of x) f).0 here) valid)
    (env f)

-- two tests that agree under all environments of values of their sorts
pub runs_alike : (q : Quantifier) (xs : List Variable) (sizes : Sizes) (A B : Env → Bool) → ((d : Env) → IsEnv sizes d → A d ≡ B d) → (e : Env) → IsEnv sizes e → runs q xs sizes A e ≡ runs q xs sizes B e
runs_alike q [] sizes A B alike e env = alike e env
runs_alike q (x ∷ xs) sizes A B alike e env =
    over_alike q x.sort sizes (λ v. runs q xs sizes A (assign x v e)) (λ v. runs q xs sizes B (assign x v e))
    (λ v valid. runs_alike q xs sizes A B alike (assign x v e) (env_assign sizes x v e valid env))

-- ---- a term itself, and one after the other

pub keeps_itself : (t : Term) → IsWellSorted t → Keeps t t
keeps_itself t fine = record { sorted = fine; sort = refl; value = λ m e s model env has. same-itself s m.sizes (val m t e) }

pub keeps_through : (t u w : Term) → IsWellSorted t → Keeps t u → Keeps u w → Keeps t w
keeps_through t u w fine k l = record {
  sorted = l.sorted;
  sort = l.sort ∙ k.sort;
  value = λ m e s model env has.
      let middle : sort_of u ≡ Some s = k.sort ∙ has in
      let last : sort_of w ≡ Some s = l.sort ∙ middle in
      same-through s m.sizes (val m t e) (val m u e) (val m w e)
      (sort_is_sort t s (both_true (is_some (sort_of t)) (is_regular t) fine).1 has)
      (val_valid t s m e model env has) (val_valid u s m e model env middle) (val_valid w s m e model env last)
      (k.value m e s model env has) (l.value m e s model env middle);
}

-- ---- operands, one by one

pub record KeepsAll (ts us : Terms) : Type 0 where
  pub regular : are_regular us ≡ true
  pub sorts : sorts_of us ≡ sorts_of ts
  pub values : (m : Model) (e : Env) (ss : List Sort) → IsModel m → IsEnv m.sizes e → sorts_of ts ≡ Some ss → all_same ss m.sizes (vals m ts e) (vals m us e) ≡ true

pub keeps_none : KeepsAll none none
keeps_none = record {
  regular = refl;
  sorts = refl;
  values = λ m e ss model env has. let empty : [] ≡ ss = cc in subst (λ rs. all_same rs m.sizes [] [] ≡ true) empty refl;
}

pub keeps_more : (t u : Term) (ts us : Terms) → Keeps t u → KeepsAll ts us → KeepsAll (t ⨾ ts) (u ⨾ us)
keeps_more t u ts us k l = record {
  regular = and_true (is_regular u) (are_regular us) (both_true (is_some (sort_of u)) (is_regular u) k.sorted).1 l.regular;
  sorts = λ i. with_sort (k.sort i) (l.sorts i);
  values = λ m e ss model env has.
      let parts = sorted t ts ss has in
      subst (λ rs. all_same rs m.sizes (val m t e ∷ vals m ts e) (val m u e ∷ vals m us e) ≡ true) (sym parts.all)
      (and_true (same parts.sort m.sizes (val m t e) (val m u e)) (all_same parts.sorts m.sizes (vals m ts e) (vals m us e))
      (k.value m e parts.sort model env parts.first) (l.values m e parts.sorts model env parts.others));
}

-- ---- a head over them

-- the value alone
pub value_over : (h : Head) (ts us : Terms) → is_regular (apply h ts) ≡ true → KeepsAll ts us → (m : Model) (e : Env) (s : Sort) → IsModel m → IsEnv m.sizes e → sort_of (apply h ts) ≡ Some s → same s m.sizes (val m (apply h ts) e) (val m (apply h us) e) ≡ true
value_over h ts us fine k m e s model env has =
    let parts = applied h ts s has in
    let others : sorts_of us ≡ Some parts.sorts = k.sorts ∙ parts.operands in
    let left : val m (apply h ts) e ≡ head_value m e h parts.sorts (vals m ts e) = ap (λ (o : Option (List Sort)). head_value m e h (unwrap_or o []) (vals m ts e)) parts.operands in
    let right : val m (apply h us) e ≡ head_value m e h parts.sorts (vals m us e) = ap (λ (o : Option (List Sort)). head_value m e h (unwrap_or o []) (vals m us e)) others in
    (λ i. same s m.sizes (left i) (right i))
    ∙ head_gives m e h parts.sorts s (vals m ts e) (vals m us e) model parts.rank
    (sorts_are_sorts ts parts.sorts (regular h ts fine).operands parts.operands)
    (vals_valid ts parts.sorts m e model env parts.operands) (vals_valid us parts.sorts m e model env others)
    (k.values m e parts.sorts model env parts.operands)

pub keeps_apply : (h : Head) (ts us : Terms) → IsWellSorted (apply h ts) → KeepsAll ts us → is_minus_of h us ≡ false → Keeps (apply h ts) (apply h us)
keeps_apply h ts us fine k plain =
    let parts = both_true (is_some (sort_of (apply h ts))) (is_regular (apply h ts)) fine in
    let sort : sort_of (apply h us) ≡ sort_of (apply h ts) = ap (sort_over h) k.sorts in
    record {
      sorted = and_true (is_some (sort_of (apply h us))) (is_regular (apply h us)) (ap is_some sort ∙ parts.0)
          (regular_over h us (record { head = (regular h ts parts.1).head; no_minus = ap not plain; operands = k.regular }));
      sort = sort;
      value = value_over h ts us parts.1 k;
    }

-- ---- a quantifier over a body

pub keeps_quantified : (q : Quantifier) (xs : List Variable) (t u : Term) → IsWellSorted (quantified q xs t) → Keeps t u → Keeps (quantified q xs t) (quantified q xs u)
keeps_quantified q xs t u fine k =
    let parts = both_true (is_some (sort_of (quantified q xs t))) (is_regular (quantified q xs t)) fine in
    let rest = both_true (list_all (λ (x : Variable). is_sort x.sort) xs) (is_regular t) parts.1 in
    let sort : sort_of (quantified q xs u) ≡ sort_of (quantified q xs t) = ap (sort_bound (are_bindable xs)) k.sort in
    record {
      sorted = and_true (is_some (sort_of (quantified q xs u))) (is_regular (quantified q xs u)) (ap is_some sort ∙ parts.0)
          (and_true (list_all (λ (x : Variable). is_sort x.sort) xs) (is_regular u) rest.0 (both_true (is_some (sort_of u)) (is_regular u) k.sorted).1);
      sort = sort;
      value = λ m e s model env has.
          let body : sort_of t ≡ Some bool = (quantified_sort q xs t s has).body in
          equal_same s m.sizes (ap truth (runs_alike q xs m.sizes (λ f. is_true (val m t f)) (λ f. is_true (val m u f))
          (λ d valid. truths_alike m.sizes (val m t d) (val m u d) (k.value m d bool model valid body)) e env));
    }

-- ---- a head over them, where a minus over a constant is the constant

data MadeAs (h : Head) (us : Terms) : Type 0 where
  plain : made h us ≡ apply h us → is_minus_of h us ≡ false → MadeAs h us
  number : (n : ℤ) → h ≡ op Neg → us ≡ whole_term n ⨾ none → MadeAs h us

pub two_or_more : (p : Op) (t u : Term) (us : Terms) → is_minus_of (op p) (t ⨾ (u ⨾ us)) ≡ false
unfolding is_minus_of
two_or_more p (quantified q xs t) u us = refl
two_or_more p (apply (symbol f) ts) u us = refl
two_or_more p (apply (const_array s) ts) u us = refl
two_or_more p (apply (op c) none) u us = refl
two_or_more p (apply (op c) (t ⨾ ts)) u us = refl

pub not_minus : (p : Op) (us : Terms) → is_minus p ≡ false → is_minus_of (op p) us ≡ false
unfolding is_minus_of
not_minus p none e = refl
not_minus p (t ⨾ (u ⨾ us)) e = two_or_more p t u us
not_minus p (quantified q xs t ⨾ none) e = refl
not_minus p (apply (symbol f) ts ⨾ none) e = refl
not_minus p (apply (const_array s) ts ⨾ none) e = refl
not_minus p (apply (op c) (t ⨾ ts) ⨾ none) e = refl
not_minus p (apply (op c) none ⨾ none) e = ap (λ b. b && is_whole c) e

minus_or : (us : Terms) → MadeAs (op Neg) us
unfolding is_minus_of is_minus is_whole
minus_or none = plain refl refl
minus_or (t ⨾ (u ⨾ us)) = plain refl (two_or_more Neg t u us)
minus_or (quantified q xs t ⨾ none) = plain refl refl
minus_or (apply (symbol f) ts ⨾ none) = plain refl refl
minus_or (apply (const_array s) ts ⨾ none) = plain refl refl
minus_or (apply (op (Whole n)) none ⨾ none) = number n refl refl
minus_or (apply (op (Whole n)) (t ⨾ ts) ⨾ none) = plain refl refl
minus_or (apply (op c) none ⨾ none) = plain refl refl
minus_or (apply (op c) (t ⨾ ts) ⨾ none) = plain refl refl

made_or : (h : Head) (us : Terms) → MadeAs h us
unfolding is_minus_of is_minus
made_or (symbol f) us = plain refl refl
made_or (const_array s) us = plain refl refl
made_or (op Neg) us = minus_or us
made_or (op p) us = plain refl (not_minus p us refl)

nat_abs-neg : (n : ℤ) → nat_abs (neg_ℤ n) ≡ nat_abs n
nat_abs-neg (pos zero) = refl
nat_abs-neg (pos (suc n)) = refl
nat_abs-neg (negsuc n) = refl

pub the_sort : (o : Option Sort) → is_some o ≡ true → (s : Sort) × (o ≡ Some s)
the_sort (Some s) h = (s, refl)
the_sort None h = absurd cc

whole_regular : (n : ℤ) → is_regular (whole_term n) ≡ true
unfolding is_minus_of
whole_regular n = refl

whole_sort : (n : ℤ) → nat_abs n < 2 ^ 127 → sort_of (whole_term n) ≡ Some int
unfolding shape
whole_sort n small =
    let narrow : width int ≤ most_bits = omega arith in
    sort_of-apply (op (Whole n)) none [] int refl (takes-rank (op (Whole n)) [] int (refl, small, refl) narrow)

whole_small : (n : ℤ) (s : Sort) → sort_of (whole_term n) ≡ Some s → nat_abs n < 2 ^ 127
unfolding shape
whole_small n s has =
    let parts = applied (op (Whole n)) none s has in
    (rank-takes (op (Whole n)) parts.sorts s parts.rank).1

negated_value : (m : Model) (e : Env) (n : ℤ) → val m (apply (op Neg) (whole_term n ⨾ none)) e ≡ val m (whole_term (neg_ℤ n)) e
unfolding op_value
negated_value m e n = refl

negated_sort : (ts : Terms) (s : Sort) → sort_of (apply (op Neg) ts) ≡ Some s → s ≡ int
unfolding shape
negated_sort ts s has =
    let parts = applied (op Neg) ts s has in
    (rank-takes (op Neg) parts.sorts s parts.rank).1

keeps_minus : (ts : Terms) (n : ℤ) → IsWellSorted (apply (op Neg) ts) → KeepsAll ts (whole_term n ⨾ none) → Keeps (apply (op Neg) ts) (whole_term (neg_ℤ n))
keeps_minus ts n fine k =
    let parts = both_true (is_some (sort_of (apply (op Neg) ts))) (is_regular (apply (op Neg) ts)) fine in
    let found = the_sort (sort_of (apply (op Neg) ts)) parts.0 in
    let over = applied (op Neg) ts found.0 found.1 in
    let operand = sorted (whole_term n) none over.sorts (k.sorts ∙ over.operands) in
    let small : nat_abs (neg_ℤ n) < 2 ^ 127 = subst (λ i. i < 2 ^ 127) (sym (nat_abs-neg n)) (whole_small n operand.sort operand.first) in
    let sort : sort_of (whole_term (neg_ℤ n)) ≡ Some int = whole_sort (neg_ℤ n) small in
    record {
      sorted = and_true (is_some (sort_of (whole_term (neg_ℤ n)))) (is_regular (whole_term (neg_ℤ n))) (ap is_some sort) (whole_regular (neg_ℤ n));
      sort = sort ∙ sym (found.1 ∙ ap (λ r. Some r) (negated_sort ts found.0 found.1));
      value = λ m e s model env has.
          subst (λ v. same s m.sizes (val m (apply (op Neg) ts) e) v ≡ true) (negated_value m e n)
          (value_over (op Neg) ts (whole_term n ⨾ none) parts.1 k m e s model env has);
    }

abbrev KeepsMade : Head → Terms → Terms → Type 0
KeepsMade h ts us = IsWellSorted (apply h ts) → KeepsAll ts us → Keeps (apply h ts) (made h us)

made_keeps : (h : Head) (ts us : Terms) → MadeAs h us → KeepsMade h ts us
made_keeps h ts us (plain e p) fine k = subst (λ t. Keeps (apply h ts) t) (sym e) (keeps_apply h ts us fine k p)
made_keeps h ts us (number n e f) fine k = subst (λ g. KeepsMade g ts us) (sym e) (subst (λ w. KeepsMade (op Neg) ts w) (sym f) (keeps_minus ts n)) fine k

pub keeps_made : (h : Head) (ts us : Terms) → KeepsMade h ts us
keeps_made h ts us = made_keeps h ts us (made_or h us)
