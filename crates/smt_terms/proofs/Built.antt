-- Formulas that passes build, and what they say in each model.
use Rattle.std.proofs.Common.{◌≡◌, ℕ, zero, suc, ◌≤◌, Bool, true, false, not, ◌&&◌, ◌||◌, List, [], ◌∷◌, map, length, replicate, Some, refl, ap, sym, ◌∙◌, subst, arith}
use Rattle.std.specs.Prelude.{⊤}
use Rattle.smt_terms.specs.declared.op.Op.TheVariants.{Not, And, Or}
use Rattle.smt_terms.specs.Sorts.{Sort, bool}
use Rattle.smt_terms.specs.Term.{op, Term, apply, Terms, none, ◌⨾◌, list, terms}
use Rattle.smt_terms.specs.Rank.{rank, shape, width, most_bits, sort_over, with_sort, sort_of, sorts_of}
use Rattle.smt_terms.specs.Values.{is_true}
use Rattle.smt_terms.specs.Operators.{op_value}
use Rattle.smt_terms.specs.Models.{Model}
use Rattle.smt_terms.specs.Val.{Env, val, vals}
use Rattle.smt_terms.specs.Connectives.{operator_kind, truth_term, negated, all_of, any_of, both, either, opposite}
use Rattle.smt_terms.proofs.Ranked.{takes-rank}
use Rattle.smt_terms.proofs.Sorted.{sorted, sort_of-apply}
use Rattle.smt_terms.proofs.Connected.{Connected, connected, connective-value, all_bits, any_bit}

-- what a formula says in each model
abbrev pub Sense : Type 0
Sense = Model → Env → Bool

abbrev pub sense : Term → Sense
sense t m e = is_true (val m t e)

-- a formula that says this
pub record Means (r : Term) (says : Sense) : Type 0 where
  pub sort : sort_of r ≡ Some bool
  pub value : (m : Model) (e : Env) → is_true (val m r e) ≡ says m e

pub means-same : (r : Term) (f g : Sense) → ((m : Model) (e : Env) → f m e ≡ g m e) → Means r f → Means r g
means-same r f g alike means = record { sort = means.sort; value = λ m e. means.value m e ∙ alike m e }

pub means-itself : (t : Term) → sort_of t ≡ Some bool → Means t (sense t)
means-itself t has = record { sort = has; value = λ m e. refl }

-- ---- the builders

pub means-truth : (b : Bool) → Means (truth_term b) (λ m e. b)
unfolding rank op_value
means-truth b = record { sort = refl; value = λ m e. refl }

pub means-negated : (r : Term) (f : Sense) → Means r f → Means (negated r) (λ m e. not (f m e))
unfolding rank op_value
means-negated r f a = record {
  sort = ap (λ s. sort_over (op Not) (with_sort s (Some []))) a.sort;
  value = λ m e. ap not (a.value m e);
}

and_right : (a : Bool) → (a && true) ≡ a
and_right true = refl
and_right false = refl

or_right : (a : Bool) → (a || false) ≡ a
or_right true = refl
or_right false = refl

pub means-both : (r s : Term) (f g : Sense) → Means r f → Means s g → Means (both r s) (λ m e. f m e && g m e)
unfolding rank op_value
means-both r s f g a b = record {
  sort = λ i. sort_over (op And) (with_sort (a.sort i) (with_sort (b.sort i) (Some [])));
  value = λ m e. (λ i. a.value m e i && (b.value m e i && true)) ∙ ap (λ c. f m e && c) (and_right (g m e));
}

pub means-either : (r s : Term) (f g : Sense) → Means r f → Means s g → Means (either r s) (λ m e. f m e || g m e)
unfolding rank op_value
means-either r s f g a b = record {
  sort = λ i. sort_over (op Or) (with_sort (a.sort i) (with_sort (b.sort i) (Some [])));
  value = λ m e. (λ i. a.value m e i || (b.value m e i || false)) ∙ ap (λ c. f m e || c) (or_right (g m e));
}

-- ---- many operands

-- formulas that say, one by one, what g makes of the truth values of these terms
abbrev pub MeanEach : (Bool → Bool) → Terms → List Term → Type 0
MeanEach g none [] = ⊤
MeanEach g (t ⨾ ts) (r ∷ rs) = Means r (λ m e. g (sense t m e)) × MeanEach g ts rs
MeanEach g _ _ = ⊥

each-sorts : (g : Bool → Bool) (ts : Terms) (rs : List Term) → MeanEach g ts rs → sorts_of (terms rs) ≡ Some (replicate (length (list ts)) bool)
each-sorts g none [] each = refl
each-sorts g (t ⨾ ts) (r ∷ rs) each = λ i. with_sort (each.0.sort i) (each-sorts g ts rs each.1 i)
each-sorts g none (r ∷ rs) each = absurd each
each-sorts g (t ⨾ ts) [] each = absurd each

each-values : (g : Bool → Bool) (ts : Terms) (rs : List Term) (m : Model) (e : Env) → MeanEach g ts rs → map is_true (vals m (terms rs) e) ≡ map g (map is_true (vals m ts e))
each-values g none [] m e each = refl
each-values g (t ⨾ ts) (r ∷ rs) m e each = λ i. each.0.value m e i ∷ each-values g ts rs m e each.1 i
each-values g none (r ∷ rs) m e each = absurd each
each-values g (t ⨾ ts) [] m e each = absurd each

narrow : width bool ≤ most_bits
narrow = omega arith

all-sort : (n : ℕ) (rs : List Term) → 2 ≤ n → sorts_of (terms rs) ≡ Some (replicate n bool) → sort_of (all_of rs) ≡ Some bool
unfolding shape
all-sort (suc (suc n)) rs h e = sort_of-apply (op And) (terms rs) (replicate (suc (suc n)) bool) bool e (takes-rank (op And) (replicate (suc (suc n)) bool) bool (n, refl, refl) narrow)
all-sort zero rs h e = absurd (omega arith)
all-sort (suc zero) rs h e = absurd (omega arith)

any-sort : (n : ℕ) (rs : List Term) → 2 ≤ n → sorts_of (terms rs) ≡ Some (replicate n bool) → sort_of (any_of rs) ≡ Some bool
unfolding shape
any-sort (suc (suc n)) rs h e = sort_of-apply (op Or) (terms rs) (replicate (suc (suc n)) bool) bool e (takes-rank (op Or) (replicate (suc (suc n)) bool) bool (n, refl, refl) narrow)
any-sort zero rs h e = absurd (omega arith)
any-sort (suc zero) rs h e = absurd (omega arith)

pub means-all : (g : Bool → Bool) (ts : Terms) (rs : List Term) → 2 ≤ length (list ts) → MeanEach g ts rs → Means (all_of rs) (λ m e. all_bits (map g (map is_true (vals m ts e))))
unfolding operator_kind
means-all g ts rs many each =
    let has : sort_of (all_of rs) ≡ Some bool = all-sort (length (list ts)) rs many (each-sorts g ts rs each) in
    record { sort = has; value = λ m e. connective-value (op And) (terms rs) bool m e has refl ∙ ap all_bits (each-values g ts rs m e each) }

pub means-any : (g : Bool → Bool) (ts : Terms) (rs : List Term) → 2 ≤ length (list ts) → MeanEach g ts rs → Means (any_of rs) (λ m e. any_bit (map g (map is_true (vals m ts e))))
unfolding operator_kind
means-any g ts rs many each =
    let has : sort_of (any_of rs) ≡ Some bool = any-sort (length (list ts)) rs many (each-sorts g ts rs each) in
    record { sort = has; value = λ m e. connective-value (op Or) (terms rs) bool m e has refl ∙ ap any_bit (each-values g ts rs m e each) }

-- ---- a `not` taken away or added

not_not : (b : Bool) → not (not b) ≡ b
not_not true = refl
not_not false = refl

bool-operand : (t : Term) (s : Sort) → sort_of (negated t) ≡ Some s → sort_of t ≡ Some bool
unfolding operator_kind
bool-operand t s has =
    let c : Connected (op Not) (t ⨾ none) s = connected (op Not) (t ⨾ none) s has refl in
    let a = sorted t none (replicate c.number bool) c.sorts in
    a.first ∙ ap Some (first (replicate c.number bool) a.sort a.sorts a.all (one c.number c.count))
  where
    one : (n : ℕ) → n ≡ 1 → replicate n bool ≡ bool ∷ []
    one n e = ap (λ k. replicate k bool) e

    first : (us : List Sort) (s : Sort) (ss : List Sort) → us ≡ s ∷ ss → us ≡ bool ∷ [] → s ≡ bool
    first us s ss e f = ap head_sort (sym e ∙ f)
      where
        head_sort : List Sort → Sort
        head_sort [] = bool
        head_sort (u ∷ us) = u

opposite-added : (r : Term) (f : Sense) → Means r f → opposite r ≡ negated r → Means (opposite r) (λ m e. not (f m e))
opposite-added r f a e = subst (λ t. Means t (λ m e. not (f m e))) (sym e) (means-negated r f a)

pub means-opposite : (r : Term) (f : Sense) → Means r f → Means (opposite r) (λ m e. not (f m e))
unfolding op_value
means-opposite (apply (op Not) (t ⨾ none)) f a = record {
  sort = bool-operand t bool a.sort;
  value = λ m e. sym (not_not (is_true (val m t e))) ∙ ap not (a.value m e);
}
means-opposite r f a = opposite-added r f a refl
