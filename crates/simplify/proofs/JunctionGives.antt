-- The laws of `and` and `or` over all their operands give terms of the same value.
use Rattle.std.proofs.Common.{◌≡◌, ℕ, ◌≤◌, Bool, true, false, not, cond, ◌&&◌, ◌||◌, inl, inr, List, [], ◌∷◌, replicate, refl, ap, sym, ◌∙◌, subst, arith}
use Rattle.std.specs.Prelude.{filter}
use Rattle.std.specs.List.{list_any, list_all}
use Rattle.smt_terms.specs.declared.op.Op.{Op}
use Rattle.smt_terms.specs.declared.op.Op.TheVariants.{And, Or}
use Rattle.smt_terms.specs.Sorts.{bool}
use Rattle.smt_terms.specs.Term.{op, Term, apply, Terms, none, ◌⨾◌, list, terms}
use Rattle.smt_terms.specs.Connectives.{truth_term, negated}
use Rattle.smt_terms.specs.Equal.{term_eq}
use Rattle.smt_terms.specs.Models.{Model}
use Rattle.smt_terms.specs.Operators.{op_value}
use Rattle.smt_terms.specs.Rank.{shape, width, most_bits}
use Rattle.smt_terms.specs.Takes.{Takes}
use Rattle.smt_terms.specs.Val.{Env, val, vals}
use Rattle.smt_terms.specs.Values.{is_true}
use Rattle.smt_terms.proofs.Equal.{Decides-term_eq}
use Rattle.smt_terms.proofs.Tests.{either_true, true_or_false}
use Rattle.simplify.specs.Folding.{is_truth, has_term, once, over_left}
use Rattle.simplify.specs.Logic as logic
use Rattle.simplify.proofs.Gives.{Operand, Gives, gives_truth, truth_operand, truth_read}
use Rattle.simplify.proofs.Lists.{Each, filter-each, list-terms, left_operand}
use Rattle.simplify.proofs.LogicGives.{truth_is}

-- ---- `and` for true, `or` for false

abbrev join : Bool → Bool → Bool → Bool
join n a b = cond n (a && b) (a || b)

join-neutral : (n b : Bool) → join n n b ≡ b
join-neutral true b = refl
join-neutral false b = refl

join-end : (n b : Bool) → join n b n ≡ b
join-end true true = refl
join-end true false = refl
join-end false true = refl
join-end false false = refl

join-absorbs : (n b : Bool) → join n (not n) b ≡ not n
join-absorbs true b = refl
join-absorbs false b = refl

join-twice : (n a b : Bool) → join n a (join n a b) ≡ join n a b
join-twice true true b = refl
join-twice true false b = refl
join-twice false true b = refl
join-twice false false b = refl

join-turned : (n a b c : Bool) → join n a (join n b c) ≡ join n b (join n a c)
join-turned true true b c = refl
join-turned true false true c = refl
join-turned true false false c = refl
join-turned false true true c = refl
join-turned false true false c = refl
join-turned false false b c = refl

join-opposite : (n a b : Bool) → join n a (join n (not a) b) ≡ not n
join-opposite true true b = refl
join-opposite true false b = refl
join-opposite false true b = refl
join-opposite false false b = refl

-- ---- over a list of terms, each read as a truth value

abbrev total : Bool → (Term → Bool) → List Term → Bool
total n f [] = n
total n f (t ∷ ts) = join n (f t) (total n f ts)

same_term : (s t : Term) → term_eq s t ≡ true → s ≡ t
same_term s t h = (Decides-term_eq s t).0 h

-- a member adds nothing
member-adds : (n : Bool) (f : Term → Bool) (t : Term) (ts : List Term) → has_term ts t ≡ true → join n (f t) (total n f ts) ≡ total n f ts
member-adds n f t [] h = absurd cc
member-adds n f t (u ∷ us) h = elim (either_true (term_eq t u) (has_term us t) h) [
  | inl here ↦ ap (λ v. join n (f v) (join n (f u) (total n f us))) (same_term t u here) ∙ join-twice n (f u) (total n f us)
  | inr behind ↦ join-turned n (f t) (f u) (total n f us) ∙ ap (join n (f u)) (member-adds n f t us behind)
]

-- neither do copies
copies-add : (n : Bool) (f : Term → Bool) (t : Term) (ts : List Term) → join n (f t) (total n f (filter (λ u. not (term_eq t u)) ts)) ≡ join n (f t) (total n f ts)
copies-add n f t [] = refl
copies-add n f t (u ∷ us) = elim (true_or_false (term_eq t u)) [
  | inl copy ↦
      ap (λ b. join n (f t) (total n f (cond (not b) (u ∷ filter (λ u. not (term_eq t u)) us) (filter (λ u. not (term_eq t u)) us)))) copy
      ∙ copies-add n f t us ∙ sym (join-twice n (f t) (total n f us)) ∙ ap (λ v. join n (f t) (join n (f v) (total n f us))) (same_term t u copy)
  | inr other ↦
      ap (λ b. join n (f t) (total n f (cond (not b) (u ∷ filter (λ u. not (term_eq t u)) us) (filter (λ u. not (term_eq t u)) us)))) other
      ∙ join-turned n (f t) (f u) (total n f (filter (λ u. not (term_eq t u)) us)) ∙ ap (join n (f u)) (copies-add n f t us) ∙ join-turned n (f u) (f t) (total n f us)
]

once-total : (n : Bool) (f : Term → Bool) (ts : List Term) → total n f (once ts) ≡ total n f ts
once-total n f [] = refl
once-total n f (t ∷ ts) = copies-add n f t (once ts) ∙ ap (join n (f t)) (once-total n f ts)

neutral-total : (n : Bool) (f : Term → Bool) → ((t : Term) → is_truth n t ≡ true → f t ≡ n) → (ts : List Term) → total n f (filter (λ t. not (is_truth n t)) ts) ≡ total n f ts
neutral-total n f reads [] = refl
neutral-total n f reads (t ∷ ts) = elim (true_or_false (is_truth n t)) [
  | inl neutral ↦
      ap (λ b. total n f (cond (not b) (t ∷ filter (λ t. not (is_truth n t)) ts) (filter (λ t. not (is_truth n t)) ts))) neutral
      ∙ neutral-total n f reads ts ∙ sym (join-neutral n (total n f ts)) ∙ ap (λ b. join n b (total n f ts)) (sym (reads t neutral))
  | inr other ↦
      ap (λ b. total n f (cond (not b) (t ∷ filter (λ t. not (is_truth n t)) ts) (filter (λ t. not (is_truth n t)) ts))) other
      ∙ ap (join n (f t)) (neutral-total n f reads ts)
]

-- ---- a clash

pub record Found (test : Term → Bool) (ts : List Term) : Type 0 where
  pub term : Term
  pub there : has_term ts term ≡ true
  pub passes : test term ≡ true

found-more : (test : Term → Bool) (t : Term) (ts : List Term) → Found test ts → Found test (t ∷ ts)
found-more test t ts f = record { term = f.term; there = subst (λ b. (term_eq f.term t || b) ≡ true) (sym f.there) (last (term_eq f.term t)); passes = f.passes }
  where
    last : (b : Bool) → (b || true) ≡ true
    last true = refl
    last false = refl

pub found : (test : Term → Bool) (ts : List Term) → list_any test ts ≡ true → Found test ts
found test [] h = absurd cc
found test (t ∷ ts) h = elim (either_true (test t) (list_any test ts) h) [
  | inl here ↦ record { term = t; there = ap (λ b. b || has_term ts t) ((Decides-term_eq t t).1 refl); passes = here }
  | inr behind ↦ found-more test t ts (found test ts behind)
]

clash-total : (n : Bool) (f : Term → Bool) → ((t : Term) → is_truth (not n) t ≡ true → f t ≡ not n) → ((t : Term) → f (negated t) ≡ not (f t)) → (ts : List Term) → logic.clashes n ts ≡ true → total n f ts ≡ not n
clash-total n f reads opposite ts h = elim (either_true (list_any (is_truth (not n)) ts) (list_any (λ t. has_term ts (negated t)) ts) h) [
  | inl absorbing ↦
      let one = found (is_truth (not n)) ts absorbing in
      sym (member-adds n f one.term ts one.there) ∙ ap (λ b. join n b (total n f ts)) (reads one.term one.passes) ∙ join-absorbs n (total n f ts)
  | inr opposed ↦
      let one = found (λ t. has_term ts (negated t)) ts opposed in
      sym (member-adds n f one.term ts one.there)
      ∙ ap (join n (f one.term)) (sym (member-adds n f (negated one.term) ts one.passes))
      ∙ ap (λ b. join n (f one.term) (join n b (total n f ts))) (opposite one.term)
      ∙ join-opposite n (f one.term) (total n f ts)
]

-- ---- the node

once-each : (ts : List Term) → Each bool ts → Each bool (once ts)
once-each [] e = tt
once-each (t ∷ ts) e = (e.0, filter-each bool (λ u. not (term_eq t u)) (once ts) (once-each ts e.1))

-- ---- a node over them, for an operator of this kind

record Junction (o : Op) (n : Bool) : Type 0 where
  takes : (k : ℕ) → Takes (shape o) (bool ∷ bool ∷ replicate k bool) bool
  values : (m : Model) (e : Env) (us : Terms) → is_true (val m (apply (op o) us) e) ≡ total n (λ t. is_true (val m t e)) (list us)

all-values : (m : Model) (e : Env) (us : Terms) → list_all is_true (vals m us e) ≡ total true (λ t. is_true (val m t e)) (list us)
all-values m e none = refl
all-values m e (u ⨾ us) = ap (λ b. is_true (val m u e) && b) (all-values m e us)

any-values : (m : Model) (e : Env) (us : Terms) → list_any is_true (vals m us e) ≡ total false (λ t. is_true (val m t e)) (list us)
any-values m e none = refl
any-values m e (u ⨾ us) = ap (λ b. is_true (val m u e) || b) (any-values m e us)

and_junction : Junction And true
unfolding shape op_value
and_junction = record { takes = λ k. (k, refl, refl); values = all-values }

or_junction : Junction Or false
unfolding shape op_value
or_junction = record { takes = λ k. (k, refl, refl); values = any-values }

module _ (o : Op) (n : Bool) (j : Junction o n) where
  kept_operand : (ts : List Term) → Each bool ts → Operand bool (over_left o (truth_term n) ts)
  kept_operand ts e = let narrow : width bool ≤ most_bits = omega arith in left_operand bool o (truth_term n) (truth_operand n) j.takes narrow ts e

  left_value : (m : Model) (e : Env) (ts : List Term) → is_true (val m (over_left o (truth_term n) ts) e) ≡ total n (λ t. is_true (val m t e)) ts
  left_value m e [] = truth_is n m e
  left_value m e (t ∷ []) = sym (join-end n (is_true (val m t e)))
  left_value m e (t ∷ u ∷ ts) = j.values m e (t ⨾ u ⨾ terms ts) ∙ ap (λ us. total n (λ t. is_true (val m t e)) (t ∷ u ∷ us)) (list-terms ts)

  negated-value : (m : Model) (e : Env) (t : Term) → is_true (val m (negated t) e) ≡ not (is_true (val m t e))
  unfolding op_value
  negated-value m e t = refl

  junction_gives : (us : Terms) → Each bool (list us) → Gives bool (apply (op o) us) (logic.junction o n (list us))
  junction_gives us e = elim (true_or_false (logic.clashes n (list us))) [
    | inl clash ↦ subst (λ b. Gives bool (apply (op o) us) (cond b (truth_term (not n)) kept)) (sym clash)
        (gives_truth (apply (op o) us) (truth_term (not n)) (truth_operand (not n)) (λ m f model env.
        j.values m f us ∙ clash-total n (λ t. is_true (val m t f)) (λ t h. truth_read (not n) t h m f) (negated-value m f) (list us) clash ∙ sym (truth_is (not n) m f)))
    | inr other ↦ subst (λ b. Gives bool (apply (op o) us) (cond b (truth_term (not n)) kept)) (sym other)
        (gives_truth (apply (op o) us) kept (kept_operand (once rest) (once-each rest (filter-each bool (λ t. not (is_truth n t)) (list us) e))) (λ m f model env.
        j.values m f us ∙ sym (neutral-total n (λ t. is_true (val m t f)) (λ t h. truth_read n t h m f) (list us)) ∙ sym (once-total n (λ t. is_true (val m t f)) rest) ∙ sym (left_value m f (once rest))))
  ]
    where
      rest : List Term
      rest = filter (λ t. not (is_truth n t)) (list us)

      kept : Term
      kept = over_left o (truth_term n) (once rest)

pub conjunction_gives : (us : Terms) → Each bool (list us) → Gives bool (apply (op And) us) (logic.conjunction (list us))
conjunction_gives us e = junction_gives And true and_junction us e

pub disjunction_gives : (us : Terms) → Each bool (list us) → Gives bool (apply (op Or) us) (logic.disjunction (list us))
disjunction_gives us e = junction_gives Or false or_junction us e
