-- The positive form of a formula says what the formula says, and the negative form says the contrary.
use Rattle.std.proofs.Common.{◌≡◌, ℕ, ◌≤◌, Bool, true, false, not, cond, ◌&&◌, ◌||◌, List, [], ◌∷◌, map, length, Some, refl, ap, sym, ◌∙◌, arith}
use Rattle.std.specs.Bool.{beq}
use Rattle.std.specs.List.{list_all}
use Rattle.smt_terms.specs.Sorts.{bool, Variable}
use Rattle.smt_terms.specs.Term.{Quantifier, Head, Term, apply, quantified, Terms, none, ◌⨾◌, list}
use Rattle.smt_terms.specs.Rank.{sort_of, are_distinct, are_bindable, is_quantifiable}
use Rattle.smt_terms.specs.Values.{is_true}
use Rattle.smt_terms.specs.Models.{Model}
use Rattle.smt_terms.specs.Val.{Env, runs, val, vals}
use Rattle.smt_terms.specs.Connectives.{Kind, truth_value, negation, conjunction, disjunction, exclusive, implication, equivalence, difference, conditional, atom, kind_of, truth_term, all_of, any_of, both, either}
use Rattle.smt_terms.proofs.Tests.{both_true}
use Rattle.smt_terms.proofs.Sorted.{quantified_sort, sort_of-quantified}
use Rattle.smt_terms.proofs.Connected.{is_logical, Count, Connected, connected, connective-value, kind_value, all_bits, any_bit}
use Rattle.smt_terms.proofs.BoolOperands.{IfBool, Each, each-bool, operand-number, map-same}
use Rattle.smt_terms.proofs.Built.{sense, Means, means-same, means-itself, means-truth, means-negated, means-both, means-either, MeanEach, means-all, means-any}
use Rattle.normal_forms.specs.Nnf.{differ, agree, positive, negative, dual, nnf, nnf_not, nnf_each, nnf_not_each}
use Rattle.normal_forms.proofs.Duals.{runs-dual}

-- what is to be shown of a formula
record Forms (t p n : Term) : Type 0 where
  yes : Means p (sense t)
  no : Means n (λ m e. not (sense t m e))

abbrev FormsOf : Term → Type 0
FormsOf t = Forms t (nnf t) (nnf_not t)

abbrev Known : Terms → Type 0
Known ts = Each FormsOf ts

positive-each : (ts : Terms) → Known ts → MeanEach (λ b. b) ts (nnf_each ts)
positive-each none known = tt
positive-each (t ⨾ ts) known = (known.0.yes, positive-each ts known.1)

negative-each : (ts : Terms) → Known ts → MeanEach not ts (nnf_not_each ts)
negative-each none known = tt
negative-each (t ⨾ ts) known = (known.0.no, negative-each ts known.1)

-- ---- laws of truth values

not-all : (bs : List Bool) → any_bit (map not bs) ≡ not (all_bits bs)
not-all [] = refl
not-all (true ∷ bs) = not-all bs
not-all (false ∷ bs) = refl

not-any : (bs : List Bool) → all_bits (map not bs) ≡ not (any_bit bs)
not-any [] = refl
not-any (true ∷ bs) = refl
not-any (false ∷ bs) = not-any bs

differ-bits : (a b : Bool) → ((a && not b) || (not a && b)) ≡ not (beq a b)
differ-bits true true = refl
differ-bits true false = refl
differ-bits false true = refl
differ-bits false false = refl

agree-bits : (a b : Bool) → ((not a || b) && (a || not b)) ≡ beq a b
agree-bits true true = refl
agree-bits true false = refl
agree-bits false true = refl
agree-bits false false = refl

not_not : (b : Bool) → b ≡ not (not b)
not_not true = refl
not_not false = refl

not-implies : (a b : Bool) → (a && not b) ≡ not (not a || b)
not-implies true b = refl
not-implies false b = refl

choice-bits : (c a b : Bool) → ((not c || a) && (c || b)) ≡ cond c a b
choice-bits true true b = refl
choice-bits true false b = refl
choice-bits false true true = refl
choice-bits false true false = refl
choice-bits false false true = refl
choice-bits false false false = refl

not-choice : (c a b : Bool) → ((not c || not a) && (c || not b)) ≡ not (cond c a b)
not-choice true true b = refl
not-choice true false b = refl
not-choice false a true = refl
not-choice false a false = refl

-- ---- the lines of the table, of operands of whose forms this is known

-- what the formula says, by its connective
Said : Term → Kind → Terms → Type 0
Said x k ts = (m : Model) (e : Env) → sense x m e ≡ kind_value k (map is_true (vals m ts e))

differ-means : (t u : Term) → Known (t ⨾ u ⨾ none) → Means (differ (nnf_each (t ⨾ u ⨾ none)) (nnf_not_each (t ⨾ u ⨾ none))) (λ m e. not (beq (sense t m e) (sense u m e)))
differ-means t u known =
    means-same (either (both (nnf t) (nnf_not u)) (both (nnf_not t) (nnf u))) _ _ (λ m e. differ-bits (sense t m e) (sense u m e))
    (means-either (both (nnf t) (nnf_not u)) (both (nnf_not t) (nnf u)) _ _ (means-both (nnf t) (nnf_not u) _ _ known.0.yes known.1.0.no) (means-both (nnf_not t) (nnf u) _ _ known.0.no known.1.0.yes))

agree-means : (t u : Term) → Known (t ⨾ u ⨾ none) → Means (agree (nnf_each (t ⨾ u ⨾ none)) (nnf_not_each (t ⨾ u ⨾ none))) (λ m e. beq (sense t m e) (sense u m e))
agree-means t u known =
    means-same (both (either (nnf_not t) (nnf u)) (either (nnf t) (nnf_not u))) _ _ (λ m e. agree-bits (sense t m e) (sense u m e))
    (means-both (either (nnf_not t) (nnf u)) (either (nnf t) (nnf_not u)) _ _ (means-either (nnf_not t) (nnf u) _ _ known.0.no known.1.0.yes) (means-either (nnf t) (nnf_not u) _ _ known.0.yes known.1.0.no))

record Lines (x : Term) (k : Kind) (ts : Terms) : Type 0 where
  yes : Means (positive k x (nnf_each ts) (nnf_not_each ts)) (sense x)
  no : Means (negative k x (nnf_each ts) (nnf_not_each ts)) (λ m e. not (sense x m e))

abbrev Line : Kind → Type 0
Line k = (x : Term) (ts : Terms) (n : ℕ) → length (list ts) ≡ n → Count k n → sort_of x ≡ Some bool → Said x k ts → Known ts → Lines x k ts

truth-line : (b : Bool) → Line (truth_value b)
unfolding Said
truth-line b x ts n len count has said known = record {
  yes = means-itself x has;
  no = means-same (truth_term (not b)) _ _ (λ m e. ap not (sym (said m e))) (means-truth (not b));
}

not-line : Line negation
unfolding Said
not-line x (t ⨾ none) n len count has said known = record {
  yes = means-same (nnf_not t) _ _ (λ m e. sym (said m e)) known.0.no;
  no = means-same (nnf t) _ _ (λ m e. not_not (sense t m e) ∙ ap not (sym (said m e))) known.0.yes;
}
not-line x none n len count has said known = absurd (omega arith)
not-line x (t ⨾ u ⨾ ts) n len count has said known = absurd (omega arith)

and-line : Line conjunction
unfolding Said
and-line x ts n len count has said known =
    let many : 2 ≤ length (list ts) = omega arith in
    record {
      yes = means-same (all_of (nnf_each ts)) _ _ (λ m e. ap all_bits (map-same (map is_true (vals m ts e))) ∙ sym (said m e)) (means-all (λ b. b) ts (nnf_each ts) many (positive-each ts known));
      no = means-same (any_of (nnf_not_each ts)) _ _ (λ m e. not-all (map is_true (vals m ts e)) ∙ ap not (sym (said m e))) (means-any not ts (nnf_not_each ts) many (negative-each ts known));
    }

or-line : Line disjunction
unfolding Said
or-line x ts n len count has said known =
    let many : 2 ≤ length (list ts) = omega arith in
    record {
      yes = means-same (any_of (nnf_each ts)) _ _ (λ m e. ap any_bit (map-same (map is_true (vals m ts e))) ∙ sym (said m e)) (means-any (λ b. b) ts (nnf_each ts) many (positive-each ts known));
      no = means-same (all_of (nnf_not_each ts)) _ _ (λ m e. not-any (map is_true (vals m ts e)) ∙ ap not (sym (said m e))) (means-all not ts (nnf_not_each ts) many (negative-each ts known));
    }

xor-line : Line exclusive
unfolding Said
xor-line x (t ⨾ u ⨾ none) n len count has said known = record {
  yes = means-same (differ (nnf_each (t ⨾ u ⨾ none)) (nnf_not_each (t ⨾ u ⨾ none))) _ _ (λ m e. sym (said m e)) (differ-means t u known);
  no = means-same (agree (nnf_each (t ⨾ u ⨾ none)) (nnf_not_each (t ⨾ u ⨾ none))) _ _ (λ m e. not_not (beq (sense t m e) (sense u m e)) ∙ ap not (sym (said m e))) (agree-means t u known);
}
xor-line x none n len count has said known = absurd (omega arith)
xor-line x (t ⨾ none) n len count has said known = absurd (omega arith)
xor-line x (t ⨾ u ⨾ v ⨾ ts) n len count has said known = absurd (omega arith)

implies-line : Line implication
unfolding Said
implies-line x (t ⨾ u ⨾ none) n len count has said known = record {
  yes = means-same (either (nnf_not t) (nnf u)) _ _ (λ m e. sym (said m e)) (means-either (nnf_not t) (nnf u) _ _ known.0.no known.1.0.yes);
  no = means-same (both (nnf t) (nnf_not u)) _ _ (λ m e. not-implies (sense t m e) (sense u m e) ∙ ap not (sym (said m e))) (means-both (nnf t) (nnf_not u) _ _ known.0.yes known.1.0.no);
}
implies-line x none n len count has said known = absurd (omega arith)
implies-line x (t ⨾ none) n len count has said known = absurd (omega arith)
implies-line x (t ⨾ u ⨾ v ⨾ ts) n len count has said known = absurd (omega arith)

equal-line : Line equivalence
unfolding Said
equal-line x (t ⨾ u ⨾ none) n len count has said known = record {
  yes = means-same (agree (nnf_each (t ⨾ u ⨾ none)) (nnf_not_each (t ⨾ u ⨾ none))) _ _ (λ m e. sym (said m e)) (agree-means t u known);
  no = means-same (differ (nnf_each (t ⨾ u ⨾ none)) (nnf_not_each (t ⨾ u ⨾ none))) _ _ (λ m e. ap not (sym (said m e))) (differ-means t u known);
}
equal-line x none n len count has said known = absurd (omega arith)
equal-line x (t ⨾ none) n len count has said known = absurd (omega arith)
equal-line x (t ⨾ u ⨾ v ⨾ ts) n len count has said known = absurd (omega arith)

distinct-line : Line difference
unfolding Said
distinct-line x (t ⨾ u ⨾ none) n len count has said known = record {
  yes = means-same (differ (nnf_each (t ⨾ u ⨾ none)) (nnf_not_each (t ⨾ u ⨾ none))) _ _ (λ m e. sym (said m e)) (differ-means t u known);
  no = means-same (agree (nnf_each (t ⨾ u ⨾ none)) (nnf_not_each (t ⨾ u ⨾ none))) _ _ (λ m e. not_not (beq (sense t m e) (sense u m e)) ∙ ap not (sym (said m e))) (agree-means t u known);
}
distinct-line x (t ⨾ u ⨾ v ⨾ ts) n len count has said known = record {
  yes = means-same (truth_term false) _ _ (λ m e. sym (said m e)) (means-truth false);
  no = means-same (truth_term true) _ _ (λ m e. ap not (sym (said m e))) (means-truth true);
}
distinct-line x none n len count has said known = absurd (omega arith)
distinct-line x (t ⨾ none) n len count has said known = absurd (omega arith)

ite-line : Line conditional
unfolding Said
ite-line x (c ⨾ t ⨾ u ⨾ none) n len count has said known = record {
  yes = means-same (both (either (nnf_not c) (nnf t)) (either (nnf c) (nnf u))) _ _ (λ m e. choice-bits (sense c m e) (sense t m e) (sense u m e) ∙ sym (said m e))
      (means-both (either (nnf_not c) (nnf t)) (either (nnf c) (nnf u)) _ _ (means-either (nnf_not c) (nnf t) _ _ known.0.no known.1.0.yes) (means-either (nnf c) (nnf u) _ _ known.0.yes known.1.1.0.yes));
  no = means-same (both (either (nnf_not c) (nnf_not t)) (either (nnf c) (nnf_not u))) _ _ (λ m e. not-choice (sense c m e) (sense t m e) (sense u m e) ∙ ap not (sym (said m e)))
      (means-both (either (nnf_not c) (nnf_not t)) (either (nnf c) (nnf_not u)) _ _ (means-either (nnf_not c) (nnf_not t) _ _ known.0.no known.1.0.no) (means-either (nnf c) (nnf_not u) _ _ known.0.yes known.1.1.0.no));
}
ite-line x none n len count has said known = absurd (omega arith)
ite-line x (c ⨾ none) n len count has said known = absurd (omega arith)
ite-line x (c ⨾ t ⨾ none) n len count has said known = absurd (omega arith)
ite-line x (c ⨾ t ⨾ u ⨾ v ⨾ ts) n len count has said known = absurd (omega arith)

line : (k : Kind) → is_logical k ≡ true → Line k
line (truth_value b) h = truth-line b
line negation h = not-line
line conjunction h = and-line
line disjunction h = or-line
line exclusive h = xor-line
line implication h = implies-line
line equivalence h = equal-line
line difference h = distinct-line
line conditional h = ite-line
line atom h = absurd cc

-- ---- all formulas

atom-lines : (x : Term) (ts : Terms) → sort_of x ≡ Some bool → Lines x atom ts
atom-lines x ts has = record { yes = means-itself x has; no = means-negated x (sense x) (means-itself x has) }

by_kind : (h : Head) (ts : Terms) → sort_of (apply h ts) ≡ Some bool → IfBool FormsOf ts → (b : Bool) → is_logical (kind_of h ts) ≡ b → Lines (apply h ts) (kind_of h ts) ts
unfolding Said
by_kind h ts has waiting true logical =
    let c : Connected h ts bool = connected h ts bool has logical in
    let len : length (list ts) ≡ c.number = operand-number h ts bool c in
    line (kind_of h ts) logical (apply h ts) ts c.number len c.count has (λ m e. connective-value h ts bool m e has logical) (each-bool FormsOf ts c.number c.sorts waiting)
by_kind h ts has waiting false other = atom_kind (kind_of h ts) other
  where
    atom_kind : (k : Kind) → is_logical k ≡ false → Lines (apply h ts) k ts
    atom_kind atom e = atom-lines (apply h ts) ts has
    atom_kind _ e = absurd cc

quantified-forms : (q : Quantifier) (xs : List Variable) (body : Term) → sort_of (quantified q xs body) ≡ Some bool → Forms body (nnf body) (nnf_not body) → Forms (quantified q xs body) (quantified q xs (nnf body)) (quantified (dual q) xs (nnf_not body))
quantified-forms q xs body has forms =
    let parts = quantified_sort q xs body bool has in
    record {
      yes = record {
        sort = sort_of-quantified q xs (nnf body) parts.bindable forms.yes.sort;
        value = λ m e. ap (λ (A : Env → Bool). runs q xs m.sizes A e) (λ i d. forms.yes.value m d i);
      };
      no = record {
        sort = sort_of-quantified (dual q) xs (nnf_not body) parts.bindable forms.no.sort;
        value = λ m e. ap (λ (A : Env → Bool). runs (dual q) xs m.sizes A e) (λ i d. forms.no.value m d i) ∙ runs-dual q xs m.sizes (λ d. is_true (val m body d)) e (quantifiable xs parts.bindable);
      };
    }
  where
    quantifiable : (ys : List Variable) → are_bindable ys ≡ true → list_all (λ x. is_quantifiable x.sort) ys ≡ true
    quantifiable [] e = absurd cc
    quantifiable (y ∷ ys) e = (both_true (are_distinct (map (λ x. x.name) (y ∷ ys))) (list_all (λ x. is_quantifiable x.sort) (y ∷ ys)) e).1

mutual
  forms : (t : Term) → sort_of t ≡ Some bool → Forms t (nnf t) (nnf_not t)
  forms (apply h ts) has =
      let lines : Lines (apply h ts) (kind_of h ts) ts = by_kind h ts has (waiting ts) (is_logical (kind_of h ts)) refl in
      record { yes = lines.yes; no = lines.no }
  forms (quantified q xs body) has = quantified-forms q xs body has (forms body (quantified_sort q xs body bool has).body)

  waiting : (ts : Terms) → IfBool FormsOf ts
  waiting none = tt
  waiting (t ⨾ ts) = (forms t, waiting ts)

pub nnf-means : (t : Term) → sort_of t ≡ Some bool → Means (nnf t) (sense t)
nnf-means t has = (forms t has).yes

pub nnf_not-means : (t : Term) → sort_of t ≡ Some bool → Means (nnf_not t) (λ m e. not (sense t m e))
nnf_not-means t has = (forms t has).no
