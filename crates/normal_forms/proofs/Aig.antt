-- And-inverter form says what the formula says.
use Rattle.std.proofs.Common.{◌≡◌, ℕ, Bool, true, false, not, cond, ◌&&◌, ◌||◌, List, [], ◌∷◌, map, length, Some, refl, ap, sym, ◌∙◌, arith}
use Rattle.std.specs.Bool.{beq}
use Rattle.smt_terms.specs.Sorts.{bool, Variable}
use Rattle.smt_terms.specs.Term.{Quantifier, Head, Term, apply, quantified, Terms, none, ◌⨾◌, list}
use Rattle.smt_terms.specs.Rank.{sort_of}
use Rattle.smt_terms.specs.Values.{is_true}
use Rattle.smt_terms.specs.Models.{Model}
use Rattle.smt_terms.specs.Val.{Env, runs, vals}
use Rattle.smt_terms.specs.Connectives.{Kind, truth_value, negation, conjunction, disjunction, exclusive, implication, equivalence, difference, conditional, atom, kind_of, truth_term, all_of, both, opposite}
use Rattle.smt_terms.proofs.Sorted.{quantified_sort, sort_of-quantified}
use Rattle.smt_terms.proofs.Connected.{is_logical, Count, Connected, connected, connective-value, kind_value, all_bits, any_bit}
use Rattle.smt_terms.proofs.BoolOperands.{IfBool, Each, each-bool, operand-number, map-same}
use Rattle.smt_terms.proofs.Built.{sense, Means, means-same, means-itself, means-truth, means-both, means-opposite, MeanEach, means-all}
use Rattle.normal_forms.specs.Aig.{same_sides, inverted, aig, aig_each}

abbrev Form : Term → Type 0
Form t = Means (aig t) (sense t)

abbrev Known : Terms → Type 0
Known ts = Each Form ts

each : (ts : Terms) → Known ts → MeanEach (λ b. b) ts (aig_each ts)
each none known = tt
each (t ⨾ ts) known = (known.0, each ts known.1)

opposite-each : (ts : Terms) → Known ts → MeanEach not ts (map opposite (aig_each ts))
opposite-each none known = tt
opposite-each (t ⨾ ts) known = (means-opposite (aig t) (sense t) known.0, opposite-each ts known.1)

-- ---- laws of truth values

not-none : (bs : List Bool) → not (all_bits (map not bs)) ≡ any_bit bs
not-none [] = refl
not-none (true ∷ bs) = refl
not-none (false ∷ bs) = not-none bs

same-bits : (a b : Bool) → (not (a && not b) && not (not a && b)) ≡ beq a b
same-bits true true = refl
same-bits true false = refl
same-bits false true = refl
same-bits false false = refl

implies-bits : (a b : Bool) → not (a && not b) ≡ (not a || b)
implies-bits true true = refl
implies-bits true false = refl
implies-bits false b = refl

choice-bits : (c a b : Bool) → (not (c && not a) && not (not c && not b)) ≡ cond c a b
choice-bits true true b = refl
choice-bits true false b = refl
choice-bits false a true = refl
choice-bits false a false = refl

-- ---- the lines of the table

Said : Term → Kind → Terms → Type 0
Said x k ts = (m : Model) (e : Env) → sense x m e ≡ kind_value k (map is_true (vals m ts e))

same-means : (t u : Term) → Known (t ⨾ u ⨾ none) → Means (same_sides (aig_each (t ⨾ u ⨾ none))) (λ m e. beq (sense t m e) (sense u m e))
same-means t u known =
    means-same (same_sides (aig_each (t ⨾ u ⨾ none))) _ _ (λ m e. same-bits (sense t m e) (sense u m e))
    (means-both (opposite (both (aig t) (opposite (aig u)))) (opposite (both (opposite (aig t)) (aig u))) _ _
    (means-opposite (both (aig t) (opposite (aig u))) _ (means-both (aig t) (opposite (aig u)) _ _ known.0 (means-opposite (aig u) _ known.1.0)))
    (means-opposite (both (opposite (aig t)) (aig u)) _ (means-both (opposite (aig t)) (aig u) _ _ (means-opposite (aig t) _ known.0) known.1.0)))

differ-means : (t u : Term) → Known (t ⨾ u ⨾ none) → Means (opposite (same_sides (aig_each (t ⨾ u ⨾ none)))) (λ m e. not (beq (sense t m e) (sense u m e)))
differ-means t u known = means-opposite (same_sides (aig_each (t ⨾ u ⨾ none))) _ (same-means t u known)

abbrev Line : Kind → Type 0
Line k = (x : Term) (ts : Terms) (n : ℕ) → length (list ts) ≡ n → Count k n → sort_of x ≡ Some bool → Said x k ts → Known ts → Means (inverted k x (aig_each ts)) (sense x)

not-line : Line negation
unfolding Said
not-line x (t ⨾ none) n len count has said known = means-same (opposite (aig t)) _ _ (λ m e. sym (said m e)) (means-opposite (aig t) _ known.0)
not-line x none n len count has said known = absurd (omega arith)
not-line x (t ⨾ u ⨾ ts) n len count has said known = absurd (omega arith)

and-line : Line conjunction
unfolding Said
and-line x ts n len count has said known =
    means-same (all_of (aig_each ts)) _ _ (λ m e. ap all_bits (map-same (map is_true (vals m ts e))) ∙ sym (said m e)) (means-all (λ b. b) ts (aig_each ts) (omega arith) (each ts known))

or-line : Line disjunction
unfolding Said
or-line x ts n len count has said known =
    means-same (opposite (all_of (map opposite (aig_each ts)))) _ _ (λ m e. not-none (map is_true (vals m ts e)) ∙ sym (said m e))
    (means-opposite (all_of (map opposite (aig_each ts))) _ (means-all not ts (map opposite (aig_each ts)) (omega arith) (opposite-each ts known)))

xor-line : Line exclusive
unfolding Said
xor-line x (t ⨾ u ⨾ none) n len count has said known = means-same (opposite (same_sides (aig_each (t ⨾ u ⨾ none)))) _ _ (λ m e. sym (said m e)) (differ-means t u known)
xor-line x none n len count has said known = absurd (omega arith)
xor-line x (t ⨾ none) n len count has said known = absurd (omega arith)
xor-line x (t ⨾ u ⨾ v ⨾ ts) n len count has said known = absurd (omega arith)

implies-line : Line implication
unfolding Said
implies-line x (t ⨾ u ⨾ none) n len count has said known =
    means-same (opposite (both (aig t) (opposite (aig u)))) _ _ (λ m e. implies-bits (sense t m e) (sense u m e) ∙ sym (said m e))
    (means-opposite (both (aig t) (opposite (aig u))) _ (means-both (aig t) (opposite (aig u)) _ _ known.0 (means-opposite (aig u) _ known.1.0)))
implies-line x none n len count has said known = absurd (omega arith)
implies-line x (t ⨾ none) n len count has said known = absurd (omega arith)
implies-line x (t ⨾ u ⨾ v ⨾ ts) n len count has said known = absurd (omega arith)

equal-line : Line equivalence
unfolding Said
equal-line x (t ⨾ u ⨾ none) n len count has said known = means-same (same_sides (aig_each (t ⨾ u ⨾ none))) _ _ (λ m e. sym (said m e)) (same-means t u known)
equal-line x none n len count has said known = absurd (omega arith)
equal-line x (t ⨾ none) n len count has said known = absurd (omega arith)
equal-line x (t ⨾ u ⨾ v ⨾ ts) n len count has said known = absurd (omega arith)

distinct-line : Line difference
unfolding Said
distinct-line x (t ⨾ u ⨾ none) n len count has said known = means-same (opposite (same_sides (aig_each (t ⨾ u ⨾ none)))) _ _ (λ m e. sym (said m e)) (differ-means t u known)
distinct-line x (t ⨾ u ⨾ v ⨾ ts) n len count has said known = means-same (truth_term false) _ _ (λ m e. sym (said m e)) (means-truth false)
distinct-line x none n len count has said known = absurd (omega arith)
distinct-line x (t ⨾ none) n len count has said known = absurd (omega arith)

ite-line : Line conditional
unfolding Said
ite-line x (c ⨾ t ⨾ u ⨾ none) n len count has said known =
    means-same (both (opposite (both (aig c) (opposite (aig t)))) (opposite (both (opposite (aig c)) (opposite (aig u))))) _ _ (λ m e. choice-bits (sense c m e) (sense t m e) (sense u m e) ∙ sym (said m e))
    (means-both (opposite (both (aig c) (opposite (aig t)))) (opposite (both (opposite (aig c)) (opposite (aig u)))) _ _
    (means-opposite (both (aig c) (opposite (aig t))) _ (means-both (aig c) (opposite (aig t)) _ _ known.0 (means-opposite (aig t) _ known.1.0)))
    (means-opposite (both (opposite (aig c)) (opposite (aig u))) _ (means-both (opposite (aig c)) (opposite (aig u)) _ _ (means-opposite (aig c) _ known.0) (means-opposite (aig u) _ known.1.1.0))))
ite-line x none n len count has said known = absurd (omega arith)
ite-line x (c ⨾ none) n len count has said known = absurd (omega arith)
ite-line x (c ⨾ t ⨾ none) n len count has said known = absurd (omega arith)
ite-line x (c ⨾ t ⨾ u ⨾ v ⨾ ts) n len count has said known = absurd (omega arith)

line : (k : Kind) → is_logical k ≡ true → Line k
line (truth_value b) h = λ x ts n len count has said known. means-itself x has
line negation h = not-line
line conjunction h = and-line
line disjunction h = or-line
line exclusive h = xor-line
line implication h = implies-line
line equivalence h = equal-line
line difference h = distinct-line
line conditional h = ite-line
line atom h = absurd cc

-- ---- all formulas

by_kind : (h : Head) (ts : Terms) → sort_of (apply h ts) ≡ Some bool → IfBool Form ts → (b : Bool) → is_logical (kind_of h ts) ≡ b → Form (apply h ts)
unfolding Said
by_kind h ts has waiting true logical =
    let c : Connected h ts bool = connected h ts bool has logical in
    let len : length (list ts) ≡ c.number = operand-number h ts bool c in
    line (kind_of h ts) logical (apply h ts) ts c.number len c.count has (λ m e. connective-value h ts bool m e has logical) (each-bool Form ts c.number c.sorts waiting)
by_kind h ts has waiting false other = atom_kind (kind_of h ts) other
  where
    atom_kind : (k : Kind) → is_logical k ≡ false → Means (inverted k (apply h ts) (aig_each ts)) (sense (apply h ts))
    atom_kind atom e = means-itself (apply h ts) has
    atom_kind _ e = absurd cc

quantified-form : (q : Quantifier) (xs : List Variable) (body : Term) → sort_of (quantified q xs body) ≡ Some bool → Form body → Form (quantified q xs body)
quantified-form q xs body has form = record {
  sort = sort_of-quantified q xs (aig body) (quantified_sort q xs body bool has).bindable form.sort;
  value = λ m e. ap (λ (A : Env → Bool). runs q xs m.sizes A e) (λ i d. form.value m d i);
}

mutual
  pub aig-means : (t : Term) → sort_of t ≡ Some bool → Means (aig t) (sense t)
  aig-means (apply h ts) has = by_kind h ts has (waiting ts) (is_logical (kind_of h ts)) refl
  aig-means (quantified q xs body) has = quantified-form q xs body has (aig-means body (quantified_sort q xs body bool has).body)

  waiting : (ts : Terms) → IfBool Form ts
  waiting none = tt
  waiting (t ⨾ ts) = (aig-means t, waiting ts)
