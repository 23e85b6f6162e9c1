-- Shannon's expansion keeps sorts and values.
use Rattle.std.proofs.Common.{◌≡◌, ℕ, zero, suc, Bool, true, false, not, cond, ◌&&◌, ◌||◌, List, [], ◌∷◌, map, Option, Some, None, refl, ap, sym, ◌∙◌}
use Rattle.std.specs.Prelude.{unwrap_or}
use Rattle.std.specs.List.{list_all}
use Rattle.smt_terms.specs.Sorts.{Name, Sort, bool, int, bit_vector, array, free_sort, Symbol, Variable}
use Rattle.smt_terms.specs.Term.{Quantifier, universal, existential, Head, Term, apply, quantified, Terms, none, ◌⨾◌, constant_of}
use Rattle.smt_terms.specs.BitVectors.{BitVector}
use Rattle.smt_terms.specs.Equal.{name_eq, symbol_eq}
use Rattle.smt_terms.specs.Free.{is_among}
use Rattle.smt_terms.specs.Rank.{has_name, are_distinct, is_quantifiable, are_bindable, sort_over, with_sort, sort_of, sorts_of}
use Rattle.smt_terms.specs.Values.{Value, Sizes, truth, bits, element, is_true, joined, over_bits, over_elements, over_values}
use Rattle.smt_terms.specs.Operators.{op_value}
use Rattle.smt_terms.specs.Models.{Model}
use Rattle.smt_terms.specs.Val.{Env, assign, runs, head_value, val, vals}
use Rattle.smt_terms.specs.Shapes.{is_bool}
use Rattle.smt_terms.proofs.Tests.{both_true, and_true, both_false, not_true}
use Rattle.smt_terms.proofs.Equal.{Decides-symbol_eq}
use Rattle.smt_terms.proofs.Sorted.{sorted, quantified_sort, sort_of-quantified}
use Rattle.smt_terms.proofs.Built.{Sense, Means, means-same, means-both, means-either}
use Rattle.normal_forms.specs.Quantifiers.{over_left, not_bool, at_truth, expanded, expand_bool, expand_each, shannon, shannon_each}
use Rattle.normal_forms.proofs.AtTruth.{runs-assign, at_truth-sort, at_truth-value}

-- ---- a quantifier over two tests that are joined

joined-swap : (q : Quantifier) (a b c d : Bool) → joined q (joined q a b) (joined q c d) ≡ joined q (joined q a c) (joined q b d)
joined-swap universal true true c d = refl
joined-swap universal true false true d = refl
joined-swap universal true false false d = refl
joined-swap universal false b c d = refl
joined-swap existential true b c d = refl
joined-swap existential false true true d = refl
joined-swap existential false true false d = refl
joined-swap existential false false c d = refl

bits-joined : (q : Quantifier) (w : ℕ) (F G : BitVector → Bool) → over_bits q w (λ bs. joined q (F bs) (G bs)) ≡ joined q (over_bits q w F) (over_bits q w G)
unfolding over_bits
bits-joined q zero F G = refl
bits-joined q (suc w) F G =
    (λ i. joined q (bits-joined q w (λ bs. F (false ∷ bs)) (λ bs. G (false ∷ bs)) i) (bits-joined q w (λ bs. F (true ∷ bs)) (λ bs. G (true ∷ bs)) i))
    ∙ joined-swap q (over_bits q w (λ bs. F (false ∷ bs))) (over_bits q w (λ bs. G (false ∷ bs))) (over_bits q w (λ bs. F (true ∷ bs))) (over_bits q w (λ bs. G (true ∷ bs)))

elements-joined : (q : Quantifier) (n : ℕ) (F G : ℕ → Bool) → over_elements q n (λ i. joined q (F i) (G i)) ≡ joined q (over_elements q n F) (over_elements q n G)
unfolding over_elements
elements-joined universal zero F G = refl
elements-joined existential zero F G = refl
elements-joined q (suc n) F G =
    ap (λ b. joined q b (joined q (F n) (G n))) (elements-joined q n F G)
    ∙ joined-swap q (over_elements q n F) (over_elements q n G) (F n) (G n)

none-joined : (q : Quantifier) → false ≡ joined q false false
none-joined universal = refl
none-joined existential = refl

values-joined : (q : Quantifier) (s : Sort) (sizes : Sizes) (F G : Value → Bool) → over_values q s sizes (λ v. joined q (F v) (G v)) ≡ joined q (over_values q s sizes F) (over_values q s sizes G)
values-joined q bool sizes F G = joined-swap q (F (truth false)) (G (truth false)) (F (truth true)) (G (truth true))
values-joined q (bit_vector w) sizes F G = bits-joined q w (λ bs. F (bits bs)) (λ bs. G (bits bs))
values-joined q (free_sort s) sizes F G = elements-joined q (sizes s) (λ i. F (element i)) (λ i. G (element i))
values-joined q int sizes F G = none-joined q
values-joined q (array i e) sizes F G = none-joined q

runs-joined : (q : Quantifier) (ys : List Variable) (sizes : Sizes) (F G : Env → Bool) (e : Env) → runs q ys sizes (λ d. joined q (F d) (G d)) e ≡ joined q (runs q ys sizes F e) (runs q ys sizes G e)
runs-joined q [] sizes F G e = refl
runs-joined q (y ∷ ys) sizes F G e =
    ap (over_values q y.sort sizes) (λ i v. runs-joined q ys sizes F G (assign y v e) i)
    ∙ values-joined q y.sort sizes (λ v. runs q ys sizes F (assign y v e)) (λ v. runs q ys sizes G (assign y v e))

-- ---- both truth values of each Bool variable

-- both truth values of one variable, where it is Bool
abbrev pub bool_at : Sort → Quantifier → Variable → (Env → Bool) → Env → Bool
bool_at bool q x B d = joined q (B (assign x (truth false) d)) (B (assign x (truth true) d))
bool_at _ q x B d = B d

abbrev pub bools : Quantifier → List Variable → (Env → Bool) → Env → Bool
bools q [] A d = A d
bools q (x ∷ xs) A d = bool_at x.sort q x (bools q xs A) d

-- a Bool variable isn't among those of other sorts
bool-apart : (x : Variable) (xs : List Variable) → x.sort ≡ bool → is_among (map constant_of (not_bool xs)) (constant_of x) ≡ false
bool-apart x [] s = refl
bool-apart x (y ∷ xs) s = go (is_bool y.sort) refl (bool-apart x xs s)
  where
    go : (b : Bool) → is_bool y.sort ≡ b → is_among (map constant_of (not_bool xs)) (constant_of x) ≡ false → is_among (map constant_of (cond (not b) (y ∷ not_bool xs) (not_bool xs))) (constant_of x) ≡ false
    go true e below = below
    go false e below = first (symbol_eq (constant_of y) (constant_of x)) refl
      where
        first : (c : Bool) → symbol_eq (constant_of y) (constant_of x) ≡ c → (c || is_among (map constant_of (not_bool xs)) (constant_of x)) ≡ false
        first true k =
            let same : y.sort ≡ x.sort = ap (λ (f : Symbol). f.result) ((Decides-symbol_eq (constant_of y) (constant_of x)).0 k) in
            let yes : is_bool y.sort ≡ true = ap is_bool (same ∙ s) in
            absurd cc
        first false k = below

pub runs-bools : (q : Quantifier) (xs : List Variable) (sizes : Sizes) (A : Env → Bool) (e : Env) → runs q (not_bool xs) sizes (bools q xs A) e ≡ runs q xs sizes A e
runs-bools q [] sizes A e = refl
runs-bools q (x ∷ xs) sizes A e = go x.sort refl (λ d. runs-bools q xs sizes A d)
  where
    other : (s : Sort) → ((d : Env) → runs q (not_bool xs) sizes (bools q xs A) d ≡ runs q xs sizes A d) → over_values q s sizes (λ v. runs q (not_bool xs) sizes (bools q xs A) (assign x v e)) ≡ over_values q s sizes (λ v. runs q xs sizes A (assign x v e))
    other s below = ap (over_values q s sizes) (λ i v. below (assign x v e) i)

    go : (s : Sort) → x.sort ≡ s → ((d : Env) → runs q (not_bool xs) sizes (bools q xs A) d ≡ runs q xs sizes A d) → runs q (cond (not (is_bool s)) (x ∷ not_bool xs) (not_bool xs)) sizes (bool_at s q x (bools q xs A)) e ≡ over_values q s sizes (λ v. runs q xs sizes A (assign x v e))
    go bool is below =
        runs-joined q (not_bool xs) sizes (λ d. bools q xs A (assign x (truth false) d)) (λ d. bools q xs A (assign x (truth true) d)) e
        ∙ (λ i. joined q (runs-assign q (not_bool xs) sizes (bools q xs A) x (truth false) e (bool-apart x xs is) i) (runs-assign q (not_bool xs) sizes (bools q xs A) x (truth true) e (bool-apart x xs is) i))
        ∙ (λ i. joined q (below (assign x (truth false) e) i) (below (assign x (truth true) e) i))
    go int is below = ap (λ s. over_values q s sizes (λ v. runs q (not_bool xs) sizes (bools q xs A) (assign x v e))) is ∙ other int below
    go (bit_vector w) is below = ap (λ s. over_values q s sizes (λ v. runs q (not_bool xs) sizes (bools q xs A) (assign x v e))) is ∙ other (bit_vector w) below
    go (array i j) is below = ap (λ s. over_values q s sizes (λ v. runs q (not_bool xs) sizes (bools q xs A) (assign x v e))) is ∙ other (array i j) below
    go (free_sort n) is below = ap (λ s. over_values q s sizes (λ v. runs q (not_bool xs) sizes (bools q xs A) (assign x v e))) is ∙ other (free_sort n) below

-- ---- the expansion of a body

or-swap : (a b : Bool) → (a || b) ≡ (b || a)
or-swap true true = refl
or-swap true false = refl
or-swap false true = refl
or-swap false false = refl

and-swap : (a b : Bool) → (a && b) ≡ (b && a)
and-swap true true = refl
and-swap true false = refl
and-swap false true = refl
and-swap false false = refl

at-means : (v : Bool) (x : Variable) (b : Term) (f : Sense) → x.sort ≡ bool → Means b f → Means (at_truth v x b) (λ m e. f m (assign x (truth v) e))
at-means v x b f s means = record {
  sort = at_truth-sort b v x s ∙ means.sort;
  value = λ m e. ap is_true (at_truth-value b v x m e s) ∙ means.value m (assign x (truth v) e);
}

expanded-means : (q : Quantifier) (x : Variable) (b : Term) (f : Sense) → x.sort ≡ bool → Means b f → Means (expanded q x b) (λ m e. joined q (f m (assign x (truth false) e)) (f m (assign x (truth true) e)))
expanded-means existential x b f s means =
    means-same (expanded existential x b) _ _ (λ m e. or-swap (f m (assign x (truth true) e)) (f m (assign x (truth false) e)))
    (means-either (at_truth true x b) (at_truth false x b) _ _ (at-means true x b f s means) (at-means false x b f s means))
expanded-means universal x b f s means =
    means-same (expanded universal x b) _ _ (λ m e. and-swap (f m (assign x (truth true) e)) (f m (assign x (truth false) e)))
    (means-both (at_truth true x b) (at_truth false x b) _ _ (at-means true x b f s means) (at-means false x b f s means))

expand_bool-means : (s : Sort) (q : Quantifier) (x : Variable) (b : Term) (f : Sense) → x.sort ≡ s → Means b f → Means (expand_bool s q x b) (λ m e. bool_at s q x (f m) e)
expand_bool-means bool q x b f s means = expanded-means q x b f s means
expand_bool-means int q x b f s means = means
expand_bool-means (bit_vector w) q x b f s means = means
expand_bool-means (array i e) q x b f s means = means
expand_bool-means (free_sort n) q x b f s means = means

expand_each-means : (q : Quantifier) (xs : List Variable) (b : Term) (f : Sense) → Means b f → Means (expand_each q xs b) (λ m e. bools q xs (f m) e)
expand_each-means q [] b f means = means
expand_each-means q (x ∷ xs) b f means = expand_bool-means x.sort q x (expand_each q xs b) (λ m e. bools q xs (f m) e) refl (expand_each-means q xs b f means)

-- ---- the quantifier over the variables that stay

kept-apart : (n : Name) (xs : List Variable) → has_name n (map (λ x. x.name) xs) ≡ false → has_name n (map (λ x. x.name) (not_bool xs)) ≡ false
kept-apart n [] e = refl
kept-apart n (x ∷ xs) e =
    let parts = both_false (name_eq n x.name) (has_name n (map (λ y. y.name) xs)) e in
    go (is_bool x.sort) parts.0 (kept-apart n xs parts.1)
  where
    go : (b : Bool) → name_eq n x.name ≡ false → has_name n (map (λ y. y.name) (not_bool xs)) ≡ false → has_name n (map (λ y. y.name) (cond (not b) (x ∷ not_bool xs) (not_bool xs))) ≡ false
    go true here below = below
    go false here below = ap (λ c. c || has_name n (map (λ y. y.name) (not_bool xs))) here ∙ below

pub kept-distinct : (xs : List Variable) → are_distinct (map (λ x. x.name) xs) ≡ true → are_distinct (map (λ x. x.name) (not_bool xs)) ≡ true
kept-distinct [] e = refl
kept-distinct (x ∷ xs) e =
    let parts = both_true (not (has_name x.name (map (λ y. y.name) xs))) (are_distinct (map (λ y. y.name) xs)) e in
    go (is_bool x.sort) (kept-apart x.name xs (not_true (has_name x.name (map (λ y. y.name) xs)) parts.0)) (kept-distinct xs parts.1)
  where
    go : (b : Bool) → has_name x.name (map (λ y. y.name) (not_bool xs)) ≡ false → are_distinct (map (λ y. y.name) (not_bool xs)) ≡ true → are_distinct (map (λ y. y.name) (cond (not b) (x ∷ not_bool xs) (not_bool xs))) ≡ true
    go true here below = below
    go false here below = and_true (not (has_name x.name (map (λ y. y.name) (not_bool xs)))) (are_distinct (map (λ y. y.name) (not_bool xs))) (ap not here) below

pub kept-quantifiable : (xs : List Variable) → list_all (λ x. is_quantifiable x.sort) xs ≡ true → list_all (λ x. is_quantifiable x.sort) (not_bool xs) ≡ true
kept-quantifiable [] e = refl
kept-quantifiable (x ∷ xs) e =
    let parts = both_true (is_quantifiable x.sort) (list_all (λ y. is_quantifiable y.sort) xs) e in
    go (is_bool x.sort) parts.0 (kept-quantifiable xs parts.1)
  where
    go : (b : Bool) → is_quantifiable x.sort ≡ true → list_all (λ y. is_quantifiable y.sort) (not_bool xs) ≡ true → list_all (λ y. is_quantifiable y.sort) (cond (not b) (x ∷ not_bool xs) (not_bool xs)) ≡ true
    go true here below = below
    go false here below = and_true (is_quantifiable x.sort) (list_all (λ y. is_quantifiable y.sort) (not_bool xs)) here below

some-bindable : (x : Variable) (xs : List Variable) → are_distinct (map (λ y. y.name) (x ∷ xs)) ≡ true → list_all (λ y. is_quantifiable y.sort) (x ∷ xs) ≡ true → are_bindable (x ∷ xs) ≡ true
some-bindable x xs distinct all = and_true _ _ distinct all

-- the quantifier over the variables that stay, or the body where none does
pub over-left-sort : (q : Quantifier) (ys : List Variable) (b : Term) → are_distinct (map (λ y. y.name) ys) ≡ true → list_all (λ y. is_quantifiable y.sort) ys ≡ true → sort_of b ≡ Some bool → sort_of (over_left q ys b) ≡ Some bool
over-left-sort q [] b distinct all has = has
over-left-sort q (y ∷ ys) b distinct all has = sort_of-quantified q (y ∷ ys) b (some-bindable y ys distinct all) has

-- exactly a truth value in each model
abbrev IsTruth : Term → Type 0
IsTruth t = (m : Model) (e : Env) → val m t e ≡ truth (is_true (val m t e))

expanded-truth : (q : Quantifier) (x : Variable) (b : Term) → IsTruth (expanded q x b)
unfolding op_value
expanded-truth existential x b m e = refl
expanded-truth universal x b m e = refl

over-left-value : (q : Quantifier) (ys : List Variable) (b : Term) → (ys ≡ [] → IsTruth b) → (m : Model) (e : Env) → val m (over_left q ys b) e ≡ truth (runs q ys m.sizes (λ d. is_true (val m b d)) e)
over-left-value q [] b exact m e = exact refl m e
over-left-value q (y ∷ ys) b exact m e = refl

-- where all variables are Bool, and there is one, the body is expanded
all-expanded : (q : Quantifier) (x : Variable) (xs : List Variable) (b : Term) → not_bool (x ∷ xs) ≡ [] → IsTruth (expand_each q (x ∷ xs) b)
all-expanded q x xs b = go x.sort
  where
    filled : (ys : List Variable) → (x ∷ ys) ≡ [] → ⊥
    filled ys e = absurd cc

    go : (s : Sort) → cond (not (is_bool s)) (x ∷ not_bool xs) (not_bool xs) ≡ [] → IsTruth (expand_bool s q x (expand_each q xs b))
    go bool e = expanded-truth q x (expand_each q xs b)
    go int e = absurd (filled (not_bool xs) e)
    go (bit_vector w) e = absurd (filled (not_bool xs) e)
    go (array i j) e = absurd (filled (not_bool xs) e)
    go (free_sort n) e = absurd (filled (not_bool xs) e)

-- ---- all terms

record Kept (t r : Term) (s : Sort) : Type 0 where
  sort : sort_of r ≡ Some s
  value : (m : Model) (e : Env) → val m r e ≡ val m t e

record AllKept (ts us : Terms) (ss : List Sort) : Type 0 where
  sorts : sorts_of us ≡ Some ss
  values : (m : Model) (e : Env) → vals m us e ≡ vals m ts e

quantified-kept : (q : Quantifier) (xs : List Variable) (body b : Term) (s : Sort) → are_bindable xs ≡ true → s ≡ bool → Kept body b bool → Kept (quantified q xs body) (over_left q (not_bool xs) (expand_each q xs b)) s
quantified-kept q [] body b s bindable is below = absurd cc
quantified-kept q (x ∷ xs) body b s bindable is below =
    let parts = both_true (are_distinct (map (λ y. y.name) (x ∷ xs))) (list_all (λ y. is_quantifiable y.sort) (x ∷ xs)) bindable in
    let b-means : Means b (λ m e. is_true (val m body e)) = record { sort = below.sort; value = λ m e. ap is_true (below.value m e) } in
    let means : Means (expand_each q (x ∷ xs) b) (λ m e. bools q (x ∷ xs) (λ d. is_true (val m body d)) e) = expand_each-means q (x ∷ xs) b (λ m e. is_true (val m body e)) b-means in
    record {
      sort = over-left-sort q (not_bool (x ∷ xs)) (expand_each q (x ∷ xs) b) (kept-distinct (x ∷ xs) parts.0) (kept-quantifiable (x ∷ xs) parts.1) means.sort ∙ ap Some (sym is);
      value = λ m e.
          over-left-value q (not_bool (x ∷ xs)) (expand_each q (x ∷ xs) b) (all-expanded q x xs b) m e
          ∙ ap (λ (A : Env → Bool). truth (runs q (not_bool (x ∷ xs)) m.sizes A e)) (λ i d. means.value m d i)
          ∙ ap truth (runs-bools q (x ∷ xs) m.sizes (λ d. is_true (val m body d)) e);
    }

pub operand-sorts : (h : Head) (o : Option (List Sort)) (s : Sort) → sort_over h o ≡ Some s → (ss : List Sort) × (o ≡ Some ss)
operand-sorts h None s e = absurd cc
operand-sorts h (Some ss) s e = (ss, refl)

mutual
  shannon-kept : (t : Term) (s : Sort) → sort_of t ≡ Some s → Kept t (shannon t) s
  shannon-kept (apply h ts) s has =
      let found = operand-sorts h (sorts_of ts) s has in
      let below : AllKept ts (shannon_each ts) found.0 = shannons-kept ts found.0 found.1 in
      let sorts : sorts_of (shannon_each ts) ≡ sorts_of ts = below.sorts ∙ sym found.1 in
      record { sort = ap (sort_over h) sorts ∙ has; value = λ m e i. head_value m e h (unwrap_or (sorts i) []) (below.values m e i) }
  shannon-kept (quantified q xs body) s has =
      let parts = quantified_sort q xs body s has in
      quantified-kept q xs body (shannon body) s parts.bindable parts.sort (shannon-kept body bool parts.body)

  shannons-kept : (ts : Terms) (ss : List Sort) → sorts_of ts ≡ Some ss → AllKept ts (shannon_each ts) ss
  shannons-kept none ss has = record { sorts = has; values = λ m e. refl }
  shannons-kept (t ⨾ ts) ss has =
      let a = sorted t ts ss has in
      let first : Kept t (shannon t) a.sort = shannon-kept t a.sort a.first in
      let rest : AllKept ts (shannon_each ts) a.sorts = shannons-kept ts a.sorts a.others in
      record { sorts = (λ i. with_sort (first.sort i) (rest.sorts i)) ∙ ap Some (sym a.all); values = λ m e i. first.value m e i ∷ rest.values m e i }

pub shannon-sort : (t : Term) (s : Sort) → sort_of t ≡ Some s → sort_of (shannon t) ≡ Some s
shannon-sort t s has = (shannon-kept t s has).sort

pub shannon-value : (t : Term) (s : Sort) → sort_of t ≡ Some s → (m : Model) (e : Env) → val m (shannon t) e ≡ val m t e
shannon-value t s has = (shannon-kept t s has).value
