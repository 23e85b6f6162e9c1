-- A truth value for a variable: sorts stay, and the term has the value that it has where the variable is that truth value.
use Rattle.std.proofs.Common.{◌≡◌, Bool, true, false, not, cond, ◌||◌, List, [], ◌∷◌, map, Some, refl, ap, sym, ◌∙◌}
use Rattle.std.specs.Prelude.{unwrap_or}
use Rattle.smt_terms.specs.Sorts.{bool, Symbol, Variable}
use Rattle.smt_terms.specs.Term.{Quantifier, Head, op, symbol, const_array, Term, apply, quantified, Terms, none, ◌⨾◌, constant_of, constant}
use Rattle.smt_terms.specs.Equal.{symbol_eq}
use Rattle.smt_terms.specs.Free.{is_among, free}
use Rattle.smt_terms.specs.Rank.{rank, are_bindable, sort_over, sort_bound, with_sort, sort_of, sorts_of}
use Rattle.smt_terms.specs.Values.{Value, Sizes, truth, is_true, over_values}
use Rattle.smt_terms.specs.Operators.{op_value}
use Rattle.smt_terms.specs.Models.{Model, symbol_value}
use Rattle.smt_terms.specs.Val.{Env, assign, runs, head_value, val, vals}
use Rattle.smt_terms.specs.Connectives.{truth_term}
use Rattle.smt_terms.proofs.Tests.{both_true}
use Rattle.smt_terms.proofs.Equal.{Decides-symbol_eq}
use Rattle.smt_terms.proofs.Among.{is_among-without}
use Rattle.smt_terms.proofs.Agree.{val_same}
use Rattle.normal_forms.specs.Quantifiers.{at_head, unless_bound, at_truth, at_truth_each}

-- ---- two variables at once

-- which of two different variables is assigned first makes no difference
pub assign-swap : (x y : Variable) (v w : Value) (e : Env) → symbol_eq (constant_of x) (constant_of y) ≡ false → assign x v (assign y w e) ≡ assign y w (assign x v e)
assign-swap x y v w e apart = λ i f. at f i
  where
    at : (f : Symbol) → assign x v (assign y w e) f ≡ assign y w (assign x v e) f
    at f = go (symbol_eq (constant_of x) f) refl (symbol_eq (constant_of y) f) refl
      where
        go : (a : Bool) → symbol_eq (constant_of x) f ≡ a → (b : Bool) → symbol_eq (constant_of y) f ≡ b → cond a (Some v) (cond b (Some w) (e f)) ≡ cond b (Some w) (cond a (Some v) (e f))
        go true h true k =
            let same : constant_of x ≡ constant_of y = (Decides-symbol_eq (constant_of x) f).0 h ∙ sym ((Decides-symbol_eq (constant_of y) f).0 k) in
            let both : symbol_eq (constant_of x) (constant_of y) ≡ true = (Decides-symbol_eq (constant_of x) (constant_of y)).1 same in
            absurd cc
        go true h false k = refl
        go false h true k = refl
        go false h false k = refl

-- the symbols are tested the other way round
apart-swap : (x y : Variable) → symbol_eq (constant_of y) (constant_of x) ≡ false → symbol_eq (constant_of x) (constant_of y) ≡ false
apart-swap x y h = go (symbol_eq (constant_of x) (constant_of y)) refl
  where
    go : (b : Bool) → symbol_eq (constant_of x) (constant_of y) ≡ b → b ≡ false
    go true k =
        let back : symbol_eq (constant_of y) (constant_of x) ≡ true = (Decides-symbol_eq (constant_of y) (constant_of x)).1 (sym ((Decides-symbol_eq (constant_of x) (constant_of y)).0 k)) in
        absurd cc
    go false k = refl

both-false : (a b : Bool) → (a || b) ≡ false → (a ≡ false) × (b ≡ false)
both-false true b h = absurd cc
both-false false b h = (refl, h)

pub runs-assign : (q : Quantifier) (xs : List Variable) (sizes : Sizes) (A : Env → Bool) (y : Variable) (w : Value) (e : Env) → is_among (map constant_of xs) (constant_of y) ≡ false → runs q xs sizes (λ d. A (assign y w d)) e ≡ runs q xs sizes A (assign y w e)
runs-assign q [] sizes A y w e apart = refl
runs-assign q (x ∷ xs) sizes A y w e apart =
    let parts = both-false (symbol_eq (constant_of x) (constant_of y)) (is_among (map constant_of xs) (constant_of y)) apart in
    ap (over_values q x.sort sizes) (λ i v. (runs-assign q xs sizes A y w (assign x v e) parts.1 ∙ ap (runs q xs sizes A) (sym (assign-swap x y v w e parts.0))) i)

-- ---- sorts

at_head-sort : (v : Bool) (x : Variable) (h : Head) (ts : Terms) → x.sort ≡ bool → sort_of (at_head v x h ts) ≡ sort_of (apply h ts)
unfolding rank
at_head-sort v x (symbol f) none e = go (symbol_eq (constant_of x) f) refl
  where
    go : (b : Bool) → symbol_eq (constant_of x) f ≡ b → sort_of (cond b (truth_term v) (constant f)) ≡ sort_of (constant f)
    go true here =
        let key : constant_of x ≡ f = (Decides-symbol_eq (constant_of x) f).0 here in
        sym (ap (λ s. sort_of (constant (record { name = x.name; args = []; result = s }))) e) ∙ ap (λ g. sort_of (constant g)) key
    go false other = refl
at_head-sort v x (symbol f) (t ⨾ ts) e = refl
at_head-sort v x (op o) ts e = refl
at_head-sort v x (const_array s) ts e = refl

unless-sort : (b : Bool) (t u : Term) → sort_of u ≡ sort_of t → sort_of (unless_bound b t u) ≡ sort_of t
unless-sort true t u e = refl
unless-sort false t u e = e

mutual
  pub at_truth-sort : (t : Term) (v : Bool) (x : Variable) → x.sort ≡ bool → sort_of (at_truth v x t) ≡ sort_of t
  at_truth-sort (apply h ts) v x e = at_head-sort v x h (at_truth_each v x ts) e ∙ ap (sort_over h) (at_truth-sorts ts v x e)
  at_truth-sort (quantified q xs body) v x e =
      unless-sort (is_among (map constant_of xs) (constant_of x)) (quantified q xs body) (quantified q xs (at_truth v x body)) (ap (sort_bound (are_bindable xs)) (at_truth-sort body v x e))

  at_truth-sorts : (ts : Terms) (v : Bool) (x : Variable) → x.sort ≡ bool → sorts_of (at_truth_each v x ts) ≡ sorts_of ts
  at_truth-sorts none v x e = refl
  at_truth-sorts (t ⨾ ts) v x e = λ i. with_sort (at_truth-sort t v x e i) (at_truth-sorts ts v x e i)

-- ---- values

at_head-value : (v : Bool) (x : Variable) (h : Head) (ts us : Terms) (m : Model) (e : Env) → sorts_of us ≡ sorts_of ts → vals m us e ≡ vals m ts (assign x (truth v) e) → val m (at_head v x h us) e ≡ val m (apply h ts) (assign x (truth v) e)
unfolding op_value
at_head-value v x (symbol f) none none m e sorts values = go (symbol_eq (constant_of x) f) refl
  where
    go : (b : Bool) → symbol_eq (constant_of x) f ≡ b → val m (cond b (truth_term v) (constant f)) e ≡ unwrap_or (cond b (Some (truth v)) (e f)) (symbol_value m f [])
    go true here = refl
    go false other = refl
at_head-value v x (symbol f) (t ⨾ ts) (u ⨾ us) m e sorts values = ap (symbol_value m f) values
at_head-value v x (symbol f) none (u ⨾ us) m e sorts values = absurd cc
at_head-value v x (symbol f) (t ⨾ ts) none m e sorts values = absurd cc
at_head-value v x (op o) ts us m e sorts values = λ i. head_value m e (op o) (unwrap_or (sorts i) []) (values i)
at_head-value v x (const_array s) ts us m e sorts values = λ i. head_value m e (const_array s) (unwrap_or (sorts i) []) (values i)

-- a variable that the quantifier binds again makes no difference
hidden : (q : Quantifier) (xs : List Variable) (body : Term) (x : Variable) (w : Value) (m : Model) (e : Env) → is_among (map constant_of xs) (constant_of x) ≡ true → val m (quantified q xs body) e ≡ val m (quantified q xs body) (assign x w e)
hidden q xs body x w m e bound = val_same (quantified q xs body) m e (assign x w e) (λ f among. go f (both_true (is_among (free body) f) (not (is_among (map constant_of xs) f)) (sym (is_among-without xs (free body) f) ∙ among)).1 (symbol_eq (constant_of x) f) refl)
  where
    go : (f : Symbol) → not (is_among (map constant_of xs) f) ≡ true → (b : Bool) → symbol_eq (constant_of x) f ≡ b → e f ≡ cond b (Some w) (e f)
    go f outside true here =
        let key : constant_of x ≡ f = (Decides-symbol_eq (constant_of x) f).0 here in
        let inside : is_among (map constant_of xs) f ≡ true = ap (is_among (map constant_of xs)) (sym key) ∙ bound in
        let never : not true ≡ true = ap not (sym inside) ∙ outside in
        absurd cc
    go f outside false other = refl

bound-value : (q : Quantifier) (xs : List Variable) (body : Term) (v : Bool) (x : Variable) (m : Model) (e : Env) → ((d : Env) → val m (at_truth v x body) d ≡ val m body (assign x (truth v) d)) → (b : Bool) → is_among (map constant_of xs) (constant_of x) ≡ b → val m (unless_bound b (quantified q xs body) (quantified q xs (at_truth v x body))) e ≡ val m (quantified q xs body) (assign x (truth v) e)
bound-value q xs body v x m e below true bound = hidden q xs body x (truth v) m e bound
bound-value q xs body v x m e below false apart =
    ap (λ (A : Env → Bool). truth (runs q xs m.sizes A e)) (λ i d. is_true (below d i))
    ∙ ap truth (runs-assign q xs m.sizes (λ d. is_true (val m body d)) x (truth v) e apart)

mutual
  pub at_truth-value : (t : Term) (v : Bool) (x : Variable) (m : Model) (e : Env) → x.sort ≡ bool → val m (at_truth v x t) e ≡ val m t (assign x (truth v) e)
  at_truth-value (apply h ts) v x m e s = at_head-value v x h ts (at_truth_each v x ts) m e (at_truth-sorts ts v x s) (at_truth-values ts v x m e s)
  at_truth-value (quantified q xs body) v x m e s = bound-value q xs body v x m e (λ d. at_truth-value body v x m d s) (is_among (map constant_of xs) (constant_of x)) refl

  at_truth-values : (ts : Terms) (v : Bool) (x : Variable) (m : Model) (e : Env) → x.sort ≡ bool → vals m (at_truth_each v x ts) e ≡ vals m ts (assign x (truth v) e)
  at_truth-values none v x m e s = refl
  at_truth-values (t ⨾ ts) v x m e s = λ i. at_truth-value t v x m e s i ∷ at_truth-values ts v x m e s i
