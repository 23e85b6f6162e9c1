-- What the variables are below one binding more.
use Rattle.std.proofs.Common.{◌≡◌, ℕ, suc, ◌<◌, ◌==◌, Bool, true, false, cond, List, [], ◌∷◌, ◌++◌, length, get_or, take, Some, refl, ap, ◌∙◌, subst}
use Rattle.std.specs.Prelude.{IfSome, IsTrue}
use Rattle.std.proofs.Math.Seq.{take-suc}
use Rattle.std.proofs.lemmas.List.Elements.{All-head, All-tail}
use Rattle.smt_terms.specs.Equal.{symbol_eq}
use Rattle.smt_terms.specs.Laws.{IsEnv}
use Rattle.smt_terms.specs.Sorts.{Symbol, Variable}
use Rattle.smt_terms.specs.Term.{constant_of}
use Rattle.smt_terms.specs.Val.{Env, no_variables, assign}
use Rattle.smt_terms.specs.Values.{Value, Sizes, is_value}
use Rattle.smt_terms.specs.declared.ids.SymId.{SymId}
use Rattle.smt_terms.proofs.Equal.{Decides-symbol_eq}
use Rattle.smt_values.specs.Meaning.{scalar_value}
use Rattle.term_table.specs.Formulas.{Formulas, no_symbol, symbol_at, IsSymbol, IsTable}
use Rattle.quantifier_forms.proofs.Stands.{same-number, number-same}
use Rattle.evaluation.specs.Bindings.{with_value, env_from, env_of, IsBinding, AreBindings}
use Rattle.evaluation.specs.declared.bindings.Binding.{Binding}

pub env-append : (t : Formulas) (bs : List Binding) (b : Binding) (e : Env) → env_from t (bs ++ b ∷ []) e ≡ with_value (symbol_at t b.symbol) (scalar_value b.value) (env_from t bs e)
env-append t [] b e = refl
env-append t (c ∷ bs) b e = env-append t bs b (with_value (symbol_at t c.symbol) (scalar_value c.value) e)

-- the variable x with the value v
pub chosen-env : (t : Formulas) (bs : List Binding) (b : Binding) (x : Variable) (v : Value) → symbol_at t b.symbol ≡ constant_of x → scalar_value b.value ≡ v → env_of t (bs ++ b ∷ []) ≡ assign x v (env_of t bs)
chosen-env t bs b x v e f = env-append t bs b no_variables ∙ (λ i. with_value (e i) (f i) (env_of t bs))

-- ---- each variable has a value of its sort

with-value : (sizes : Sizes) (g : Symbol) (v : Value) (e : Env) → is_value g.result sizes v ≡ true → IsEnv sizes e → IsEnv sizes (with_value g v e)
with-value sizes g v e valid env f = by (symbol_eq g f) refl
  where
    by : (b : Bool) → symbol_eq g f ≡ b → IfSome (cond b (Some v) (e f)) (λ w. IsTrue (is_value f.result sizes w))
    by true same = subst (λ (h : Symbol). is_value h.result sizes v ≡ true) ((Decides-symbol_eq g f).0 same) valid
    by false other = env f

env-from : (t : Formulas) (sizes : Sizes) (bs : List Binding) (e : Env) → AreBindings t bs → IsEnv sizes e → IsEnv sizes (env_from t bs e)
env-from t sizes [] e all env = env
env-from t sizes (b ∷ bs) e all env =
    env-from t sizes bs (with_value (symbol_at t b.symbol) (scalar_value b.value) e) (All-tail (IsBinding t) b bs all)
    (with-value sizes (symbol_at t b.symbol) (scalar_value b.value) e ((All-head (IsBinding t) b bs all).valid sizes) env)

pub is-env : (t : Formulas) (sizes : Sizes) (bs : List Binding) → AreBindings t bs → IsEnv sizes (env_of t bs)
is-env t sizes bs all = env-from t sizes bs no_variables all (λ f. tt)

-- ---- the value of a symbol, binding by binding

same-symbols : (t : Formulas) → IsTable t → (f g : SymId) → IsSymbol t f → IsSymbol t g → symbol_eq (symbol_at t f) (symbol_at t g) ≡ (f.0 == g.0)
same-symbols t table f g in_f in_g = by (symbol_eq (symbol_at t f) (symbol_at t g)) (f.0 == g.0) refl refl
  where
    by : (a b : Bool) → symbol_eq (symbol_at t f) (symbol_at t g) ≡ a → (f.0 == g.0) ≡ b → a ≡ b
    by true true e h = refl
    by false false e h = refl
    by true false e h =
        let same : f.0 ≡ g.0 = table.one_symbol f.0 g.0 in_f in_g ((Decides-symbol_eq (symbol_at t f) (symbol_at t g)).0 e) in
        let yes : (f.0 == g.0) ≡ true = number-same f.0 g.0 same in
        absurd cc
    by false true e h =
        let names : symbol_at t f ≡ symbol_at t g = ap (λ i. get_or t.symbols i no_symbol) (same-number f.0 g.0 h) in
        let yes : symbol_eq (symbol_at t f) (symbol_at t g) ≡ true = (Decides-symbol_eq (symbol_at t f) (symbol_at t g)).1 names in
        absurd cc

module _ (t : Formulas) (table : IsTable t) (bs : List Binding) (all : AreBindings t bs) (f : SymId) (here : IsSymbol t f) (i : ℕ) (d : Binding) (lt : i < length bs) where
  next-is : env_of t (take (suc i) bs) (symbol_at t f) ≡ cond ((get_or bs i d).symbol.0 == f.0) (Some (scalar_value (get_or bs i d).value)) (env_of t (take i bs) (symbol_at t f))
  next-is =
      ap (λ cs. env_of t cs (symbol_at t f)) (take-suc bs i d lt)
      ∙ ap (λ e. e (symbol_at t f)) (env-append t (take i bs) (get_or bs i d) no_variables)
      ∙ ap (λ b. cond b (Some (scalar_value (get_or bs i d).value)) (env_of t (take i bs) (symbol_at t f))) (same-symbols t table (get_or bs i d).symbol f (all i d lt).symbol here)

  pub next-here : ((get_or bs i d).symbol.0 == f.0) ≡ true → env_of t (take (suc i) bs) (symbol_at t f) ≡ Some (scalar_value (get_or bs i d).value)
  next-here e = next-is ∙ ap (λ b. cond b (Some (scalar_value (get_or bs i d).value)) (env_of t (take i bs) (symbol_at t f))) e

  pub next-other : ((get_or bs i d).symbol.0 == f.0) ≡ false → env_of t (take (suc i) bs) (symbol_at t f) ≡ env_of t (take i bs) (symbol_at t f)
  next-other e = next-is ∙ ap (λ b. cond b (Some (scalar_value (get_or bs i d).value)) (env_of t (take i bs) (symbol_at t f))) e
