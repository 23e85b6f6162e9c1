-- The functions of symbols by their numbers, and what becomes of a model where one of them changes.
use Rattle.std.proofs.Common.{◌≡◌, ◌∙◌, sym, ap, subst, refl, ℕ, ◌<◌, ◌==◌, Bool, true, false, cond, if◌then◌else◌, List, [], ◌∷◌, length, get_or, Option, Some, None, IsTrue, arith}
use Rattle.std.specs.Prelude.{IfSome}
use Rattle.std.specs.Map.{lookup}
use Rattle.std.specs.List.{position_or_len}
use Rattle.std.proofs.lemmas.Bool.{ne_eqb}
use Rattle.std.proofs.lemmas.Bool.Decides.{Decides-eqb}
use Rattle.std.proofs.lemmas.List.Sums.{position_or_len_is, passes_at_first}
use Rattle.smt_terms.specs.declared.ids.SymId.{SymId}
use Rattle.smt_terms.specs.contracts.ids.SymIdPartialEq.TheImpl.{ghosts}
use Rattle.smt_terms.specs.Equal.{symbol_eq}
use Rattle.smt_terms.specs.Models.{Graph, Model, is_graph, IsModel}
use Rattle.smt_terms.specs.Sorts.{Symbol}
use Rattle.smt_terms.proofs.Equal.{Decides-symbol_eq, symbol_itself}
use Rattle.smt_terms.proofs.Tests.{contrary}
use Rattle.smt_values.specs.SizeTable.{size_at, sizes_by}
use Rattle.term_table.specs.Formulas.{Formulas, no_symbol, symbol_at, IsSymbol, IsTable}
use Rattle.models.specs.ModelView.{ModelLists, graph_in, symbol_number, graphs_by, model_at, IsModelOf, with_graph}

pub graph_in-lookup : (es : List (SymId × Graph)) (f : SymId) → graph_in es f ≡ lookup (ghosts.eq f) es
graph_in-lookup [] f = refl
graph_in-lookup (e ∷ es) f = by (graph_in-lookup es f) (f.0 == e.0.0)
  where
    by : graph_in es f ≡ lookup (ghosts.eq f) es → (b : Bool) → (if b then Some e.1 else graph_in es f) ≡ cond {A = Option Graph} b (Some e.1) (lookup (ghosts.eq f) es)
    by rest true = refl
    by rest false = rest

-- the functions by number are as before but for one symbol's
abbrev pub Changes : SymId → Option Graph → List (SymId × Graph) → List (SymId × Graph) → Type 0
Changes s w old new = (k : SymId) → graph_in new k ≡ cond (s.0 == k.0) w (graph_in old k)

pub changes_from : (s : SymId) (w : Option Graph) (old new : List (SymId × Graph)) → ((k : SymId) → lookup (ghosts.eq k) new ≡ cond (ghosts.eq s k) w (lookup (ghosts.eq k) old)) → Changes s w old new
changes_from s w old new h k = graph_in-lookup new k ∙ h k ∙ ap (λ o. cond (s.0 == k.0) w o) (sym (graph_in-lookup old k))

module _ (t : Formulas) (table : IsTable t) (s : SymId) (within : IsSymbol t s) where
  -- the table has each symbol under one number
  number_itself : symbol_number t.symbols (symbol_at t s) ≡ s
  number_itself =
      ap (λ n. record { 0 = n })
      (position_or_len_is (symbol_eq (symbol_at t s)) t.symbols s.0 no_symbol (omega (arith, within))
      (λ k less. by k less (symbol_eq (symbol_at t s) (get_or t.symbols k no_symbol)) refl)
      (λ _. symbol_itself (symbol_at t s)))
    where
      by : (k : ℕ) → k < s.0 → (b : Bool) → symbol_eq (symbol_at t s) (get_or t.symbols k no_symbol) ≡ b → symbol_eq (symbol_at t s) (get_or t.symbols k no_symbol) ≡ false
      by k less true h =
          let same : s.0 ≡ k = table.one_symbol s.0 k within (omega (arith, within, less)) ((Decides-symbol_eq (symbol_at t s) (get_or t.symbols k no_symbol)).0 h) in
          absurd (omega (arith, same, less))
      by k less false h = h

  number_of_other : (f : Symbol) → symbol_eq f (symbol_at t s) ≡ false → (s.0 == (symbol_number t.symbols f).0) ≡ false
  number_of_other f differs =
      ne_eqb s.0 (position_or_len (symbol_eq f) t.symbols)
      (λ same.
      contrary (symbol_eq f (symbol_at t s))
      (ap (λ n. symbol_eq f (get_or t.symbols n no_symbol)) same
      ∙ passes_at_first (symbol_eq f) t.symbols no_symbol (subst (λ n. n < length t.symbols) same within)) differs)

  pub graph_of_symbol : (es : List (SymId × Graph)) → graphs_by t.symbols es (symbol_at t s) ≡ graph_in es s
  unfolding graphs_by
  graph_of_symbol es = ap (graph_in es) number_itself

  module _ (w : Option Graph) (old new : List (SymId × Graph)) (changes : Changes s w old new) where
    changed : (f : Symbol) → graphs_by t.symbols new f ≡ cond (symbol_eq f (symbol_at t s)) w (graphs_by t.symbols old f)
    unfolding graphs_by
    changed f = by (symbol_eq f (symbol_at t s)) refl
      where
        by : (b : Bool) → symbol_eq f (symbol_at t s) ≡ b → graph_in new (symbol_number t.symbols f) ≡ cond b w (graph_in old (symbol_number t.symbols f))
        by true h =
            let number : symbol_number t.symbols f ≡ s = ap (symbol_number t.symbols) ((Decides-symbol_eq f (symbol_at t s)).0 h) ∙ number_itself in
            ap (graph_in new) number ∙ changes s ∙ ap (λ b. cond b w (graph_in old s)) ((Decides-eqb s.0 s.0).1 refl)
        by false h = changes (symbol_number t.symbols f) ∙ ap (λ b. cond b w (graph_in old (symbol_number t.symbols f))) (number_of_other f h)

  -- a model in which one symbol's function changes
  pub model_changed : (w : Option Graph) (old new : ModelLists) → Changes s w old.graphs new.graphs → new.sizes ≡ old.sizes → new.div_by_zero ≡ old.div_by_zero → new.mod_by_zero ≡ old.mod_by_zero
      → model_at t new ≡ with_graph (symbol_at t s) w (model_at t old)
  model_changed w old new changes sizes divisions remainders =
      λ i. record { sizes = sizes_by t.sorts (sizes i); graphs = λ f. changed w old.graphs new.graphs changes f i; div_by_zero = divisions i; mod_by_zero = remainders i }

-- no symbol beyond the table gains a function
pub numbers_kept : (t : Formulas) (s : SymId) (w : Option Graph) (old new : ModelLists) → IsSymbol t s → Changes s w old.graphs new.graphs → new.sizes ≡ old.sizes → IsModelOf t old → IsModelOf t new
numbers_kept t s w old new within changes sizes numbers = record {
  sizes = λ k far. ap (λ es. size_at es k) sizes ∙ numbers.sizes k far;
  graphs = λ f far. changes f ∙ ap (λ b. cond b w (graph_in old.graphs f)) (ne_eqb s.0 f.0 (λ same. omega (arith, same, within, far))) ∙ numbers.graphs f far;
}

-- nor does any where a symbol goes
pub numbers_left : (t : Formulas) (s : SymId) (old new : ModelLists) → Changes s None old.graphs new.graphs → new.sizes ≡ old.sizes → IsModelOf t old → IsModelOf t new
numbers_left t s old new changes sizes numbers = record {
  sizes = λ k far. ap (λ es. size_at es k) sizes ∙ numbers.sizes k far;
  graphs = λ f far. changes f ∙ by f (s.0 == f.0) (numbers.graphs f far);
}
  where
    by : (f : SymId) (b : Bool) → graph_in old.graphs f ≡ None → cond b None (graph_in old.graphs f) ≡ None
    by f true h = refl
    by f false h = h

-- a valid model with another function for a symbol
pub still_valid : (f : Symbol) (w : Option Graph) (m : Model) → IsModel m → IfSome w (λ g. IsTrue (is_graph f m.sizes g)) → IsModel (with_graph f w m)
still_valid f w m is fits = record {
  sizes = is.sizes;
  graphs = λ h. by h (symbol_eq h f) refl;
  div_by_zero = is.div_by_zero;
  mod_by_zero = is.mod_by_zero;
}
  where
    by : (h : Symbol) (b : Bool) → symbol_eq h f ≡ b → IfSome (cond b w (m.graphs h)) (λ g. IsTrue (is_graph h m.sizes g))
    by h true e = subst (λ k. IfSome w (λ g. IsTrue (is_graph k m.sizes g))) (sym ((Decides-symbol_eq h f).0 e)) fits
    by h false e = is.graphs h
