-- What is left of a model where the symbols that have arguments go.
use Rattle.std.proofs.Common.{◌≡◌, ◌∙◌, sym, ap, refl, ◌<◌, ◌==◌, Bool, true, false, cond, nat_lt, if◌then◌else◌, List, [], ◌∷◌, ◌++◌, length, map, filter, Option, Some, None, true≢false, arith}
use Rattle.std.specs.Prelude.{IfSome, IsTrue}
use Rattle.std.specs.Option.{is_some}
use Rattle.std.specs.List.{position_or_len}
use Rattle.std.proofs.lemmas.Bool.{ltb-true, ltb-false, ne_eqb}
use Rattle.std.proofs.lemmas.Bool.Decides.{Decides-eqb}
use Rattle.std.proofs.lemmas.List.Sums.{passes_at_first}
use Rattle.smt_terms.specs.declared.ids.SortId.{SortId}
use Rattle.smt_terms.specs.declared.ids.SymId.{SymId}
use Rattle.smt_terms.specs.Equal.{symbol_eq}
use Rattle.smt_terms.specs.Models.{Graph, Model, is_graph, IsModel}
use Rattle.smt_terms.specs.Rank.{is_empty}
use Rattle.smt_terms.specs.Sorts.{Sort, Symbol}
use Rattle.smt_terms.proofs.Equal.{Decides-symbol_eq}
use Rattle.smt_values.specs.SizeTable.{size_at, sizes_by}
use Rattle.term_table.specs.Formulas.{Formulas, no_symbol, symbol_at, IsSymbol}
use Rattle.models.specs.ModelView.{ModelLists, graph_in, symbol_number, graphs_by, model_at, IsModelOf, without_functions}

-- no sort stands in a list where none stands in the list of the numbers
pub empty_alike : (g : SortId → Sort) (ks : List SortId) (ss : List Sort) → map g ks ≡ ss → (length ks == 0) ≡ is_empty ss
empty_alike g [] ss h = ap is_empty h
empty_alike g (k ∷ ks) ss h = ne_eqb (length (k ∷ ks)) 0 (λ e. omega (arith, e)) ∙ ap is_empty h

-- a symbol that stands among the functions has one
has_graph : (before after : List (SymId × Graph)) (s : SymId) (g : Graph) → is_some (graph_in (before ++ (s, g) ∷ after) s) ≡ true
has_graph [] after s g = ap (λ b. is_some (if b then Some g else graph_in after s)) ((Decides-eqb s.0 s.0).1 refl)
has_graph (e ∷ es) after s g = by (has_graph es after s g) (s.0 == e.0.0)
  where
    by : is_some (graph_in (es ++ (s, g) ∷ after) s) ≡ true → (b : Bool) → is_some (if b then Some e.1 else graph_in (es ++ (s, g) ∷ after) s) ≡ true
    by there true = refl
    by there false = there

-- so it is one of the table
pub is_of_table : (t : Formulas) (m : ModelLists) → IsModelOf t m → (before after : List (SymId × Graph)) (s : SymId) (g : Graph) → m.graphs ≡ before ++ (s, g) ∷ after → IsSymbol t s
is_of_table t m numbers before after s g parts = by (nat_lt s.0 (length t.symbols)) refl
  where
    by : (b : Bool) → nat_lt s.0 (length t.symbols) ≡ b → s.0 < length t.symbols
    by true h = ltb-true s.0 (length t.symbols) h
    by false h =
        let none : graph_in m.graphs s ≡ None = numbers.graphs s (ltb-false s.0 (length t.symbols) h) in
        absurd (true≢false (sym (has_graph before after s g) ∙ ap (λ es. is_some (graph_in es s)) (sym parts) ∙ ap is_some none))

-- of the symbols for which a test holds, each keeps its function
graph_in-filter : (p : SymId → Bool) (es : List (SymId × Graph)) (s : SymId) → graph_in (filter (λ e. p e.0) es) s ≡ cond (p s) (graph_in es s) None
graph_in-filter p [] s = by (p s)
  where
    by : (b : Bool) → ◌≡◌ {A = Option Graph} None (cond b None None)
    by true = refl
    by false = refl
graph_in-filter p (e ∷ es) s = by (p e.0) refl (s.0 == e.0.0) refl (graph_in-filter p es s)
  where
    same : (s.0 == e.0.0) ≡ true → p s ≡ p e.0
    same k = ap (λ n. p (record { 0 = n })) ((Decides-eqb s.0 e.0.0).0 k)

    by : (a : Bool) → p e.0 ≡ a → (b : Bool) → (s.0 == e.0.0) ≡ b → graph_in (filter (λ d. p d.0) es) s ≡ cond (p s) (graph_in es s) None
        → graph_in (cond a (e ∷ filter (λ d. p d.0) es) (filter (λ d. p d.0) es)) s ≡ cond (p s) (if b then Some e.1 else graph_in es s) None
    by true h true k rest = ap (λ b. if b then Some e.1 else graph_in (filter (λ d. p d.0) es) s) k ∙ ap (λ a. cond a (Some e.1) None) (sym (same k ∙ h))
    by true h false k rest = ap (λ b. if b then Some e.1 else graph_in (filter (λ d. p d.0) es) s) k ∙ rest
    by false h true k rest = rest ∙ ap (λ a. cond a (graph_in es s) None) (same k ∙ h) ∙ ap (λ a. cond a (Some e.1) None) (sym (same k ∙ h))
    by false h false k rest = rest

module _ (t : Formulas) (old new : ModelLists) (numbers : IsModelOf t old) (kept : new.graphs ≡ filter (λ e. is_empty (symbol_at t e.0).args) old.graphs) where
  constants_stay : (s : SymId) → graph_in new.graphs s ≡ cond (is_empty (symbol_at t s).args) (graph_in old.graphs s) None
  constants_stay s = ap (λ es. graph_in es s) kept ∙ graph_in-filter (λ k. is_empty (symbol_at t k).args) old.graphs s

  none_either_way : (a b : Bool) (o : Option Graph) → o ≡ None → cond a o None ≡ cond b o None
  none_either_way true true o h = refl
  none_either_way true false o h = h
  none_either_way false true o h = sym h
  none_either_way false false o h = refl

  graphs_left : (f : Symbol) → graphs_by t.symbols new.graphs f ≡ cond (is_empty f.args) (graphs_by t.symbols old.graphs f) None
  unfolding graphs_by
  graphs_left f = constants_stay (symbol_number t.symbols f) ∙ by (nat_lt (position_or_len (symbol_eq f) t.symbols) (length t.symbols)) refl
    where
      by : (b : Bool) → nat_lt (position_or_len (symbol_eq f) t.symbols) (length t.symbols) ≡ b
          → cond (is_empty (symbol_at t (symbol_number t.symbols f)).args) (graph_in old.graphs (symbol_number t.symbols f)) None ≡ cond (is_empty f.args) (graph_in old.graphs (symbol_number t.symbols f)) None
      by true h =
          let same : f ≡ symbol_at t (symbol_number t.symbols f) =
          (Decides-symbol_eq f (symbol_at t (symbol_number t.symbols f))).0 (passes_at_first (symbol_eq f) t.symbols no_symbol (ltb-true (position_or_len (symbol_eq f) t.symbols) (length t.symbols) h)) in
          ap (λ (g : Symbol). cond (is_empty g.args) (graph_in old.graphs (symbol_number t.symbols f)) None) (sym same)
      by false h =
          none_either_way (is_empty (symbol_at t (symbol_number t.symbols f)).args) (is_empty f.args) (graph_in old.graphs (symbol_number t.symbols f))
          (numbers.graphs (symbol_number t.symbols f) (ltb-false (position_or_len (symbol_eq f) t.symbols) (length t.symbols) h))

  pub model_left : new.sizes ≡ old.sizes → new.div_by_zero ≡ old.div_by_zero → new.mod_by_zero ≡ old.mod_by_zero → model_at t new ≡ without_functions (model_at t old)
  model_left sizes divisions remainders = λ i. record { sizes = sizes_by t.sorts (sizes i); graphs = λ f. graphs_left f i; div_by_zero = divisions i; mod_by_zero = remainders i }

  pub numbers_stay : new.sizes ≡ old.sizes → IsModelOf t new
  numbers_stay sizes = record {
    sizes = λ k far. ap (λ es. size_at es k) sizes ∙ numbers.sizes k far;
    graphs = λ s far. constants_stay s ∙ none_either_way (is_empty (symbol_at t s).args) true (graph_in old.graphs s) (numbers.graphs s far) ∙ numbers.graphs s far;
  }

pub valid_left : (m : Model) → IsModel m → IsModel (without_functions m)
valid_left m is = record {
  sizes = is.sizes;
  graphs = λ f. by f (is_empty f.args);
  div_by_zero = is.div_by_zero;
  mod_by_zero = is.mod_by_zero;
}
  where
    by : (f : Symbol) (b : Bool) → IfSome (cond b (m.graphs f) None) (λ g. IsTrue (is_graph f m.sizes g))
    by f true = is.graphs f
    by f false = tt
