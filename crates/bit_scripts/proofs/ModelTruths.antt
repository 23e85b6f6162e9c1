-- Whether a symbol without arguments is true in a model: what the model has for it where no row says otherwise.
use Rattle.std.proofs.Common.{◌≡◌, ap, refl, Bool, true, false, ◌&&◌, List, [], ◌∷◌, Option, Some, None}
use Rattle.std.specs.Prelude.{option_map, IfSome, IsTrue}
use Rattle.std.specs.List.{list_all}
use Rattle.smt_terms.specs.Models.{Row, Graph, row_value, graph_value, graph_or_default, symbol_value, distinct_rows, rows_allowed, is_graph, Model, IsModel}
use Rattle.smt_terms.specs.Sorts.{Sort, bool, int, bit_vector, array, free_sort, Symbol}
use Rattle.smt_terms.specs.Values.{Value, truth, whole, bits, element, table, Sizes, is_true, is_value, are_values, all_same, default_value}
use Rattle.smt_terms.proofs.Tests.{both_true}

abbrev pub is_true_or : Option Value → Bool
is_true_or None = false
is_true_or (Some v) = is_true v

no_default : (s : Sort) → is_true (default_value s) ≡ false
no_default bool = refl
no_default int = refl
no_default (bit_vector w) = refl
no_default (free_sort n) = refl
no_default (array i e) = refl

-- no row of a symbol with arguments is for none
no_row : (s : Sort) (ss : List Sort) (sizes : Sizes) (rs : List Row) (v : Value) → row_value (λ r. all_same (s ∷ ss) sizes r.keys []) rs v ≡ v
no_row s ss sizes [] v = refl
no_row s ss sizes (r ∷ rs) v = go r.keys (no_row s ss sizes rs v)
  where
    go : (ks : List Value) → row_value (λ q. all_same (s ∷ ss) sizes q.keys []) rs v ≡ v → row_value (λ q. all_same (s ∷ ss) sizes q.keys []) (record { keys = ks; result = r.result } ∷ rs) v ≡ v
    go [] rest = rest
    go (k ∷ ks) rest = rest

otherwise_counts : (args : List Sort) (sizes : Sizes) (g : Graph) → rows_allowed args g.rows ≡ true → graph_value args sizes g [] ≡ g.otherwise
otherwise_counts [] sizes g allowed = go g.rows allowed
  where
    go : (rs : List Row) → rows_allowed [] rs ≡ true → row_value (λ r. all_same [] sizes r.keys []) rs g.otherwise ≡ g.otherwise
    go [] e = refl
    go (r ∷ rs) e = absurd cc
otherwise_counts (s ∷ ss) sizes g allowed = no_row s ss sizes g.rows g.otherwise

pub truth_of : (m : Model) (f : Symbol) → IsModel m → is_true (symbol_value m f []) ≡ is_true_or (option_map (λ g. g.otherwise) (m.graphs f))
truth_of m f valid = go (m.graphs f) (valid.graphs f)
  where
    go : (o : Option Graph) → IfSome o (λ g. IsTrue (is_graph f m.sizes g)) → is_true (graph_or_default f m.sizes o []) ≡ is_true_or (option_map (λ g. g.otherwise) o)
    go None fits = no_default f.result
    go (Some g) fits =
        let rest = (both_true (is_value f.result m.sizes g.otherwise) (list_all (λ r. are_values f.args m.sizes r.keys && is_value f.result m.sizes r.result) g.rows && (distinct_rows f.args m.sizes g.rows && rows_allowed f.args g.rows)) fits).1 in
        let tail = (both_true (list_all (λ r. are_values f.args m.sizes r.keys && is_value f.result m.sizes r.result) g.rows) (distinct_rows f.args m.sizes g.rows && rows_allowed f.args g.rows) rest).1 in
        ap is_true (otherwise_counts f.args m.sizes g (both_true (distinct_rows f.args m.sizes g.rows) (rows_allowed f.args g.rows) tail).1)

-- the value of a truth value without arguments is the truth value that it reads as
pub truth_read : (sizes : Sizes) (v : Value) → is_value bool sizes v ≡ true → v ≡ truth (is_true v)
truth_read sizes (truth b) e = refl
truth_read sizes (whole n) e = absurd cc
truth_read sizes (bits bs) e = absurd cc
truth_read sizes (element i) e = absurd cc
truth_read sizes (table d ps) e = absurd cc
