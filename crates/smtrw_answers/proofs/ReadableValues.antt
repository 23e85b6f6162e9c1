-- Values whose whole numbers can be read: where those of a model can and those of a term fit, the term's value can be read too.
use Rattle.std.proofs.Common.{◌≡◌, refl, Bool, true, ◌&&◌, List, [], ◌∷◌, Option, Some, None}
use Rattle.std.specs.Prelude.{IfSome, unwrap_or}
use Rattle.std.specs.List.{list_all}
use Rattle.smt_terms.specs.declared.op.Op.{Op}
use Rattle.smt_terms.specs.declared.op.Op.TheVariants.{Truth, Whole, Bits, Sym, Forall, Exists, ConstArray, Not, And, Or, Xor, Implies, Equal, Distinct, Ite, Neg, Sub, Add, Mul, Div, Mod, Abs, Le, Lt, Concat, Extract, BvNot, BvNeg, BvAnd, BvOr, BvXor, BvAdd, BvMul, BvSub, BvUdiv, BvUrem, BvSdiv, BvSrem, BvSmod, BvShl, BvLshr, BvAshr, BvComp, BvUlt, BvUle, BvSlt, BvSle, ZeroExt, SignExt, RotL, RotR, Select, Store}
use Rattle.smt_terms.specs.Models.{Row, Graph, Model, row_value, graph_or_default, background}
use Rattle.smt_terms.specs.Operators.{Background, first_value, later_values, second_value, third_value, first_sort, index_sort, op_value}
use Rattle.smt_terms.specs.Rank.{sorts_of}
use Rattle.smt_terms.specs.Sorts.{Sort, bool, int, bit_vector, array, free_sort, Symbol}
use Rattle.smt_terms.specs.Term.{Head, op, symbol, const_array, Term, apply, quantified, Terms, none, ◌⨾◌, constant}
use Rattle.smt_terms.specs.Val.{no_variables, head_value, val, vals, value_in_range, fits, fit}
use Rattle.smt_terms.specs.Values.{Value, truth, whole, bits, element, table, Pairs, no_pairs, pair, Sizes, is_true, default_of, pairs_of, value_at, put, same, all_same, select, store, default_value}
use Rattle.smt_terms.proofs.Tests.{both_true, and_true, either_way}
use Rattle.model_texts.specs.Laws.{is_readable, are_readable, is_readable_row, is_readable_graph, is_readable_table}

-- ---- arrays

at_readable : (alike : Value → Value → Bool) (k : Value) (ps : Pairs) (d : Value) → are_readable ps ≡ true → is_readable d ≡ true → is_readable (value_at alike k ps d) ≡ true
at_readable alike k no_pairs d pairs default = default
at_readable alike k (pair j v ps) d pairs default =
    let a = both_true (is_readable j) (is_readable v && are_readable ps) pairs in
    let b = both_true (is_readable v) (are_readable ps) a.1 in
    either_way is_readable (alike j k) v (value_at alike k ps d) true (λ e. b.0) (λ e. at_readable alike k ps d b.1 default)

pair_readable : (k v : Value) (ps : Pairs) → is_readable k ≡ true → is_readable v ≡ true → are_readable ps ≡ true → are_readable (pair k v ps) ≡ true
pair_readable k v ps key value pairs = and_true (is_readable k) (is_readable v && are_readable ps) key (and_true (is_readable v) (are_readable ps) value pairs)

put_readable : (alike : Value → Value → Bool) (k v : Value) (ps : Pairs) → is_readable k ≡ true → is_readable v ≡ true → are_readable ps ≡ true → are_readable (put alike k v ps) ≡ true
put_readable alike k v no_pairs key value pairs = pair_readable k v no_pairs key value pairs
put_readable alike k v (pair j u ps) key value pairs =
    let a = both_true (is_readable j) (is_readable u && are_readable ps) pairs in
    let b = both_true (is_readable u) (are_readable ps) a.1 in
    either_way are_readable (alike j k) (pair j v ps) (pair j u (put alike k v ps)) true
    (λ e. pair_readable j v ps a.0 value b.1) (λ e. pair_readable j u (put alike k v ps) a.0 b.0 (put_readable alike k v ps key value b.1))

default_readable : (a : Value) → is_readable a ≡ true → is_readable (default_of a) ≡ true
default_readable (truth b) h = h
default_readable (whole n) h = h
default_readable (bits bs) h = h
default_readable (element i) h = h
default_readable (table d ps) h = (both_true (is_readable d) (are_readable ps) h).0

pairs_readable : (a : Value) → is_readable a ≡ true → are_readable (pairs_of a) ≡ true
pairs_readable (truth b) h = refl
pairs_readable (whole n) h = refl
pairs_readable (bits bs) h = refl
pairs_readable (element i) h = refl
pairs_readable (table d ps) h = (both_true (is_readable d) (are_readable ps) h).1

select_readable : (i : Sort) (sizes : Sizes) (a k : Value) → is_readable a ≡ true → is_readable (select i sizes a k) ≡ true
select_readable i sizes a k h = at_readable (same i sizes) k (pairs_of a) (default_of a) (pairs_readable a h) (default_readable a h)

pub store_readable : (i : Sort) (sizes : Sizes) (a k v : Value) → is_readable a ≡ true → is_readable k ≡ true → is_readable v ≡ true → is_readable (store i sizes a k v) ≡ true
store_readable i sizes a k v old key value =
    let ps = put (same i sizes) k v (pairs_of a) in
    and_true (is_readable (default_of a)) (are_readable ps) (default_readable a old) (put_readable (same i sizes) k v (pairs_of a) key value (pairs_readable a old))

-- ---- defaults, and operands by their places

pub of_sort_readable : (s : Sort) → is_readable (default_value s) ≡ true
of_sort_readable bool = refl
of_sort_readable int = refl
of_sort_readable (bit_vector w) = refl
of_sort_readable (free_sort n) = refl
of_sort_readable (array i e) = and_true (is_readable (default_value e)) true (of_sort_readable e) refl

first_readable : (vs : List Value) → list_all is_readable vs ≡ true → is_readable (first_value vs) ≡ true
first_readable [] all = refl
first_readable (v ∷ vs) all = (both_true (is_readable v) (list_all is_readable vs) all).0

later_readable : (vs : List Value) → list_all is_readable vs ≡ true → list_all is_readable (later_values vs) ≡ true
later_readable [] all = refl
later_readable (v ∷ vs) all = (both_true (is_readable v) (list_all is_readable vs) all).1

second_readable : (vs : List Value) → list_all is_readable vs ≡ true → is_readable (second_value vs) ≡ true
second_readable vs all = first_readable (later_values vs) (later_readable vs all)

third_readable : (vs : List Value) → list_all is_readable vs ≡ true → is_readable (third_value vs) ≡ true
third_readable vs all = first_readable (later_values (later_values vs)) (later_readable (later_values vs) (later_readable vs all))

-- ---- operators

op_readable : (c : Background) (o : Op) (ss : List Sort) (vs : List Value) → list_all is_readable vs ≡ true → value_in_range (op_value c o ss vs) ≡ true → is_readable (op_value c o ss vs) ≡ true
unfolding op_value
op_readable c (Truth b) ss vs all range = refl
op_readable c (Whole n) ss vs all range = range
op_readable c (Bits w n) ss vs all range = refl
op_readable c Not ss vs all range = refl
op_readable c And ss vs all range = refl
op_readable c Or ss vs all range = refl
op_readable c Xor ss vs all range = refl
op_readable c Implies ss vs all range = refl
op_readable c Equal ss vs all range = refl
op_readable c Distinct ss vs all range = refl
op_readable c Ite ss vs all range =
    either_way is_readable (is_true (first_value vs)) (second_value vs) (third_value vs) true (λ e. second_readable vs all) (λ e. third_readable vs all)
op_readable c Neg ss vs all range = range
op_readable c Sub ss vs all range = range
op_readable c Add ss vs all range = range
op_readable c Mul ss vs all range = range
op_readable c Div ss vs all range = range
op_readable c Mod ss vs all range = range
op_readable c Abs ss vs all range = range
op_readable c Le ss vs all range = refl
op_readable c Lt ss vs all range = refl
op_readable c Concat ss vs all range = refl
op_readable c (Extract high low) ss vs all range = refl
op_readable c BvNot ss vs all range = refl
op_readable c BvNeg ss vs all range = refl
op_readable c BvAnd ss vs all range = refl
op_readable c BvOr ss vs all range = refl
op_readable c BvXor ss vs all range = refl
op_readable c BvAdd ss vs all range = refl
op_readable c BvMul ss vs all range = refl
op_readable c BvSub ss vs all range = refl
op_readable c BvUdiv ss vs all range = refl
op_readable c BvUrem ss vs all range = refl
op_readable c BvSdiv ss vs all range = refl
op_readable c BvSrem ss vs all range = refl
op_readable c BvSmod ss vs all range = refl
op_readable c BvShl ss vs all range = refl
op_readable c BvLshr ss vs all range = refl
op_readable c BvAshr ss vs all range = refl
op_readable c BvComp ss vs all range = refl
op_readable c BvUlt ss vs all range = refl
op_readable c BvUle ss vs all range = refl
op_readable c BvSlt ss vs all range = refl
op_readable c BvSle ss vs all range = refl
op_readable c (ZeroExt i) ss vs all range = refl
op_readable c (SignExt i) ss vs all range = refl
op_readable c (RotL i) ss vs all range = refl
op_readable c (RotR i) ss vs all range = refl
op_readable c Select ss vs all range = select_readable (index_sort (first_sort ss)) c.sizes (first_value vs) (second_value vs) (first_readable vs all)
op_readable c Store ss vs all range = store_readable (index_sort (first_sort ss)) c.sizes (first_value vs) (second_value vs) (third_value vs) (first_readable vs all) (second_readable vs all) (third_readable vs all)
op_readable c (Sym f) ss vs all range = refl
op_readable c Forall ss vs all range = refl
op_readable c Exists ss vs all range = refl
op_readable c (ConstArray s) ss vs all range = refl

-- ---- models

-- a model whose whole numbers can be read
pub record IsReadableModel (m : Model) : Type 0 where
  pub graphs : (f : Symbol) → IfSome (m.graphs f) (λ g. is_readable_graph g ≡ true)
  pub div_by_zero : is_readable_table m.div_by_zero ≡ true
  pub mod_by_zero : is_readable_table m.mod_by_zero ≡ true

row_readable : (test : Row → Bool) (rows : List Row) (otherwise : Value) → list_all is_readable_row rows ≡ true → is_readable otherwise ≡ true → is_readable (row_value test rows otherwise) ≡ true
row_readable test [] otherwise all rest = rest
row_readable test (r ∷ rows) otherwise all rest =
    let a = both_true (is_readable_row r) (list_all is_readable_row rows) all in
    let b = both_true (list_all is_readable r.keys) (is_readable r.result) a.0 in
    either_way is_readable (test r) r.result (row_value test rows otherwise) true (λ e. b.1) (λ e. row_readable test rows otherwise a.1 rest)

pub graph_readable : (f : Symbol) (sizes : Sizes) (o : Option Graph) (vs : List Value) → IfSome o (λ g. is_readable_graph g ≡ true) → is_readable (graph_or_default f sizes o vs) ≡ true
graph_readable f sizes None vs is = of_sort_readable f.result
graph_readable f sizes (Some g) vs is =
    let a = both_true (list_all is_readable_row g.rows) (is_readable g.otherwise) is in
    row_readable (λ r. all_same f.args sizes r.keys vs) g.rows g.otherwise a.0 a.1

module _ (m : Model) (is : IsReadableModel m) where
  head_readable : (h : Head) (ss : List Sort) (vs : List Value) → list_all is_readable vs ≡ true → value_in_range (head_value m no_variables h ss vs) ≡ true → is_readable (head_value m no_variables h ss vs) ≡ true
  head_readable (op o) ss vs all range = op_readable (background m) o ss vs all range
  head_readable (symbol f) ss [] all range = graph_readable f m.sizes (m.graphs f) [] (is.graphs f)
  head_readable (symbol f) ss (v ∷ vs) all range = graph_readable f m.sizes (m.graphs f) (v ∷ vs) (is.graphs f)
  head_readable (const_array s) ss vs all range = and_true (is_readable (first_value vs)) true (first_readable vs all) refl

  -- a constant without arguments
  pub constant_readable : (f : Symbol) → is_readable (val m (constant f) no_variables) ≡ true
  constant_readable f = graph_readable f m.sizes (m.graphs f) [] (is.graphs f)

  mutual
    pub val_readable : (t : Term) → fits m t no_variables ≡ true → is_readable (val m t no_variables) ≡ true
    val_readable (apply h ts) fit_all =
        let a = both_true (fit m ts no_variables) (value_in_range (val m (apply h ts) no_variables)) fit_all in
        head_readable h (unwrap_or (sorts_of ts) []) (vals m ts no_variables) (vals_readable ts a.0) a.1
    val_readable (quantified q xs t) fit_all = refl

    pub vals_readable : (ts : Terms) → fit m ts no_variables ≡ true → list_all is_readable (vals m ts no_variables) ≡ true
    vals_readable none fit_all = refl
    vals_readable (t ⨾ ts) fit_all =
        let a = both_true (fits m t no_variables) (fit m ts no_variables) fit_all in
        and_true (is_readable (val m t no_variables)) (list_all is_readable (vals m ts no_variables)) (val_readable t a.0) (vals_readable ts a.1)
