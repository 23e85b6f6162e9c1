-- The values of terms have the terms' sorts.
use Rattle.std.proofs.Common.{◌≡◌, ℕ, ◌+◌, ◌-◌, ◌<◌, Bool, true, false, cond, ◌&&◌, ℤ, List, [], ◌∷◌, length, Option, Some, None, IsTrue, refl, ap, sym, ◌∙◌, subst}
use Rattle.std.specs.Prelude.{unwrap_or, IfSome}
use Rattle.std.specs.List.{list_all}
use Rattle.std.proofs.lemmas.Bool.Decides.{Decides-eqb, Decides-ltb}
use Rattle.smt_terms.specs.declared.op.Op.{Op}
use Rattle.smt_terms.specs.declared.op.Op.TheVariants.{Truth, Whole, Bits, Sym, Forall, Exists, ConstArray, Not, And, Or, Xor, Implies, Equal, Distinct, Ite, Neg, Sub, Add, Mul, Div, Mod, Abs, Le, Lt, Concat, Extract, BvNot, BvNeg, BvAnd, BvOr, BvXor, BvAdd, BvMul, BvSub, BvUdiv, BvUrem, BvSdiv, BvSrem, BvSmod, BvShl, BvLshr, BvAshr, BvComp, BvUlt, BvUle, BvSlt, BvSle, ZeroExt, SignExt, RotL, RotR, Select, Store}
use Rattle.smt_terms.specs.Sorts.{Name, Sort, bool, int, bit_vector, array, free_sort, Symbol}
use Rattle.smt_terms.specs.Term.{op, symbol, const_array, Term, apply, quantified, Terms, none, ◌⨾◌}
use Rattle.smt_terms.specs.Rank.{shape, bitwise, bitwise_pair, extension, sort_of, sorts_of}
use Rattle.smt_terms.specs.Takes.{Takes}
use Rattle.smt_terms.specs.BitVectors.{BitVector, zeros, zero_extend, sign_extend}
use Rattle.smt_terms.specs.Values.{Value, Pairs, truth, whole, bits, table, no_pairs, Sizes, is_true, bits_of, default_of, pairs_of, put, distinct_keys, every_pair, same, all_same, select, store, is_value, are_values, default_value}
use Rattle.smt_terms.specs.Operators.{Background, first_value, second_value, third_value, first_sort, index_sort, vector, vectors, op_value}
use Rattle.smt_terms.specs.Models.{Row, Graph, Model, row_value, graph_or_default, symbol_value, background, distinct_rows, rows_allowed, is_graph, IsModel}
use Rattle.smt_terms.specs.Val.{Env, runs, head_value, val, vals}
use Rattle.smt_terms.specs.Laws.{IsEnv}
use Rattle.smt_terms.proofs.Tests.{both_true, and_true, either_way}
use Rattle.smt_terms.proofs.BitLengths.{length-copies, length-nat2bv, length-bvnot, length-bvneg, length-extract, length-concat, length-zero_extend, length-sign_extend, length-rotate_left, length-rotate_right, KeepsWidth, keeps_bvand, keeps_bvor, keeps_bvxor, keeps_bvadd, keeps_bvsub, keeps_bvmul, keeps_bvshl, keeps_bvlshr, keeps_bvudiv, keeps_bvurem, keeps_bvsdiv, keeps_bvsrem, keeps_bvsmod, keeps_bvashr}
use Rattle.smt_terms.proofs.Lookups.{distinct_keys-put, every_pair-put}
use Rattle.smt_terms.proofs.Same.{array_value, is_value-select, same-back}
use Rattle.smt_terms.proofs.Ranked.{rank-takes}
use Rattle.smt_terms.proofs.Sorted.{applied, sorted, quantified_sort}

-- ---- each sort has its default

pub is_value-default : (s : Sort) (sizes : Sizes) → ((n : Name) → 0 < sizes n) → is_value s sizes (default_value s) ≡ true
is_value-default bool sizes some = refl
is_value-default int sizes some = refl
is_value-default (bit_vector w) sizes some = (Decides-eqb (length (zeros w)) w).1 (length-copies w false)
is_value-default (free_sort n) sizes some = (Decides-ltb 0 (sizes n)).1 (some n)
is_value-default (array i e) sizes some = and_true (is_value e sizes (default_value e)) true (is_value-default e sizes some) refl

-- ---- values by their places

pub first_valid : (s : Sort) (ss : List Sort) (sizes : Sizes) (vs : List Value) → are_values (s ∷ ss) sizes vs ≡ true → is_value s sizes (first_value vs) ≡ true
first_valid s ss sizes [] h = absurd cc
first_valid s ss sizes (v ∷ vs) h = (both_true (is_value s sizes v) (are_values ss sizes vs) h).0

pub later_valid : (s : Sort) (ss : List Sort) (sizes : Sizes) (v : Value) (vs : List Value) → are_values (s ∷ ss) sizes (v ∷ vs) ≡ true → are_values ss sizes vs ≡ true
later_valid s ss sizes v vs h = (both_true (is_value s sizes v) (are_values ss sizes vs) h).1

pub second_valid : (r s : Sort) (ss : List Sort) (sizes : Sizes) (vs : List Value) → are_values (r ∷ s ∷ ss) sizes vs ≡ true → is_value s sizes (second_value vs) ≡ true
second_valid r s ss sizes [] h = absurd cc
second_valid r s ss sizes (v ∷ vs) h = first_valid s ss sizes vs (later_valid r (s ∷ ss) sizes v vs h)

pub third_valid : (q r s : Sort) (ss : List Sort) (sizes : Sizes) (vs : List Value) → are_values (q ∷ r ∷ s ∷ ss) sizes vs ≡ true → is_value s sizes (third_value vs) ≡ true
third_valid q r s ss sizes [] h = absurd cc
third_valid q r s ss sizes (v ∷ vs) h = second_valid r s ss sizes vs (later_valid q (r ∷ s ∷ ss) sizes v vs h)

pub length-bits_of : (w : ℕ) (sizes : Sizes) (v : Value) → is_value (bit_vector w) sizes v ≡ true → length (bits_of v) ≡ w
length-bits_of w sizes (bits bs) h = (Decides-eqb (length bs) w).0 h
length-bits_of w sizes _ h = absurd cc

-- ---- results by their kinds

truth_valid : (s : Sort) (sizes : Sizes) (b : Bool) → s ≡ bool → is_value s sizes (truth b) ≡ true
truth_valid s sizes b e = ap (λ t. is_value t sizes (truth b)) e

whole_valid : (s : Sort) (sizes : Sizes) (n : ℤ) → s ≡ int → is_value s sizes (whole n) ≡ true
whole_valid s sizes n e = ap (λ t. is_value t sizes (whole n)) e

bits_valid : (s : Sort) (sizes : Sizes) (bs : BitVector) (w : ℕ) → s ≡ bit_vector w → length bs ≡ w → is_value s sizes (bits bs) ≡ true
bits_valid s sizes bs w e h = ap (λ t. is_value t sizes (bits bs)) e ∙ (Decides-eqb (length bs) w).1 h

-- one operand, or two of one width
vector_valid : (ss : List Sort) (s : Sort) (sizes : Sizes) (vs : List Value) (f : BitVector → BitVector) → ((bs : BitVector) → length (f bs) ≡ length bs) → Takes bitwise ss s → are_values ss sizes vs ≡ true → is_value s sizes (vector f vs) ≡ true
vector_valid ss s sizes vs f keeps t h =
    let valid : are_values (bit_vector t.0 ∷ []) sizes vs ≡ true = sym (ap (λ us. are_values us sizes vs) t.1) ∙ h in
    bits_valid s sizes (f (bits_of (first_value vs))) t.0 t.2 (keeps (bits_of (first_value vs)) ∙ length-bits_of t.0 sizes (first_value vs) (first_valid (bit_vector t.0) [] sizes vs valid))

vectors_valid : (ss : List Sort) (s : Sort) (sizes : Sizes) (vs : List Value) (f : BitVector → BitVector → BitVector) → KeepsWidth f → Takes bitwise_pair ss s → are_values ss sizes vs ≡ true → is_value s sizes (vectors f vs) ≡ true
vectors_valid ss s sizes vs f keeps t h =
    let valid : are_values (bit_vector t.0 ∷ bit_vector t.0 ∷ []) sizes vs ≡ true = sym (ap (λ us. are_values us sizes vs) t.1) ∙ h in
    let first : length (bits_of (first_value vs)) ≡ t.0 = length-bits_of t.0 sizes (first_value vs) (first_valid (bit_vector t.0) (bit_vector t.0 ∷ []) sizes vs valid) in
    let second : length (bits_of (second_value vs)) ≡ t.0 = length-bits_of t.0 sizes (second_value vs) (second_valid (bit_vector t.0) (bit_vector t.0) [] sizes vs valid) in
    bits_valid s sizes (f (bits_of (first_value vs)) (bits_of (second_value vs))) t.0 t.2 (keeps (bits_of (first_value vs)) (bits_of (second_value vs)) (second ∙ sym first) ∙ first)

-- one that gives more bits
extended : (ss : List Sort) (s : Sort) (sizes : Sizes) (vs : List Value) (i : ℕ) (f : BitVector → BitVector) → ((bs : BitVector) → length (f bs) ≡ length bs + i) → Takes (extension i) ss s → are_values ss sizes vs ≡ true → is_value s sizes (vector f vs) ≡ true
extended ss s sizes vs i f more t h =
    let valid : are_values (bit_vector t.0 ∷ []) sizes vs ≡ true = sym (ap (λ us. are_values us sizes vs) t.1) ∙ h in
    bits_valid s sizes (f (bits_of (first_value vs))) (t.0 + i) t.2 (more (bits_of (first_value vs)) ∙ ap (λ n. n + i) (length-bits_of t.0 sizes (first_value vs) (first_valid (bit_vector t.0) [] sizes vs valid)))

-- ---- arrays

array_valid : (i e : Sort) (sizes : Sizes) (d : Value) (ps : Pairs) → is_value e sizes d ≡ true → every_pair (λ k v. is_value i sizes k && is_value e sizes v) ps ≡ true → distinct_keys (same i sizes) ps ≡ true → is_value (array i e) sizes (table d ps) ≡ true
array_valid i e sizes d ps default entries distinct =
    and_true (is_value e sizes d) (every_pair (λ k v. is_value i sizes k && is_value e sizes v) ps && distinct_keys (same i sizes) ps) default
    (and_true (every_pair (λ k v. is_value i sizes k && is_value e sizes v) ps) (distinct_keys (same i sizes) ps) entries distinct)

pub is_value-store : (i e : Sort) (sizes : Sizes) (a k v : Value) → is_value (array i e) sizes a ≡ true → is_value i sizes k ≡ true → is_value e sizes v ≡ true → is_value (array i e) sizes (store i sizes a k v) ≡ true
is_value-store i e sizes a k v valid key new =
    let parts = array_value i e sizes a valid in
    array_valid i e sizes (default_of a) (put (same i sizes) k v (pairs_of a)) parts.default
    (every_pair-put (same i sizes) (λ k v. is_value i sizes k && is_value e sizes v) k v (pairs_of a)
    (λ j u t. and_true (is_value i sizes j) (is_value e sizes v) (both_true (is_value i sizes j) (is_value e sizes u) t).0 new)
    (and_true (is_value i sizes k) (is_value e sizes v) key new) parts.entries)
    (distinct_keys-put (same i sizes) (same-back i sizes) k v (pairs_of a) parts.distinct)

-- ---- operators

-- what an operator gives from operands that it takes has its sort
pub op_valid : (c : Background) (o : Op) (ss : List Sort) (s : Sort) (vs : List Value) → Takes (shape o) ss s → are_values ss c.sizes vs ≡ true → is_value s c.sizes (op_value c o ss vs) ≡ true
unfolding shape op_value
op_valid c (Truth b) ss s vs t h = truth_valid s c.sizes b t.1
op_valid c (Whole n) ss s vs t h = whole_valid s c.sizes n t.2
op_valid c (Bits w n) ss s vs t h = bits_valid s c.sizes _ w t.3 (length-nat2bv w n)
op_valid c Not ss s vs t h = truth_valid s c.sizes _ t.1
op_valid c And ss s vs t h = truth_valid s c.sizes _ t.2
op_valid c Or ss s vs t h = truth_valid s c.sizes _ t.2
op_valid c Xor ss s vs t h = truth_valid s c.sizes _ t.1
op_valid c Implies ss s vs t h = truth_valid s c.sizes _ t.1
op_valid c Equal ss s vs t h = truth_valid s c.sizes _ t.2
op_valid c Distinct ss s vs t h = truth_valid s c.sizes _ t.3
op_valid c Ite ss s vs t h =
    let valid : are_values (bool ∷ t.0 ∷ t.0 ∷ []) c.sizes vs ≡ true = sym (ap (λ us. are_values us c.sizes vs) t.1) ∙ h in
    ap (λ u. is_value u c.sizes (cond (is_true (first_value vs)) (second_value vs) (third_value vs))) t.2
    ∙ either_way (is_value t.0 c.sizes) (is_true (first_value vs)) (second_value vs) (third_value vs) true
    (λ e. second_valid bool t.0 (t.0 ∷ []) c.sizes vs valid) (λ e. third_valid bool t.0 t.0 [] c.sizes vs valid)
op_valid c Neg ss s vs t h = whole_valid s c.sizes _ t.1
op_valid c Sub ss s vs t h = whole_valid s c.sizes _ t.1
op_valid c Add ss s vs t h = whole_valid s c.sizes _ t.2
op_valid c Mul ss s vs t h = whole_valid s c.sizes _ t.2
op_valid c Div ss s vs t h = whole_valid s c.sizes _ t.1
op_valid c Mod ss s vs t h = whole_valid s c.sizes _ t.1
op_valid c Abs ss s vs t h = whole_valid s c.sizes _ t.1
op_valid c Le ss s vs t h = truth_valid s c.sizes _ t.1
op_valid c Lt ss s vs t h = truth_valid s c.sizes _ t.1
op_valid c Concat ss s vs t h =
    let valid : are_values (bit_vector t.0 ∷ bit_vector t.1 ∷ []) c.sizes vs ≡ true = sym (ap (λ us. are_values us c.sizes vs) t.2) ∙ h in
    let first : length (bits_of (first_value vs)) ≡ t.0 = length-bits_of t.0 c.sizes (first_value vs) (first_valid (bit_vector t.0) (bit_vector t.1 ∷ []) c.sizes vs valid) in
    let second : length (bits_of (second_value vs)) ≡ t.1 = length-bits_of t.1 c.sizes (second_value vs) (second_valid (bit_vector t.0) (bit_vector t.1) [] c.sizes vs valid) in
    bits_valid s c.sizes _ (t.0 + t.1) t.3 (length-concat (bits_of (first_value vs)) (bits_of (second_value vs)) ∙ (λ i. first i + second i))
op_valid c (Extract high low) ss s vs t h =
    let valid : are_values (bit_vector t.0 ∷ []) c.sizes vs ≡ true = sym (ap (λ us. are_values us c.sizes vs) t.1) ∙ h in
    let first : length (bits_of (first_value vs)) ≡ t.0 = length-bits_of t.0 c.sizes (first_value vs) (first_valid (bit_vector t.0) [] c.sizes vs valid) in
    bits_valid s c.sizes _ (high - low + 1) t.4 (length-extract high low (bits_of (first_value vs)) t.2 (subst (λ n. high < n) (sym first) t.3))
op_valid c BvNot ss s vs t h = vector_valid ss s c.sizes vs _ length-bvnot t h
op_valid c BvNeg ss s vs t h = vector_valid ss s c.sizes vs _ length-bvneg t h
op_valid c BvAnd ss s vs t h = vectors_valid ss s c.sizes vs _ keeps_bvand t h
op_valid c BvOr ss s vs t h = vectors_valid ss s c.sizes vs _ keeps_bvor t h
op_valid c BvXor ss s vs t h = vectors_valid ss s c.sizes vs _ keeps_bvxor t h
op_valid c BvAdd ss s vs t h = vectors_valid ss s c.sizes vs _ keeps_bvadd t h
op_valid c BvMul ss s vs t h = vectors_valid ss s c.sizes vs _ keeps_bvmul t h
op_valid c BvSub ss s vs t h = vectors_valid ss s c.sizes vs _ keeps_bvsub t h
op_valid c BvUdiv ss s vs t h = vectors_valid ss s c.sizes vs _ keeps_bvudiv t h
op_valid c BvUrem ss s vs t h = vectors_valid ss s c.sizes vs _ keeps_bvurem t h
op_valid c BvSdiv ss s vs t h = vectors_valid ss s c.sizes vs _ keeps_bvsdiv t h
op_valid c BvSrem ss s vs t h = vectors_valid ss s c.sizes vs _ keeps_bvsrem t h
op_valid c BvSmod ss s vs t h = vectors_valid ss s c.sizes vs _ keeps_bvsmod t h
op_valid c BvShl ss s vs t h = vectors_valid ss s c.sizes vs _ keeps_bvshl t h
op_valid c BvLshr ss s vs t h = vectors_valid ss s c.sizes vs _ keeps_bvlshr t h
op_valid c BvAshr ss s vs t h = vectors_valid ss s c.sizes vs _ keeps_bvashr t h
op_valid c BvComp ss s vs t h = bits_valid s c.sizes _ 1 t.2 refl
op_valid c BvUlt ss s vs t h = truth_valid s c.sizes _ t.2
op_valid c BvUle ss s vs t h = truth_valid s c.sizes _ t.2
op_valid c BvSlt ss s vs t h = truth_valid s c.sizes _ t.2
op_valid c BvSle ss s vs t h = truth_valid s c.sizes _ t.2
op_valid c (ZeroExt i) ss s vs t h = extended ss s c.sizes vs i (zero_extend i) (length-zero_extend i) t h
op_valid c (SignExt i) ss s vs t h = extended ss s c.sizes vs i (sign_extend i) (length-sign_extend i) t h
op_valid c (RotL i) ss s vs t h = vector_valid ss s c.sizes vs _ (length-rotate_left i) (t.0, t.1, t.3) h
op_valid c (RotR i) ss s vs t h = vector_valid ss s c.sizes vs _ (length-rotate_right i) (t.0, t.1, t.3) h
op_valid c Select ss s vs t h =
    let valid : are_values (array t.0 s ∷ t.0 ∷ []) c.sizes vs ≡ true = sym (ap (λ us. are_values us c.sizes vs) t.1) ∙ h in
    ap (λ us. is_value s c.sizes (select (index_sort (first_sort us)) c.sizes (first_value vs) (second_value vs))) t.1
    ∙ is_value-select t.0 s c.sizes (first_value vs) (second_value vs) (first_valid (array t.0 s) (t.0 ∷ []) c.sizes vs valid)
op_valid c Store ss s vs t h =
    let valid : are_values (array t.0 t.1 ∷ t.0 ∷ t.1 ∷ []) c.sizes vs ≡ true = sym (ap (λ us. are_values us c.sizes vs) t.2) ∙ h in
    (λ i. is_value (t.3 i) c.sizes (store (index_sort (first_sort (t.2 i))) c.sizes (first_value vs) (second_value vs) (third_value vs)))
    ∙ is_value-store t.0 t.1 c.sizes (first_value vs) (second_value vs) (third_value vs)
    (first_valid (array t.0 t.1) (t.0 ∷ t.1 ∷ []) c.sizes vs valid)
    (second_valid (array t.0 t.1) t.0 (t.1 ∷ []) c.sizes vs valid)
    (third_valid (array t.0 t.1) t.0 t.1 [] c.sizes vs valid)
op_valid c (Sym f) ss s vs t h = absurd t
op_valid c Forall ss s vs t h = absurd t
op_valid c Exists ss s vs t h = absurd t
op_valid c (ConstArray r) ss s vs t h = absurd t

-- ---- symbols

rows_valid : (s : Sort) (sizes : Sizes) (allowed : Row → Bool) (test : Row → Bool) (rows : List Row) (otherwise : Value) → is_value s sizes otherwise ≡ true → ((r : Row) → allowed r ≡ true → is_value s sizes r.result ≡ true) → list_all allowed rows ≡ true → is_value s sizes (row_value test rows otherwise) ≡ true
rows_valid s sizes allowed test [] otherwise default leads h = default
rows_valid s sizes allowed test (r ∷ rows) otherwise default leads h =
    let parts = both_true (allowed r) (list_all allowed rows) h in
    let behind : is_value s sizes (row_value test rows otherwise) ≡ true = rows_valid s sizes allowed test rows otherwise default leads parts.1 in
    either_way (is_value s sizes) (test r) r.result (row_value test rows otherwise) true (λ e. leads r parts.0) (λ e. behind)

graph_valid : (f : Symbol) (sizes : Sizes) (o : Option Graph) (vs : List Value) → ((n : Name) → 0 < sizes n) → IfSome o (λ g. IsTrue (is_graph f sizes g)) → is_value f.result sizes (graph_or_default f sizes o vs) ≡ true
graph_valid f sizes None vs some h = is_value-default f.result sizes some
graph_valid f sizes (Some g) vs some h =
    let all = both_true (is_value f.result sizes g.otherwise) (list_all (λ r. are_values f.args sizes r.keys && is_value f.result sizes r.result) g.rows && (distinct_rows f.args sizes g.rows && rows_allowed f.args g.rows)) h in
    let rest = both_true (list_all (λ r. are_values f.args sizes r.keys && is_value f.result sizes r.result) g.rows) (distinct_rows f.args sizes g.rows && rows_allowed f.args g.rows) all.1 in
    rows_valid f.result sizes (λ r. are_values f.args sizes r.keys && is_value f.result sizes r.result) (λ r. all_same f.args sizes r.keys vs) g.rows g.otherwise all.0
    (λ r t. (both_true (are_values f.args sizes r.keys) (is_value f.result sizes r.result) t).1) rest.0

pub is_value-symbol : (m : Model) (f : Symbol) (vs : List Value) → IsModel m → is_value f.result m.sizes (symbol_value m f vs) ≡ true
is_value-symbol m f vs valid = graph_valid f m.sizes (m.graphs f) vs valid.sizes (valid.graphs f)

variable_valid : (f : Symbol) (sizes : Sizes) (o : Option Value) (v : Value) → IfSome o (λ w. IsTrue (is_value f.result sizes w)) → is_value f.result sizes v ≡ true → is_value f.result sizes (unwrap_or o v) ≡ true
variable_valid f sizes None v known default = default
variable_valid f sizes (Some w) v known default = known

-- a symbol at arguments, the quantified variables counted
symbol_valid : (m : Model) (e : Env) (f : Symbol) (ss : List Sort) (vs : List Value) → IsModel m → IsEnv m.sizes e → is_value f.result m.sizes (head_value m e (symbol f) ss vs) ≡ true
symbol_valid m e f ss [] model env = variable_valid f m.sizes (e f) (symbol_value m f []) (env f) (is_value-symbol m f [] model)
symbol_valid m e f ss (v ∷ vs) model env = is_value-symbol m f (v ∷ vs) model

-- ---- terms

mutual
  pub val_valid : (t : Term) (s : Sort) (m : Model) (e : Env) → IsModel m → IsEnv m.sizes e → sort_of t ≡ Some s → is_value s m.sizes (val m t e) ≡ true
  val_valid (apply (op o) ts) s m e model env has =
      let parts = applied (op o) ts s has in
      ap (λ (us : Option (List Sort)). is_value s m.sizes (op_value (background m) o (unwrap_or us []) (vals m ts e))) parts.operands
      ∙ op_valid (background m) o parts.sorts s (vals m ts e) (rank-takes (op o) parts.sorts s parts.rank) (vals_valid ts parts.sorts m e model env parts.operands)
  val_valid (apply (symbol f) ts) s m e model env has =
      let parts = applied (symbol f) ts s has in
      ap (λ u. is_value u m.sizes (head_value m e (symbol f) (unwrap_or (sorts_of ts) []) (vals m ts e))) (rank-takes (symbol f) parts.sorts s parts.rank).1
      ∙ symbol_valid m e f (unwrap_or (sorts_of ts) []) (vals m ts e) model env
  val_valid (apply (const_array r) ts) s m e model env has =
      let parts = applied (const_array r) ts s has in
      let taken = rank-takes (const_array r) parts.sorts s parts.rank in
      let valid : are_values (taken.1 ∷ []) m.sizes (vals m ts e) ≡ true = sym (ap (λ us. are_values us m.sizes (vals m ts e)) taken.3) ∙ vals_valid ts parts.sorts m e model env parts.operands in
      ap (λ u. is_value u m.sizes (table (first_value (vals m ts e)) no_pairs)) (taken.4 ∙ taken.2)
      ∙ array_valid taken.0 taken.1 m.sizes (first_value (vals m ts e)) no_pairs (first_valid taken.1 [] m.sizes (vals m ts e) valid) refl refl
  val_valid (quantified q xs t) s m e model env has = truth_valid s m.sizes (runs q xs m.sizes (λ f. is_true (val m t f)) e) (quantified_sort q xs t s has).sort

  pub vals_valid : (ts : Terms) (ss : List Sort) (m : Model) (e : Env) → IsModel m → IsEnv m.sizes e → sorts_of ts ≡ Some ss → are_values ss m.sizes (vals m ts e) ≡ true
  vals_valid none ss m e model env has = let empty : [] ≡ ss = cc in ap (λ us. are_values us m.sizes []) (sym empty)
  vals_valid (t ⨾ ts) ss m e model env has =
      let parts = sorted t ts ss has in
      let first : is_value parts.sort m.sizes (val m t e) ≡ true = val_valid t parts.sort m e model env parts.first in
      let rest : are_values parts.sorts m.sizes (vals m ts e) ≡ true = vals_valid ts parts.sorts m e model env parts.others in
      ap (λ us. are_values us m.sizes (val m t e ∷ vals m ts e)) parts.all ∙ and_true (is_value parts.sort m.sizes (val m t e)) (are_values parts.sorts m.sizes (vals m ts e)) first rest
