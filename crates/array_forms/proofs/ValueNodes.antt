-- The nodes of values.
use Rattle.std.proofs.Common.{◌≡◌, ℕ, zero, suc, ◌+◌, ◌≤◌, true, false, ◌&&◌, List, [], ◌∷◌, length, Option, Some, None, Ok, refl, ap, sym, ◌∙◌, subst, arith}
use Rattle.std.specs.Prelude.{IfSome}
use Rattle.std.proofs.lemmas.Bool.Decides.{Decides-eqb}
use Rattle.smt_terms.specs.declared.ids.NodeId.{NodeId}
use Rattle.smt_terms.specs.declared.ids.SortId.{SortId}
use Rattle.smt_terms.specs.declared.op.Op.TheVariants as op_named
use Rattle.smt_terms.specs.Sorts.{Sort, bool, int, bit_vector, array, free_sort}
use Rattle.smt_terms.specs.Term.{op, const_array, Term, apply, none, ◌⨾◌}
use Rattle.smt_terms.specs.BitVectors.{nat2bv}
use Rattle.smt_terms.specs.Constants.{constant_term}
use Rattle.smt_terms.specs.Rank.{shape, width, most_bits, rank, sort_of, is_array, is_minus}
use Rattle.smt_terms.specs.Values.{Value, element, table, Pairs, no_pairs, pair, Sizes, every_pair, is_value}
use Rattle.smt_terms.proofs.BitLengths.{length-nat2bv}
use Rattle.smt_terms.proofs.Operands.{more_sorts}
use Rattle.smt_terms.proofs.Ranked.{takes-rank}
use Rattle.smt_terms.proofs.Same.{array_value}
use Rattle.smt_terms.proofs.Sorted.{sort_of-apply}
use Rattle.smt_terms.proofs.Tests.{both_true}
use Rattle.smt_values.specs.declared.scalar.Scalar.{Scalar}
use Rattle.smt_values.specs.declared.scalar.Scalar.TheVariants.{Truth, Whole, Bits}
use Rattle.smt_values.specs.Meaning.{scalar_value, scalar_sort}
use Rattle.smt_values.specs.SortIds.{sort_at, IsSortId}
use Rattle.smt_values.specs.Tables.{Table, as_value, count, pair_at}
use Rattle.term_table.specs.Formulas.{Formulas, tree, trees_at, no_tree, kind, term_over, sort_or_bool, Makes, IsNode, AreNodes, Grows, GrowsByOne}
use Rattle.term_walk.specs.Walking.{GrowsTo}
use Rattle.term_walk.proofs.Visits.{grows-self, table-grows}
use Rattle.term_table.proofs.Made.{makes_ranked}
use Rattle.array_forms.specs.ValueTerm.{stored, filled, stores, value_term}

-- ---- constants

one-node : (t : Formulas) (k : NodeId) → IsNode t k → AreNodes t (k ∷ [])
one-node t k node zero d lt = node
one-node t k node (suc i) d lt = absurd (omega arith)

-- the sort of a scalar is the only one that it is a value of
pub scalar-sort : (k : Scalar) (s : Sort) (sizes : Sizes) → is_value s sizes (scalar_value k) ≡ true → scalar_sort k ≡ s
scalar-sort (Truth b) bool sizes valid = refl
scalar-sort (Whole n) int sizes valid = refl
scalar-sort (Bits w n) (bit_vector u) sizes valid = ap bit_vector (sym (length-nat2bv w n) ∙ (Decides-eqb (length (nat2bv w n)) u).0 valid)
scalar-sort (Truth b) int sizes valid = absurd cc
scalar-sort (Truth b) (bit_vector u) sizes valid = absurd cc
scalar-sort (Truth b) (array i e) sizes valid = absurd cc
scalar-sort (Truth b) (free_sort n) sizes valid = absurd cc
scalar-sort (Whole n) bool sizes valid = absurd cc
scalar-sort (Whole n) (bit_vector u) sizes valid = absurd cc
scalar-sort (Whole n) (array i e) sizes valid = absurd cc
scalar-sort (Whole n) (free_sort x) sizes valid = absurd cc
scalar-sort (Bits w n) bool sizes valid = absurd cc
scalar-sort (Bits w n) int sizes valid = absurd cc
scalar-sort (Bits w n) (array i e) sizes valid = absurd cc
scalar-sort (Bits w n) (free_sort x) sizes valid = absurd cc

pub scalar-term : (k : Scalar) → value_term (scalar_sort k) (scalar_value k) ≡ constant_term (scalar_value k)
scalar-term (Truth b) = refl
scalar-term (Whole n) = refl
scalar-term (Bits w n) = refl

-- ---- values without a term

pub element-term : (s : Sort) (sizes : Sizes) (k : ℕ) → is_value s sizes (element k) ≡ true → value_term s (element k) ≡ None
element-term (free_sort n) sizes k valid = refl
element-term bool sizes k valid = refl
element-term int sizes k valid = refl
element-term (bit_vector w) sizes k valid = refl
element-term (array i e) sizes k valid = absurd cc

pub no-array-term : (s : Sort) (d : Value) (ps : Pairs) → is_array s ≡ false → value_term s (table d ps) ≡ None
no-array-term bool d ps other = refl
no-array-term int d ps other = refl
no-array-term (bit_vector w) d ps other = refl
no-array-term (free_sort n) d ps other = refl
no-array-term (array i e) d ps other = absurd cc

pub none-stores : (f g : Value → Option Term) (ps : Pairs) → stores f g None ps ≡ None
none-stores f g no_pairs = refl
none-stores f g (pair k v ps) = none-stores f g ps

-- ---- nodes of arrays

module _ (t : Formulas) (s : SortId) (i e : Sort) (is : sort_at t.sorts s ≡ array i e) where
  filled-rank : rank (const_array (sort_at t.sorts s)) (e ∷ []) ≡ Ok (sort_at t.sorts s)
  filled-rank = subst (λ r. rank (const_array r) (e ∷ []) ≡ Ok r) (sym is)
      (let narrow : width (array i e) ≤ most_bits = omega arith in takes-rank (const_array (array i e)) (e ∷ []) (array i e) (i, e, refl, refl, refl) narrow)

  module _ (d : NodeId) (node : IsNode t d) (has : sort_of (tree t d) ≡ Some e) where
    pub filled-makes : IsSortId t.sorts s → Makes t (op_named.ConstArray s) (d ∷ [])
    unfolding kind is_minus
    filled-makes number = makes_ranked t (op_named.ConstArray s) (d ∷ []) (sort_at t.sorts s) (one-node t d node) number refl (sym (ap (λ o. rank (const_array (sort_at t.sorts s)) (sort_or_bool o ∷ [])) has ∙ filled-rank))

    pub filled-sort : sort_of (term_over t (op_named.ConstArray s) (trees_at t (d ∷ []))) ≡ Some (sort_at t.sorts s)
    unfolding kind
    filled-sort = sort_of-apply (const_array (sort_at t.sorts s)) (tree t d ⨾ none) (e ∷ []) (sort_at t.sorts s) (more_sorts (tree t d) none e [] has refl) filled-rank

module _ (t : Formulas) (a k v : NodeId) (i e : Sort) (nodes : AreNodes t (a ∷ k ∷ v ∷ [])) (array_has : sort_of (tree t a) ≡ Some (array i e)) (key_has : sort_of (tree t k) ≡ Some i) (has : sort_of (tree t v) ≡ Some e) where
  stored-rank : rank (op op_named.Store) (array i e ∷ i ∷ e ∷ []) ≡ Ok (array i e)
  unfolding shape
  stored-rank = let narrow : width (array i e) ≤ most_bits = omega arith in takes-rank (op op_named.Store) (array i e ∷ i ∷ e ∷ []) (array i e) (i, e, refl, refl) narrow

  pub stored-makes : Makes t op_named.Store (a ∷ k ∷ v ∷ [])
  unfolding kind is_minus
  stored-makes = makes_ranked t op_named.Store (a ∷ k ∷ v ∷ []) (array i e) nodes tt refl
      (sym ((λ x. rank (op op_named.Store) (sort_or_bool (array_has x) ∷ sort_or_bool (key_has x) ∷ sort_or_bool (has x) ∷ [])) ∙ stored-rank))

  pub stored-sort : sort_of (term_over t op_named.Store (trees_at t (a ∷ k ∷ v ∷ []))) ≡ Some (array i e)
  unfolding kind
  stored-sort = sort_of-apply (op op_named.Store) (tree t a ⨾ tree t k ⨾ tree t v ⨾ none) (array i e ∷ i ∷ e ∷ []) (array i e)
      (more_sorts (tree t a) (tree t k ⨾ tree t v ⨾ none) (array i e) (i ∷ e ∷ []) array_has (more_sorts (tree t k) (tree t v ⨾ none) i (e ∷ []) key_has (more_sorts (tree t v) none e [] has refl)))
      stored-rank

-- ---- what grew

pub grows-itself : (s : Formulas) → GrowsTo s s
grows-itself s = record { trees = grows-self s.trees; symbols = grows-self s.symbols; sorts = grows-self s.sorts }

pub grows-by : (s t : Formulas) → GrowsByOne s.trees t.trees → t.symbols ≡ s.symbols → t.sorts ≡ s.sorts → GrowsTo s t
grows-by s t trees symbols sorts = record {
  trees = trees.grows;
  symbols = subst (λ fs. Grows s.symbols fs) (sym symbols) (grows-self s.symbols);
  sorts = subst (λ ss. Grows s.sorts ss) (sym sorts) (grows-self s.sorts);
}

node-stays : (s t : Formulas) (k : NodeId) → GrowsTo s t → IsNode s k → IsNode t k
node-stays s t k grows node = let longer = grows.trees.longer in omega (arith, longer, node)

sort-stays : (s t : Formulas) (k : NodeId) (r : Option Sort) → GrowsTo s t → IsNode s k → sort_of (tree s k) ≡ r → sort_of (tree t k) ≡ r
sort-stays s t k r grows node has = ap sort_of (grows.trees.same k.0 no_tree node) ∙ has

pub some-holds : {X : Type 0} (P : X → Type 0) (o : Option X) (x : X) → o ≡ Some x → IfSome o P → P x
some-holds P o x is h = subst (λ q. IfSome q P) is h

three-nodes : (t : Formulas) (a b c : NodeId) → IsNode t a → IsNode t b → IsNode t c → AreNodes t (a ∷ b ∷ c ∷ [])
three-nodes t a b c p q r zero d lt = p
three-nodes t a b c p q r (suc zero) d lt = q
three-nodes t a b c p q r (suc (suc zero)) d lt = r
three-nodes t a b c p q r (suc (suc (suc i))) d lt = absurd (omega arith)

-- a key and a value as nodes, one after the other, behind an array
module _ (s t u : Formulas) (array_node key value : NodeId) (index element : SortId) (found other : Option NodeId) (grows : GrowsTo s t) (grows_again : GrowsTo t u) (sorts : t.sorts ≡ s.sorts)
    (node : IsNode s array_node) (has : sort_of (tree s array_node) ≡ Some (array (sort_at s.sorts index) (sort_at s.sorts element)))
    (key_is : found ≡ Some key) (key_node : IfSome found (IsNode t)) (key_has : IfSome found (λ k. sort_of (tree t k) ≡ Some (sort_at s.sorts index)))
    (value_is : other ≡ Some value) (value_node : IfSome other (IsNode u)) (value_has : IfSome other (λ k. sort_of (tree u k) ≡ Some (sort_at t.sorts element))) where
  all-grows : GrowsTo s u
  all-grows = table-grows s t u grows grows_again

  the-key : IsNode t key
  the-key = some-holds (IsNode t) found key key_is key_node

  nodes : AreNodes u (array_node ∷ key ∷ value ∷ [])
  nodes = three-nodes u array_node key value (node-stays s u array_node all-grows node) (node-stays t u key grows_again the-key) (some-holds (IsNode u) other value value_is value_node)

  array-has : sort_of (tree u array_node) ≡ Some (array (sort_at s.sorts index) (sort_at s.sorts element))
  array-has = sort-stays s u array_node (Some (array (sort_at s.sorts index) (sort_at s.sorts element))) all-grows node has

  key-has : sort_of (tree u key) ≡ Some (sort_at s.sorts index)
  key-has = sort-stays t u key (Some (sort_at s.sorts index)) grows_again the-key (some-holds (λ k. sort_of (tree t k) ≡ Some (sort_at s.sorts index)) found key key_is key_has)

  value-has : sort_of (tree u value) ≡ Some (sort_at s.sorts element)
  value-has = some-holds (λ k. sort_of (tree u k) ≡ Some (sort_at t.sorts element)) other value value_is value_has ∙ ap (λ ss. Some (sort_at ss element)) sorts

  pub pair-makes : Makes u op_named.Store (array_node ∷ key ∷ value ∷ [])
  pair-makes = stored-makes u array_node key value (sort_at s.sorts index) (sort_at s.sorts element) nodes array-has key-has value-has

  pub pair-sort : sort_of (term_over u op_named.Store (trees_at u (array_node ∷ key ∷ value ∷ []))) ≡ Some (array (sort_at s.sorts index) (sort_at s.sorts element))
  pair-sort = stored-sort u array_node key value (sort_at s.sorts index) (sort_at s.sorts element) nodes array-has key-has value-has

-- ---- the term of an array by its parts

pub same-parts : (ss us : List Sort) (s i e : SortId) → ss ≡ us → sort_at ss s ≡ array (sort_at ss i) (sort_at ss e) → sort_at us s ≡ array (sort_at us i) (sort_at us e)
same-parts ss us s i e same is = subst (λ rs. sort_at rs s ≡ array (sort_at rs i) (sort_at rs e)) same is

pub array-pairs : (s i e : Sort) (sizes : Sizes) (a : Table) → s ≡ array i e → is_value s sizes (as_value a) ≡ true → every_pair (λ k v. is_value i sizes k && is_value e sizes v) a.pairs ≡ true
array-pairs s i e sizes a is valid = (array_value i e sizes (as_value a) (sym (ap (λ r. is_value r sizes (as_value a)) is) ∙ valid)).entries

module _ (s i e : Sort) (is : s ≡ array i e) (d : Value) (ps : Pairs) where
  by-parts : (o : Option Term) → value_term e d ≡ o → value_term s (table d ps) ≡ stores (value_term i) (value_term e) (filled (array i e) o) ps
  by-parts o h = ap (λ r. value_term r (table d ps)) is ∙ ap (λ q. stores (value_term i) (value_term e) (filled (array i e) q) ps) h

  pub no-default : value_term e d ≡ None → None ≡ value_term s (table d ps)
  no-default h = sym (by-parts None h ∙ none-stores (value_term i) (value_term e) ps)

  pub over-default : (t : Term) → value_term e d ≡ Some t → stores (value_term i) (value_term e) (Some (apply (const_array s) (t ⨾ none))) ps ≡ value_term s (table d ps)
  over-default t h = sym (by-parts (Some t) h ∙ ap (λ r. stores (value_term i) (value_term e) (Some (apply (const_array r) (t ⨾ none))) ps) (sym is))

-- ---- pairs, one by one

-- those from a place on
abbrev pub from : ℕ → Pairs → Pairs
from zero ps = ps
from (suc n) no_pairs = no_pairs
from (suc n) (pair k v ps) = from n ps

same-pair : (j u k v : Value) → ◌≡◌ {A = Option (Value × Value)} (Some (j, u)) (Some (k, v)) → (j ≡ k) × (u ≡ v)
same-pair j u k v h = (ap (λ o. first_or j o) h, ap (λ o. second_or u o) h)
  where
    first_or : Value → Option (Value × Value) → Value
    first_or d (Some p) = p.0
    first_or d None = d

    second_or : Value → Option (Value × Value) → Value
    second_or d (Some p) = p.1
    second_or d None = d

from-pair : (ps : Pairs) (n : ℕ) (k v : Value) → pair_at ps n ≡ Some (k, v) → from n ps ≡ pair k v (from (suc n) ps)
from-pair no_pairs n k v h = absurd cc
from-pair (pair j u ps) zero k v h = let same = same-pair j u k v h in λ x. pair (same.0 x) (same.1 x) ps
from-pair (pair j u ps) (suc n) k v h = from-pair ps n k v h

pub from-end : (ps : Pairs) (n : ℕ) → count ps ≤ n → from n ps ≡ no_pairs
from-end no_pairs zero le = refl
from-end no_pairs (suc n) le = refl
from-end (pair k v ps) zero le = absurd (omega arith)
from-end (pair k v ps) (suc n) le = let behind : count ps ≤ n = omega arith in from-end ps n behind

pub pair-valid : (i e : Sort) (sizes : Sizes) (ps : Pairs) (n : ℕ) (k v : Value) → every_pair (λ k v. is_value i sizes k && is_value e sizes v) ps ≡ true → pair_at ps n ≡ Some (k, v) → (is_value i sizes k ≡ true) × (is_value e sizes v ≡ true)
pair-valid i e sizes no_pairs n k v valid h = absurd cc
pair-valid i e sizes (pair j u ps) zero k v valid h =
    let here = both_true (is_value i sizes j) (is_value e sizes u) (both_true (is_value i sizes j && is_value e sizes u) (every_pair (λ k v. is_value i sizes k && is_value e sizes v) ps) valid).0 in
    let same = same-pair j u k v h in
    (subst (λ w. is_value i sizes w ≡ true) same.0 here.0, subst (λ w. is_value e sizes w ≡ true) same.1 here.1)
pair-valid i e sizes (pair j u ps) (suc n) k v valid h =
    pair-valid i e sizes ps n k v (both_true (is_value i sizes j && is_value e sizes u) (every_pair (λ k v. is_value i sizes k && is_value e sizes v) ps) valid).1 h

-- one pair more is stored
pub pairs-step : (f g : Value → Option Term) (a : Term) (ps : Pairs) (n : ℕ) (k v : Value) (o : Option Term) → pair_at ps n ≡ Some (k, v) → o ≡ stored (Some a) (f k) (g v) → stores f g (Some a) (from n ps) ≡ stores f g o (from (n + 1) ps)
pairs-step f g a ps n k v o h is =
    let next : suc n ≡ n + 1 = omega arith in
    ap (stores f g (Some a)) (from-pair ps n k v h) ∙ (λ x. stores f g (sym is x) (from (next x) ps))
