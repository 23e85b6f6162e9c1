-- Sorts of the operands of a node, from the rank of its operator, and the nodes of constants.
use Rattle.std.proofs.Common.{◌≡◌, ℕ, zero, suc, ◌^◌, ◌<◌, true, cond, ℤ, List, [], ◌∷◌, length, get_or, replicate, All, Option, Some, None, Result, Ok, Err, IsOk, refl, ap, sym, ◌∙◌, subst, true≢false}
use Rattle.std.specs.Prelude.{IfOk, unsigned_abs, unwrap_or}
use Rattle.std.proofs.lemmas.List.Elements.{All-nil, All-cons, All-head, All-tail}
use Rattle.smt_terms.specs.declared.ids.NodeId.{NodeId}
use Rattle.smt_terms.specs.declared.op.Op.{Op}
use Rattle.smt_terms.specs.declared.op.Op.TheVariants.{Extract}
use Rattle.smt_terms.specs.BitVectors.{bv2nat, nat2bv}
use Rattle.smt_terms.specs.Constants.{whole_term, bits_term, constant_term}
use Rattle.smt_terms.specs.Sorts.{Sort, bool, int, bit_vector}
use Rattle.smt_terms.specs.Term.{op}
use Rattle.smt_terms.specs.Rank.{Fault, Shape, bitwise_pair, shape, rank, sort_of, width}
use Rattle.smt_terms.specs.Takes.{Takes}
use Rattle.smt_terms.specs.Val.{within_range}
use Rattle.smt_terms.specs.Values.{whole, bits}
use Rattle.smt_terms.proofs.BitLengths.{length-nat2bv}
use Rattle.smt_terms.proofs.ConstantTerms.{bv2nat-nat2bv}
use Rattle.smt_terms.proofs.Ranked.{rank-takes, lt_true}
use Rattle.term_table.specs.Formulas.{Formulas, tree, trees_at, sort_or_bool, sorts_in, Kind, kind, theory, kind_rank, IsNode, AreNodes, Makes}
use Rattle.simplify.specs.NodesOfSorts.{IsNumber, IsVector}
use Rattle.simplify.specs.Reduced.{Names}
use Rattle.simplify.specs.Vectors.{width_of}

-- ---- operands

pub record Ranked (p : Op) (ss : List Sort) : Type 0 where
  pub sort : Sort
  pub takes : Takes (shape p) ss sort

pub ranked : (t : Formulas) (p : Op) (ks : List NodeId) → kind p ≡ theory p → Makes t p ks → Ranked p (sorts_in (trees_at t ks))
ranked t p ks is makes = by (rank (op p) (sorts_in (trees_at t ks))) refl (subst (λ (k : Kind). IsOk (kind_rank t.symbols t.sorts k (trees_at t ks))) is makes.ranked)
  where
    by : (r : Result Sort Fault) → rank (op p) (sorts_in (trees_at t ks)) ≡ r → IsOk r → Ranked p (sorts_in (trees_at t ks))
    by (Ok s) e h = record { sort = s; takes = rank-takes (op p) (sorts_in (trees_at t ks)) s e }
    by (Err f) e h = absurd (true≢false (sym h))

vector_sort : (q : Option Sort) (w : ℕ) → sort_or_bool q ≡ bit_vector w → q ≡ Some (bit_vector w)
vector_sort None w e = absurd cc
vector_sort (Some s) w e = ap (λ r. Some r) e

int_sort : (q : Option Sort) → sort_or_bool q ≡ int → q ≡ Some int
int_sort None e = absurd cc
int_sort (Some s) e = ap (λ r. Some r) e

-- a node whose sort is this one where it has one
record Has (t : Formulas) (s : Sort) (k : NodeId) : Type 0 where
  node : IsNode t k
  sort : sort_or_bool (sort_of (tree t k)) ≡ s

all_have : (t : Formulas) (s : Sort) (n : ℕ) (ks : List NodeId) → sorts_in (trees_at t ks) ≡ replicate n s → AreNodes t ks → All (Has t s) ks
all_have t s n [] e nodes = All-nil (Has t s)
all_have t s zero (k ∷ ks) e nodes = absurd cc
all_have t s (suc n) (k ∷ ks) e nodes =
    let first : sort_or_bool (sort_of (tree t k)) ≡ s = cc in
    let rest : sorts_in (trees_at t ks) ≡ replicate n s = cc in
    All-cons (Has t s) k ks (record { node = All-head (λ j. j.0 < length t.trees) k ks nodes; sort = first }) (all_have t s n ks rest (All-tail (λ j. j.0 < length t.trees) k ks nodes))

vectors_from : (t : Formulas) (w n : ℕ) (ks : List NodeId) → sorts_in (trees_at t ks) ≡ replicate n (bit_vector w) → AreNodes t ks → All (IsVector t) ks
vectors_from t w n ks e nodes i d lt =
    let has = all_have t (bit_vector w) n ks e nodes i d lt in
    record { node = has.node; width = w; sort = vector_sort (sort_of (tree t (get_or ks i d))) w has.sort }

pub all_vectors : (t : Formulas) (p : Op) (ks : List NodeId) → kind p ≡ theory p → shape p ≡ bitwise_pair → Makes t p ks → All (IsVector t) ks
all_vectors t p ks is pair makes =
    let r = ranked t p ks is makes in
    let taken = subst (λ (h : Shape). Takes h (sorts_in (trees_at t ks)) r.sort) pair r.takes in
    vectors_from t taken.0 2 ks taken.1 makes.kids

pub vector_extracted : (t : Formulas) (high low : ℕ) (ks : List NodeId) → Makes t (Extract high low) ks → All (IsVector t) ks
unfolding kind shape
vector_extracted t high low ks makes =
    let r = ranked t (Extract high low) ks refl makes in
    vectors_from t r.takes.0 1 ks r.takes.1 makes.kids

pub high_below : (t : Formulas) (high low : ℕ) (ks : List NodeId) → Makes t (Extract high low) ks → All (λ k. high < width_of (tree t k)) ks
unfolding kind shape
high_below t high low ks makes i d lt =
    let r = ranked t (Extract high low) ks refl makes in
    let has = all_have t (bit_vector r.takes.0) 1 ks r.takes.1 makes.kids i d lt in
    let sort = vector_sort (sort_of (tree t (get_or ks i d))) r.takes.0 has.sort in
    subst (λ q. high < width (unwrap_or q bool)) (sym sort) r.takes.3

pub numbers_from : (t : Formulas) (n : ℕ) (ks : List NodeId) → sorts_in (trees_at t ks) ≡ replicate n int → AreNodes t ks → All (IsNumber t) ks
numbers_from t n ks e nodes i d lt =
    let has = all_have t int n ks e nodes i d lt in
    record { node = has.node; sort = int_sort (sort_of (tree t (get_or ks i d))) has.sort }

-- ---- constants

pub names_whole : (t : Formulas) (n : ℤ) (k : NodeId) → unsigned_abs n < 2 ^ 127 → IsNode t k → constant_term (whole n) ≡ Some (tree t k) → Names t (whole_term n) k
names_whole t n k small node term =
    let within : within_range n ≡ true = lt_true (unsigned_abs n) (2 ^ 127) small in
    let told : Some (whole_term n) ≡ Some (tree t k) = sym (ap (λ b. cond b (Some (whole_term n)) None) within) ∙ term in
    let same : whole_term n ≡ tree t k = cc in
    record { node = node; term = sym same }

pub names_bits : {E : Type 0} (t : Formulas) (w n : ℕ) (r : Result NodeId E) → n < 2 ^ w → IfOk r (IsNode t) → IfOk r (λ k. constant_term (bits (nat2bv w n)) ≡ Some (tree t k)) → IfOk r (Names t (bits_term w n))
names_bits t w n (Err e) small node term = tt
names_bits t w n (Ok k) small node term =
    let told : bits_term (length (nat2bv w n)) (bv2nat (nat2bv w n)) ≡ tree t k = cc in
    record { node = node; term = sym told ∙ (λ i. bits_term (length-nat2bv w n i) (bv2nat-nat2bv w n small i)) }
