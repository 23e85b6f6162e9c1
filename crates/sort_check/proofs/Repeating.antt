-- Complements, copies behind one another, and whether a number divides an operand.
use Rattle.std.proofs.Common.{◌≡◌, ℕ, zero, suc, ◌+◌, ◌*◌, ◌/◌, ◌^◌, ◌<◌, ◌≤◌, Bool, true, false, inl, inr, cond, ◌==◌, nat_le, ℤ, pos, List, [], ◌∷◌, length, get_or, Option, Some, None, Ok, Err, IsOk, refl, ap, sym, ◌∙◌, subst, arith}
use Rattle.std.proofs.lemmas.Bool.Decides.{leb_tells}
use Rattle.std.proofs.Math.Nat.{mul-le-mul_right, div-mul-le_self, lt-div-mul-add}
use Rattle.smt_terms.specs.declared.ids.NodeId.{NodeId}
use Rattle.smt_terms.specs.declared.op.Op.{Op}
use Rattle.smt_terms.specs.declared.op.Op.TheVariants.{Whole, Neg, Mod, Equal, Concat, BvNot}
use Rattle.smt_terms.specs.Rank.{Fault, wrong_arity, width_limit, bad_index, Shape, bitwise_pair, only, any_width, misfit, before, first_misfit, accepted, most_bits, width, operand, places, result_of, rank, shape, sort_of, sorts_of, with_sort, is_sort}
use Rattle.smt_terms.specs.Sorts.{Sort, bool, int, bit_vector}
use Rattle.smt_terms.specs.Takes.{Takes}
use Rattle.smt_terms.specs.Term.{op, apply, terms, none}
use Rattle.smt_terms.specs.Written.{complemented, repetition, divisibility, written_rank, written_arity, written_places, written_in_range, written_result, apply_to, apply_to_both, copies, divides, whole_in, build}
use Rattle.smt_terms.proofs.Made.{made-sort}
use Rattle.smt_terms.proofs.Ranked.{rank-takes, takes-rank, rank-narrow, le_true}
use Rattle.smt_terms.proofs.Sorted.{sort_of-apply}
use Rattle.smt_terms.proofs.Tests.{both_true}
use Rattle.term_table.specs.Formulas.{Formulas, tree, trees_at, term_over, rank_over, sort_or_bool, kind, IsNode, AreNodes, Makes}
use Rattle.term_table.specs.ShapeRank.{shape_rank, kid_sorts}
use Rattle.sort_check.specs.Forms.{is_theory, is_bitwise_pair}
use Rattle.sort_check.specs.Making.{made_over, term_algebra, Extends}
use Rattle.sort_check.specs.Operands.{rank_pair, node_sort, IsOfSort, Repeats}
use Rattle.sort_check.proofs.Answering.{is_ok}
use Rattle.sort_check.proofs.Folding.{ranked_as, pair_of_sort}
use Rattle.sort_check.proofs.Growing.{extends-refl, extends-trans, tree-extends, sorted-extends}
use Rattle.sort_check.proofs.Nodes.{ok_value, other_makes, pair_sort}
use Rattle.sort_check.proofs.Theory.{theory_rank, theory_term}
use Rattle.sort_check.proofs.Widths.{not_one, gt_false}

-- ---- complements

pub bitwise_theory : (sh : Shape) → is_bitwise_pair sh ≡ true → is_theory sh ≡ true
unfolding is_theory
bitwise_theory bitwise_pair e = refl
bitwise_theory _ e = absurd cc

complement_rank : (sh : Shape) (ss : List Sort) → is_bitwise_pair sh ≡ true → shape_rank sh ss ≡ cond (length ss == 2) (accepted (first_misfit 0 (places sh ss) ss) true (result_of sh ss)) (Err wrong_arity)
complement_rank bitwise_pair ss e = refl
complement_rank _ ss e = absurd cc

record Vectors (ss : List Sort) (r : Sort) : Type 0 where
  width : ℕ
  both : ss ≡ bit_vector width ∷ bit_vector width ∷ []
  vector : r ≡ bit_vector width

vectors_of : (sh : Shape) (ss : List Sort) (r : Sort) → is_bitwise_pair sh ≡ true → Takes sh ss r → Vectors ss r
vectors_of bitwise_pair ss r e takes = record { width = takes.0; both = takes.1; vector = takes.2 }
vectors_of _ ss r e takes = absurd cc

vector_sort : (o : Option Sort) (w : ℕ) → sort_or_bool o ≡ bit_vector w → o ≡ Some (bit_vector w)
vector_sort (Some s) w e = ap Some e
vector_sort None w e = absurd cc

both_sorts : (t : Formulas) (ks : List NodeId) (w : ℕ) → kid_sorts t ks ≡ bit_vector w ∷ bit_vector w ∷ [] → sorts_of (terms (trees_at t ks)) ≡ Some (bit_vector w ∷ bit_vector w ∷ [])
both_sorts t [] w e = absurd cc
both_sorts t (k ∷ []) w e = absurd (let none : kid_sorts t [] ≡ bit_vector w ∷ [] = cc in cc)
both_sorts t (k ∷ l ∷ []) w e =
    let a : node_sort t k ≡ bit_vector w = cc in
    let b : node_sort t l ≡ bit_vector w = cc in
    (λ i. with_sort (vector_sort (sort_of (tree t k)) w a i) (with_sort (vector_sort (sort_of (tree t l)) w b i) (Some [])))
both_sorts t (k ∷ l ∷ m ∷ ks) w e = absurd (let more : kid_sorts t (m ∷ ks) ≡ [] = cc in cc)

one_node : (t : Formulas) (k : NodeId) → IsNode t k → AreNodes t (k ∷ [])
one_node t k node zero d lt = node
one_node t k node (suc i) d lt = absurd (omega arith)

not_ranked : (t : Formulas) (k : NodeId) (w : ℕ) → IsOfSort t k (bit_vector w) → w ≤ 128 → Ok (bit_vector w) ≡ rank_over t BvNot (trees_at t (k ∷ []))
unfolding kind shape
not_ranked t k w is narrow =
    sym (ap (λ s. rank (op BvNot) (sort_or_bool s ∷ [])) is.sort ∙ takes-rank (op BvNot) (bit_vector w ∷ []) (bit_vector w) (w, refl, refl) narrow)

not_makes : (t : Formulas) (k : NodeId) (w : ℕ) → IsOfSort t k (bit_vector w) → w ≤ 128 → Makes t BvNot (k ∷ [])
unfolding kind
not_makes t k w is narrow = other_makes t BvNot (k ∷ []) (bit_vector w) (one_node t k is.node) tt (λ e. absurd cc) (not_ranked t k w is narrow)

pub not_term : (t : Formulas) (k : NodeId) → term_over t BvNot (trees_at t (k ∷ [])) ≡ apply_to term_algebra BvNot (tree t k)
unfolding kind
not_term t k = refl

module _ (t : Formulas) (o : Op) (ks : List NodeId) (pair : is_bitwise_pair (shape o) ≡ true) where
  pub complemented_rank : rank_over t o (trees_at t ks) ≡ written_rank (complemented o) (kid_sorts t ks)
  unfolding rank written_rank written_arity written_places written_in_range written_result
  complemented_rank = theory_rank t o (trees_at t ks) (bitwise_theory (shape o) pair) ∙ complement_rank (shape o) (kid_sorts t ks) pair

  pub complemented_makes : IsOk (rank_over t o (trees_at t ks)) → (new : Formulas) (k : NodeId) → IsNode new k → tree new k ≡ made_over t o (trees_at t ks) → Makes new BvNot (k ∷ [])
  complemented_makes ok new k node term =
      let value = ok_value (rank_over t o (trees_at t ks)) ok in
      let ranked : rank (op o) (kid_sorts t ks) ≡ Ok value.0 = sym (theory_rank t o (trees_at t ks) (bitwise_theory (shape o) pair)) ∙ value.1 in
      let known = vectors_of (shape o) (kid_sorts t ks) value.0 pair (rank-takes (op o) (kid_sorts t ks) value.0 ranked) in
      let w = known.width in
      let at : rank (op o) (bit_vector w ∷ bit_vector w ∷ []) ≡ Ok (bit_vector w) = sym (ap (rank (op o)) known.both) ∙ ranked ∙ ap Ok known.vector in
      let sort : sort_of (tree new k) ≡ Some (bit_vector w) =
      ap sort_of (term ∙ theory_term t o (trees_at t ks) (bitwise_theory (shape o) pair)) ∙ made-sort (op o) (terms (trees_at t ks))
      ∙ sort_of-apply (op o) (terms (trees_at t ks)) (bit_vector w ∷ bit_vector w ∷ []) (bit_vector w) (both_sorts t ks w known.both) at in
      not_makes new k w (record { node = node; sort = sort }) (rank-narrow (op o) (bit_vector w ∷ bit_vector w ∷ []) (bit_vector w) at)

  pub complemented_term : (new : Formulas) (k : NodeId) → tree new k ≡ made_over t o (trees_at t ks) → term_over new BvNot (trees_at new (k ∷ [])) ≡ build term_algebra (complemented o) (trees_at t ks)
  unfolding build
  complemented_term new k term = not_term new k ∙ ap (apply_to term_algebra BvNot) (term ∙ theory_term t o (trees_at t ks) (bitwise_theory (shape o) pair))

-- ---- copies

pub record Copied (old new : Formulas) (kid all : NodeId) (more k : ℕ) : Type 0 where
  pub extends : Extends old new
  pub sorted : (x : Repeats old kid more) → IsOfSort new all (bit_vector ((k + 1) * x.width))
  pub term : tree new all ≡ copies term_algebra k (tree old kid)

one_width : (w : ℕ) → w ≡ (0 + 1) * w
one_width w = omega arith

pub copied_none : (old : Formulas) (kid : NodeId) (more : ℕ) → Copied old old kid kid more 0
copied_none old kid more = record {
  extends = extends-refl old;
  sorted = λ x. subst (λ w. IsOfSort old kid (bit_vector w)) (one_width x.width) x.vector;
  term = refl;
}

module _ (old new : Formulas) (kid all : NodeId) (more k : ℕ) (x : Repeats old kid more) (lt : k < more) (f : Copied old new kid all more k) where
  narrow : (y : Repeats old kid more) → y.width + (k + 1) * y.width ≤ 128
  narrow y =
      let fewer : k + 2 ≤ more + 1 = omega arith in
      let product : (k + 2) * y.width ≤ (more + 1) * y.width = mul-le-mul_right y.width fewer in
      let most : (more + 1) * y.width ≤ 128 = y.narrow in
      omega arith

  joined : (y : Repeats old kid more) → rank_pair Concat (bit_vector y.width) (bit_vector ((k + 1) * y.width)) ≡ Ok (bit_vector (y.width + (k + 1) * y.width))
  unfolding shape
  joined y = takes-rank (op Concat) (bit_vector y.width ∷ bit_vector ((k + 1) * y.width) ∷ []) (bit_vector (y.width + (k + 1) * y.width)) (y.width, (k + 1) * y.width, refl, refl) (narrow y)

  pub copied_kid : IsNode new kid
  copied_kid = (sorted-extends old new f.extends kid (bit_vector x.width) x.vector).node

  pub copied_all : IsNode new all
  copied_all = (f.sorted x).node

  pub copied_ranked : IsOk (rank_pair Concat (node_sort new kid) (node_sort new all))
  copied_ranked =
      is_ok ((λ i. rank_pair Concat (sort_or_bool ((sorted-extends old new f.extends kid (bit_vector x.width) x.vector).sort i)) (sort_or_bool ((f.sorted x).sort i))) ∙ joined x)

  pub copied_next : (newer : Formulas) (n : NodeId) → Extends new newer → IsNode newer n → tree newer n ≡ apply_to_both term_algebra Concat (tree new kid) (tree new all) → Copied old newer kid n more (k + 1)
  copied_next newer n e node term = record {
    extends = extends-trans old new newer f.extends e;
    sorted = λ y.
        let kid_is = sorted-extends old new f.extends kid (bit_vector y.width) y.vector in
        let wide : y.width + (k + 1) * y.width ≡ (k + 1 + 1) * y.width = omega arith in
        subst (λ w. IsOfSort newer n (bit_vector w)) wide (record {
          node = node;
          sort = ap sort_of term ∙ pair_sort Concat (tree new kid) (tree new all) (bit_vector y.width) (bit_vector ((k + 1) * y.width)) (bit_vector (y.width + (k + 1) * y.width)) kid_is.sort (f.sorted y).sort (joined y);
        });
    term = term ∙ (λ i. apply_to_both term_algebra Concat (tree-extends old new f.extends kid x.vector.node i) (f.term i)) ∙ (let next : suc k ≡ k + 1 = omega arith in ap (λ j. copies term_algebra j (tree old kid)) next);
  }

pub copied_done : (old new : Formulas) (kid all : NodeId) (more k : ℕ) → more ≤ k → k ≤ more → Copied old new kid all more k → tree new all ≡ copies term_algebra more (tree old kid)
copied_done old new kid all more k most least f = let same : k ≡ more = omega arith in f.term ∙ ap (λ j. copies term_algebra j (tree old kid)) same

-- ---- repetition

over_product : (n w : ℕ) → 0 < w → 128 / w < n → 128 < n * w
over_product n w positive over =
    let above : 128 < 128 / w * w + w = lt-div-mul-add positive in
    let least : 128 / w + 1 ≤ n = omega arith in
    let product : (128 / w + 1) * w ≤ n * w = mul-le-mul_right w least in
    omega arith

in_product : (n w : ℕ) → 0 < w → n ≤ 128 / w → n * w ≤ 128
in_product n w positive fits =
    let product : n * w ≤ 128 / w * w = mul-le-mul_right w fits in
    let whole : 128 / w * w ≤ 128 = div-mul-le_self 128 w in
    omega arith

failed_vector : (s : Sort) (e : Fault) (b : Bool) (r : Sort) → is_sort s ≡ true → accepted (before (misfit 0 any_width s) None) true s ≡ Err e → accepted (before (misfit 0 any_width s) None) b r ≡ Err e
failed_vector (bit_vector w) e b r sort is =
    let fine : accepted None true (bit_vector w) ≡ Ok (bit_vector w) = ap (λ v. cond v (Ok (bit_vector w)) (Err width_limit)) (both_true (nat_le 1 w) (nat_le w most_bits) sort).1 in
    absurd (let both : Ok (bit_vector w) ≡ Err e = sym fine ∙ is in cc)
failed_vector _ e b r sort is = is

record OneVector (s r : Sort) : Type 0 where
  width : ℕ
  is : s ≡ bit_vector width

ranked_vector : (s r : Sort) → accepted (before (misfit 0 any_width s) None) true s ≡ Ok r → OneVector s r
ranked_vector (bit_vector w) r is = record { width = w; is = refl }
ranked_vector _ r is = absurd cc

pub repetition_refused : (t : Formulas) (n : ℕ) (ks : List NodeId) (e : Fault) → (length ks ≡ 1 → is_sort (operand 0 (kid_sorts t ks)) ≡ true) → Err e ≡ rank_over t BvNot (trees_at t ks) → written_rank (repetition n) (kid_sorts t ks) ≡ Err e
unfolding kind shape rank written_rank written_arity written_places written_in_range written_result
repetition_refused t n [] e sort is = sym is
repetition_refused t n (k ∷ []) e sort is = failed_vector (node_sort t k) e (nat_le 1 n) (bit_vector (n * width (node_sort t k))) (sort refl) (sym is)
repetition_refused t n (k ∷ l ∷ ks) e sort is =
    let several = not_one (length (kid_sorts t ks)) in
    let wrong : Err wrong_arity ≡ Err e = sym (is ∙ ap (λ b. cond b (accepted (first_misfit 0 (any_width ∷ []) (kid_sorts t (k ∷ l ∷ ks))) true (operand 0 (kid_sorts t (k ∷ l ∷ ks)))) (Err wrong_arity)) several) in
    ap (λ b. cond b (accepted (first_misfit 0 (any_width ∷ []) (kid_sorts t (k ∷ l ∷ ks))) (nat_le 1 n) (bit_vector (n * width (operand 0 (kid_sorts t (k ∷ l ∷ ks)))))) (Err wrong_arity)) several ∙ wrong

-- the one operand, a bit vector
pub record Repeated (t : Formulas) (ks : List NodeId) (w : ℕ) (d : NodeId) : Type 0 where
  pub some : 0 < length ks
  pub positive : 0 < w
  pub most : w ≤ 128
  pub vector : IsNode t (get_or ks 0 d) → IsOfSort t (get_or ks 0 d) (bit_vector w)
  pub ranked : (n : ℕ) → written_rank (repetition n) (kid_sorts t ks) ≡ accepted None (nat_le 1 n) (bit_vector (n * w))
  pub built : (n : ℕ) → copies term_algebra n (tree t (get_or ks 0 d)) ≡ build term_algebra (repetition (suc n)) (trees_at t ks)

repeated_from : (o : Option Sort) (w : ℕ) → sort_or_bool o ≡ bit_vector w → is_sort (sort_or_bool o) ≡ true → (0 < w) × (w ≤ 128)
repeated_from o w is sort = let parts = both_true (nat_le 1 w) (nat_le w most_bits) (subst (λ s. is_sort s ≡ true) is sort) in (least w parts.0, narrow w parts.1)
  where
    least : (w : ℕ) → nat_le 1 w ≡ true → 0 < w
    least zero e = absurd cc
    least (suc w) e = omega arith

    narrow : (w : ℕ) → nat_le w most_bits ≡ true → w ≤ 128
    narrow w e = elim (leb_tells w 128) [ inl f ↦ f.1 | inr f ↦ absurd (let no : true ≡ false = sym e ∙ f.0 in cc) ]

pub repeated_kids : (t : Formulas) (ks : List NodeId) (w : ℕ) (d : NodeId) (r : Sort) → (length ks ≡ 1 → w ≡ width (operand 0 (kid_sorts t ks))) → (length ks ≡ 1 → is_sort (operand 0 (kid_sorts t ks)) ≡ true)
    → Ok r ≡ rank_over t BvNot (trees_at t ks) → Repeated t ks w d
unfolding kind shape rank written_rank written_arity written_places written_in_range written_result build
repeated_kids t [] w d r of sort is = absurd cc
repeated_kids t (k ∷ []) w d r of sort is =
    let known = ranked_vector (node_sort t k) r (sym is) in
    let at : node_sort t k ≡ bit_vector w = known.is ∙ ap bit_vector (sym (of refl ∙ ap width known.is)) in
    let bounds = repeated_from (sort_of (tree t k)) w at (sort refl) in
    record {
      some = omega arith;
      positive = bounds.0;
      most = bounds.1;
      vector = λ node. record { node = node; sort = vector_sort (sort_of (tree t k)) w at };
      ranked = λ n. ap (λ s. accepted (before (misfit 0 any_width s) None) (nat_le 1 n) (bit_vector (n * width s))) at;
      built = λ n. refl;
    }
repeated_kids t (k ∷ l ∷ ks) w d r of sort is =
    absurd (let wrong : Ok r ≡ Err wrong_arity = is ∙ ap (λ b. cond b (accepted (first_misfit 0 (any_width ∷ []) (kid_sorts t (k ∷ l ∷ ks))) true (operand 0 (kid_sorts t (k ∷ l ∷ ks)))) (Err wrong_arity)) (not_one (length (kid_sorts t ks))) in cc)

module _ (t : Formulas) (ks : List NodeId) (w : ℕ) (d : NodeId) (x : Repeated t ks w d) where
  pub repeated_zero : (n : ℕ) → n ≡ 0 → written_rank (repetition n) (kid_sorts t ks) ≡ Err bad_index
  repeated_zero n is = x.ranked n ∙ ap (λ m. accepted None (nat_le 1 m) (bit_vector (m * w))) is

  pub repeated_wide : (n : ℕ) → 128 / w < n → written_rank (repetition n) (kid_sorts t ks) ≡ Err width_limit
  repeated_wide n over =
      let positive : 0 < w = x.positive in
      let above : 128 < n * w = over_product n w positive over in
      x.ranked n ∙ ap (λ b. accepted None b (bit_vector (n * w))) (le_true 1 n (omega arith)) ∙ ap (λ b. cond b (Ok (bit_vector (n * w))) (Err width_limit)) (gt_false (n * w) 128 above)

  pub repeated_fits : (n m : ℕ) → m + 1 ≡ n → n ≤ 128 / w → (m + 1) * w ≤ 128
  repeated_fits n m is fits = let positive : 0 < w = x.positive in subst (λ j. j * w ≤ 128) (sym is) (in_product n w positive fits)

  pub repeated_ok : (n : ℕ) → 0 < n → n ≤ 128 / w → IsOk (written_rank (repetition n) (kid_sorts t ks))
  repeated_ok n some fits =
      let positive : 0 < w = x.positive in
      is_ok (x.ranked n ∙ ap (λ b. accepted None b (bit_vector (n * w))) (le_true 1 n some) ∙ ap (λ b. cond b (Ok (bit_vector (n * w))) (Err width_limit)) (le_true (n * w) 128 (in_product n w positive fits)))

-- ---- whether a number divides

pub divisibility_refused : (t : Formulas) (n : ℕ) (ks : List NodeId) (e : Fault) → Err e ≡ rank_over t Neg (trees_at t ks) → written_rank (divisibility n) (kid_sorts t ks) ≡ Err e
unfolding kind shape rank written_rank written_arity written_places written_in_range written_result
divisibility_refused t n ks e is = by (length (kid_sorts t ks) == 1) (first_misfit 0 (only int ∷ []) (kid_sorts t ks)) (sym is)
  where
    by : (b : Bool) (m : Option Fault) → cond b (accepted m true int) (Err wrong_arity) ≡ Err e → cond b (accepted m (nat_le 1 n) bool) (Err wrong_arity) ≡ Err e
    by true (Some f) h = h
    by true None h = absurd cc
    by false m h = h

pub divisibility_rank : (t : Formulas) (n : ℕ) (ks : List NodeId) (r : Sort) → Ok r ≡ rank_over t Neg (trees_at t ks) → written_rank (divisibility n) (kid_sorts t ks) ≡ accepted None (nat_le 1 n) bool
unfolding kind shape rank written_rank written_arity written_places written_in_range written_result
divisibility_rank t n ks r is = by (length (kid_sorts t ks) == 1) (first_misfit 0 (only int ∷ []) (kid_sorts t ks)) (sym is)
  where
    by : (b : Bool) (m : Option Fault) → cond b (accepted m true int) (Err wrong_arity) ≡ Ok r → cond b (accepted m (nat_le 1 n) bool) (Err wrong_arity) ≡ accepted None (nat_le 1 n) bool
    by true (Some f) h = absurd cc
    by true None h = refl
    by false m h = absurd cc

pub divisible_zero : (t : Formulas) (n : ℕ) (ks : List NodeId) (r : Sort) → Ok r ≡ rank_over t Neg (trees_at t ks) → n ≡ 0 → written_rank (divisibility n) (kid_sorts t ks) ≡ Err bad_index
divisible_zero t n ks r is zeroed = divisibility_rank t n ks r is ∙ ap (λ m. accepted None (nat_le 1 m) bool) zeroed

pub divisible_ok : (t : Formulas) (n : ℕ) (ks : List NodeId) (r : Sort) → Ok r ≡ rank_over t Neg (trees_at t ks) → 0 < n → IsOk (written_rank (divisibility n) (kid_sorts t ks))
divisible_ok t n ks r is some = is_ok (divisibility_rank t n ks r is ∙ ap (λ b. accepted None b bool) (le_true 1 n some))

-- ---- whole numbers

pub whole_makes : (t : Formulas) (n : ℕ) (m : ℤ) → n < 2 ^ 127 → m ≡ pos n → Makes t (Whole m) []
unfolding kind shape
whole_makes t n m lt is =
    subst (λ z. Makes t (Whole z) []) (sym is)
    (other_makes t (Whole (pos n)) [] int (λ i d within. absurd (omega arith)) tt (λ e. absurd cc) (sym (takes-rank (op (Whole (pos n))) [] int (refl, lt, refl) (omega arith))))

pub whole_term : (t : Formulas) (n : ℕ) (m : ℤ) → m ≡ pos n → term_over t (Whole m) (trees_at t []) ≡ whole_in term_algebra n
unfolding kind
whole_term t n m is = ap (λ z. apply (op (Whole z)) none) is

pub whole_of_sort : (t : Formulas) (k : NodeId) (n : ℕ) → n < 2 ^ 127 → IsNode t k → tree t k ≡ whole_in term_algebra n → IsOfSort t k int
unfolding shape
whole_of_sort t k n lt node term =
    record { node = node; sort = ap sort_of term ∙ sort_of-apply (op (Whole (pos n))) none [] int refl (takes-rank (op (Whole (pos n))) [] int (refl, lt, refl) (omega arith)) }

pub remainder_ranked : (t : Formulas) (k l : NodeId) → IsOfSort t k int → IsOfSort t l int → IsOk (rank_pair Mod (node_sort t k) (node_sort t l))
unfolding rank shape
remainder_ranked t k l a b = ranked_as t Mod k l int int a b refl

pub remainder_of_sort : (old new : Formulas) (k l n : NodeId) → IsOfSort old k int → IsOfSort old l int → IsNode new n → tree new n ≡ apply_to_both term_algebra Mod (tree old k) (tree old l) → IsOfSort new n int
unfolding rank shape
remainder_of_sort old new k l n a b node term = pair_of_sort old new Mod k l n int int a b refl node term

pub equation_ranked : (t : Formulas) (k l : NodeId) → IsOfSort t k int → IsOfSort t l int → IsOk (rank_pair Equal (node_sort t k) (node_sort t l))
unfolding rank shape
equation_ranked t k l a b = ranked_as t Equal k l int bool a b refl

pub divides_built : (t : Formulas) (n : ℕ) (ks : List NodeId) (k : NodeId) → ks ≡ k ∷ [] → divides term_algebra n (tree t k) ≡ build term_algebra (divisibility n) (trees_at t ks)
unfolding build
divides_built t n ks k is = sym (ap (λ l. build term_algebra (divisibility n) (trees_at t l)) is)
