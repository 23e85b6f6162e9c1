-- The operands of an operator over two, and more that are like them.
use Rattle.std.proofs.Common.{◌≡◌, ℕ, suc, ◌+◌, ◌<◌, ◌≤◌, true, false, cond, nat_le, ◌⊎◌, inl, inr, List, [], ◌∷◌, length, take, drop, get_or, All, Option, Some, None, is_some, Ok, Err, refl, ap, sym, ◌∙◌, subst, arith}
use Rattle.std.proofs.Math.Seq.{drop-cons}
use Rattle.std.proofs.lemmas.List.Elements.{All-head, All-tail, All-cons, All-nil}
use Rattle.smt_terms.specs.declared.ids.NodeId.{NodeId}
use Rattle.smt_terms.specs.declared.op.Op.{Op}
use Rattle.smt_terms.specs.declared.op.Op.TheVariants.{Sym, Forall, Exists, ConstArray}
use Rattle.smt_terms.specs.Equal.{sort_eq}
use Rattle.smt_terms.specs.Rank.{Fault, Shape, fixed, equation, bitwise_pair, bits_comparison, Place, only, any_sort, any_width, misfit, before, first_misfit, accepted, most_bits, width, width_limit, wrong_arity, rank, shape, sort_of, is_regular}
use Rattle.smt_terms.specs.Sorts.{Sort, bool}
use Rattle.smt_terms.specs.Term.{op, Term}
use Rattle.smt_terms.specs.Written.{alike}
use Rattle.smt_terms.proofs.Equal.{Decides-sort_eq}
use Rattle.smt_terms.proofs.Ranked.{le_true}
use Rattle.smt_terms.proofs.Tests.{true_or_false, both_true}
use Rattle.term_table.specs.Formulas.{Formulas, tree, trees_at, kind, theory, rank_over, kind_rank, IsNode, AreNodes, IsOpOf, IsKindOf, IsTable, sort_or_bool, sorts_in}
use Rattle.term_table.specs.ShapeRank.{shape_rank, kid_sorts}
use Rattle.sort_check.specs.Forms.{is_pair}
use Rattle.sort_check.specs.Operands.{rank_pair, node_sort, unlike, alike_fault, IsOfSort, TakesEach}

-- ---- one operand after the other, behind two

module _ (q : Sort) (us : List Sort) (k : ℕ) (lt : k < length us) where
  at_place : unlike q (k + 2) (drop k us) ≡ before (misfit (k + 2) (only q) (get_or us k bool)) (unlike q (suc (k + 2)) (drop (suc k) us))
  at_place = ap (λ vs. unlike q (k + 2) vs) (drop-cons us k bool lt)

  pub behind_next : (s : Sort) → get_or us k bool ≡ s → None ≡ misfit (k + 2) (only q) s → unlike q (k + 2) (drop k us) ≡ unlike q (k + 1 + 2) (drop (k + 1) us)
  behind_next s is none =
      let number : suc (k + 2) ≡ k + 1 + 2 = omega arith in
      let next : suc k ≡ k + 1 = omega arith in
      at_place ∙ ap (λ u. before (misfit (k + 2) (only q) u) (unlike q (suc (k + 2)) (drop (suc k) us))) is
      ∙ ap (λ m. before m (unlike q (suc (k + 2)) (drop (suc k) us))) (sym none) ∙ (λ i. unlike q (number i) (drop (next i) us))

  pub behind_here : (s : Sort) (f : Fault) → get_or us k bool ≡ s → Some f ≡ misfit (k + 2) (only q) s → unlike q (k + 2) (drop k us) ≡ Some f
  behind_here s f is some =
      at_place ∙ ap (λ u. before (misfit (k + 2) (only q) u) (unlike q (suc (k + 2)) (drop (suc k) us))) is
      ∙ ap (λ m. before m (unlike q (suc (k + 2)) (drop (suc k) us))) (sym some)

-- operands among which there is no fault all have the sort
only_like : (q : Sort) (k : ℕ) (s : Sort) → misfit k (only q) s ≡ None → s ≡ q
only_like q k s none = by (true_or_false (sort_eq s q))
  where
    by : (sort_eq s q ≡ true) ⊎ (sort_eq s q ≡ false) → s ≡ q
    by (inl e) = (Decides-sort_eq s q).0 e
    by (inr e) = absurd cc

before-none : (m n : Option Fault) → before m n ≡ None → (m ≡ None) × (n ≡ None)
before-none None n e = (refl, e)
before-none (Some f) n e = absurd cc

none_unlike : (q : Sort) (k : ℕ) (us : List Sort) → unlike q k us ≡ None → All (λ u. u ≡ q) us
none_unlike q k [] e = All-nil (λ u. u ≡ q)
none_unlike q k (u ∷ us) e =
    let parts = before-none (misfit k (only q) u) (unlike q (suc k) us) e in
    All-cons (λ u. u ≡ q) u us (only_like q k u parts.0) (none_unlike q (suc k) us parts.1)

-- ---- the first two

record PairView (sh : Shape) (a : Sort) : Type 0 where
  first : Place
  other : Sort
  result : Sort
  both : (b : Sort) → shape_rank sh (a ∷ b ∷ []) ≡ accepted (before (misfit 0 first a) (before (misfit 1 (only other) b) None)) true result
  all : (b : Sort) (rest : List Sort) → alike_fault sh (a ∷ b ∷ rest) ≡ before (misfit 0 first a) (before (misfit 1 (only other) b) (unlike other 2 rest))
  fits : misfit 0 first a ≡ None → a ≡ other
  narrow : nat_le (width result) most_bits ≡ true

two_or_more : (sh : Shape) (a b : Sort) (rest : List Sort) → alike_fault sh (a ∷ b ∷ rest) ≡ first_misfit 0 (alike sh (a ∷ b ∷ rest)) (a ∷ b ∷ rest)
two_or_more sh a b rest =
    let number : nat_le 2 (length (a ∷ b ∷ rest)) ≡ true = le_true 2 (length (a ∷ b ∷ rest)) (omega arith) in
    ap (λ v. cond v (first_misfit 0 (alike sh (a ∷ b ∷ rest)) (a ∷ b ∷ rest)) (Some wrong_arity)) number

pair_view : (sh : Shape) (a : Sort) → is_pair sh ≡ true → nat_le (width a) most_bits ≡ true → PairView sh a
pair_view (fixed (s ∷ t ∷ []) r) a pair narrow =
    let parts = both_true (sort_eq s t) (nat_le (width r) most_bits) pair in
    let same : s ≡ t = (Decides-sort_eq s t).0 parts.0 in
    record {
      first = only s;
      other = s;
      result = r;
      both = λ b. ap (λ u. accepted (before (misfit 0 (only s) a) (before (misfit 1 (only u) b) None)) true r) (sym same);
      all = two_or_more (fixed (s ∷ t ∷ []) r) a;
      fits = only_like s 0 a;
      narrow = parts.1;
    }
pair_view equation a pair narrow = record { first = any_sort; other = a; result = bool; both = λ b. refl; all = two_or_more equation a; fits = λ none. refl; narrow = refl }
pair_view bitwise_pair a pair narrow = record { first = any_width; other = a; result = a; both = λ b. refl; all = two_or_more bitwise_pair a; fits = λ none. refl; narrow = narrow }
pair_view (bits_comparison r) a pair narrow = record { first = any_width; other = a; result = r; both = λ b. refl; all = two_or_more (bits_comparison r) a; fits = λ none. refl; narrow = pair }
pair_view _ a pair narrow = absurd cc

accepted-err : (m n more : Option Fault) (r : Sort) (e : Fault) → nat_le (width r) most_bits ≡ true → accepted (before m (before n None)) true r ≡ Err e → before m (before n more) ≡ Some e
accepted-err (Some f) n more r e narrow is = cc
accepted-err None (Some f) more r e narrow is = cc
accepted-err None None more r e narrow is = let fine : accepted None true r ≡ Ok r = ap (λ b. cond b (Ok r) (Err width_limit)) narrow in absurd cc

accepted-ok : (m n : Option Fault) (r s : Sort) → accepted (before m (before n None)) true r ≡ Ok s → (m ≡ None) × (n ≡ None)
accepted-ok (Some f) n r s is = absurd cc
accepted-ok None (Some f) r s is = absurd cc
accepted-ok None None r s is = (refl, refl)

module _ (o : Op) (a b : Sort) (pair : is_pair (shape o) ≡ true) (narrow : nat_le (width a) most_bits ≡ true) where
  view : PairView (shape o) a
  view = pair_view (shape o) a pair narrow

  ranked_both : rank_pair o a b ≡ accepted (before (misfit 0 view.first a) (before (misfit 1 (only view.other) b) None)) true view.result
  unfolding rank
  ranked_both = view.both b

  refused : (rest : List Sort) (e : Fault) → rank_pair o a b ≡ Err e → alike_fault (shape o) (a ∷ b ∷ rest) ≡ Some e
  refused rest e is = view.all b rest ∙ accepted-err (misfit 0 view.first a) (misfit 1 (only view.other) b) (unlike view.other 2 rest) view.result e view.narrow (sym ranked_both ∙ is)

  fine : (rest : List Sort) (s : Sort) → rank_pair o a b ≡ Ok s → (alike_fault (shape o) (a ∷ b ∷ rest) ≡ unlike a 2 rest) × (b ≡ a)
  fine rest s is =
      let parts = accepted-ok (misfit 0 view.first a) (misfit 1 (only view.other) b) view.result s (sym ranked_both ∙ is) in
      let same : a ≡ view.other = view.fits parts.0 in (
        view.all b rest ∙ ap (λ m. before m (before (misfit 1 (only view.other) b) (unlike view.other 2 rest))) parts.0
            ∙ ap (λ m. before m (unlike view.other 2 rest)) parts.1 ∙ ap (λ q. unlike q 2 rest) (sym same),
        only_like view.other 1 b parts.1 ∙ sym same,
      )

-- ---- as nodes

pair_kind : (o : Op) → is_pair (shape o) ≡ true → kind o ≡ theory o
unfolding kind shape
pair_kind (Sym f) e = absurd cc
pair_kind Forall e = absurd cc
pair_kind Exists e = absurd cc
pair_kind (ConstArray s) e = absurd cc
pair_kind _ e = refl

pub pair_numbers : (t : Formulas) (o : Op) → is_pair (shape o) ≡ true → IsOpOf t o
pair_numbers t o e = subst (λ q. IsKindOf t.symbols t.sorts q) (sym (pair_kind o e)) tt

pub pair_over : (t : Formulas) (o : Op) (ts : List Term) → is_pair (shape o) ≡ true → rank_over t o ts ≡ rank (op o) (sorts_in ts)
pair_over t o ts e = ap (λ q. kind_rank t.symbols t.sorts q ts) (pair_kind o e)

some_sort : (o : Option Sort) → is_some o ≡ true → o ≡ Some (sort_or_bool o)
some_sort (Some s) e = refl
some_sort None e = absurd cc

pub well_sorted : (t : Formulas) → IsTable t → (k : NodeId) → IsNode t k → sort_of (tree t k) ≡ Some (node_sort t k)
well_sorted t table k node =
    some_sort (sort_of (tree t k)) (both_true (is_some (sort_of (tree t k))) (is_regular (tree t k)) (table.sorted k.0 node)).0

all_of_sort : (t : Formulas) → IsTable t → (s : Sort) (ks : List NodeId) → AreNodes t ks → All (λ u. u ≡ s) (kid_sorts t ks) → All (λ k. IsOfSort t k s) ks
all_of_sort t table s [] nodes sorts = All-nil (λ k. IsOfSort t k s)
all_of_sort t table s (k ∷ ks) nodes sorts =
    let node = All-head (λ k. IsNode t k) k ks nodes in
    All-cons (λ k. IsOfSort t k s) k ks
    (record { node = node; sort = well_sorted t table k node ∙ ap Some (All-head (λ u. u ≡ s) (node_sort t k) (kid_sorts t ks) sorts) })
    (all_of_sort t table s ks (All-tail (λ k. IsNode t k) k ks nodes) (All-tail (λ u. u ≡ s) (node_sort t k) (kid_sorts t ks) sorts))

module _ (t : Formulas) (o : Op) (pair : is_pair (shape o) ≡ true) (table : IsTable t) where
  pub pair_refused : (ks : List NodeId) (s : Sort) (d : NodeId) (e : Fault) → 2 ≤ length ks → nat_le (width s) most_bits ≡ true → sort_of (tree t (get_or ks 0 d)) ≡ Some s
      → Err e ≡ rank_over t o (trees_at t (take 2 ks)) → alike_fault (shape o) (kid_sorts t ks) ≡ Some e
  pair_refused [] s d e two narrow sort is = absurd (omega arith)
  pair_refused (k ∷ []) s d e two narrow sort is = absurd (omega arith)
  pair_refused (k ∷ l ∷ rest) s d e two narrow sort is =
      let at : node_sort t k ≡ s = ap sort_or_bool sort in
      refused o (node_sort t k) (node_sort t l) pair (subst (λ u. nat_le (width u) most_bits ≡ true) (sym at) narrow) (kid_sorts t rest) e (sym (is ∙ pair_over t o (trees_at t (k ∷ l ∷ [])) pair))

  pub record PairIs (ks : List NodeId) (s : Sort) : Type 0 where
    pub fault : alike_fault (shape o) (kid_sorts t ks) ≡ unlike s 2 (kid_sorts t (drop 2 ks))
    pub takes : unlike s 2 (kid_sorts t (drop 2 ks)) ≡ None → TakesEach t o ks

  pub pair_is : (ks : List NodeId) (s : Sort) (d : NodeId) (r : Sort) → 2 ≤ length ks → AreNodes t ks → nat_le (width s) most_bits ≡ true → sort_of (tree t (get_or ks 0 d)) ≡ Some s
      → Ok r ≡ rank_over t o (trees_at t (take 2 ks)) → PairIs ks s
  pair_is [] s d r two nodes narrow sort is = absurd (omega arith)
  pair_is (k ∷ []) s d r two nodes narrow sort is = absurd (omega arith)
  pair_is (k ∷ l ∷ rest) s d r two nodes narrow sort is =
      let at : node_sort t k ≡ s = ap sort_or_bool sort in
      let ranked : rank_pair o (node_sort t k) (node_sort t l) ≡ Ok r = sym (is ∙ pair_over t o (trees_at t (k ∷ l ∷ [])) pair) in
      let known = fine o (node_sort t k) (node_sort t l) pair (subst (λ u. nat_le (width u) most_bits ≡ true) (sym at) narrow) (kid_sorts t rest) r ranked in
      let second : node_sort t l ≡ s = known.1 ∙ at in
      record {
        fault = known.0 ∙ ap (λ u. unlike u 2 (kid_sorts t rest)) at;
        takes = λ none. record {
          sort = s;
          operands = all_of_sort t table s (k ∷ l ∷ rest) nodes
              (All-cons (λ u. u ≡ s) (node_sort t k) (kid_sorts t (l ∷ rest)) at (All-cons (λ u. u ≡ s) (node_sort t l) (kid_sorts t rest) second (none_unlike s 2 (kid_sorts t rest) none)));
          result = r;
          ranked = (λ i. rank_pair o (sym at i) (sym second i)) ∙ ranked;
        };
      }
