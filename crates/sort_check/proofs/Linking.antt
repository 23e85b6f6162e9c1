-- An operator over neighbours, and over two operands exchanged.
use Rattle.std.proofs.Common.{◌≡◌, ℕ, suc, ◌+◌, ◌-◌, ◌<◌, ◌≤◌, Bool, true, false, cond, ◌==◌, nat_le, List, [], ◌∷◌, ◌++◌, length, take, drop, get_or, All, Some, None, Ok, Err, IsOk, refl, ap, sym, ◌∙◌, subst, arith, append_assoc}
use Rattle.std.proofs.Math.Seq.{drop-cons, drop-length}
use Rattle.std.proofs.lemmas.List.{get_or-map, length-map, take_rest, map-append, append-nil}
use Rattle.std.proofs.lemmas.List.Elements.{All-head, All-tail, All-cons, All-nil, All-get_or, All-weaker, All-push}
use Rattle.smt_terms.specs.declared.ids.NodeId.{NodeId}
use Rattle.smt_terms.specs.declared.op.Op.{Op}
use Rattle.smt_terms.specs.declared.op.Op.TheVariants.{And}
use Rattle.smt_terms.specs.Equal.{sort_eq}
use Rattle.smt_terms.specs.Rank.{Fault, wrong_arity, Shape, fixed, equation, bits_comparison, first_misfit, accepted, most_bits, width, places, result_of, rank, shape}
use Rattle.smt_terms.specs.Sorts.{Sort, bool, bit_vector}
use Rattle.smt_terms.specs.Takes.{Takes}
use Rattle.smt_terms.specs.Term.{op, Term}
use Rattle.smt_terms.specs.Written.{exchanged, written_rank, written_arity, written_places, written_in_range, written_result, alike, apply_to_both, itself_or_join, neighbours, build}
use Rattle.smt_terms.proofs.Equal.{Decides-sort_eq}
use Rattle.smt_terms.proofs.Ranked.{rank-takes}
use Rattle.smt_terms.proofs.Tests.{both_true, and_true}
use Rattle.term_table.specs.Formulas.{Formulas, no_tree, tree, tree_in, trees_at, rank_over, IsNode, IsOpOf}
use Rattle.term_table.specs.ShapeRank.{shape_rank, kid_sorts}
use Rattle.term_table.proofs.Ranks.{length-kid_sorts}
use Rattle.sort_check.specs.Forms.{is_pair, is_link}
use Rattle.sort_check.specs.Making.{term_algebra, Extends}
use Rattle.sort_check.specs.Operands.{rank_pair, node_sort, alike_fault, linked, chained, IsOfSort, TakesEach}
use Rattle.sort_check.proofs.Answering.{alike_refused, alike_ranked, alike_two, is_ok}
use Rattle.sort_check.proofs.Folding.{ranked_as, pair_of_sort}
use Rattle.sort_check.proofs.Growing.{extends-refl, extends-trans, tree-extends, trees-extend, sorted-extends}
use Rattle.sort_check.proofs.Pairs.{pair_numbers, pair_over}

-- ---- an operator that links

link_narrow : (s : Sort) → sort_eq s bool ≡ true → nat_le (width s) most_bits ≡ true
link_narrow s e = subst (λ u. nat_le (width u) most_bits ≡ true) (sym ((Decides-sort_eq s bool).0 e)) refl

pub link_pair : (sh : Shape) → is_link sh ≡ true → is_pair sh ≡ true
link_pair (fixed (s ∷ t ∷ []) r) e = let parts = both_true (sort_eq s t) (sort_eq r bool) e in and_true (sort_eq s t) (nat_le (width r) most_bits) parts.0 (link_narrow r parts.1)
link_pair equation e = refl
link_pair (bits_comparison r) e = link_narrow r e
link_pair _ e = absurd cc

-- it takes two of one sort, and gives a truth value
record LinkIs (ss : List Sort) (r : Sort) : Type 0 where
  sort : Sort
  both : ss ≡ sort ∷ sort ∷ []
  truth : r ≡ bool

link_takes : (sh : Shape) (ss : List Sort) (r : Sort) → is_link sh ≡ true → Takes sh ss r → LinkIs ss r
link_takes (fixed (s ∷ t ∷ []) to) ss r e takes =
    let parts = both_true (sort_eq s t) (sort_eq to bool) e in
    let same : s ≡ t = (Decides-sort_eq s t).0 parts.0 in
    record { sort = s; both = takes.0 ∙ ap (λ u. s ∷ u ∷ []) (sym same); truth = takes.1 ∙ (Decides-sort_eq to bool).0 parts.1 }
link_takes equation ss r e takes = record { sort = takes.0; both = takes.1; truth = takes.2 }
link_takes (bits_comparison to) ss r e takes = record { sort = bit_vector takes.0; both = takes.1; truth = takes.2 ∙ (Decides-sort_eq to bool).0 e }
link_takes _ ss r e takes = absurd cc

link_is : (o : Op) (ss : List Sort) (r : Sort) → is_link (shape o) ≡ true → rank (op o) ss ≡ Ok r → LinkIs ss r
link_is o ss r e ranked = link_takes (shape o) ss r e (rank-takes (op o) ss r ranked)

-- ---- one link

pub kids_of_two : (t : Formulas) (o : Op) (k l : NodeId) (x : TakesEach t o (k ∷ l ∷ [])) → IsOfSort t k x.sort × IsOfSort t l x.sort
kids_of_two t o k l x =
    (All-head (λ n. IsOfSort t n x.sort) k (l ∷ []) x.operands, All-head (λ n. IsOfSort t n x.sort) l [] (All-tail (λ n. IsOfSort t n x.sort) k (l ∷ []) x.operands))

module _ (t : Formulas) (o : Op) (k l : NodeId) (x : TakesEach t o (k ∷ l ∷ [])) where
  pub two_ranked : IsOk (rank_pair o (node_sort t k) (node_sort t l))
  two_ranked = let both = kids_of_two t o k l x in ranked_as t o k l x.sort x.result both.0 both.1 x.ranked

  pub turned_ranked : IsOk (rank_pair o (node_sort t l) (node_sort t k))
  turned_ranked = let both = kids_of_two t o k l x in ranked_as t o l k x.sort x.result both.1 both.0 x.ranked

-- ---- the links of neighbours

pub record Links (old new : Formulas) (o : Op) (turned : Bool) (first : NodeId) (rest links : List NodeId) (left : NodeId) (k : ℕ) : Type 0 where
  pub extends : Extends old new
  pub before : (x : TakesEach old o (first ∷ rest)) → IsOfSort old left x.sort
  pub truths : All (λ n. IsOfSort new n bool) links
  pub terms : trees_at new links ++ neighbours (linked turned o) (tree old left) (drop k (trees_at old rest)) ≡ neighbours (linked turned o) (tree old first) (trees_at old rest)

module _ (old : Formulas) (o : Op) (turned : Bool) (first : NodeId) (rest : List NodeId) (x : TakesEach old o (first ∷ rest)) where
  pub links_none : Links old old o turned first rest [] first 0
  links_none = record {
    extends = extends-refl old;
    before = λ y. All-head (λ n. IsOfSort old n y.sort) first rest y.operands;
    truths = All-nil (λ n. IsOfSort old n bool);
    terms = refl;
  }

  module _ (link : is_link (shape o) ≡ true) (new : Formulas) (links : List NodeId) (left : NodeId) (k : ℕ) (d : NodeId) (lt : k < length rest) (f : Links old new o turned first rest links left k) where
    right_sorted : (y : TakesEach old o (first ∷ rest)) → IsOfSort old (get_or rest k d) y.sort
    right_sorted y = All-get_or (λ n. IsOfSort old n y.sort) rest k d lt (All-tail (λ n. IsOfSort old n y.sort) first rest y.operands)

    pub next_takes : TakesEach new o (left ∷ get_or rest k d ∷ [])
    next_takes = record {
      sort = x.sort;
      operands = All-cons (λ n. IsOfSort new n x.sort) left (get_or rest k d ∷ []) (sorted-extends old new f.extends left x.sort (f.before x))
          (All-cons (λ n. IsOfSort new n x.sort) (get_or rest k d) [] (sorted-extends old new f.extends (get_or rest k d) x.sort (right_sorted x)) (All-nil (λ n. IsOfSort new n x.sort)));
      result = x.result;
      ranked = x.ranked;
    }

    to_truth : rank_pair o x.sort x.sort ≡ Ok bool
    to_truth = x.ranked ∙ ap Ok (link_is o (x.sort ∷ x.sort ∷ []) x.result link x.ranked).truth

    link_sorted : (newer : Formulas) (n : NodeId) (b : Bool) → IsNode newer n → tree newer n ≡ linked b o (tree new left) (tree new (get_or rest k d)) → IsOfSort newer n bool
    link_sorted newer n true node term =
        pair_of_sort new newer o (get_or rest k d) left n x.sort bool (sorted-extends old new f.extends (get_or rest k d) x.sort (right_sorted x)) (sorted-extends old new f.extends left x.sort (f.before x)) to_truth node term
    link_sorted newer n false node term =
        pair_of_sort new newer o left (get_or rest k d) n x.sort bool (sorted-extends old new f.extends left x.sort (f.before x)) (sorted-extends old new f.extends (get_or rest k d) x.sort (right_sorted x)) to_truth node term

    pub links_next : (newer : Formulas) (n : NodeId) → Extends new newer → IsNode newer n → tree newer n ≡ linked turned o (tree new left) (tree new (get_or rest k d)) → Links old newer o turned first rest (links ++ n ∷ []) (get_or rest k d) (k + 1)
    links_next newer n e node term =
        let within : k < length (trees_at old rest) = let count = length-map rest (tree_in old.trees) in omega (arith, count) in
        let next : suc k ≡ k + 1 = omega arith in
        let u = get_or (trees_at old rest) k no_tree in
        let kid_tree : tree old (get_or rest k d) ≡ u = sym (get_or-map (tree_in old.trees) rest k d no_tree lt) in
        let made : tree newer n ≡ linked turned o (tree old left) u = term ∙ (λ i. linked turned o (tree-extends old new f.extends left (f.before x).node i) ((tree-extends old new f.extends (get_or rest k d) (right_sorted x).node ∙ kid_tree) i)) in
        let kept : trees_at newer links ≡ trees_at new links = trees-extend new newer e links (All-weaker (λ m. IsOfSort new m bool) (λ m. IsNode new m) (λ m is. is.node) links f.truths) in
        record {
          extends = extends-trans old new newer f.extends e;
          before = right_sorted;
          truths = All-push (λ m. IsOfSort newer m bool) links n (All-weaker (λ m. IsOfSort new m bool) (λ m. IsOfSort newer m bool) (λ m is. sorted-extends new newer e m bool is) links f.truths) (link_sorted newer n turned node term);
          terms =
              ap (λ ts. ts ++ neighbours (linked turned o) (tree old (get_or rest k d)) (drop (k + 1) (trees_at old rest))) (map-append (tree_in newer.trees) links (n ∷ []))
              ∙ append_assoc (trees_at newer links) (tree newer n ∷ []) (neighbours (linked turned o) (tree old (get_or rest k d)) (drop (k + 1) (trees_at old rest)))
              ∙ (λ i. kept i ++ made i ∷ neighbours (linked turned o) (kid_tree i) (drop (sym next i) (trees_at old rest)))
              ∙ ap (λ ts. trees_at new links ++ neighbours (linked turned o) (tree old left) ts) (sym (drop-cons (trees_at old rest) k no_tree within))
              ∙ f.terms;
        }

  pub links_done : (new : Formulas) (links : List NodeId) (left : NodeId) (k : ℕ) → length rest ≤ k → k ≤ length rest → Links old new o turned first rest links left k → trees_at new links ≡ neighbours (linked turned o) (tree old first) (trees_at old rest)
  links_done new links left k most least f =
      let count = length-map rest (tree_in old.trees) in
      let at_end : k ≡ length (trees_at old rest) = omega (arith, count) in
      let none : drop k (trees_at old rest) ≡ [] = ap (λ j. drop j (trees_at old rest)) at_end ∙ drop-length (trees_at old rest) in
      sym (append-nil (trees_at new links)) ∙ sym (ap (λ ts. trees_at new links ++ neighbours (linked turned o) (tree old left) ts) none) ∙ f.terms

-- ---- the chain

length-neighbours : (two : Term → Term → Term) (t : Term) (ts : List Term) → length (neighbours two t ts) ≡ length ts
length-neighbours two t [] = refl
length-neighbours two t (u ∷ ts) = ap suc (length-neighbours two u ts)

pub more_links : (old new : Formulas) (o : Op) (turned : Bool) (first : NodeId) (rest links : List NodeId) → 1 < length rest → trees_at new links ≡ neighbours (linked turned o) (tree old first) (trees_at old rest) → 1 < length links
more_links old new o turned first rest links more terms =
    let a = length-map links (tree_in new.trees) in
    let b = length-neighbours (linked turned o) (tree old first) (trees_at old rest) in
    let c = length-map rest (tree_in old.trees) in
    let same = ap length terms in
    omega (arith, a, b, c, same)

pub chain_rank : (o : Op) (turned : Bool) (ss : List Sort) → written_rank (chained turned o) ss ≡ cond (nat_le 2 (length ss)) (accepted (first_misfit 0 (alike (shape o) ss) ss) true bool) (Err wrong_arity)
unfolding written_rank written_arity written_places written_in_range written_result
chain_rank o true ss = refl
chain_rank o false ss = refl

pub chain_refused : (o : Op) (turned : Bool) (ss : List Sort) (e : Fault) → alike_fault (shape o) ss ≡ Some e → written_rank (chained turned o) ss ≡ Err e
chain_refused o turned ss e fault = chain_rank o turned ss ∙ alike_refused (shape o) ss bool e fault

pub chain_ranked : (o : Op) (turned : Bool) (ss : List Sort) → alike_fault (shape o) ss ≡ None → IsOk (written_rank (chained turned o) ss)
chain_ranked o turned ss none = is_ok (chain_rank o turned ss ∙ alike_ranked (shape o) ss bool none refl)

pub chain_built : (old : Formulas) (o : Op) (turned : Bool) (ks : List NodeId) (d : NodeId) → 2 ≤ length ks
    → itself_or_join term_algebra And (neighbours (linked turned o) (tree old (get_or ks 0 d)) (trees_at old (take (length ks - 1) (drop 1 ks)))) ≡ build term_algebra (chained turned o) (trees_at old ks)
unfolding build
chain_built old o turned [] d two = absurd (omega arith)
chain_built old o true (k ∷ ks) d two = ap (λ l. itself_or_join term_algebra And (neighbours (linked true o) (tree old k) (trees_at old l))) (take_rest (k ∷ ks) 1)
chain_built old o false (k ∷ ks) d two = ap (λ l. itself_or_join term_algebra And (neighbours (linked false o) (tree old k) (trees_at old l))) (take_rest (k ∷ ks) 1)

-- ---- two operands exchanged

turned_rank : (sh : Shape) (ss : List Sort) → is_link sh ≡ true → shape_rank sh ss ≡ cond (length ss == 2) (accepted (first_misfit 0 (places sh ss) ss) true (result_of sh ss)) (Err wrong_arity)
turned_rank (fixed (s ∷ t ∷ []) r) ss e = refl
turned_rank equation ss e = refl
turned_rank (bits_comparison r) ss e = refl
turned_rank _ ss e = absurd cc

module _ (t : Formulas) (o : Op) (ks : List NodeId) (link : is_link (shape o) ≡ true) where
  pub exchanged_numbers : IsOpOf t o
  exchanged_numbers = pair_numbers t o (link_pair (shape o) link)

  pub exchanged_rank : rank_over t o (trees_at t ks) ≡ written_rank (exchanged o) (kid_sorts t ks)
  unfolding rank written_rank written_arity written_places written_in_range written_result
  exchanged_rank = pair_over t o (trees_at t ks) (link_pair (shape o) link) ∙ turned_rank (shape o) (kid_sorts t ks) link

pub record TwoKids (t : Formulas) (o : Op) (ks : List NodeId) (d : NodeId) (r : Sort) : Type 0 where
  pub number : length ks ≡ 2
  pub ranked : rank_pair o (node_sort t (get_or ks 1 d)) (node_sort t (get_or ks 0 d)) ≡ Ok r
  pub built : apply_to_both term_algebra o (tree t (get_or ks 1 d)) (tree t (get_or ks 0 d)) ≡ build term_algebra (exchanged o) (trees_at t ks)

pub two_kids : (t : Formulas) (o : Op) (ks : List NodeId) (d : NodeId) (r : Sort) → is_link (shape o) ≡ true → Ok r ≡ rank_over t o (trees_at t ks) → TwoKids t o ks d r
unfolding build
two_kids t o ks d r link is = by ks (sym (is ∙ pair_over t o (trees_at t ks) (link_pair (shape o) link)))
  where
    by : (ks : List NodeId) → rank (op o) (kid_sorts t ks) ≡ Ok r → TwoKids t o ks d r
    by [] e = let known = link_is o [] r link e in absurd (let none : [] ≡ known.sort ∷ known.sort ∷ [] = known.both in cc)
    by (k ∷ []) e = let known = link_is o (kid_sorts t (k ∷ [])) r link e in absurd (let one : kid_sorts t (k ∷ []) ≡ known.sort ∷ known.sort ∷ [] = known.both in cc)
    by (k ∷ l ∷ []) e =
        let known = link_is o (kid_sorts t (k ∷ l ∷ [])) r link e in
        let lists : node_sort t k ∷ node_sort t l ∷ [] ≡ known.sort ∷ known.sort ∷ [] = known.both in
        let left : node_sort t k ≡ known.sort = cc in
        let right : node_sort t l ≡ known.sort = cc in
        record { number = refl; ranked = (λ i. rank_pair o (right i) (left i)) ∙ sym (λ i. rank_pair o (left i) (right i)) ∙ e; built = refl }
    by (k ∷ l ∷ m ∷ ks) e =
        let known = link_is o (kid_sorts t (k ∷ l ∷ m ∷ ks)) r link e in
        absurd (let many : kid_sorts t (k ∷ l ∷ m ∷ ks) ≡ known.sort ∷ known.sort ∷ [] = known.both in let count = ap length many in omega arith)

-- ---- how many operands

pub two_or_more : (t : Formulas) (o : Op) (ks : List NodeId) → alike_fault (shape o) (kid_sorts t ks) ≡ None → 2 ≤ length ks
two_or_more t o ks none = let count = length-kid_sorts t ks in let two = alike_two (shape o) (kid_sorts t ks) none in omega arith

pub more_rest : (ks : List NodeId) → 3 ≤ length ks → 1 < length (take (length ks - 1) (drop 1 ks))
more_rest [] three = absurd (omega arith)
more_rest (k ∷ ks) three = subst (λ (l : List NodeId). 1 < length l) (sym (take_rest (k ∷ ks) 1)) (omega arith)
