-- Nodes that operators and templates make.
use Rattle.std.proofs.Common.{◌≡◌, ℕ, zero, suc, ◌+◌, ◌-◌, ◌<◌, ◌≤◌, true, false, cond, inl, inr, List, [], ◌∷◌, ◌++◌, map, length, get_or, take, drop, reverse, slice_get, All, Option, Some, None, Result, Ok, Err, IsSome, IsOk, IsTrue, refl, ap, sym, ◌∙◌, subst, arith, length-drop, take_at, drop_at, take_all, take-append-drop}
use Rattle.std.specs.Prelude.{is_some, nat_le}
use Rattle.std.specs.List.{list_all}
use Rattle.std.proofs.lemmas.Bool.{leb-true}
use Rattle.std.proofs.lemmas.List.{length-map, length-reverse, map-append, reverse-append, reverse-reverse, take-map, drop-map}
use Rattle.std.proofs.lemmas.List.Elements.{All-head, All-tail, All-push, All-take, All-map}
use Rattle.smt_terms.specs.declared.ids.NodeId.{NodeId}
use Rattle.smt_terms.specs.declared.op.Op.{Op}
use Rattle.smt_terms.specs.declared.op.Op.TheVariants.{Sym, Forall, Exists, ConstArray, Neg}
use Rattle.smt_terms.specs.Made.{minus, made}
use Rattle.smt_terms.specs.Rank.{Fault, shape, rank, sort_over, with_sort, sort_of, sorts_of, is_minus, is_regular, IsWellSorted}
use Rattle.smt_terms.specs.Sorts.{Sort, int}
use Rattle.smt_terms.specs.Term.{Head, op, Term, apply, Terms, none, terms, over}
use Rattle.smt_terms.proofs.Made.{made-sort}
use Rattle.smt_terms.proofs.Ranked.{le_true, rank-takes}
use Rattle.smt_terms.proofs.Tests.{both_true, true_or_false}
use Rattle.smt_values.specs.declared.scalar.Scalar.{Scalar}
use Rattle.smt_values.specs.declared.scalar.Scalar.TheVariants.{Truth, Whole, Bits}
use Rattle.term_table.specs.Formulas.{Formulas, no_tree, tree_in, tree, trees_at, sort_or_bool, sorts_in, Kind, theory, applied as applied_kind, filled, binder, kind, IsKindOf, kind_term, kind_rank, term_over as node_over, rank_over, IsNode, AreNodes, IsOpOf, Makes, IsTable}
use Rattle.term_table.proofs.Made.{makes_ranked}
use Rattle.term_table.proofs.Operators.{kind-theory}
use Rattle.term_walk.specs.Walking.{GrowsTo}
use Rattle.rule_book.specs.declared.templates.Piece.{Piece}
use Rattle.rule_book.specs.Filling.{remade, piece_over, left_by, Give}
use Rattle.normal_forms.specs.Literals.{literal_of}
use Rattle.rule_book.specs.Seen.{piece_seen}
use Rattle.rule_book.specs.Template.{TermPiece, hole, literal, applied, Template, is_piece, and_more, over_last, give, term_over, sort_made}
use Rattle.rule_book.specs.View.{is_theory}

-- ---- sorts of well-sorted terms

some-sort : (o : Option Sort) → is_some o ≡ true → o ≡ Some (sort_or_bool o)
some-sort (Some s) h = refl
some-sort None h = absurd cc

pub has-sort : (u : Term) → IsWellSorted u → sort_of u ≡ Some (sort_or_bool (sort_of u))
has-sort u fine = some-sort (sort_of u) (both_true (is_some (sort_of u)) (is_regular u) fine).0

pub sorts-known : (us : List Term) → All IsWellSorted us → sorts_of (terms us) ≡ Some (sorts_in us)
sorts-known [] fine = refl
sorts-known (u ∷ us) fine = λ i. with_sort (has-sort u (All-head IsWellSorted u us fine) i) (sorts-known us (All-tail IsWellSorted u us fine) i)

pub sorted-trees : (t : Formulas) (ks : List NodeId) → IsTable t → AreNodes t ks → All IsWellSorted (trees_at t ks)
sorted-trees t ks table nodes = All-map IsWellSorted (tree_in t.trees) ks (λ i d lt. table.sorted (get_or ks i d).0 (nodes i d lt))

-- ---- the node of an operator

the-ok : (r : Result Sort Fault) → IsOk r → (s : Sort) × (Ok s ≡ r)
the-ok (Ok s) h = (s, refl)
the-ok (Err f) h = absurd cc

other-made : (h : Head) (ts : Terms) → (h ≡ op Neg → ⊥) → made h ts ≡ apply h ts
other-made (op Neg) ts apart = absurd (apart refl)
other-made h ts apart = refl

not-neg : (p : Op) → (p ≡ Neg → ⊥) → is_minus p ≡ false
unfolding is_minus
not-neg Neg apart = absurd (apart refl)
not-neg _ apart = refl

-- any operator but the minus
module _ (t : Formulas) (p : Op) (other : p ≡ Neg → ⊥) where
  pub makes-other : (ks : List NodeId) → AreNodes t ks → IsOpOf t p → IsOk (rank_over t p (trees_at t ks)) → Makes t p ks
  makes-other ks nodes numbers ranked =
      let ok = the-ok (rank_over t p (trees_at t ks)) ranked in
      makes_ranked t p ks ok.0 nodes numbers (not-neg p other) ok.1

  pub remade-other : (us : List Term) → node_over t p us ≡ remade (node_over t p us)
  remade-other us = by (kind p) refl
    where
      at-kind : (k : Kind) → kind p ≡ k → kind_term t.symbols t.sorts k us ≡ remade (kind_term t.symbols t.sorts k us)
      at-kind (theory q) e = sym (other-made (op q) (terms us) (λ same. let one : q ≡ Neg = cc in other (kind-theory p q e ∙ one)))
      at-kind (applied_kind f) e = refl
      at-kind (filled s) e = refl
      at-kind (binder q) e = refl

      by : (k : Kind) → kind p ≡ k → node_over t p us ≡ remade (node_over t p us)
      by k e = subst (λ l. kind_term t.symbols t.sorts l us ≡ remade (kind_term t.symbols t.sorts l us)) (sym e) (at-kind k e)

-- the minus
pub record IsMinus (t : Formulas) (p : Op) (ks : List NodeId) : Type 0 where
  pub number : length ks ≡ 1
  pub node : (d : NodeId) → IsNode t (get_or ks 0 d)
  pub whole : (d : NodeId) → sort_of (tree t (get_or ks 0 d)) ≡ Some int
  pub term : (d : NodeId) → minus (tree t (get_or ks 0 d)) ≡ remade (node_over t p (trees_at t ks))

minus-rank : (t : Formulas) (us : List Term) (s : Sort) → Ok s ≡ rank_over t Neg us → sorts_in us ≡ int ∷ []
unfolding kind shape
minus-rank t us s ok = (rank-takes (op Neg) (sorts_in us) s (sym ok)).0

minus-term : (t : Formulas) (us : List Term) → node_over t Neg us ≡ over (op Neg) us
unfolding kind
minus-term t us = refl

minus-over : (t : Formulas) (ks : List NodeId) → IsTable t → AreNodes t ks → IsOk (rank_over t Neg (trees_at t ks)) → IsMinus t Neg ks
minus-over t [] table nodes ranked =
    let ok = the-ok (rank_over t Neg []) ranked in
    let sorts = minus-rank t [] ok.0 ok.1 in
    absurd cc
minus-over t (k ∷ []) table nodes ranked =
    let ok = the-ok (rank_over t Neg (trees_at t (k ∷ []))) ranked in
    let sorts : sort_or_bool (sort_of (tree t k)) ∷ [] ≡ int ∷ [] = minus-rank t (trees_at t (k ∷ [])) ok.0 ok.1 in
    let sort : sort_or_bool (sort_of (tree t k)) ≡ int = cc in
    let node : IsNode t k = All-head (λ (j : NodeId). j.0 < length t.trees) k [] nodes in
    record {
      number = refl;
      node = λ d. node;
      whole = λ d. has-sort (tree t k) (table.sorted k.0 node) ∙ ap (λ s. Some s) sort;
      term = λ d. sym (ap remade (minus-term t (trees_at t (k ∷ []))));
    }
minus-over t (k ∷ l ∷ ks) table nodes ranked =
    let ok = the-ok (rank_over t Neg (trees_at t (k ∷ l ∷ ks))) ranked in
    let sorts = minus-rank t (trees_at t (k ∷ l ∷ ks)) ok.0 ok.1 in
    absurd cc

pub minus-operand : (t : Formulas) (p : Op) (ks : List NodeId) → IsTable t → p ≡ Neg → AreNodes t ks → IsOk (rank_over t p (trees_at t ks)) → IsMinus t p ks
minus-operand t p ks table neg nodes = subst (λ q. IsOk (rank_over t q (trees_at t ks)) → IsMinus t q ks) (sym neg) (minus-over t ks table nodes)

-- ---- an operator of the theories, and a constant

pub theory-operator : (o : Op) → IsTrue (is_theory o) → kind o ≡ theory o
unfolding is_theory kind
theory-operator (Sym f) h = absurd cc
theory-operator Forall h = absurd cc
theory-operator Exists h = absurd cc
theory-operator (ConstArray s) h = absurd cc
theory-operator _ h = refl

pub literal-operator : (k : Scalar) → kind (literal_of k) ≡ theory (literal_of k)
unfolding kind
literal-operator (Truth b) = refl
literal-operator (Whole n) = refl
literal-operator (Bits w n) = refl

ok-from-sort : (r : Result Sort Fault) → IsSome (elim r as (λ _. Option Sort) [ Ok s ↦ Some s | Err _ ↦ None ]) → IsOk r
ok-from-sort (Ok s) h = refl
ok-from-sort (Err f) h = absurd cc

module _ (t : Formulas) (o : Op) (e : kind o ≡ theory o) where
  pub theory-numbers : IsOpOf t o
  theory-numbers = subst (λ k. IsKindOf t.symbols t.sorts k) (sym e) tt

  pub theory-ranked : (us : List Term) → IsSome (sort_made o (sorts_in us)) → IsOk (rank_over t o us)
  theory-ranked us sort = subst (λ k. IsOk (kind_rank t.symbols t.sorts k us)) (sym e) (ok-from-sort (rank (op o) (sorts_in us)) sort)

  pub theory-remade : (us : List Term) → made (op o) (terms us) ≡ remade (node_over t o us)
  theory-remade us = sym (ap (λ k. remade (kind_term t.symbols t.sorts k us)) e)

-- ---- the last of several results

module _ {A : Type 0} where
  reverse-map : {B : Type 0} (f : A → B) (xs : List A) → reverse (map f xs) ≡ map f (reverse xs)
  reverse-map f [] = refl
  reverse-map f (x ∷ xs) =
      reverse-append (f x ∷ []) (map f xs)
      ∙ ap (λ ys. ys ++ f x ∷ []) (reverse-map f xs)
      ∙ sym (map-append f (reverse xs) (x ∷ []))
      ∙ ap (map f) (sym (reverse-append (x ∷ []) xs))

  All-reverse : (P : A → Type 0) (xs : List A) → All P xs → All P (reverse xs)
  All-reverse P [] all = all
  All-reverse P (x ∷ xs) all =
      subst (All P) (sym (reverse-append (x ∷ []) xs)) (All-push P (reverse xs) x (All-reverse P xs (All-tail P x xs all)) (All-head P x xs all))

  module _ (xs : List A) (n : ℕ) (few : n ≤ length xs) where
    parted : reverse xs ≡ reverse (drop (length xs - n) xs) ++ reverse (take (length xs - n) xs)
    parted = ap reverse (sym (take-append-drop (length xs - n) xs)) ∙ reverse-append (take (length xs - n) xs) (drop (length xs - n) xs)

    last-count : length (reverse (drop (length xs - n) xs)) ≡ n
    last-count = omega (arith, length-reverse (drop (length xs - n) xs), length-drop (length xs - n) xs)

    pub last-taken : reverse (take n (reverse xs)) ≡ drop (length xs - n) xs
    last-taken =
        ap (λ ys. reverse (take n ys)) parted
        ∙ ap reverse (take_at (reverse (drop (length xs - n) xs)) (reverse (take (length xs - n) xs)) n last-count)
        ∙ reverse-reverse (drop (length xs - n) xs)

    pub last-dropped : reverse (take (length xs - n) xs) ≡ drop n (reverse xs)
    last-dropped = sym (ap (drop n) parted ∙ drop_at (reverse (drop (length xs - n) xs)) (reverse (take (length xs - n) xs)) n last-count)

  -- where an operator may stand over the last results
  pub record IsOverLast (make : List A → Option A) (n : ℕ) (done : List A) : Type 0 where
    pub few : n ≤ length done
    pub is : over_last make n done ≡ make (reverse (take n done))

  over-last : (make : List A → Option A) (n : ℕ) (done : List A) → IsSome (over_last make n done) → IsOverLast make n done
  over-last make n done some = elim (true_or_false (nat_le n (length done))) [
    | inl few ↦ record { few = leb-true n (length done) few; is = ap (λ b. cond b (make (reverse (take n done))) None) few }
    | inr many ↦ absurd (let nothing : is_some (cond false (make (reverse (take n done))) None) ≡ true = subst (λ b. is_some (cond b (make (reverse (take n done))) None) ≡ true) many some in cc)
  ]

-- what an operator gives over the last of these results, by their terms
pub record IsOverResults (o : Op) (n : ℕ) (us : List Term) : Type 0 where
  pub few : n ≤ length us
  pub sort : IsSome (sort_made o (sorts_in (drop (length us - n) us)))
  pub term : over_last (term_over o) n (reverse us) ≡ Some (made (op o) (terms (drop (length us - n) us)))

pub over-results : (o : Op) (n : ℕ) (us : List Term) → IsSome (over_last (sort_made o) n (sorts_in (reverse us))) → IsOverResults o n us
over-results o n us some =
    let last = over-last (sort_made o) n (sorts_in (reverse us)) some in
    let sorts-count = length-map (reverse us) (λ v. sort_or_bool (sort_of v)) in
    let count = length-reverse us in
    let within = last.few in
    let few : n ≤ length us = omega arith in
    let enough : n ≤ length (reverse us) = omega arith in
    let sorts : reverse (take n (sorts_in (reverse us))) ≡ sorts_in (drop (length us - n) us) =
    ap reverse (take-map (λ v. sort_or_bool (sort_of v)) n (reverse us))
    ∙ reverse-map (λ v. sort_or_bool (sort_of v)) (take n (reverse us))
    ∙ ap sorts_in (last-taken us n few) in
    record {
      few = few;
      sort = subst (λ o. IsSome o) (last.is ∙ ap (sort_made o) sorts) some;
      term = term-of enough ∙ ap (λ vs. Some (made (op o) (terms vs))) (last-taken us n few);
    }
  where
    term-of : n ≤ length (reverse us) → over_last (term_over o) n (reverse us) ≡ Some (made (op o) (terms (reverse (take n (reverse us)))))
    term-of enough = ap (λ b. cond b (Some (made (op o) (terms (reverse (take n (reverse us)))))) None) (le_true n (length (reverse us)) enough)

-- and by their nodes
module _ (t : Formulas) (n : ℕ) (rs : List NodeId) where
  last-trees : drop (length (trees_at t rs) - n) (trees_at t rs) ≡ trees_at t (drop (length rs - n) rs)
  last-trees = ap (λ k. drop (k - n) (trees_at t rs)) (length-map rs (tree_in t.trees)) ∙ drop-map (tree_in t.trees) (length rs - n) rs

  module _ (o : Op) (some : IsSome (over_last (sort_made o) n (sorts_in (reverse (trees_at t rs))))) where
    pub last-few : n ≤ length rs
    last-few =
        let few = (over-results o n (trees_at t rs) some).few in
        let count = length-map rs (tree_in t.trees) in
        omega arith

    pub last-sort : IsSome (sort_made o (sorts_in (trees_at t (drop (length rs - n) rs))))
    last-sort = subst (λ us. IsSome (sort_made o (sorts_in us))) last-trees (over-results o n (trees_at t rs) some).sort

    pub last-term : over_last (term_over o) n (reverse (trees_at t rs)) ≡ Some (made (op o) (terms (trees_at t (drop (length rs - n) rs))))
    last-term = (over-results o n (trees_at t rs) some).term ∙ ap (λ us. Some (made (op o) (terms us))) last-trees

    pub last-left : reverse (trees_at t (take (length rs - n) rs)) ≡ drop n (reverse (trees_at t rs))
    last-left =
        ap reverse (sym (take-map (tree_in t.trees) (length rs - n) rs) ∙ ap (λ k. take (k - n) (trees_at t rs)) (sym (length-map rs (tree_in t.trees))))
        ∙ last-dropped (trees_at t rs) n (over-results o n (trees_at t rs) some).few

-- the last n of them, as a slice of theirs
pub last-slice : (rs slice : List NodeId) (len n : ℕ) → slice ≡ rs → len ≡ length rs → take (length slice - (len - n)) (drop (len - n) slice) ≡ drop (length rs - n) rs
last-slice rs slice len n same count =
    let k = len - n in
    let dropped = length-drop (len - n) slice in
    let all : length (drop (len - n) slice) ≤ length slice - (len - n) = omega arith in
    take_all (length slice - (len - n)) (drop (len - n) slice) all ∙ (λ i. drop (count i - n) (same i))

-- ---- piece by piece

pub give-piece : {A : Type 0} (holes : ℕ → Option A) (make : Op → List A → Option A) (p : TermPiece) (ps : Template) (done : List A) → give holes make (p ∷ ps) done ≡ and_more (left_by p done) (piece_over holes make p done) (give holes make ps)
give-piece holes make (hole i) ps done = refl
give-piece holes make (literal o) ps done = refl
give-piece holes make (applied o n) ps done = refl

some-first : {A : Type 0} (done : List A) (o : Option A) (more : List A → Option A) → IsSome (and_more done o more) → IsSome o
some-first done (Some a) more some = refl
some-first done None more some = some

pub some-piece : {A : Type 0} (holes : ℕ → Option A) (make : Op → List A → Option A) (p : TermPiece) (ps : Template) (done : List A) → IsSome (give holes make (p ∷ ps) done) → IsSome (piece_over holes make p done)
some-piece holes make p ps done some = some-first (left_by p done) (piece_over holes make p done) (give holes make ps) (subst (λ o. IsSome o) (give-piece holes make p ps done) some)

pub within-list : {A : Type 0} (xs : List A) (i : ℕ) → IsSome (slice_get xs i) → i < length xs
within-list [] i some = absurd cc
within-list (x ∷ xs) zero some = omega arith
within-list (x ∷ xs) (suc i) some = let less = within-list xs i some in omega arith

hole-sort : (hs : List Term) → All IsWellSorted hs → (i : ℕ) (v : Term) → slice_get hs i ≡ Some v → slice_get (sorts_in hs) i ≡ sort_of v
hole-sort [] fine i v e = absurd cc
hole-sort (h ∷ hs) fine zero v e = let same : h ≡ v = cc in sym (has-sort h (All-head IsWellSorted h hs fine)) ∙ ap sort_of same
hole-sort (h ∷ hs) fine (suc i) v e = hole-sort hs (All-tail IsWellSorted h hs fine) i v e

over-sort : (o : Op) (n : ℕ) (done : List Term) → All IsWellSorted done → (v : Term) → over_last (term_over o) n done ≡ Some v → over_last (sort_made o) n (sorts_in done) ≡ sort_of v
over-sort o n done fine v e = elim (true_or_false (nat_le n (length done))) [
  | inl few ↦
      let is : made (op o) (terms last) ≡ v = (let whole : Some (made (op o) (terms last)) ≡ Some v = sym (ap (λ b. cond b (term_over o last) None) few) ∙ e in cc) in
      ap (λ k. cond (nat_le n k) (sort_made o (reverse (take n (sorts_in done)))) None) (length-map done sort)
      ∙ ap (λ b. cond b (sort_made o (reverse (take n (sorts_in done)))) None) few
      ∙ ap (λ ss. sort_made o ss) (ap reverse (take-map sort n done) ∙ reverse-map sort (take n done))
      ∙ sym (ap (sort_over (op o)) (sorts-known last (All-reverse IsWellSorted (take n done) (All-take IsWellSorted n done fine))))
      ∙ sym (made-sort (op o) (terms last))
      ∙ ap sort_of is
  | inr many ↦ absurd (let nothing : None ≡ Some v = sym (ap (λ b. cond b (term_over o last) None) many) ∙ e in cc)
]
  where
    sort : Term → Sort
    sort = λ u. sort_or_bool (sort_of u)

    last : List Term
    last = reverse (take n done)

-- the sort of a piece is that of its term
piece-sort : (hs done : List Term) → All IsWellSorted hs → All IsWellSorted done → (p : TermPiece) (v : Term) → piece_over (slice_get hs) term_over p done ≡ Some v → piece_over (slice_get (sorts_in hs)) sort_made p (sorts_in done) ≡ sort_of v
piece-sort hs done holes fine (hole i) v e = hole-sort hs holes i v e
piece-sort hs done holes fine (literal o) v e = let is : made (op o) none ≡ v = cc in sym (made-sort (op o) none) ∙ ap sort_of is
piece-sort hs done holes fine (applied o n) v e = over-sort o n done fine v e

left-sorts : (p : TermPiece) (done : List Term) → sorts_in (left_by p done) ≡ left_by p (sorts_in done)
left-sorts (hole i) done = refl
left-sorts (literal o) done = refl
left-sorts (applied o n) done = sym (drop-map (λ v. sort_or_bool (sort_of v)) n done)

pub trees-stay : (t u : Formulas) (ks : List NodeId) → GrowsTo t u → AreNodes t ks → trees_at u ks ≡ trees_at t ks
trees-stay t u [] grows nodes = refl
trees-stay t u (k ∷ ks) grows nodes =
    λ i. grows.trees.same k.0 no_tree (All-head (IsNode t) k ks nodes) i ∷ trees-stay t u ks grows (All-tail (IsNode t) k ks nodes) i

pub nodes-stay : (t u : Formulas) (ks : List NodeId) → GrowsTo t u → AreNodes t ks → AreNodes u ks
nodes-stay t u ks grows nodes i d lt = let node = nodes i d lt in let longer = grows.trees.longer in omega arith

-- the pieces behind one that is taken give over the new results what all gave
module _ (t u : Formulas) (hs : List Term) (p : TermPiece) (ps : Template) (whole : Option Term) (old left : List NodeId) (k : NodeId)
    (table : IsTable t) (holes : All IsWellSorted hs) (gives : Give t hs (p ∷ ps) whole old) (grows : GrowsTo t u) (node : IsNode u k)
    (given : piece_over (slice_get hs) term_over p (reverse (trees_at t old)) ≡ Some (tree u k))
    (are_left : reverse (trees_at t left) ≡ left_by p (reverse (trees_at t old))) (nodes : AreNodes t left) where
  done : List Term
  done = reverse (trees_at t old)

  new-results : reverse (trees_at u (left ++ k ∷ [])) ≡ tree u k ∷ left_by p done
  unfolding done
  new-results =
      ap reverse (map-append (tree_in u.trees) left (k ∷ []))
      ∙ reverse-append (trees_at u left) (tree u k ∷ [])
      ∙ ap (λ us. tree u k ∷ us) (ap reverse (trees-stay t u left grows nodes) ∙ are_left)

  next-term : give (slice_get hs) term_over ps (reverse (trees_at u (left ++ k ∷ []))) ≡ whole
  unfolding done
  next-term =
      ap (give (slice_get hs) term_over ps) new-results
      ∙ sym (give-piece (slice_get hs) term_over p ps done ∙ ap (λ o. and_more (left_by p done) o (give (slice_get hs) term_over ps)) given)
      ∙ gives.term

  known-sort : piece_over (slice_get (sorts_in hs)) sort_made p (sorts_in done) ≡ Some (sort_or_bool (sort_of (tree u k)))
  unfolding done
  known-sort =
      let is = piece-sort hs done holes (All-reverse IsWellSorted (trees_at t old) (sorted-trees t old table gives.nodes)) p (tree u k) given in
      is ∙ some-sort (sort_of (tree u k)) (subst (λ o. IsSome o) is (some-piece (slice_get (sorts_in hs)) sort_made p ps (sorts_in done) gives.sort))

  next-sort : IsSome (give (slice_get (sorts_in hs)) sort_made ps (sorts_in (reverse (trees_at u (left ++ k ∷ [])))))
  unfolding done
  next-sort =
      subst (λ o. IsSome o)
      (give-piece (slice_get (sorts_in hs)) sort_made p ps (sorts_in done)
      ∙ ap (λ o. and_more (left_by p (sorts_in done)) o (give (slice_get (sorts_in hs)) sort_made ps)) known-sort
      ∙ ap (λ ss. give (slice_get (sorts_in hs)) sort_made ps (sort_or_bool (sort_of (tree u k)) ∷ ss)) (sym (left-sorts p done))
      ∙ ap (λ us. give (slice_get (sorts_in hs)) sort_made ps (sorts_in us)) (sym new-results))
      gives.sort

  pub next-results : Give u hs ps whole (left ++ k ∷ [])
  next-results = record {
    nodes = All-push (IsNode u) left k (nodes-stay t u left grows nodes) node;
    operators = (both_true (is_piece p) (list_all is_piece ps) gives.operators).1;
    term = next-term;
    sort = next-sort;
  }

-- ---- the next piece

next-seen : (pieces : List Piece) (i j : ℕ) (p : Piece) → slice_get pieces i ≡ Some p → j ≡ i + 1 → drop i (map piece_seen pieces) ≡ piece_seen p ∷ drop j (map piece_seen pieces)
next-seen [] i j p e next = absurd cc
next-seen (q ∷ qs) zero j p e next = let same : q ≡ p = cc in let one : 1 ≡ j = omega arith in λ k. piece_seen (same k) ∷ drop (one k) (map piece_seen (q ∷ qs))
next-seen (q ∷ qs) (suc i) zero p e next = absurd (omega arith)
next-seen (q ∷ qs) (suc i) (suc j) p e next = next-seen qs i j p e (omega arith)

pub next-give : (t u : Formulas) (holes : List NodeId) (pieces : List Piece) (i : ℕ) (p : Piece) (whole : Option Term) (results : List NodeId) → GrowsTo t u → AreNodes t holes → slice_get pieces i ≡ Some p
    → Give u (trees_at t holes) (drop i (map piece_seen pieces)) whole results → Give u (trees_at u holes) (piece_seen p ∷ drop (i + 1) (map piece_seen pieces)) whole results
next-give t u holes pieces i p whole results grows nodes here gives =
    subst (λ hs. Give u hs (piece_seen p ∷ drop (i + 1) (map piece_seen pieces)) whole results) (sym (trees-stay t u holes grows nodes))
    (subst (λ ps. Give u (trees_at t holes) ps whole results) (next-seen pieces i (i + 1) p here refl) gives)
