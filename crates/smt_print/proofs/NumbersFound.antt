-- The numbers of definitions, and what they become as scopes change.
use Rattle.std.proofs.Common.{◌≡◌, ℕ, zero, suc, ◌-◌, ◌<◌, ◌≤◌, Bool, true, false, List, [], ◌∷◌, ◌++◌, length, get_or, map, take, reverse, replicate, refl, ap, sym, ◌∙◌, subst, arith, All}
use Rattle.std.specs.Prelude.{◌==◌, ◌||◌, if◌then◌else◌, set}
use Rattle.std.specs.List.{list_any}
use Rattle.std.proofs.Math.Path.{fun_ext}
use Rattle.std.proofs.Math.Seq.{get_or-append_seam}
use Rattle.std.proofs.lemmas.Bool.{eqb-true, eqb-false, eq-eqb}
use Rattle.std.proofs.lemmas.List.{length-append, length-map, length-reverse, reverse-append, reverse-reverse, take_all, length-set, get_or_append_left, get_or-set_same, get_or-set_other}
use Rattle.std.proofs.lemmas.List.Elements.{All-head, All-tail, All-cons, All-nil, All-append}
use Rattle.std.proofs.lemmas.List.Sorted.{IsPermutation-reverse, list_any-IsPermutation}
use Rattle.smt_terms.proofs.Tests.{right_true}
use Rattle.smt_terms.specs.declared.ids.NodeId.{NodeId}
use Rattle.smt_print.specs.declared.scope.Defined.{Defined}
use Rattle.smt_print.specs.Defined.{has_node, number_of, node_of, nodes_of, place_in, with_place, taken_back, ArePlaced, AreAllPlaced, IsScoped}

-- ---- places

with-same : (f : ℕ → ℕ) (d : Defined) (i : ℕ) → (i == d.node.0) ≡ true → with_place f d i ≡ d.around
with-same f d i e = ap (λ b. if b then d.around else f i) e

with-other : (f : ℕ → ℕ) (d : Defined) (i : ℕ) → (i == d.node.0) ≡ false → with_place f d i ≡ f i
with-other f d i e = ap (λ b. if b then d.around else f i) e

by-test : {P : Type 0} (b : Bool) → (b ≡ true → P) → (b ≡ false → P) → P
by-test true one other = one refl
by-test false one other = other refl

pub not_true : (b : Bool) → (b ≡ true → ⊥) → b ≡ false
not_true true wrong = absurd (wrong refl)
not_true false wrong = refl

-- a place that is written
pub place-set : (ps : List ℕ) (d : Defined) → d.node.0 < length ps → place_in (set ps d.node.0 d.around) ≡ with_place (place_in ps) d
place-set ps d lt = fun_ext (λ i. by-test (i == d.node.0)
    (λ e. ap (λ n. get_or (set ps d.node.0 d.around) n 0) (eqb-true i d.node.0 e) ∙ get_or-set_same ps d.node.0 d.around 0 lt ∙ sym (with-same (place_in ps) d i e))
    (λ e. get_or-set_other ps d.node.0 i d.around 0 (eqb-false i d.node.0 e) ∙ sym (with-other (place_in ps) d i e)))

-- more places
pub place-more : (ps : List ℕ) (n : ℕ) → place_in (ps ++ replicate {A = ℕ} n 0) ≡ place_in ps
place-more ps n = fun_ext (at ps)
  where
    nothing : (n i : ℕ) → get_or {A = ℕ} (replicate n 0) i 0 ≡ 0
    nothing zero i = refl
    nothing (suc n) zero = refl
    nothing (suc n) (suc i) = nothing n i

    at : (ps : List ℕ) (i : ℕ) → get_or {A = ℕ} (ps ++ replicate n 0) i 0 ≡ get_or ps i 0
    at [] i = nothing n i
    at (p ∷ ps) zero = refl
    at (p ∷ ps) (suc i) = at ps i

pub place-resized : (ps new : List ℕ) (n m : ℕ) (b : Bool) → length ps ≤ n → new ≡ (if b then take n ps ++ replicate (n - m) 0 else ps) → place_in new ≡ place_in ps
place-resized ps new n m true longer is = ap place_in (is ∙ ap (λ xs. xs ++ replicate (n - m) 0) (take_all n ps longer)) ∙ place-more ps (n - m)
place-resized ps new n m false longer is = ap place_in is

-- ---- looking a number up

last-at : (d : Defined) (ds : List Defined) (d0 : Defined) → get_or (reverse (d ∷ ds)) (length ds) d0 ≡ d
last-at d ds d0 =
    ap (λ n. get_or (reverse (d ∷ ds)) n d0) (sym (length-reverse ds)) ∙ ap (λ xs. get_or xs (length (reverse ds)) d0) (reverse-append (d ∷ []) ds) ∙ get_or-append_seam (reverse ds) d [] d0

earlier-at : (d : Defined) (ds : List Defined) (d0 : Defined) (i : ℕ) → i < length ds → get_or (reverse (d ∷ ds)) i d0 ≡ get_or (reverse ds) i d0
earlier-at d ds d0 i lt = ap (λ xs. get_or xs i d0) (reverse-append (d ∷ []) ds) ∙ get_or_append_left (reverse ds) (d ∷ []) d0 i (omega (arith, length-reverse ds))

-- the definition of a node stands at its number
record IsAt (places : ℕ → ℕ) (ds : List Defined) (k : NodeId) (d0 : Defined) : Type 0 where
  pub number : places k.0 ≡ number_of (map node_of ds) k
  pub within : places k.0 < length ds
  pub node : (get_or (reverse ds) (places k.0) d0).node.0 ≡ k.0

placed-at : (f : ℕ → ℕ) (ds : List Defined) (k : NodeId) (d0 : Defined) → ArePlaced f ds → has_node (map node_of ds) k ≡ true → IsAt f ds k d0
placed-at f [] k d0 placed has = absurd cc
placed-at f (d ∷ ds) k d0 (first, others) has = by-test (k.0 == d.node.0)
    (λ e.
    let same = eqb-true k.0 d.node.0 e in
    let here : f k.0 ≡ length ds = ap f same ∙ first in
    record {
      number = here ∙ sym (length-map ds node_of) ∙ ap (λ b. if b then length (map node_of ds) else number_of (map node_of ds) k) (sym e);
      within = omega (arith, here);
      node = ap (λ n. (get_or (reverse (d ∷ ds)) n d0).node.0) here ∙ ap (λ x. x.node.0) (last-at d ds d0) ∙ sym same;
    })
    (λ e.
    let below = placed-at (with_place f d) ds k d0 others (ap (λ b. b || has_node (map node_of ds) k) (sym e) ∙ has) in
    let there : with_place f d k.0 ≡ f k.0 = with-other f d k.0 e in
    let less : f k.0 < length ds = subst (λ (n : ℕ). n < length ds) there below.within in
    record {
      number = sym there ∙ below.number ∙ ap (λ b. if b then length (map node_of ds) else number_of (map node_of ds) k) (sym e);
      within = omega (arith, less);
      node = ap (λ x. x.node.0) (earlier-at d ds d0 (f k.0) less) ∙ ap (λ n. (get_or (reverse ds) n d0).node.0) (sym there) ∙ below.node;
    })

-- a node with a definition has its number
pub record IsFound (places : List ℕ) (current : List Defined) (k : NodeId) (d0 : Defined) : Type 0 where
  pub number : place_in places k.0 ≡ number_of (nodes_of current) k
  pub within : place_in places k.0 < length current
  pub node : (get_or current (place_in places k.0) d0).node.0 ≡ k.0
  pub room : k.0 < length places

pub has-found : (places : List ℕ) (current : List Defined) (outer : List (List Defined)) (k : NodeId) (d0 : Defined) → IsScoped places current outer → has_node (nodes_of current) k ≡ true → IsFound places current k d0
has-found places current outer k d0 scoped has =
    let at = placed-at (place_in places) (reverse current) k d0 scoped.placed.0 has in
    let less : place_in places k.0 < length current = omega (arith, at.within, length-reverse current) in
    let node : (get_or current (place_in places k.0) d0).node.0 ≡ k.0 = ap (λ xs. (get_or xs (place_in places k.0) d0).node.0) (sym (reverse-reverse current)) ∙ at.node in
    record {
      number = at.number;
      within = less;
      node = node;
      room = subst (λ (n : ℕ). n < length places) node (scoped.within (place_in places k.0) d0 less);
    }

-- a definition that is found is one
any-node : (k : NodeId) (ds : List Defined) → has_node (map node_of ds) k ≡ list_any (λ d. k.0 == d.node.0) ds
any-node k [] = refl
any-node k (d ∷ ds) = ap (λ b. (k.0 == d.node.0) || b) (any-node k ds)

any-at : (k : NodeId) (ds : List Defined) (i : ℕ) (d0 : Defined) → i < length ds → (k.0 == (get_or ds i d0).node.0) ≡ true → list_any (λ d. k.0 == d.node.0) ds ≡ true
any-at k [] i d0 lt same = absurd (omega arith)
any-at k (d ∷ ds) zero d0 lt same = ap (λ b. b || list_any (λ d. k.0 == d.node.0) ds) same
any-at k (d ∷ ds) (suc i) d0 lt same = right_true (k.0 == d.node.0) (list_any (λ d. k.0 == d.node.0) ds) (any-at k ds i d0 (omega arith) same)

pub found-has : (current : List Defined) (i : ℕ) (k : NodeId) (d0 : Defined) → i < length current → (get_or current i d0).node.0 ≡ k.0 → has_node (nodes_of current) k ≡ true
found-has current i k d0 lt same =
    any-node k (reverse current) ∙ sym (list_any-IsPermutation (λ d. k.0 == d.node.0) current (reverse current) (IsPermutation-reverse current))
    ∙ any-at k current i d0 lt (eq-eqb k.0 (get_or current i d0).node.0 (sym same))

-- ---- scopes that change

-- no definitions
pub scoped-none : (places : List ℕ) → IsScoped places [] []
scoped-none places = record { placed = (tt, tt); within = All-nil (λ (d : Defined). d.node.0 < length places); outer_within = All-nil (All (λ (d : Defined). d.node.0 < length places)) }

-- more room
pub scoped-roomy : (places new : List ℕ) (current : List Defined) (outer : List (List Defined)) → IsScoped places current outer → place_in new ≡ place_in places → length places ≤ length new → IsScoped new current outer
scoped-roomy places new current outer scoped same longer = record {
  placed = subst (λ (f : ℕ → ℕ). AreAllPlaced f (current ∷ outer)) (sym same) scoped.placed;
  within = λ i d lt. let less = scoped.within i d lt in omega arith;
  outer_within = λ i v lt j d less. let below = scoped.outer_within i v lt j d less in omega arith;
}

-- one definition more
module _ (places between new : List ℕ) (current : List Defined) (outer : List (List Defined)) (d : Defined) (scoped : IsScoped places current outer)
    (long : length places ≤ length between) (same : place_in between ≡ place_in places) (around : d.around ≡ place_in between d.node.0) (room : d.node.0 < length between)
    (is : new ≡ set between d.node.0 (length current)) where
  abbrev number_given : Defined
  number_given = record { node = d.node; around = length current }

  given : place_in new ≡ with_place (place_in places) number_given
  given = ap place_in is ∙ place-set between number_given room ∙ ap (λ f. with_place f number_given) same

  here : place_in new d.node.0 ≡ length (reverse current)
  here = ap (λ f. f d.node.0) given ∙ with-same (place_in places) number_given d.node.0 (eq-eqb d.node.0 d.node.0 refl) ∙ sym (length-reverse current)

  back : with_place (place_in new) d ≡ place_in places
  back = ap (λ f. with_place f d) given ∙ fun_ext (λ i. by-test (i == d.node.0)
      (λ e. with-same (with_place (place_in places) number_given) d i e ∙ around ∙ ap (λ f. f d.node.0) same ∙ ap (place_in places) (sym (eqb-true i d.node.0 e)))
      (λ e. with-other (with_place (place_in places) number_given) d i e ∙ with-other (place_in places) number_given i e))

  size : length new ≡ length between
  size = ap length is ∙ length-set between d.node.0 (length current)

  pub scoped-more : IsScoped new (current ++ d ∷ []) outer
  scoped-more = record {
    placed = subst (λ (ds : List Defined). ArePlaced (place_in new) ds × AreAllPlaced (taken_back (place_in new) ds) outer) (sym (reverse-append current (d ∷ [])))
        ((here, subst (λ (f : ℕ → ℕ). ArePlaced f (reverse current)) (sym back) scoped.placed.0), subst (λ (f : ℕ → ℕ). AreAllPlaced (taken_back f (reverse current)) outer) (sym back) scoped.placed.1);
    within = All-append (λ (e : Defined). e.node.0 < length new) current (d ∷ []) (λ i e lt. let less = scoped.within i e lt in omega (arith, size))
        (All-cons (λ (e : Defined). e.node.0 < length new) d [] (omega (arith, size)) (All-nil (λ (e : Defined). e.node.0 < length new)));
    outer_within = λ i v lt j e less. let below = scoped.outer_within i v lt j e less in omega (arith, size);
  }

-- a scope inside
pub scoped-inside : (places : List ℕ) (current : List Defined) (outer : List (List Defined)) → IsScoped places current outer → IsScoped places [] (current ∷ outer)
scoped-inside places current outer scoped = record {
  placed = (tt, scoped.placed);
  within = All-nil (λ (d : Defined). d.node.0 < length places);
  outer_within = All-cons (All (λ (d : Defined). d.node.0 < length places)) current outer scoped.within scoped.outer_within;
}

-- the scope around
pub scoped-around : (places new : List ℕ) (current around : List Defined) (outer : List (List Defined)) → IsScoped places current (around ∷ outer)
    → place_in new ≡ taken_back (place_in places) (reverse current) → length new ≡ length places → IsScoped new around outer
scoped-around places new current around outer scoped is size = record {
  placed = subst (λ (f : ℕ → ℕ). AreAllPlaced f (around ∷ outer)) (sym is) scoped.placed.1;
  within = λ i d lt. let less = All-head (All (λ (e : Defined). e.node.0 < length places)) around outer scoped.outer_within i d lt in omega (arith, size);
  outer_within = λ i v lt j d less. let below = All-tail (All (λ (e : Defined). e.node.0 < length places)) around outer scoped.outer_within i v lt j d less in omega (arith, size);
}

-- the latest definition taken back
pub latest-back : (ps : List ℕ) (ds : List Defined) (d : Defined) → d.node.0 < length ps → taken_back (place_in (set ps d.node.0 d.around)) (reverse ds) ≡ taken_back (place_in ps) (reverse (ds ++ d ∷ []))
latest-back ps ds d lt = ap (λ f. taken_back f (reverse ds)) (place-set ps d lt) ∙ ap (taken_back (place_in ps)) (sym (reverse-append ds (d ∷ [])))

pub latest-first : (ds : List Defined) (d : Defined) → nodes_of (ds ++ d ∷ []) ≡ d.node ∷ nodes_of ds
latest-first ds d = ap (map node_of) (reverse-append ds (d ∷ []))

-- the definitions that are left, and the one that goes, stand within the places
pub rest-within : (rest : List Defined) (d : Defined) (ds : List Defined) (n m : ℕ) → ds ≡ rest ++ d ∷ [] → n ≡ m → All (λ (e : Defined). e.node.0 < n) ds → All (λ (e : Defined). e.node.0 < m) rest
rest-within rest d ds n m split same within i e lt =
    let size = ap length split ∙ length-append rest (d ∷ []) in
    let at : get_or ds i e ≡ get_or rest i e = ap (λ xs. get_or xs i e) split ∙ get_or_append_left rest (d ∷ []) e i lt in
    subst (λ (x : Defined). x.node.0 < m) at (subst (λ (k : ℕ). (get_or ds i e).node.0 < k) same (within i e (omega (arith, size))))

pub last-within : (rest : List Defined) (d : Defined) (ds : List Defined) (n : ℕ) → ds ≡ rest ++ d ∷ [] → All (λ (e : Defined). e.node.0 < n) ds → d.node.0 < n
last-within rest d ds n split within =
    let size = ap length split ∙ length-append rest (d ∷ []) in
    subst (λ (x : Defined). x.node.0 < n) (ap (λ xs. get_or xs (length rest) d) split ∙ get_or-append_seam rest d [] d) (within (length rest) d (omega (arith, size)))

-- the last scope that was left is the first around
pub last-first : {X Y : Type 0} (f : X → Y) (xs rest : List X) (x : X) → xs ≡ rest ++ x ∷ [] → map f (reverse xs) ≡ f x ∷ map f (reverse rest)
last-first f xs rest x split = ap (λ ys. map f (reverse ys)) split ∙ ap (map f) (reverse-append rest (x ∷ []))
