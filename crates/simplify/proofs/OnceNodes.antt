-- Lists of nodes without later copies.
use Rattle.std.proofs.Common.{◌≡◌, ℕ, zero, suc, ◌+◌, ◌<◌, ◌≤◌, inl, inr, Bool, true, false, not, cond, ◌||◌, ◌==◌, nat_lt, if◌then◌else◌, filter, take, List, [], ◌∷◌, ◌++◌, length, get_or, refl, ap, sym, ◌∙◌, subst, arith}
use Rattle.std.specs.List.{list_any}
use Rattle.std.proofs.lemmas.List.{map-append, take_more, length-map}
use Rattle.std.proofs.lemmas.List.Elements.{All-head, All-tail, All-append, filter-append}
use Rattle.std.proofs.lemmas.Bool.{lt-ltb, ltb-true}
use Rattle.std.proofs.lemmas.Bool.Decides.{Decides-eqb}
use Rattle.smt_terms.specs.declared.ids.NodeId.{NodeId}
use Rattle.smt_terms.specs.Equal.{term_eq}
use Rattle.smt_terms.specs.Term.{Term}
use Rattle.smt_terms.proofs.Equal.{Decides-term_eq}
use Rattle.smt_terms.proofs.Tests.{either_true, both_false, true_or_false, alike_from}
use Rattle.term_table.specs.Formulas.{Formulas, no_tree, IsTable, tree_in, tree, trees_at, IsNode, AreNodes}
use Rattle.term_walk.specs.FreeLists.{has_node, with_node}
use Rattle.simplify.specs.Folding.{has_term, once}
use Rattle.simplify.specs.Logic as logic

-- ---- tests of a list's elements

pub any-alike : {X : Type 0} (p q : X → Bool) (xs : List X) → ((x : X) → p x ≡ q x) → list_any p xs ≡ list_any q xs
any-alike p q [] h = refl
any-alike p q (x ∷ xs) h = let here = h x in let rest = any-alike p q xs h in λ i. here i || rest i

-- copies of an element that is tested beside the list don't count
any-others : (p : Term → Bool) (t : Term) (ts : List Term) → (p t || list_any p (filter (λ u. not (term_eq t u)) ts)) ≡ (p t || list_any p ts)
any-others p t [] = refl
any-others p t (u ∷ us) = by (term_eq t u) refl (any-others p t us)
  where
    doubled : (a b : Bool) → (a || b) ≡ (a || (a || b))
    doubled true b = refl
    doubled false b = refl

    turned : (a b c d : Bool) → (a || b) ≡ (a || d) → (a || (c || b)) ≡ (a || (c || d))
    turned true b c d h = refl
    turned false b c d h = ap (λ x. c || x) h

    by : (b : Bool) → term_eq t u ≡ b → (p t || list_any p (filter (λ v. not (term_eq t v)) us)) ≡ (p t || list_any p us) → (p t || list_any p (cond (not b) (u ∷ filter (λ v. not (term_eq t v)) us) (filter (λ v. not (term_eq t v)) us))) ≡ (p t || (p u || list_any p us))
    by true e rest = rest ∙ doubled (p t) (list_any p us) ∙ ap (λ v. p t || (p v || list_any p us)) ((Decides-term_eq t u).0 e)
    by false e rest = turned (p t) (list_any p (filter (λ v. not (term_eq t v)) us)) (p u) (list_any p us) rest

pub any-once : (p : Term → Bool) (ts : List Term) → list_any p (once ts) ≡ list_any p ts
any-once p [] = refl
any-once p (t ∷ ts) = any-others p t (once ts) ∙ ap (λ b. p t || b) (any-once p ts)

-- ---- one more element

abbrev insert : List Term → Term → List Term
insert ts u = if has_term ts u then ts else ts ++ u ∷ []

end : (ts : List Term) → ts ++ [] ≡ ts
end [] = refl
end (t ∷ ts) = ap (λ us. t ∷ us) (end ts)

symmetric : (t u : Term) → term_eq t u ≡ term_eq u t
symmetric t u = alike_from (term_eq t u) (term_eq u t) (turn t u) (turn u t)
  where
    turn : (t u : Term) → term_eq t u ≡ true → term_eq u t ≡ true
    turn t u e = (Decides-term_eq u t).1 (sym ((Decides-term_eq t u).0 e))

-- what is left of a list without t has u where the list has it, and u isn't t
has-others : (t u : Term) (ts : List Term) → term_eq t u ≡ false → has_term (filter (λ v. not (term_eq t v)) ts) u ≡ has_term ts u
has-others t u [] h = refl
has-others t u (v ∷ vs) h = by (term_eq t v) refl (has-others t u vs h)
  where
    by : (b : Bool) → term_eq t v ≡ b → has_term (filter (λ w. not (term_eq t w)) vs) u ≡ has_term vs u → has_term (cond (not b) (v ∷ filter (λ w. not (term_eq t w)) vs) (filter (λ w. not (term_eq t w)) vs)) u ≡ (term_eq u v || has_term vs u)
    by true e rest =
        let same : t ≡ v = (Decides-term_eq t v).0 e in
        let other : term_eq u v ≡ false = symmetric u v ∙ ap (λ w. term_eq w u) (sym same) ∙ h in
        rest ∙ ap (λ b. b || has_term vs u) (sym other)
    by false e rest = ap (λ b. term_eq u v || b) rest

without-insert : (t u : Term) (ts : List Term) → t ∷ filter (λ v. not (term_eq t v)) (insert ts u) ≡ insert (t ∷ filter (λ v. not (term_eq t v)) ts) u
without-insert t u ts = by (term_eq t u) (has_term ts u) refl refl
  where
    rest : List Term
    rest = filter (λ v. not (term_eq t v)) ts

    by : (a b : Bool) → term_eq t u ≡ a → has_term ts u ≡ b → t ∷ filter (λ v. not (term_eq t v)) (insert ts u) ≡ insert (t ∷ rest) u
    by true b e f =
        let here : term_eq u t ≡ true = symmetric u t ∙ e in
        inserted b f ∙ sym (ap (λ c. if c || has_term rest u then t ∷ rest else (t ∷ rest) ++ u ∷ []) here)
      where
        inserted : (b : Bool) → has_term ts u ≡ b → t ∷ filter (λ v. not (term_eq t v)) (insert ts u) ≡ t ∷ rest
        inserted true f = ap (λ c. t ∷ filter (λ v. not (term_eq t v)) (if c then ts else ts ++ u ∷ [])) f
        inserted false f =
            ap (λ c. t ∷ filter (λ v. not (term_eq t v)) (if c then ts else ts ++ u ∷ [])) f
            ∙ ap (λ us. t ∷ us) (filter-append (λ v. not (term_eq t v)) ts (u ∷ []) ∙ ap (λ c. rest ++ cond (not c) (u ∷ []) []) e ∙ end rest)
    by false true e f =
        let here : term_eq u t ≡ false = symmetric u t ∙ e in
        ap (λ c. t ∷ filter (λ v. not (term_eq t v)) (if c then ts else ts ++ u ∷ [])) f
        ∙ sym (λ i. if here i || (has-others t u ts e ∙ f) i then t ∷ rest else (t ∷ rest) ++ u ∷ [])
    by false false e f =
        let here : term_eq u t ≡ false = symmetric u t ∙ e in
        ap (λ c. t ∷ filter (λ v. not (term_eq t v)) (if c then ts else ts ++ u ∷ [])) f
        ∙ ap (λ us. t ∷ us) (filter-append (λ v. not (term_eq t v)) ts (u ∷ []) ∙ ap (λ c. rest ++ cond (not c) (u ∷ []) []) e)
        ∙ sym (λ i. if here i || (has-others t u ts e ∙ f) i then t ∷ rest else (t ∷ rest) ++ u ∷ [])

once-more : (ts : List Term) (u : Term) → once (ts ++ u ∷ []) ≡ insert (once ts) u
once-more [] u = refl
once-more (t ∷ ts) u = ap (λ us. t ∷ filter (λ v. not (term_eq t v)) us) (once-more ts u) ∙ without-insert t u (once ts)

-- ---- by numbers

module _ (t : Formulas) (table : IsTable t) where
  same-number : (j k : NodeId) → IsNode t j → IsNode t k → (j.0 == k.0) ≡ term_eq (tree t j) (tree t k)
  same-number j k lj lk = alike_from (j.0 == k.0) (term_eq (tree t j) (tree t k)) forth back
    where
      forth : (j.0 == k.0) ≡ true → term_eq (tree t j) (tree t k) ≡ true
      forth e = (Decides-term_eq (tree t j) (tree t k)).1 (ap (λ n. get_or t.trees n no_tree) ((Decides-eqb j.0 k.0).0 e))

      back : term_eq (tree t j) (tree t k) ≡ true → (j.0 == k.0) ≡ true
      back e = (Decides-eqb j.0 k.0).1 (table.one_tree j.0 k.0 lj lk ((Decides-term_eq (tree t j) (tree t k)).0 e))

  pub has-number : (ks : List NodeId) (k : NodeId) → AreNodes t ks → IsNode t k → has_node ks k ≡ has_term (trees_at t ks) (tree t k)
  has-number [] k nodes lk = refl
  has-number (j ∷ ks) k nodes lk =
      let here = same-number k j lk (All-head (IsNode t) j ks nodes) in
      let rest = has-number ks k (All-tail (IsNode t) j ks nodes) lk in
      λ i. here i || rest i

  one-node : (k : NodeId) → IsNode t k → AreNodes t (k ∷ [])
  one-node k lk zero d lt = lk
  one-node k lk (suc i) d lt = absurd (omega arith)

  nodes-put : (ks : List NodeId) (k : NodeId) → AreNodes t ks → IsNode t k → AreNodes t (with_node ks k)
  nodes-put ks k nodes lk = by (has_node ks k)
    where
      by : (b : Bool) → AreNodes t (if b then ks else ks ++ k ∷ [])
      by true = nodes
      by false = All-append (IsNode t) ks (k ∷ []) nodes (one-node k lk)

  trees-put : (ks : List NodeId) (k : NodeId) → AreNodes t ks → IsNode t k → trees_at t (with_node ks k) ≡ insert (trees_at t ks) (tree t k)
  trees-put ks k nodes lk = by (has_node ks k) ∙ ap (λ b. if b then trees_at t ks else trees_at t ks ++ tree t k ∷ []) (has-number ks k nodes lk)
    where
      by : (b : Bool) → trees_at t (if b then ks else ks ++ k ∷ []) ≡ (if b then trees_at t ks else trees_at t ks ++ tree t k ∷ [])
      by true = refl
      by false = map-append (tree_in t.trees) ks (k ∷ [])

  trees-take : (ids : List NodeId) (i : ℕ) (d : NodeId) → i < length ids → trees_at t (take (i + 1) ids) ≡ trees_at t (take i ids) ++ tree t (get_or ids i d) ∷ []
  trees-take ids i d lt = ap (trees_at t) (take_more ids i d lt) ∙ map-append (tree_in t.trees) (take i ids) (get_or ids i d ∷ [])

  pub once-step : (ids kept new : List NodeId) (i : ℕ) (d : NodeId) → i < length ids → AreNodes t ids → AreNodes t kept → trees_at t kept ≡ once (trees_at t (take i ids)) → new ≡ with_node kept (get_or ids i d) → trees_at t new ≡ once (trees_at t (take (i + 1) ids))
  once-step ids kept new i d lt nodes kept_nodes terms put =
      ap (trees_at t) put
      ∙ trees-put kept (get_or ids i d) kept_nodes (nodes i d lt)
      ∙ ap (λ ts. insert ts (tree t (get_or ids i d))) terms
      ∙ sym (once-more (trees_at t (take i ids)) (tree t (get_or ids i d)))
      ∙ ap once (sym (trees-take ids i d lt))

  pub nodes-step : (ids kept new : List NodeId) (i : ℕ) (d : NodeId) → i < length ids → AreNodes t ids → AreNodes t kept → new ≡ with_node kept (get_or ids i d) → AreNodes t new
  nodes-step ids kept new i d lt nodes kept_nodes put = subst (AreNodes t) (sym put) (nodes-put kept (get_or ids i d) kept_nodes (nodes i d lt))

-- ---- a list has copies where it is longer than without

fewer : (p : Term → Bool) (ts : List Term) → length (filter p ts) ≤ length ts
fewer p [] = omega arith
fewer p (t ∷ ts) = by (p t) (fewer p ts)
  where
    by : (b : Bool) → length (filter p ts) ≤ length ts → length (cond b (t ∷ filter p ts) (filter p ts)) ≤ suc (length ts)
    by true h = omega arith
    by false h = omega arith

shorter-once : (ts : List Term) → length (once ts) ≤ length ts
shorter-once [] = omega arith
shorter-once (t ∷ ts) =
    let left = fewer (λ u. not (term_eq t u)) (once ts) in
    let rest = shorter-once ts in
    omega (arith, left, rest)

has-fewer : (t : Term) (ts : List Term) → has_term ts t ≡ true → length (filter (λ u. not (term_eq t u)) ts) < length ts
has-fewer t [] h = absurd cc
has-fewer t (u ∷ us) h = by (term_eq t u) refl (has-fewer t us)
  where
    by : (b : Bool) → term_eq t u ≡ b → (has_term us t ≡ true → length (filter (λ v. not (term_eq t v)) us) < length us) → length (cond (not b) (u ∷ filter (λ v. not (term_eq t v)) us) (filter (λ v. not (term_eq t v)) us)) < suc (length us)
    by true e rest = let left = fewer (λ v. not (term_eq t v)) us in omega (arith, left)
    by false e rest = let left = rest (sym (ap (λ b. b || has_term us t) e) ∙ h) in omega (arith, left)

all-others : (t : Term) (ts : List Term) → has_term ts t ≡ false → filter (λ u. not (term_eq t u)) ts ≡ ts
all-others t [] h = refl
all-others t (u ∷ us) h =
    let parts = both_false (term_eq t u) (has_term us t) h in
    ap (λ b. cond (not b) (u ∷ filter (λ v. not (term_eq t v)) us) (filter (λ v. not (term_eq t v)) us)) parts.0 ∙ ap (λ vs. u ∷ vs) (all-others t us parts.1)

copies-shorter : (ts : List Term) → logic.has_copies ts ≡ true → length (once ts) < length ts
copies-shorter [] h = absurd cc
copies-shorter (t ∷ ts) h = elim (either_true (has_term ts t) (logic.has_copies ts) h) [
  | inl here ↦
      let among : has_term (once ts) t ≡ true = any-once (term_eq t) ts ∙ here in
      let left = has-fewer t (once ts) among in
      let rest = shorter-once ts in
      omega (arith, left, rest)
  | inr behind ↦
      let left = fewer (λ u. not (term_eq t u)) (once ts) in
      let rest = copies-shorter ts behind in
      omega (arith, left, rest)
]

no-copies : (ts : List Term) → logic.has_copies ts ≡ false → once ts ≡ ts
no-copies [] h = refl
no-copies (t ∷ ts) h =
    let parts = both_false (has_term ts t) (logic.has_copies ts) h in
    ap (λ us. t ∷ filter (λ u. not (term_eq t u)) us) (no-copies ts parts.1) ∙ ap (λ us. t ∷ us) (all-others t ts parts.0)

copies-told : (ts : List Term) (b : Bool) → ((b ≡ true → length (once ts) < length ts) × (length (once ts) < length ts → b ≡ true)) → b ≡ logic.has_copies ts
copies-told ts b told = alike_from b (logic.has_copies ts) forth (λ h. told.1 (copies-shorter ts h))
  where
    forth : b ≡ true → logic.has_copies ts ≡ true
    forth h = elim (true_or_false (logic.has_copies ts)) [
      | inl copies ↦ copies
      | inr apart ↦ let same = ap length (no-copies ts apart) in let less = told.0 h in absurd (omega (arith, same, less))
    ]

pub copies-counted : (t : Formulas) (ids kept : List NodeId) (n : ℕ) → trees_at t kept ≡ once (trees_at t ids) → n ≡ length kept → nat_lt n (length ids) ≡ logic.has_copies (trees_at t ids)
copies-counted t ids kept n terms count =
    let short : length (once (trees_at t ids)) ≡ length kept = sym (ap length terms) ∙ length-map kept (tree_in t.trees) in
    let long : length (trees_at t ids) ≡ length ids = length-map ids (tree_in t.trees) in
    copies-told (trees_at t ids) (nat_lt n (length ids)) (
      (λ h. let less = ltb-true n (length ids) h in omega (arith, less, short, long, count)),
      (λ less. lt-ltb n (length ids) (omega (arith, less, short, long, count))),
    )
