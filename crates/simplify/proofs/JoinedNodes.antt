-- The operands of `and` and `or` as nodes.
use Rattle.std.proofs.Common.{◌≡◌, ℕ, zero, suc, ◌<◌, ◌≤◌, inl, inr, Bool, true, false, not, cond, ◌||◌, filter, take, List, [], ◌∷◌, length, get_or, All, Some, refl, ap, sym, ◌∙◌, subst, arith}
use Rattle.std.specs.List.{list_any}
use Rattle.std.proofs.lemmas.List.{get_or-map, length-map}
use Rattle.std.proofs.lemmas.List.Elements.{All-head, All-tail, All-filter, All-cons}
use Rattle.std.proofs.lemmas.List.Folds.{list_any_at}
use Rattle.smt_terms.specs.declared.ids.NodeId.{NodeId}
use Rattle.smt_terms.specs.declared.op.Op.{Op}
use Rattle.smt_terms.specs.Connectives.{truth_term, negated}
use Rattle.smt_terms.specs.Equal.{term_eq}
use Rattle.smt_terms.specs.Term.{Term}
use Rattle.smt_terms.proofs.Equal.{Decides-term_eq}
use Rattle.smt_terms.specs.Rank.{sort_of}
use Rattle.smt_terms.specs.Sorts.{bool}
use Rattle.smt_terms.proofs.Tests.{alike_from, true_or_false}
use Rattle.term_table.specs.Formulas.{Formulas, IsTable, tree_in, tree, trees_at, IsNode, AreNodes}
use Rattle.term_walk.specs.FreeLists.{has_node}
use Rattle.normal_forms.specs.Nodes.{IsFormula}
use Rattle.normal_forms.proofs.MadeNodes.{all-bool}
use Rattle.simplify.specs.Folding.{is_truth, has_term, once, over_left}
use Rattle.simplify.specs.Joined.{denies, is_clash}
use Rattle.simplify.specs.Logic as logic
use Rattle.simplify.proofs.OnceNodes.{any-alike, any-once, has-number}

-- ---- clashes, operand by operand

any-either : (p q : Term → Bool) (ts : List Term) → list_any (λ t. p t || q t) ts ≡ (list_any p ts || list_any q ts)
any-either p q [] = refl
any-either p q (t ∷ ts) = ap (λ b. (p t || q t) || b) (any-either p q ts) ∙ paired (p t) (q t) (list_any p ts) (list_any q ts)
  where
    paired : (a b c d : Bool) → ((a || b) || (c || d)) ≡ ((a || c) || (b || d))
    paired true b c d = refl
    paired false true true d = refl
    paired false true false d = refl
    paired false false c d = refl

any-none : (ts : List Term) → list_any (λ _. false) ts ≡ false
any-none [] = refl
any-none (t ∷ ts) = any-none ts

-- whether some pair is related, the one or the other side first
any-turned : (r : Term → Term → Bool) (ts us : List Term) → list_any (λ u. list_any (λ t. r t u) ts) us ≡ list_any (λ t. list_any (r t) us) ts
any-turned r [] us = any-none us
any-turned r (t ∷ ts) us = any-either (r t) (λ u. list_any (λ v. r v u) ts) us ∙ ap (λ b. list_any (r t) us || b) (any-turned r ts us)

pub clash-found : (n : Bool) (ts : List Term) → list_any (is_clash n ts) ts ≡ logic.clashes n ts
clash-found n ts = any-either (is_truth (not n)) (denies ts) ts ∙ ap (λ b. list_any (is_truth (not n)) ts || b) (any-turned (λ t u. term_eq (negated t) u) ts ts)

pub clashes-once : (n : Bool) (ts : List Term) → logic.clashes n (once ts) ≡ logic.clashes n ts
clashes-once n ts = λ i. any-once (is_truth (not n)) ts i || denied i
  where
    denied : list_any (λ t. has_term (once ts) (negated t)) (once ts) ≡ list_any (λ t. has_term ts (negated t)) ts
    denied = any-once (λ t. has_term (once ts) (negated t)) ts ∙ any-alike (λ t. has_term (once ts) (negated t)) (λ t. has_term ts (negated t)) ts (λ t. any-once (term_eq (negated t)) ts)

-- ---- the neutral constant is left out

filter-swap : (p q : Term → Bool) (ts : List Term) → filter p (filter q ts) ≡ filter q (filter p ts)
filter-swap p q [] = refl
filter-swap p q (t ∷ ts) = by (p t) (q t) refl refl (filter-swap p q ts)
  where
    by : (a b : Bool) → p t ≡ a → q t ≡ b → filter p (filter q ts) ≡ filter q (filter p ts) → filter p (cond b (t ∷ filter q ts) (filter q ts)) ≡ filter q (cond a (t ∷ filter p ts) (filter p ts))
    by true true e f rest =
        ap (λ c. cond c (t ∷ filter p (filter q ts)) (filter p (filter q ts))) e ∙ ap (λ us. t ∷ us) rest
        ∙ sym (ap (λ c. cond c (t ∷ filter q (filter p ts)) (filter q (filter p ts))) f)
    by true false e f rest = rest ∙ sym (ap (λ c. cond c (t ∷ filter q (filter p ts)) (filter q (filter p ts))) f)
    by false true e f rest = ap (λ c. cond c (t ∷ filter p (filter q ts)) (filter p (filter q ts))) e ∙ rest
    by false false e f rest = rest

-- copies of what is left out are left out anyway
filter-out : (p : Term → Bool) (t : Term) (ts : List Term) → p t ≡ false → filter p (filter (λ u. not (term_eq t u)) ts) ≡ filter p ts
filter-out p t [] h = refl
filter-out p t (u ∷ us) h = by (term_eq t u) refl (filter-out p t us h)
  where
    by : (b : Bool) → term_eq t u ≡ b → filter p (filter (λ v. not (term_eq t v)) us) ≡ filter p us → filter p (cond (not b) (u ∷ filter (λ v. not (term_eq t v)) us) (filter (λ v. not (term_eq t v)) us)) ≡ cond (p u) (u ∷ filter p us) (filter p us)
    by true e rest = rest ∙ sym (ap (λ c. cond c (u ∷ filter p us) (filter p us)) (ap p (sym ((Decides-term_eq t u).0 e)) ∙ h))
    by false e rest = ap (λ vs. cond (p u) (u ∷ vs) vs) rest

pub once-filter : (p : Term → Bool) (ts : List Term) → filter p (once ts) ≡ once (filter p ts)
once-filter p [] = refl
once-filter p (t ∷ ts) = by (p t) refl (once-filter p ts)
  where
    others : List Term → List Term
    others us = filter (λ u. not (term_eq t u)) us

    by : (b : Bool) → p t ≡ b → filter p (once ts) ≡ once (filter p ts) → cond b (t ∷ filter p (filter (λ u. not (term_eq t u)) (once ts))) (filter p (filter (λ u. not (term_eq t u)) (once ts))) ≡ once (cond b (t ∷ filter p ts) (filter p ts))
    by true e rest = ap (λ us. t ∷ us) (filter-swap p (λ u. not (term_eq t u)) (once ts) ∙ ap (filter (λ u. not (term_eq t u))) rest)
    by false e rest = filter-out p t (once ts) e ∙ rest

-- ---- node by node

take-past : (ids : List NodeId) (i : ℕ) → length ids ≤ i → take i ids ≡ ids
take-past [] zero le = refl
take-past [] (suc i) le = refl
take-past (k ∷ ids) zero le = absurd (omega arith)
take-past (k ∷ ids) (suc i) le = ap (λ js. k ∷ js) (take-past ids i (omega arith))

module _ (t : Formulas) (n : Bool) (ids keys : List NodeId) (same : ids ≡ keys) (i : ℕ) where
  pub clash-there : (d : NodeId) → i < length ids → is_clash n (trees_at t keys) (tree t (get_or ids i d)) ≡ true → true ≡ logic.clashes n (trees_at t keys)
  clash-there d lt here =
      let ts = trees_at t keys in
      let count = length-map ids (tree_in t.trees) in
      let found : list_any (is_clash n ts) (trees_at t ids) ≡ true =
      list_any_at (is_clash n ts) (trees_at t ids) i (tree t d) (omega (arith, count)) (ap (is_clash n ts) (get_or-map (tree_in t.trees) ids i d (tree t d) lt) ∙ here) in
      sym (sym (clash-found n ts) ∙ ap (λ ks. list_any (is_clash n ts) (trees_at t ks)) (sym same) ∙ found)

  pub clash-nowhere : length ids ≤ i → list_any (is_clash n (trees_at t keys)) (trees_at t (take i ids)) ≡ false → false ≡ logic.clashes n (trees_at t keys)
  clash-nowhere past none =
      let ts = trees_at t keys in
      sym (sym (clash-found n ts) ∙ ap (λ ks. list_any (is_clash n ts) (trees_at t ks)) (sym same ∙ sym (take-past ids i past)) ∙ none)

-- ---- a node is the `not` of an operand

same-denied : (t u : Term) → term_eq (negated t) (negated u) ≡ term_eq u t
same-denied t u = alike_from (term_eq (negated t) (negated u)) (term_eq u t) forth back
  where
    forth : term_eq (negated t) (negated u) ≡ true → term_eq u t ≡ true
    forth e =
        let all : negated t ≡ negated u = (Decides-term_eq (negated t) (negated u)).0 e in
        let inner : u ≡ t = cc in
        (Decides-term_eq u t).1 inner

    back : term_eq u t ≡ true → term_eq (negated t) (negated u) ≡ true
    back e = (Decides-term_eq (negated t) (negated u)).1 (ap negated (sym ((Decides-term_eq u t).0 e)))

pub denies-found : (t : Formulas) → IsTable t → (ks : List NodeId) (k : NodeId) (u : Term) → AreNodes t ks → IsNode t k → u ≡ negated (tree t k) → has_node ks k ≡ denies (trees_at t ks) u
denies-found t table ks k u nodes node is =
    has-number t table ks k nodes node
    ∙ sym (ap (denies (trees_at t ks)) is ∙ any-alike (λ v. term_eq (negated v) (negated (tree t k))) (term_eq (tree t k)) (trees_at t ks) (λ v. same-denied v (tree t k)))

pub denies-none : (ts : List Term) (u : Term) → ((v : Term) → u ≡ negated v → ⊥) → denies ts u ≡ false
denies-none [] u other = refl
denies-none (t ∷ ts) u other = elim (true_or_false (term_eq (negated t) u)) [
  | inl same ↦ absurd (other t (sym ((Decides-term_eq (negated t) u).0 same)))
  | inr apart ↦ (λ i. apart i || denies-none ts u other i)
]

-- ---- what is left are formulas

abbrev pub AreBool : List Term → Type 0
AreBool ts = All (λ u. sort_of u ≡ Some bool) ts

bool-once : (ts : List Term) → AreBool ts → AreBool (once ts)
bool-once [] h = h
bool-once (t ∷ ts) h =
    All-cons (λ u. sort_of u ≡ Some bool) t (filter (λ u. not (term_eq t u)) (once ts)) (All-head (λ u. sort_of u ≡ Some bool) t ts h)
    (All-filter (λ u. not (term_eq t u)) (λ u. sort_of u ≡ Some bool) (once ts) (bool-once ts (All-tail (λ u. sort_of u ≡ Some bool) t ts h)))

are-formulas : (t : Formulas) (ks : List NodeId) → AreNodes t ks → AreBool (trees_at t ks) → All (IsFormula t) ks
are-formulas t ks nodes sorts i d lt =
    let count = length-map ks (tree_in t.trees) in
    record {
      node = nodes i d lt;
      sort = ap sort_of (sym (get_or-map (tree_in t.trees) ks i d (tree t d) lt)) ∙ sorts i (tree t d) (omega (arith, count));
    }

pub formulas-left : (t : Formulas) (p : Term → Bool) (ids kept left : List NodeId) → All (IsFormula t) ids → trees_at t kept ≡ once (trees_at t ids) → AreNodes t left → trees_at t left ≡ filter p (trees_at t kept) → All (IsFormula t) left
formulas-left t p ids kept left formulas first nodes terms =
    are-formulas t left nodes (subst AreBool (sym (terms ∙ ap (filter p) first)) (All-filter p (λ u. sort_of u ≡ Some bool) (once (trees_at t ids)) (bool-once (trees_at t ids) (all-bool t ids formulas))))

-- ---- the law

module _ (o : Op) (n : Bool) (ts us : List Term) (first : us ≡ once ts) where
  abbrev kept : List Term → Term
  kept vs = over_left o (truth_term n) (once (filter (λ t. not (is_truth n t)) vs))

  clashes-first : logic.clashes n us ≡ logic.clashes n ts
  clashes-first = ap (logic.clashes n) first ∙ clashes-once n ts

  pub junction-clashes : (u : Term) → logic.clashes n us ≡ true → u ≡ truth_term (not n) → u ≡ logic.junction o n ts
  junction-clashes u clash is = is ∙ sym (ap (λ b. cond b (truth_term (not n)) (kept ts)) (sym clashes-first ∙ clash))

  pub junction-left : (vs : List Term) (u : Term) → logic.clashes n us ≡ false → vs ≡ filter (λ t. not (is_truth n t)) us → u ≡ over_left o (truth_term n) vs → u ≡ logic.junction o n ts
  junction-left vs u clash left is =
      is
      ∙ ap (over_left o (truth_term n)) (left ∙ ap (filter (λ t. not (is_truth n t))) first ∙ once-filter (λ t. not (is_truth n t)) ts)
      ∙ sym (ap (λ b. cond b (truth_term (not n)) (kept ts)) (sym clashes-first ∙ clash))
