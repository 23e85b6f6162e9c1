-- Marks on nodes whose operands are done tell where applications stand.
use Rattle.std.proofs.Common.{◌≡◌, ℕ, zero, suc, ◌<◌, ◌==◌, inl, inr, Bool, true, false, not, cond, ◌&&◌, ◌||◌, List, [], ◌∷◌, ◌++◌, length, get_or, take, map, All, refl, ap, sym, ◌∙◌, subst, arith}
use Rattle.std.specs.List.{list_any}
use Rattle.std.proofs.lemmas.List.Elements.{All-head, All-tail}
use Rattle.smt_terms.specs.declared.ids.NodeId.{NodeId}
use Rattle.smt_terms.specs.Equal.{term_eq}
use Rattle.smt_terms.specs.Groups.{has_term}
use Rattle.smt_terms.specs.Shapes.{is_application, no_application, no_applications}
use Rattle.smt_terms.specs.Sorts.{Variable}
use Rattle.smt_terms.specs.Term.{Term, apply, quantified, Terms, none, ◌⨾◌, list, variable}
use Rattle.smt_terms.proofs.Equal.{Decides-term_eq}
use Rattle.smt_terms.proofs.Tests.{left_true, right_true, alike_from}
use Rattle.term_table.specs.Formulas.{Formulas, tree, trees_at, operands, IsNode}
use Rattle.term_walk.specs.FreeLists.{has_node}
use Rattle.term_walk.specs.Binders.{is_quantified}
use Rattle.quantifier_forms.specs.Orders.{IsOrdered}
use Rattle.quantifier_forms.proofs.Stands.{same-number, number-same, in-last}
use Rattle.ackermann.specs.Ackermann.{has_quantified_use, have_quantified_use}
use Rattle.ackermann.specs.Marking.{has_application, AreMarked, AreOperandsDone}
use Rattle.ackermann.specs.Removals.{is_use}

-- ---- a term and its operands

not-both : (a b : Bool) → not (not a && b) ≡ (a || not b)
not-both true b = refl
not-both false b = refl

any-applications : (ts : Terms) → list_any has_application (list ts) ≡ not (no_applications ts)
any-applications none = refl
any-applications (t ⨾ ts) = ap (λ b. has_application t || b) (any-applications ts) ∙ by (no_application t)
  where
    by : (b : Bool) → (not b || not (no_applications ts)) ≡ not (b && no_applications ts)
    by true = refl
    by false = refl

-- a bound variable is no application
below-quantifier : (xs : List Variable) (t : Term) → list_any has_application (map variable xs ++ t ∷ []) ≡ has_application t
below-quantifier [] t = by (has_application t)
  where
    by : (b : Bool) → (b || false) ≡ b
    by true = refl
    by false = refl
below-quantifier (x ∷ xs) t = below-quantifier xs t

pub applications-below : (u : Term) → (is_use u || list_any has_application (operands u)) ≡ has_application u
applications-below (apply h ts) = ap (λ b. is_application h ts || b) (any-applications ts) ∙ sym (not-both (is_application h ts) (no_applications ts))
applications-below (quantified q xs body) = below-quantifier xs body

any-quantified : (ts : Terms) → list_any has_quantified_use (list ts) ≡ have_quantified_use ts
any-quantified none = refl
any-quantified (t ⨾ ts) = ap (λ b. has_quantified_use t || b) (any-quantified ts)

pub quantified-below : (u : Term) → is_quantified u ≡ false → list_any has_quantified_use (operands u) ≡ has_quantified_use u
quantified-below (apply h ts) e = any-quantified ts
quantified-below (quantified q xs body) e = absurd cc

pub quantified-itself : (u : Term) → is_quantified u ≡ true → has_application u ≡ has_quantified_use u
quantified-itself (apply h ts) e = absurd cc
quantified-itself (quantified q xs body) e = refl

-- ---- marks

pub none-marked : (t : Formulas) (test : Term → Bool) (marked : List NodeId) → marked ≡ [] → AreMarked t test marked []
none-marked t test marked is = record {
  sound = λ k node e. absurd (never k (ap (λ ks. has_node ks k) (sym is) ∙ e));
  complete = λ k node e. absurd (never k e);
}
  where
    never : (k : NodeId) → has_node [] k ≡ true → ⊥
    never k e = absurd cc

module _ (t : Formulas) (test : Term → Bool) where
  same-tree : (j k : NodeId) → j.0 ≡ k.0 → tree t j ≡ tree t k
  same-tree j k e = ap (λ n. tree t (record { 0 = n })) e

  pub not-marked : (marked done : List NodeId) (id : NodeId) → AreMarked t test marked done → test (tree t id) ≡ false → AreMarked t test marked (done ++ id ∷ [])
  not-marked marked done id are fails = record {
    sound = are.sound;
    complete = λ k node e passes. elim (in-last done id k e) [
      | inl before ↦ are.complete k node before passes
      | inr last ↦ absurd (never (sym passes ∙ ap test (same-tree k id last) ∙ fails))
    ];
  }
    where
      never : true ≡ false → ⊥
      never e = absurd cc

  -- after a node comes to a set of the kit
  pub one-marked : (old new done : List NodeId) (id : NodeId) → AreMarked t test old done → test (tree t id) ≡ true → ((k : NodeId) → has_node new k ≡ cond (id.0 == k.0) true (has_node old k)) → AreMarked t test new (done ++ id ∷ [])
  one-marked old new done id are passes told = record {
    sound = λ k node e. by k node (id.0 == k.0) refl (sym (told k) ∙ e);
    complete = λ k node e holds. told k ∙ elim (in-last done id k e) [
      | inl before ↦ there (id.0 == k.0) (has_node old k) (are.complete k node before holds)
      | inr last ↦ ap (λ b. cond b true (has_node old k)) (number-same id.0 k.0 (sym last))
    ];
  }
    where
      there : (b c : Bool) → c ≡ true → cond b true c ≡ true
      there true c e = refl
      there false c e = e

      by : (k : NodeId) → IsNode t k → (b : Bool) → (id.0 == k.0) ≡ b → cond b true (has_node old k) ≡ true → test (tree t k) ≡ true
      by k node true e f = ap test (sym (same-tree id k (same-number id.0 k.0 e))) ∙ passes
      by k node false e f = are.sound k node f

  pub told-mark : (marked done : List NodeId) (k : NodeId) → AreMarked t test marked done → IsNode t k → has_node done k ≡ true → has_node marked k ≡ test (tree t k)
  told-mark marked done k are node there = alike_from (has_node marked k) (test (tree t k)) (are.sound k node) (are.complete k node there)

  -- of the operands of a node
  pub any-marked : (marked done ks : List NodeId) → AreMarked t test marked done → All (IsNode t) ks → All (λ k. has_node done k ≡ true) ks → list_any (has_node marked) ks ≡ list_any test (trees_at t ks)
  any-marked marked done [] are nodes there = refl
  any-marked marked done (k ∷ ks) are nodes there =
      let first = told-mark marked done k are (All-head (IsNode t) k ks nodes) (All-head (λ j. has_node done j ≡ true) k ks there) in
      let rest = any-marked marked done ks are (All-tail (IsNode t) k ks nodes) (All-tail (λ j. has_node done j ≡ true) k ks there) in
      λ i. first i || rest i

  among-trees : (ks : List NodeId) → All (λ k. has_term (trees_at t ks) (tree t k) ≡ true) ks
  among-trees ks i d lt = by ks i lt
    where
      by : (js : List NodeId) (i : ℕ) → i < length js → has_term (trees_at t js) (tree t (get_or js i d)) ≡ true
      by [] i lt = absurd (omega arith)
      by (j ∷ js) zero lt = left_true (term_eq (tree t j) (tree t j)) (has_term (trees_at t js) (tree t j)) ((Decides-term_eq (tree t j) (tree t j)).1 refl)
      by (j ∷ js) (suc i) lt = right_true (term_eq (tree t j) (tree t (get_or js i d))) (has_term (trees_at t js) (tree t (get_or js i d))) (by js i (omega arith))

  pub operands-marked : (marked done ks : List NodeId) (id : NodeId) → AreMarked t test marked done → IsNode t id → AreOperandsDone t done id → trees_at t ks ≡ operands (tree t id) → All (λ k. k.0 < id.0) ks → list_any (has_node marked) ks ≡ list_any test (operands (tree t id))
  operands-marked marked done ks id are here ready same below =
      let nodes : All (IsNode t) ks = λ i d lt. (let b = below i d lt in omega arith) in
      any-marked marked done ks are nodes (λ i d lt. ready (get_or ks i d) (nodes i d lt) (ap (λ us. has_term us (tree t (get_or ks i d))) (sym same) ∙ among-trees ks i d lt))
      ∙ ap (list_any test) same

-- ---- whether one of some nodes is marked

pub none-of : (p : NodeId → Bool) (ks : List NodeId) → ((i : ℕ) (d : NodeId) → i < length ks → p (get_or ks i d) ≡ false) → list_any p ks ≡ false
none-of p [] each = refl
none-of p (k ∷ ks) each = ap (λ b. b || list_any p ks) (each 0 k (omega arith)) ∙ none-of p ks (λ i d lt. each (suc i) d (omega arith))

pub one-of : (p : NodeId → Bool) (ks : List NodeId) (i : ℕ) (d : NodeId) → i < length ks → p (get_or ks i d) ≡ true → list_any p ks ≡ true
one-of p [] i d lt holds = absurd (omega arith)
one-of p (k ∷ ks) zero d lt holds = left_true (p k) (list_any p ks) holds
one-of p (k ∷ ks) (suc i) d lt holds = right_true (p k) (list_any p ks) (one-of p ks i d (omega arith) holds)

-- ---- an order of all nodes

pub before-all : (t : Formulas) (root : NodeId) (ks : List NodeId) → IsOrdered t (λ _. false) root ks → (i : ℕ) (d : NodeId) → i < length ks → AreOperandsDone t (take i ks) (get_or ks i d)
before-all t root ks order i d lt k node there = elim (order.each i d k lt node there) [
  | inl known ↦ absurd (never known)
  | inr before ↦ before
]
  where
    never : false ≡ true → ⊥
    never e = absurd cc

pub root-there : (t : Formulas) (root : NodeId) (ks : List NodeId) → IsOrdered t (λ _. false) root ks → has_node ks root ≡ true
root-there t root ks order = elim order.root_too [
  | inl known ↦ absurd (never known)
  | inr there ↦ there
]
  where
    never : false ≡ true → ⊥
    never e = absurd cc

pub before-each : (t : Formulas) (root : NodeId) (ks js : List NodeId) → js ≡ ks → IsOrdered t (λ _. false) root ks → (i : ℕ) (d : NodeId) → i < length js → AreOperandsDone t (take i js) (get_or js i d)
before-each t root ks js same order = subst (λ (ls : List NodeId). (i : ℕ) (d : NodeId) → i < length ls → AreOperandsDone t (take i ls) (get_or ls i d)) (sym same) (before-all t root ks order)
