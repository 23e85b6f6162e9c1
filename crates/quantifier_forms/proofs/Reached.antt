-- What is reached through `and` and `or` alone, as it is listed: each term stands behind its operands, and the first
-- quantified one is the leftmost.
use Rattle.std.proofs.Common.{◌≡◌, ℕ, zero, suc, ◌<◌, ◌⊎◌, inl, inr, Bool, true, false, cond, ◌||◌, ◌==◌, List, [], ◌∷◌, ◌++◌, length, get_or, take, All, Option, Some, None, refl, ap, sym, ◌∙◌, subst, arith, length-append}
use Rattle.std.proofs.Math.ListN.{get_or-append}
use Rattle.std.proofs.Math.Seq.{get_or-append_seam, take-append_seam}
use Rattle.std.proofs.lemmas.List.{get_or-map, length-map, take-append-le}
use Rattle.std.proofs.lemmas.List.Elements.{All-head, All-tail, All-take}
use Rattle.std.proofs.lemmas.Bool.Decides.{eqb_tells}
use Rattle.smt_terms.specs.declared.ids.NodeId.{NodeId}
use Rattle.smt_terms.specs.Connectives.{Kind, conjunction, disjunction, kind_of}
use Rattle.smt_terms.specs.Equal.{term_eq}
use Rattle.smt_terms.specs.Groups.{has_term}
use Rattle.smt_terms.specs.Term.{Term, apply, quantified, Terms, none, ◌⨾◌, list, terms}
use Rattle.smt_terms.proofs.Equal.{Decides-term_eq}
use Rattle.smt_terms.proofs.Tests.{either_true, left_true, right_true}
use Rattle.term_table.specs.Formulas.{Formulas, no_tree, tree, tree_in, trees_at, operands, IsNode, AreNodes, IsTable}
use Rattle.term_table.proofs.Binding.{earlier_terms}
use Rattle.term_walk.specs.FreeLists.{has_node}
use Rattle.term_walk.specs.Walking.{GrowsTo}
use Rattle.term_walk.proofs.Members.{has-append}
use Rattle.term_subst.proofs.Growing.{trees-grow}
use Rattle.normal_forms.specs.Prenex.{Quantified, through, or_next, leftmost, leftmost_of}
use Rattle.term_walk.specs.Binders.{is_quantified}
use Rattle.quantifier_forms.specs.Listing.{behind, listed_variables, listed, listed_each}
use Rattle.quantifier_forms.specs.Reaching.{is_joint, is_junction, parts_of, quantified_itself, first_quantified, IsBare, AreBare, AreReached}
use Rattle.quantifier_forms.proofs.Rebuilt.{terms-list}
use Rattle.quantifier_forms.proofs.Stands.{same-number, term-among}
use Rattle.quantifier_forms.proofs.Sweeps.{tree-stays, node-stays}

-- ---- the first of two choices

pub or-none : (o : Option Quantified) → or_next o None ≡ o
or-none None = refl
or-none (Some f) = refl

or-grouped : (o p q : Option Quantified) → or_next o (or_next p q) ≡ or_next (or_next o p) q
or-grouped None p q = refl
or-grouped (Some f) p q = refl

pub none-both : (o p : Option Quantified) → or_next o p ≡ None → (o ≡ None) × (p ≡ None)
none-both None p e = (refl, e)
none-both (Some f) p e = absurd cc

pub through-none : (k : Kind) → through k None ≡ None
through-none conjunction = refl
through-none disjunction = refl
through-none _ = refl

joint-through : (k : Kind) (o : Option Quantified) → is_joint k ≡ true → through k o ≡ o
joint-through conjunction o e = refl
joint-through disjunction o e = refl
joint-through _ o e = absurd cc

apart-through : (k : Kind) (o : Option Quantified) → is_joint k ≡ false → through k o ≡ None
apart-through conjunction o e = absurd cc
apart-through disjunction o e = absurd cc
apart-through _ o e = refl

first-append : (ts us : List Term) → first_quantified (ts ++ us) ≡ or_next (first_quantified ts) (first_quantified us)
first-append [] us = refl
first-append (t ∷ ts) us = ap (or_next (quantified_itself t)) (first-append ts us) ∙ or-grouped (quantified_itself t) (first_quantified ts) (first_quantified us)

itself-apart : (t : Term) → is_junction t ≡ false → leftmost t ≡ quantified_itself t
itself-apart (apply h ts) e = apart-through (kind_of h ts) (leftmost_of ts) e
itself-apart (quantified q xs body) e = refl

itself-joint : (t : Term) → is_junction t ≡ true → quantified_itself t ≡ None
itself-joint (apply h ts) e = refl
itself-joint (quantified q xs body) e = absurd cc

module _ (p : Term → Bool) where
  -- each operand of an `and` or an `or` passes the test, or stands before
  abbrev pub Ordered : List Term → Type 0
  Ordered ts = (i : ℕ) → i < length ts → is_junction (get_or ts i no_tree) ≡ true → (o : Term) → has_term (operands (get_or ts i no_tree)) o ≡ true → (p o ≡ true) ⊎ (has_term (take i ts) o ≡ true)

  abbrev pub Covers : List Term → Term → Type 0
  Covers ts t = (p t ≡ true) ⊎ (has_term ts t ≡ true)

  -- what is listed behind these terms
  pub record Follows (old new : List Term) : Type 0 where
    pub ordered : Ordered old → Ordered new
    pub more : (t : Term) → has_term old t ≡ true → has_term new t ≡ true

  follows-itself : (ts : List Term) → Follows ts ts
  follows-itself ts = record { ordered = λ o. o; more = λ t e. e }

  follows-on : (a b c : List Term) → Follows a b → Follows b c → Follows a c
  follows-on a b c f g = record { ordered = λ o. g.ordered (f.ordered o); more = λ t e. g.more t (f.more t e) }

  covers-on : (a b : List Term) (t : Term) → Follows a b → Covers a t → Covers b t
  covers-on a b t f (inl e) = inl e
  covers-on a b t f (inr e) = inr (f.more t e)

  one-behind : (ts : List Term) (t : Term) → (is_junction t ≡ true → (o : Term) → has_term (operands t) o ≡ true → Covers ts o) → Follows ts (ts ++ t ∷ [])
  one-behind ts t operand = record {
    ordered = λ ordered i lt joint o e. elim (eqb_tells i (length ts)) [
      | inl same ↦ last i same.1 joint o e
      | inr apart ↦ earlier ordered i (let n = length-append ts (t ∷ []) in let a = apart.1 in omega (arith, n)) joint o e
    ];
    more = λ u e. has-append ts (t ∷ []) u ∙ left_true (has_term ts u) (has_term (t ∷ []) u) e;
  }
    where
      last : (i : ℕ) → i ≡ length ts → is_junction (get_or (ts ++ t ∷ []) i no_tree) ≡ true → (o : Term) → has_term (operands (get_or (ts ++ t ∷ []) i no_tree)) o ≡ true → (p o ≡ true) ⊎ (has_term (take i (ts ++ t ∷ [])) o ≡ true)
      last i same joint o e =
          let here : get_or (ts ++ t ∷ []) i no_tree ≡ t = ap (λ j. get_or (ts ++ t ∷ []) j no_tree) same ∙ get_or-append_seam ts t [] no_tree in
          let before : take i (ts ++ t ∷ []) ≡ ts = ap (λ j. take j (ts ++ t ∷ [])) same ∙ take-append_seam ts (t ∷ []) in
          elim (operand (ap is_junction (sym here) ∙ joint) o (ap (λ u. has_term (operands u) o) (sym here) ∙ e)) [
            | inl known ↦ inl known
            | inr there ↦ inr (ap (λ us. has_term us o) before ∙ there)
          ]

      earlier : Ordered ts → (i : ℕ) → i < length ts → is_junction (get_or (ts ++ t ∷ []) i no_tree) ≡ true → (o : Term) → has_term (operands (get_or (ts ++ t ∷ []) i no_tree)) o ≡ true → (p o ≡ true) ⊎ (has_term (take i (ts ++ t ∷ [])) o ≡ true)
      earlier ordered i lt joint o e =
          let same : get_or (ts ++ t ∷ []) i no_tree ≡ get_or ts i no_tree = get_or-append ts (t ∷ []) no_tree i lt in
          elim (ordered i lt (ap is_junction (sym same) ∙ joint) o (ap (λ u. has_term (operands u) o) (sym same) ∙ e)) [
            | inl known ↦ inl known
            | inr there ↦ inr (ap (λ us. has_term us o) (take-append-le i ts (t ∷ []) (omega arith)) ∙ there)
          ]

  -- the operands of an `and` or an `or` are listed before it
  behind-follows : (ts below : List Term) (t : Term) → (is_junction t ≡ true → Follows ts below × ((o : Term) → has_term (operands t) o ≡ true → Covers below o)) → Follows ts (behind p is_junction ts below t) × Covers (behind p is_junction ts below t) t
  behind-follows ts below t operand = by (p t || has_term ts t) refl
    where
      itself-last : (cs : List Term) → Covers (cs ++ t ∷ []) t
      itself-last cs = inr (has-append cs (t ∷ []) t ∙ right_true (has_term cs t) (has_term (t ∷ []) t) (left_true (term_eq t t) false ((Decides-term_eq t t).1 refl)))

      new : (j : Bool) → is_junction t ≡ j → Follows ts (cond j below ts ++ t ∷ []) × Covers (cond j below ts ++ t ∷ []) t
      new true e = let r = operand e in (follows-on ts below (below ++ t ∷ []) r.0 (one-behind below t (λ joint. r.1)), itself-last below)
      new false e = (one-behind ts t (λ joint. absurd cc), itself-last ts)

      by : (b : Bool) → (p t || has_term ts t) ≡ b → Follows ts (cond b ts (cond (is_junction t) below ts ++ t ∷ [])) × Covers (cond b ts (cond (is_junction t) below ts ++ t ∷ [])) t
      by true e = (follows-itself ts, either_true (p t) (has_term ts t) e)
      by false e = new (is_junction t) refl

  none-operand : (o : Term) (ts : List Term) → has_term [] o ≡ true → Covers ts o
  none-operand o ts e = absurd cc

  first-or-other : (u : Term) (us : List Term) (o : Term) (ts : List Term) → Covers ts u → ((v : Term) → has_term us v ≡ true → Covers ts v) → has_term (u ∷ us) o ≡ true → Covers ts o
  first-or-other u us o ts first others e = elim (either_true (term_eq u o) (has_term us o) e) [
    | inl same ↦ subst (Covers ts) ((Decides-term_eq u o).0 same) first
    | inr there ↦ others o there
  ]

  mutual
    pub listed-follows : (t : Term) (ts : List Term) → Follows ts (listed p is_junction t ts) × Covers (listed p is_junction t ts) t
    listed-follows (apply h us) ts = behind-follows ts (listed_each p is_junction us ts) (apply h us) (λ joint. each-follows us ts)
    listed-follows (quantified q xs body) ts = behind-follows ts (listed p is_junction body (listed_variables p is_junction xs ts)) (quantified q xs body) (λ joint. absurd cc)

    each-follows : (us : Terms) (ts : List Term) → Follows ts (listed_each p is_junction us ts) × ((o : Term) → has_term (list us) o ≡ true → Covers (listed_each p is_junction us ts) o)
    each-follows none ts = (follows-itself ts, λ o e. none-operand o ts e)
    each-follows (u ⨾ us) ts =
        let one = listed-follows u ts in
        let rest = each-follows us (listed p is_junction u ts) in (
          follows-on ts (listed p is_junction u ts) (listed_each p is_junction us (listed p is_junction u ts)) one.0 rest.0,
          λ o e. first-or-other u (list us) o (listed_each p is_junction us (listed p is_junction u ts)) (covers-on (listed p is_junction u ts) (listed_each p is_junction us (listed p is_junction u ts)) u rest.0 one.1) rest.1 e,
        )

  -- ---- the first quantified one

  -- where none of these terms is quantified, none is reached from one of them
  abbrev pub Sees : List Term → Type 0
  Sees ts = (u : Term) → has_term ts u ≡ true → first_quantified ts ≡ None → leftmost u ≡ None

  abbrev pub Finds : List Term → List Term → Option Quantified → Type 0
  Finds old new o = (first_quantified new ≡ or_next (first_quantified old) o) × Sees new

  module _ (bare : (u : Term) → p u ≡ true → leftmost u ≡ None) where
    behind-finds : (ts below : List Term) (t : Term) → Sees ts → (is_junction t ≡ true → Finds ts below (leftmost t)) → Finds ts (behind p is_junction ts below t) (leftmost t)
    behind-finds ts below t sees operand = by (p t || has_term ts t) refl
      where
        nothing-new : leftmost t ≡ None → first_quantified ts ≡ or_next (first_quantified ts) (leftmost t)
        nothing-new e = sym (or-none (first_quantified ts)) ∙ ap (or_next (first_quantified ts)) (sym e)

        listed-before : (o : Option Quantified) → first_quantified ts ≡ o → has_term ts t ≡ true → o ≡ or_next o (leftmost t)
        listed-before (Some f) e there = refl
        listed-before None e there = sym (sees t there e)

        -- the term behind others, which with it have the first one
        last : (cs : List Term) → Sees cs → first_quantified (cs ++ t ∷ []) ≡ or_next (first_quantified ts) (leftmost t) → Sees (cs ++ t ∷ [])
        last cs before first u there none_first = elim (either_true (has_term cs u) (has_term (t ∷ []) u) (sym (has-append cs (t ∷ []) u) ∙ there)) [
          | inl earlier ↦ before u earlier (none-both (first_quantified cs) (first_quantified (t ∷ [])) (sym (first-append cs (t ∷ [])) ∙ none_first)).0
          | inr here ↦ elim (either_true (term_eq t u) false here) [
            | inl same ↦ ap leftmost (sym ((Decides-term_eq t u).0 same)) ∙ (none-both (first_quantified ts) (leftmost t) (sym first ∙ none_first)).1
            | inr never ↦ absurd cc
          ]
        ]

        new : (j : Bool) → is_junction t ≡ j → Finds ts (cond j below ts ++ t ∷ []) (leftmost t)
        new true e =
            let r = operand e in
            let first : first_quantified (below ++ t ∷ []) ≡ or_next (first_quantified ts) (leftmost t) =
            first-append below (t ∷ []) ∙ ap (λ o. or_next (first_quantified below) (or_next o None)) (itself-joint t e) ∙ or-none (first_quantified below) ∙ r.0 in
            (first, last below r.1 first)
        new false e =
            let first : first_quantified (ts ++ t ∷ []) ≡ or_next (first_quantified ts) (leftmost t) =
            first-append ts (t ∷ []) ∙ ap (or_next (first_quantified ts)) (or-none (quantified_itself t) ∙ sym (itself-apart t e)) in
            (first, last ts sees first)

        by : (b : Bool) → (p t || has_term ts t) ≡ b → Finds ts (cond b ts (cond (is_junction t) below ts ++ t ∷ [])) (leftmost t)
        by true e = elim (either_true (p t) (has_term ts t) e) [
          | inl known ↦ (nothing-new (bare t known), sees)
          | inr there ↦ (listed-before (first_quantified ts) refl there, sees)
        ]
        by false e = new (is_junction t) refl

    mutual
      pub listed-finds : (t : Term) (ts : List Term) → Sees ts → Finds ts (listed p is_junction t ts) (leftmost t)
      listed-finds (apply h us) ts sees =
          behind-finds ts (listed_each p is_junction us ts) (apply h us) sees
          (λ joint. let r = each-finds us ts sees in (r.0 ∙ ap (or_next (first_quantified ts)) (sym (joint-through (kind_of h us) (leftmost_of us) joint)), r.1))
      listed-finds (quantified q xs body) ts sees = behind-finds ts (listed p is_junction body (listed_variables p is_junction xs ts)) (quantified q xs body) sees (λ joint. absurd cc)

      each-finds : (us : Terms) (ts : List Term) → Sees ts → Finds ts (listed_each p is_junction us ts) (leftmost_of us)
      each-finds none ts sees = (sym (or-none (first_quantified ts)), sees)
      each-finds (u ⨾ us) ts sees =
          let one = listed-finds u ts sees in
          let rest = each-finds us (listed p is_junction u ts) one.1 in
          (rest.0 ∙ ap (λ o. or_next o (leftmost_of us)) one.0 ∙ sym (or-grouped (first_quantified ts) (leftmost u) (leftmost_of us)), rest.1)

-- ---- nodes that are known to be bare

pub at-bare : (t : Formulas) (bs : List NodeId) (k : NodeId) → AreBare t bs → has_node bs k ≡ true → IsBare t k
at-bare t [] k are e = absurd cc
at-bare t (b ∷ bs) k are e = elim (either_true (k.0 == b.0) (has_node bs k) e) [
  | inl here ↦ (let same = same-number k.0 b.0 here in let key : b ≡ k = (λ i. record { 0 = sym same i }) in subst (IsBare t) key (All-head (IsBare t) b bs are))
  | inr there ↦ at-bare t bs k (All-tail (IsBare t) b bs are) there
]

bare-nodes : (t : Formulas) (bs : List NodeId) → AreBare t bs → All (IsNode t) bs
bare-nodes t bs are i d lt = (are i d lt).node

term-bare : (t : Formulas) (bs : List NodeId) → AreBare t bs → (u : Term) → has_term (trees_at t bs) u ≡ true → leftmost u ≡ None
term-bare t [] are u e = absurd cc
term-bare t (b ∷ bs) are u e = elim (either_true (term_eq (tree t b) u) (has_term (trees_at t bs) u) e) [
  | inl same ↦ ap leftmost (sym ((Decides-term_eq (tree t b) u).0 same)) ∙ (All-head (IsBare t) b bs are).none_reached
  | inr there ↦ term-bare t bs (All-tail (IsBare t) b bs are) u there
]

-- the test on terms
abbrev pub bare_terms : Formulas → List NodeId → Term → Bool
bare_terms t bs u = has_term (trees_at t bs) u

pub bare-told : (t : Formulas) (bs : List NodeId) → IsTable t → AreBare t bs → (k : NodeId) → IsNode t k → has_node bs k ≡ bare_terms t bs (tree t k)
bare-told t bs table are k node = sym (term-among t table k node bs (bare-nodes t bs are))

module _ (t : Formulas) (bs : List NodeId) (root : NodeId) (ks : List NodeId) (table : IsTable t) (are : AreBare t bs) (here : IsNode t root) (nodes : AreNodes t ks) (same : trees_at t ks ≡ listed (bare_terms t bs) is_junction (tree t root) []) where
  follows : Follows (bare_terms t bs) [] (listed (bare_terms t bs) is_junction (tree t root) []) × Covers (bare_terms t bs) (listed (bare_terms t bs) is_junction (tree t root) []) (tree t root)
  follows = listed-follows (bare_terms t bs) (tree t root) []

  pub are-reached : AreReached t bs root ks
  are-reached = record {
    nodes = nodes;
    each = λ i d k lt joint below e.
        let inside = nodes i d lt in
        let node : IsNode t k = omega arith in
        let count : length (trees_at t ks) ≡ length ks = length-map ks (tree_in t.trees) in
        let ordered : Ordered (bare_terms t bs) (trees_at t ks) = subst (Ordered (bare_terms t bs)) (sym same) (follows.0.ordered (λ j l. absurd (omega arith))) in
        let at : get_or (trees_at t ks) i no_tree ≡ tree t (get_or ks i d) = get_or-map (tree_in t.trees) ks i d no_tree lt in
        elim (ordered i (omega (arith, count)) (ap is_junction at ∙ joint) (tree t k) (ap (λ u. has_term (operands u) (tree t k)) at ∙ e)) [
          | inl known ↦ inl (bare-told t bs table are k node ∙ known)
          | inr there ↦ inr (sym (term-among t table k node (take i ks) (All-take (IsNode t) i ks nodes)) ∙ ap (λ us. has_term us (tree t k)) (sym (earlier_terms t ks i)) ∙ there)
        ];
    root_too = elim follows.1 [
      | inl known ↦ inl (bare-told t bs table are root here ∙ known)
      | inr there ↦ inr (sym (term-among t table root here ks nodes) ∙ ap (λ us. has_term us (tree t root)) same ∙ there)
    ];
    first = ap first_quantified same ∙ (listed-finds (bare_terms t bs) (term-bare t bs are) (tree t root) [] (λ u e n. absurd cc)).0;
  }

-- it stays so as the table gains
pub reached-stay : (old new : Formulas) (bs : List NodeId) (root : NodeId) (ks : List NodeId) → GrowsTo old new → IsNode old root → AreReached old bs root ks → AreReached new bs root ks
reached-stay old new bs root ks grows here h = record {
  nodes = λ i d lt. node-stays old new (get_or ks i d) grows (h.nodes i d lt);
  each = λ i d k lt joint below e.
      let id = get_or ks i d in
      let inside = h.nodes i d lt in
      let node : IsNode old k = omega arith in
      let own = tree-stays old new id grows inside in
      h.each i d k lt (ap is_junction (sym own) ∙ joint) below ((λ j. has_term (operands (sym own j)) (sym (tree-stays old new k grows node) j)) ∙ e);
  root_too = h.root_too;
  first = ap first_quantified (trees-grow old new grows ks h.nodes) ∙ h.first ∙ ap leftmost (sym (tree-stays old new root grows here));
}

-- ---- the first of some nodes

pub first-none : (t : Formulas) (ks : List NodeId) → ((i : ℕ) (d : NodeId) → i < length ks → is_quantified (tree t (get_or ks i d)) ≡ false) → first_quantified (trees_at t ks) ≡ None
first-none t [] plain = refl
first-none t (k ∷ ks) plain = λ i. or_next (itself-none (tree t k) (plain 0 k (omega arith)) i) (first-none t ks (λ j d lt. plain (suc j) d (omega arith)) i)
  where
    itself-none : (u : Term) → is_quantified u ≡ false → quantified_itself u ≡ None
    itself-none (apply h ts) e = refl
    itself-none (quantified q xs body) e = absurd cc

pub first-at : (t : Formulas) (ks : List NodeId) (i : ℕ) (d : NodeId) → i < length ks → ((j : ℕ) (e : NodeId) → j < i → is_quantified (tree t (get_or ks j e)) ≡ false) → is_quantified (tree t (get_or ks i d)) ≡ true
    → first_quantified (trees_at t ks) ≡ Some (parts_of (tree t (get_or ks i d)))
first-at t [] i d lt plain is = absurd (omega arith)
first-at t (k ∷ ks) zero d lt plain is = by (tree t k) is
  where
    by : (u : Term) → is_quantified u ≡ true → or_next (quantified_itself u) (first_quantified (trees_at t ks)) ≡ Some (parts_of u)
    by (quantified q xs body) e = refl
    by (apply h ts) e = absurd cc
first-at t (k ∷ ks) (suc i) d lt plain is =
    by (tree t k) (plain 0 k (omega arith)) ∙ first-at t ks i d (omega arith) (λ j e l. plain (suc j) e (omega arith)) is
  where
    by : (u : Term) → is_quantified u ≡ false → or_next (quantified_itself u) (first_quantified (trees_at t ks)) ≡ first_quantified (trees_at t ks)
    by (apply h ts) e = refl
    by (quantified q xs body) e = absurd cc

-- ---- a node whose operands are bare

operands-bare : (t : Formulas) (bs ks : List NodeId) → AreBare t bs → ((i : ℕ) (d : NodeId) → i < length ks → has_node bs (get_or ks i d) ≡ true) → leftmost_of (terms (trees_at t ks)) ≡ None
operands-bare t bs [] are each = refl
operands-bare t bs (k ∷ ks) are each =
    let first : leftmost (tree t k) ≡ None = (at-bare t bs k are (each 0 k (omega arith))).none_reached in
    let rest = operands-bare t bs ks are (λ i d lt. each (suc i) d (omega arith)) in
    λ i. or_next (first i) (rest i)

pub bare-over : (t : Formulas) (u : Term) (bs ks : List NodeId) → is_quantified u ≡ false → AreBare t bs → trees_at t ks ≡ operands u → ((i : ℕ) (d : NodeId) → i < length ks → has_node bs (get_or ks i d) ≡ true) → leftmost u ≡ None
bare-over t (quantified q xs body) bs ks plain are same each = absurd cc
bare-over t (apply h ts) bs ks plain are same each =
    ap (through (kind_of h ts)) (ap leftmost_of (sym (terms-list ts)) ∙ ap (λ us. leftmost_of (terms us)) (sym same) ∙ operands-bare t bs ks are each) ∙ through-none (kind_of h ts)

pub apart-bare : (u : Term) → is_quantified u ≡ false → is_junction u ≡ false → leftmost u ≡ None
apart-bare (apply h ts) plain e = apart-through (kind_of h ts) (leftmost_of ts) e
apart-bare (quantified q xs body) plain e = absurd cc
