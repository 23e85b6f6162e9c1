-- A listing at which all operands are looked at stands in an order in which each term is behind its operands.
use Rattle.std.proofs.Common.{◌≡◌, ℕ, zero, suc, ◌<◌, ◌⊎◌, inl, inr, Bool, true, false, cond, ◌||◌, List, [], ◌∷◌, ◌++◌, length, map, get_or, take, refl, ap, sym, ◌∙◌, subst, arith, length-append}
use Rattle.std.proofs.Math.ListN.{get_or-append}
use Rattle.std.proofs.Math.Seq.{get_or-append_seam, take-append_seam}
use Rattle.std.proofs.lemmas.List.{get_or-map, length-map, take-append-le}
use Rattle.std.proofs.lemmas.List.Elements.{All-head, All-tail, All-cons}
use Rattle.std.proofs.lemmas.Bool.Decides.{eqb_tells}
use Rattle.smt_terms.specs.declared.ids.NodeId.{NodeId}
use Rattle.smt_terms.specs.Equal.{term_eq}
use Rattle.smt_terms.specs.Groups.{has_term}
use Rattle.smt_terms.specs.Sorts.{Variable}
use Rattle.smt_terms.specs.Term.{Term, apply, quantified, Terms, none, ◌⨾◌, list, variable}
use Rattle.smt_terms.proofs.Equal.{Decides-term_eq}
use Rattle.smt_terms.proofs.Tests.{either_true, left_true, right_true}
use Rattle.term_table.specs.Formulas.{Formulas, no_tree, tree, tree_in, trees_at, operands, IsNode, AreNodes, IsTable}
use Rattle.term_walk.specs.FreeLists.{has_node}
use Rattle.term_walk.proofs.Members.{has-append}
use Rattle.quantifier_forms.specs.Listing.{behind, listed_variables, listed, listed_each}
use Rattle.quantifier_forms.specs.Orders.{IsOrdered}
use Rattle.quantifier_forms.proofs.Stands.{term-among}

-- all operands are looked at
abbrev pub all : Term → Bool
all _ = true

module _ (p opens : Term → Bool) where
  -- each operand of what is opened passes the test, or stands before
  abbrev pub Ordered : List Term → Type 0
  Ordered ts = (i : ℕ) → i < length ts → opens (get_or ts i no_tree) ≡ true → (o : Term) → has_term (operands (get_or ts i no_tree)) o ≡ true → (p o ≡ true) ⊎ (has_term (take i ts) o ≡ true)

  abbrev pub Covers : List Term → Term → Type 0
  Covers ts t = (p t ≡ true) ⊎ (has_term ts t ≡ true)

  -- what is listed behind these terms
  pub record Follows (old new : List Term) : Type 0 where
    pub ordered : Ordered old → Ordered new
    pub more : (t : Term) → has_term old t ≡ true → has_term new t ≡ true

  follows-itself : (ts : List Term) → Follows ts ts
  follows-itself ts = record { ordered = λ o. o; more = λ t e. e }

  follows-on : (a b c : List Term) → Follows a b → Follows b c → Follows a c
  follows-on a b c f g = record { ordered = λ o. g.ordered (f.ordered o); more = λ t e. g.more t (f.more t e) }

  covers-on : (a b : List Term) (t : Term) → Follows a b → Covers a t → Covers b t
  covers-on a b t f (inl e) = inl e
  covers-on a b t f (inr e) = inr (f.more t e)

  one-behind : (ts : List Term) (t : Term) → (opens t ≡ true → (o : Term) → has_term (operands t) o ≡ true → Covers ts o) → Follows ts (ts ++ t ∷ [])
  one-behind ts t operand = record {
    ordered = λ ordered i lt looked o e. elim (eqb_tells i (length ts)) [
      | inl same ↦ last i same.1 looked o e
      | inr apart ↦ earlier ordered i (let n = length-append ts (t ∷ []) in let a = apart.1 in omega (arith, n)) looked o e
    ];
    more = λ u e. has-append ts (t ∷ []) u ∙ left_true (has_term ts u) (has_term (t ∷ []) u) e;
  }
    where
      last : (i : ℕ) → i ≡ length ts → opens (get_or (ts ++ t ∷ []) i no_tree) ≡ true → (o : Term) → has_term (operands (get_or (ts ++ t ∷ []) i no_tree)) o ≡ true → (p o ≡ true) ⊎ (has_term (take i (ts ++ t ∷ [])) o ≡ true)
      last i same looked o e =
          let here : get_or (ts ++ t ∷ []) i no_tree ≡ t = ap (λ j. get_or (ts ++ t ∷ []) j no_tree) same ∙ get_or-append_seam ts t [] no_tree in
          let before : take i (ts ++ t ∷ []) ≡ ts = ap (λ j. take j (ts ++ t ∷ [])) same ∙ take-append_seam ts (t ∷ []) in
          elim (operand (ap opens (sym here) ∙ looked) o (ap (λ u. has_term (operands u) o) (sym here) ∙ e)) [
            | inl known ↦ inl known
            | inr there ↦ inr (ap (λ us. has_term us o) before ∙ there)
          ]

      earlier : Ordered ts → (i : ℕ) → i < length ts → opens (get_or (ts ++ t ∷ []) i no_tree) ≡ true → (o : Term) → has_term (operands (get_or (ts ++ t ∷ []) i no_tree)) o ≡ true → (p o ≡ true) ⊎ (has_term (take i (ts ++ t ∷ [])) o ≡ true)
      earlier ordered i lt looked o e =
          let same : get_or (ts ++ t ∷ []) i no_tree ≡ get_or ts i no_tree = get_or-append ts (t ∷ []) no_tree i lt in
          elim (ordered i lt (ap opens (sym same) ∙ looked) o (ap (λ u. has_term (operands u) o) (sym same) ∙ e)) [
            | inl known ↦ inl known
            | inr there ↦ inr (ap (λ us. has_term us o) (take-append-le i ts (t ∷ []) (omega arith)) ∙ there)
          ]

  -- a term is listed behind what is listed of its operands
  behind-follows : (ts below : List Term) (t : Term) → Follows ts below → ((o : Term) → has_term (operands t) o ≡ true → Covers below o) → Follows ts (behind p opens ts below t) × Covers (behind p opens ts below t) t
  behind-follows ts below t f operand = by (p t || has_term ts t) refl (opens t) refl
    where
      there : (us : List Term) → Covers (us ++ t ∷ []) t
      there us = inr (has-append us (t ∷ []) t ∙ right_true (has_term us t) (has_term (t ∷ []) t) (left_true (term_eq t t) false ((Decides-term_eq t t).1 refl)))

      by : (b : Bool) → (p t || has_term ts t) ≡ b → (c : Bool) → opens t ≡ c → Follows ts (cond b ts (cond c below ts ++ t ∷ [])) × Covers (cond b ts (cond c below ts ++ t ∷ [])) t
      by true e c g = (follows-itself ts, either_true (p t) (has_term ts t) e)
      by false e true g = (follows-on ts below (below ++ t ∷ []) f (one-behind below t (λ looked. operand)), there below)
      by false e false g = (one-behind ts t (λ looked. let no : false ≡ true = sym g ∙ looked in absurd cc), there ts)

  none-operand : (o : Term) (ts : List Term) → has_term [] o ≡ true → Covers ts o
  none-operand o ts e = absurd cc

  first-or-other : (u : Term) (us : List Term) (o : Term) (ts : List Term) → Covers ts u → ((v : Term) → has_term us v ≡ true → Covers ts v) → has_term (u ∷ us) o ≡ true → Covers ts o
  first-or-other u us o ts first others e = elim (either_true (term_eq u o) (has_term us o) e) [
    | inl same ↦ subst (Covers ts) ((Decides-term_eq u o).0 same) first
    | inr there ↦ others o there
  ]

  variables-follow : (xs : List Variable) (ts : List Term) → Follows ts (listed_variables p opens xs ts) × ((o : Term) → has_term (map variable xs) o ≡ true → Covers (listed_variables p opens xs ts) o)
  variables-follow [] ts = (follows-itself ts, λ o e. none-operand o ts e)
  variables-follow (x ∷ xs) ts =
      let one = behind-follows ts ts (variable x) (follows-itself ts) (λ o e. none-operand o ts e) in
      let rest = variables-follow xs (behind p opens ts ts (variable x)) in (
        follows-on ts (behind p opens ts ts (variable x)) (listed_variables p opens (x ∷ xs) ts) one.0 rest.0,
        λ o e. first-or-other (variable x) (map variable xs) o (listed_variables p opens (x ∷ xs) ts) (covers-on (behind p opens ts ts (variable x)) (listed_variables p opens (x ∷ xs) ts) (variable x) rest.0 one.1) rest.1 e,
      )

  in-append : (ts : List Term) (u o : Term) (cs : List Term) → ((v : Term) → has_term ts v ≡ true → Covers cs v) → Covers cs u → has_term (ts ++ u ∷ []) o ≡ true → Covers cs o
  in-append ts u o cs front last e = elim (either_true (has_term ts o) (has_term (u ∷ []) o) (sym (has-append ts (u ∷ []) o) ∙ e)) [
    | inl before ↦ front o before
    | inr there ↦ first-or-other u [] o cs last (λ v f. none-operand v cs f) there
  ]

  mutual
    pub listed-follows : (t : Term) (ts : List Term) → Follows ts (listed p opens t ts) × Covers (listed p opens t ts) t
    listed-follows (apply h us) ts =
        let below = each-follows us ts in
        behind-follows ts (listed_each p opens us ts) (apply h us) below.0 below.1
    listed-follows (quantified q xs body) ts =
        let names = variables-follow xs ts in
        let inner = listed-follows body (listed_variables p opens xs ts) in
        behind-follows ts (listed p opens body (listed_variables p opens xs ts)) (quantified q xs body)
        (follows-on ts (listed_variables p opens xs ts) (listed p opens body (listed_variables p opens xs ts)) names.0 inner.0)
        (λ o e. in-append (map variable xs) body o (listed p opens body (listed_variables p opens xs ts)) (λ v f. covers-on (listed_variables p opens xs ts) (listed p opens body (listed_variables p opens xs ts)) v inner.0 (names.1 v f)) inner.1 e)

    each-follows : (us : Terms) (ts : List Term) → Follows ts (listed_each p opens us ts) × ((o : Term) → has_term (list us) o ≡ true → Covers (listed_each p opens us ts) o)
    each-follows none ts = (follows-itself ts, λ o e. none-operand o ts e)
    each-follows (u ⨾ us) ts =
        let one = listed-follows u ts in
        let rest = each-follows us (listed p opens u ts) in (
          follows-on ts (listed p opens u ts) (listed_each p opens us (listed p opens u ts)) one.0 rest.0,
          λ o e. first-or-other u (list us) o (listed_each p opens us (listed p opens u ts)) (covers-on (listed p opens u ts) (listed_each p opens us (listed p opens u ts)) u rest.0 one.1) rest.1 e,
        )

-- ---- tests on nodes as tests on terms

-- the place of a term in a list
abbrev pub place_of : List Term → Term → ℕ
place_of [] u = 0
place_of (t ∷ ts) u = cond (term_eq t u) 0 (suc (place_of ts u))

place-at : (ts : List Term) (i : ℕ) → i < length ts → ((j : ℕ) → j < length ts → get_or ts j no_tree ≡ get_or ts i no_tree → j ≡ i) → place_of ts (get_or ts i no_tree) ≡ i
place-at [] i lt one = absurd (omega arith)
place-at (t ∷ ts) zero lt one = ap (λ b. cond b 0 (suc (place_of ts t))) ((Decides-term_eq t t).1 refl)
place-at (t ∷ ts) (suc i) lt one = by (term_eq t (get_or ts i no_tree)) refl (place-at ts i (omega arith) (λ j l e. let same : suc j ≡ suc i = one (suc j) (omega arith) e in omega arith))
  where
    by : (b : Bool) → term_eq t (get_or ts i no_tree) ≡ b → place_of ts (get_or ts i no_tree) ≡ i → cond (term_eq t (get_or ts i no_tree)) 0 (suc (place_of ts (get_or ts i no_tree))) ≡ suc i
    by true e rest = let no : 0 ≡ suc i = one 0 (omega arith) ((Decides-term_eq t (get_or ts i no_tree)).0 e) in absurd (omega arith)
    by false e rest = ap (λ b. cond b 0 (suc (place_of ts (get_or ts i no_tree)))) e ∙ ap suc rest

abbrev pub at_terms : Formulas → (NodeId → Bool) → Term → Bool
at_terms t f u = f (record { 0 = place_of t.trees u })

pub at-node : (t : Formulas) (f : NodeId → Bool) → IsTable t → (k : NodeId) → IsNode t k → f k ≡ at_terms t f (tree t k)
at-node t f table k node =
    let same : place_of t.trees (tree t k) ≡ k.0 = place-at t.trees k.0 node (λ j lt e. table.one_tree j k.0 lt node e) in
    ap (λ n. f (record { 0 = n })) (sym same)

-- ---- the order of nodes

module _ (t : Formulas) (f : NodeId → Bool) (opens : Term → Bool) (table : IsTable t) (root : NodeId) (here : IsNode t root) (ks : List NodeId) (nodes : AreNodes t ks) (are : trees_at t ks ≡ listed (at_terms t f) opens (tree t root) []) where
  follows : Follows (at_terms t f) opens [] (listed (at_terms t f) opens (tree t root) []) × Covers (at_terms t f) opens (listed (at_terms t f) opens (tree t root) []) (tree t root)
  follows = listed-follows (at_terms t f) opens (tree t root) []

  taken-nodes : (i : ℕ) (js : List NodeId) → AreNodes t js → AreNodes t (take i js)
  taken-nodes zero js all_nodes = λ n d lt. absurd (omega arith)
  taken-nodes (suc i) [] all_nodes = all_nodes
  taken-nodes (suc i) (j ∷ js) all_nodes = All-cons (IsNode t) j (take i js) (All-head (IsNode t) j js all_nodes) (taken-nodes i js (All-tail (IsNode t) j js all_nodes))

  map-take : (i : ℕ) (js : List NodeId) → map (tree_in t.trees) (take i js) ≡ take i (map (tree_in t.trees) js)
  map-take zero js = refl
  map-take (suc i) [] = refl
  map-take (suc i) (j ∷ js) = ap (λ us. tree t j ∷ us) (map-take i js)

  pub operand-before : (i : ℕ) (d k : NodeId) → i < length ks → opens (tree t (get_or ks i d)) ≡ true → IsNode t k → has_term (operands (tree t (get_or ks i d))) (tree t k) ≡ true → (f k ≡ true) ⊎ (has_node (take i ks) k ≡ true)
  operand-before i d k lt looked node e =
      let count : length (trees_at t ks) ≡ length ks = length-map ks (tree_in t.trees) in
      let ordered : Ordered (at_terms t f) opens (trees_at t ks) = subst (Ordered (at_terms t f) opens) (sym are) (follows.0.ordered (λ j l. absurd (omega arith))) in
      let same : get_or (trees_at t ks) i no_tree ≡ tree t (get_or ks i d) = get_or-map (tree_in t.trees) ks i d no_tree lt in
      elim (ordered i (omega (arith, count)) (ap opens same ∙ looked) (tree t k) (ap (λ u. has_term (operands u) (tree t k)) same ∙ e)) [
        | inl known ↦ inl (at-node t f table k node ∙ known)
        | inr there ↦ inr (sym (term-among t table k node (take i ks) (taken-nodes i ks nodes)) ∙ ap (λ us. has_term us (tree t k)) (map-take i ks) ∙ there)
      ]

  pub root-among : (f root ≡ true) ⊎ (has_node ks root ≡ true)
  root-among = elim follows.1 [
    | inl known ↦ inl (at-node t f table root here ∙ known)
    | inr there ↦ inr (sym (term-among t table root here ks nodes) ∙ ap (λ us. has_term us (tree t root)) are ∙ there)
  ]

pub is-ordered : (t : Formulas) (f : NodeId → Bool) → IsTable t → (root : NodeId) → IsNode t root → (ks : List NodeId) → AreNodes t ks → trees_at t ks ≡ listed (at_terms t f) all (tree t root) [] → IsOrdered t f root ks
is-ordered t f table root here ks nodes are = record {
  nodes = nodes;
  each = λ i d k lt node e. operand-before t f all table root here ks nodes are i d k lt refl node e;
  root_too = root-among t f all table root here ks nodes are;
}
