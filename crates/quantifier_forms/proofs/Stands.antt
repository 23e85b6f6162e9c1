-- The stack of a listing from turn to turn.
use Rattle.std.proofs.Common.{◌≡◌, ◌≢◌, ℕ, zero, suc, ◌+◌, ◌<◌, ◌≤◌, ◌⊎◌, inl, inr, Bool, true, false, not, cond, if◌then◌else◌, ◌||◌, ◌==◌, List, [], ◌∷◌, ◌++◌, length, map, get_or, All, refl, ap, sym, ◌∙◌, subst, arith}
use Rattle.std.proofs.lemmas.List.{map-append}
use Rattle.std.proofs.lemmas.List.Elements.{All-head, All-tail, All-cons, All-append}
use Rattle.std.proofs.lemmas.Bool.Decides.{eqb_tells}
use Rattle.smt_terms.specs.declared.ids.NodeId.{NodeId}
use Rattle.smt_terms.specs.Equal.{term_eq}
use Rattle.smt_terms.specs.Groups.{has_term}
use Rattle.smt_terms.specs.Term.{Term}
use Rattle.smt_terms.proofs.Equal.{Decides-term_eq}
use Rattle.smt_terms.proofs.Tests.{either_true, left_true, right_true}
use Rattle.term_table.specs.Formulas.{Formulas, no_tree, tree, tree_in, trees_at, operands, IsNode, IsTable}
use Rattle.term_walk.specs.FreeLists.{has_node, with_node}
use Rattle.quantifier_forms.specs.declared.tasks.Task.{Task}
use Rattle.quantifier_forms.specs.declared.tasks.Task.TheVariants.{Enter, Leave}
use Rattle.quantifier_forms.specs.Tasks.{task_node, is_left, after_tasks, Descend, Stands, work_left}
use Rattle.quantifier_forms.proofs.Listings.{listed_list, listed-skipped, listed-there, listed-new}

-- ---- lists of nodes

pub same-number : (i j : ℕ) → (i == j) ≡ true → i ≡ j
same-number i j e = elim (eqb_tells i j) [ inl same ↦ same.1 | inr apart ↦ absurd (let f = apart.0 in cc) ]

pub number-same : (i j : ℕ) → i ≡ j → (i == j) ≡ true
number-same i j e = elim (eqb_tells i j) [ inl same ↦ same.0 | inr apart ↦ absurd (apart.1 e) ]

pub has_node-append : (ks ls : List NodeId) (k : NodeId) → has_node (ks ++ ls) k ≡ (has_node ks k || has_node ls k)
has_node-append [] ls k = refl
has_node-append (j ∷ ks) ls k = ap (λ b. k.0 == j.0 || b) (has_node-append ks ls k) ∙ grouped (k.0 == j.0) (has_node ks k) (has_node ls k)
  where
    grouped : (a b c : Bool) → (a || (b || c)) ≡ ((a || b) || c)
    grouped true b c = refl
    grouped false b c = refl

pub in-last : (ks : List NodeId) (k j : NodeId) → has_node (ks ++ k ∷ []) j ≡ true → (has_node ks j ≡ true) ⊎ (j.0 ≡ k.0)
in-last ks k j e = elim (either_true (has_node ks j) (has_node (k ∷ []) j) (sym (has_node-append ks (k ∷ []) j) ∙ e)) [
  | inl before ↦ inl before
  | inr last ↦ elim (either_true (j.0 == k.0) false last) [ inl same ↦ inr (same-number j.0 k.0 same) | inr never ↦ absurd cc ]
]

pub last-in : (ks : List NodeId) (k j : NodeId) → j.0 ≡ k.0 → has_node (ks ++ k ∷ []) j ≡ true
last-in ks k j e = has_node-append ks (k ∷ []) j ∙ right_true (has_node ks j) (has_node (k ∷ []) j) (left_true (j.0 == k.0) false (number-same j.0 k.0 e))

pub earlier-in : (ks ls : List NodeId) (j : NodeId) → has_node ks j ≡ true → has_node (ks ++ ls) j ≡ true
earlier-in ks ls j e = has_node-append ks ls j ∙ left_true (has_node ks j) (has_node ls j) e

apart-in : (ks : List NodeId) (k j : NodeId) → j.0 ≢ k.0 → has_node (ks ++ k ∷ []) j ≡ has_node ks j
apart-in ks k j apart = has_node-append ks (k ∷ []) j ∙ by (j.0 == k.0) refl (has_node ks j)
  where
    by : (b : Bool) → (j.0 == k.0) ≡ b → (a : Bool) → (a || (b || false)) ≡ a
    by true e a = absurd (apart (same-number j.0 k.0 e))
    by false e true = refl
    by false e false = refl

-- a node is among others where its term is among theirs
module _ (t : Formulas) (table : IsTable t) (k : NodeId) (node : IsNode t k) where
  term-number : (j : NodeId) → IsNode t j → term_eq (tree t j) (tree t k) ≡ (k.0 == j.0)
  term-number j there = by (term_eq (tree t j) (tree t k)) (k.0 == j.0) refl refl
    where
      by : (a b : Bool) → term_eq (tree t j) (tree t k) ≡ a → (k.0 == j.0) ≡ b → a ≡ b
      by true true e f = refl
      by false false e f = refl
      by true false e f =
          let same : k.0 ≡ j.0 = table.one_tree k.0 j.0 node there (sym ((Decides-term_eq (tree t j) (tree t k)).0 e)) in
          let yes : (k.0 == j.0) ≡ true = number-same k.0 j.0 same in
          absurd cc
      by false true e f =
          let same : k.0 ≡ j.0 = same-number k.0 j.0 f in
          let terms : tree t j ≡ tree t k = ap (λ i. get_or t.trees i no_tree) (sym same) in
          let yes : term_eq (tree t j) (tree t k) ≡ true = (Decides-term_eq (tree t j) (tree t k)).1 terms in
          absurd cc

  pub term-among : (ls : List NodeId) → All (IsNode t) ls → has_term (trees_at t ls) (tree t k) ≡ has_node ls k
  term-among [] nodes = refl
  term-among (j ∷ ls) nodes =
      let first = term-number j (All-head (IsNode t) j ls nodes) in
      let rest = term-among ls (All-tail (IsNode t) j ls nodes) in
      λ i. first i || rest i

-- ---- tasks

enters-left : (ks : List NodeId) (is : List Task) (k : NodeId) → is_left (map (λ j. Enter j) ks ++ is) k ≡ is_left is k
enters-left [] is k = refl
enters-left (j ∷ ks) is k = enters-left ks is k

after-enters : (skips opens : Term → Bool) (t : Formulas) (ks : List NodeId) (is : List Task) (ts : List Term) → after_tasks skips opens t (map (λ j. Enter j) ks ++ is) ts ≡ after_tasks skips opens t is (listed_list skips opens (trees_at t ks) ts)
after-enters skips opens t [] is ts = refl
after-enters skips opens t (k ∷ ks) is ts = after-enters skips opens t ks is _

enters-descend : (ks : List NodeId) (is : List Task) → ((k j : NodeId) → has_node ks k ≡ true → is_left is j ≡ true → k.0 < j.0) → Descend is → Descend (map (λ j. Enter j) ks ++ is)
enters-descend [] is below descend = descend
enters-descend (k ∷ ks) is below descend = (
  (λ j left. below k j (left_true (k.0 == k.0) (has_node ks k) (number-same k.0 k.0 refl)) (sym (enters-left ks is j) ∙ left)),
  enters-descend ks is (λ i j among left. below i j (right_true (i.0 == k.0) (has_node ks i) among) left) descend,
)

enters-nodes : (t : Formulas) (ks : List NodeId) (is : List Task) → All (IsNode t) ks → All (λ i. IsNode t (task_node i)) is → All (λ i. IsNode t (task_node i)) (map (λ j. Enter j) ks ++ is)
enters-nodes t [] is nodes rest = rest
enters-nodes t (k ∷ ks) is nodes rest = All-cons (λ i. IsNode t (task_node i)) (Enter k) (map (λ j. Enter j) ks ++ is) (All-head (IsNode t) k ks nodes) (enters-nodes t ks is (All-tail (IsNode t) k ks nodes) rest)

among-below : (ks : List NodeId) (n : ℕ) → All (λ j. j.0 < n) ks → (k : NodeId) → has_node ks k ≡ true → k.0 < n
among-below [] n below k e = absurd cc
among-below (j ∷ ks) n below k e = elim (either_true (k.0 == j.0) (has_node ks k) e) [
  | inl here ↦ (let same = same-number k.0 j.0 here in let lt = All-head (λ (i : NodeId). i.0 < n) j ks below in omega arith)
  | inr there ↦ among-below ks n (All-tail (λ (i : NodeId). i.0 < n) j ks below) k there
]

-- ---- turns

module _ (t : Formulas) (k : NodeId) (is : List Task) (met ls : List NodeId) (h : Stands t (Enter k ∷ is) met ls) where
  pub stands-on : Stands t is met ls
  stands-on = record {
    nodes = All-tail (λ i. IsNode t (task_node i)) (Enter k) is h.nodes;
    listed = h.listed;
    known = h.known;
    met_listed = h.met_listed;
    met_left = h.met_left;
    descend = h.descend.1;
  }

  -- what was met and isn't left is listed
  met-listed : has_node met k ≡ true → has_node ls k ≡ true
  met-listed e = elim (h.known k e) [
    | inl listed ↦ listed
    | inr left ↦ (let lt = h.descend.0 k left in absurd (omega arith))
  ]

  pub rest-met : (skips opens : Term → Bool) → IsTable t → IsNode t k → has_node met k ≡ true → after_tasks skips opens t is (trees_at t ls) ≡ after_tasks skips opens t (Enter k ∷ is) (trees_at t ls)
  rest-met skips opens table node e = ap (after_tasks skips opens t is) (sym (listed-there skips opens (tree t k) (trees_at t ls) (term-among t table k node ls h.listed ∙ met-listed e)))

  pub unlisted : IsTable t → IsNode t k → has_node met k ≡ false → has_term (trees_at t ls) (tree t k) ≡ false
  unlisted table node e = term-among t table k node ls h.listed ∙ by (has_node ls k) refl
    where
      by : (b : Bool) → has_node ls k ≡ b → b ≡ false
      by false f = refl
      by true f = let there = h.met_listed k f in absurd cc

  left-above : (j : NodeId) → is_left (Leave k ∷ is) j ≡ true → k.0 ≤ j.0
  left-above j left = elim (either_true (j.0 == k.0) (is_left is j) left) [
    | inl here ↦ (let same = same-number j.0 k.0 here in omega arith)
    | inr there ↦ (let lt = h.descend.0 j there in omega arith)
  ]

  -- the node is entered, and these wait before it is left
  pub stands-opened : (ks : List NodeId) → All (IsNode t) ks → All (λ j. j.0 < k.0) ks → Stands t (map (λ j. Enter j) ks ++ Leave k ∷ is) (met ++ k ∷ []) ls
  stands-opened ks nodes below = record {
    nodes = enters-nodes t ks (Leave k ∷ is) nodes (All-cons (λ i. IsNode t (task_node i)) (Leave k) is (All-head (λ i. IsNode t (task_node i)) (Enter k) is h.nodes) (All-tail (λ i. IsNode t (task_node i)) (Enter k) is h.nodes));
    listed = h.listed;
    known = λ j e. elim (in-last met k j e) [
      | inl before ↦ elim (h.known j before) [
        | inl listed ↦ inl listed
        | inr left ↦ inr (enters-left ks (Leave k ∷ is) j ∙ right_true (j.0 == k.0) (is_left is j) left)
      ]
      | inr same ↦ inr (enters-left ks (Leave k ∷ is) j ∙ left_true (j.0 == k.0) (is_left is j) (number-same j.0 k.0 same))
    ];
    met_listed = λ j e. earlier-in met (k ∷ []) j (h.met_listed j e);
    met_left = λ j e. elim (either_true (j.0 == k.0) (is_left is j) (sym (enters-left ks (Leave k ∷ is) j) ∙ e)) [
      | inl here ↦ last-in met k j (same-number j.0 k.0 here)
      | inr there ↦ earlier-in met (k ∷ []) j (h.met_left j there)
    ];
    descend = enters-descend ks (Leave k ∷ is) (λ i j among left. let lt = among-below ks k.0 below i among in let le = left-above j left in omega arith) (h.descend.0, h.descend.1);
  }

pub stands-left : (t : Formulas) (k : NodeId) (is : List Task) (met ls : List NodeId) → Stands t (Leave k ∷ is) met ls → Stands t is met (ls ++ k ∷ [])
stands-left t k is met ls h = record {
  nodes = All-tail (λ i. IsNode t (task_node i)) (Leave k) is h.nodes;
  listed = All-append (IsNode t) ls (k ∷ []) h.listed (All-cons (IsNode t) k [] (All-head (λ i. IsNode t (task_node i)) (Leave k) is h.nodes) (λ i d lt. absurd (omega arith)));
  known = λ j e. elim (h.known j e) [
    | inl listed ↦ inl (earlier-in ls (k ∷ []) j listed)
    | inr left ↦ elim (either_true (j.0 == k.0) (is_left is j) left) [
      | inl here ↦ inl (last-in ls k j (same-number j.0 k.0 here))
      | inr there ↦ inr there
    ]
  ];
  met_listed = λ j e. elim (in-last ls k j e) [
    | inl before ↦ h.met_listed j before
    | inr same ↦ h.met_left j (left_true (j.0 == k.0) (is_left is j) (number-same j.0 k.0 same))
  ];
  met_left = λ j e. h.met_left j (right_true (j.0 == k.0) (is_left is j) e);
  descend = h.descend.1;
}

pub rest-left : (skips opens : Term → Bool) (t : Formulas) (k : NodeId) (is : List Task) (ls : List NodeId) → after_tasks skips opens t is (trees_at t (ls ++ k ∷ [])) ≡ after_tasks skips opens t (Leave k ∷ is) (trees_at t ls)
rest-left skips opens t k is ls = ap (after_tasks skips opens t is) (map-append (tree_in t.trees) ls (k ∷ []))

pub rest-skipped : (skips opens : Term → Bool) (t : Formulas) (k : NodeId) (is : List Task) (ts : List Term) → skips (tree t k) ≡ true → after_tasks skips opens t is ts ≡ after_tasks skips opens t (Enter k ∷ is) ts
rest-skipped skips opens t k is ts e = ap (after_tasks skips opens t is) (sym (listed-skipped skips opens (tree t k) ts e))

pub rest-opened : (skips opens : Term → Bool) (t : Formulas) (k : NodeId) (ks : List NodeId) (is : List Task) (ts : List Term) → skips (tree t k) ≡ false → has_term ts (tree t k) ≡ false → opens (tree t k) ≡ true → trees_at t ks ≡ operands (tree t k)
    → after_tasks skips opens t (map (λ j. Enter j) ks ++ Leave k ∷ is) ts ≡ after_tasks skips opens t (Enter k ∷ is) ts
rest-opened skips opens t k ks is ts e f o same =
    after-enters skips opens t ks (Leave k ∷ is) ts
    ∙ ap (after_tasks skips opens t is) (
    (λ i. listed_list skips opens (same i) ts ++ tree t k ∷ [])
    ∙ (λ i. cond (sym o i) (listed_list skips opens (operands (tree t k)) ts) ts ++ tree t k ∷ [])
    ∙ sym (listed-new skips opens (tree t k) ts e f)
    )

pub rest-closed : (skips opens : Term → Bool) (t : Formulas) (k : NodeId) (is : List Task) (ts : List Term) → skips (tree t k) ≡ false → has_term ts (tree t k) ≡ false → opens (tree t k) ≡ false
    → after_tasks skips opens t (Leave k ∷ is) ts ≡ after_tasks skips opens t (Enter k ∷ is) ts
rest-closed skips opens t k is ts e f o =
    ap (after_tasks skips opens t is) (
    (λ i. cond (sym o i) (listed_list skips opens (operands (tree t k)) ts) ts ++ tree t k ∷ [])
    ∙ sym (listed-new skips opens (tree t k) ts e f)
    )

-- ---- less is left to do

left_one : (t : Formulas) (ks : List NodeId) (b : Bool) (n : ℕ) → has_node ks (record { 0 = n }) ≡ b → work_left t ks (suc n) ≡ work_left t ks n + cond b 0 (suc (length (operands (get_or t.trees n no_tree))))
left_one t ks b n e = ap (λ c. work_left t ks n + cond c 0 (suc (length (operands (get_or t.trees n no_tree))))) e

left_below : (t : Formulas) (met : List NodeId) (k : NodeId) (n : ℕ) → n ≤ k.0 → work_left t (met ++ k ∷ []) n ≡ work_left t met n
left_below t met k zero le = refl
left_below t met k (suc n) le =
    let rest = left_below t met k n (omega arith) in
    let same : has_node (met ++ k ∷ []) (record { 0 = n }) ≡ has_node met (record { 0 = n }) = apart-in met k (record { 0 = n }) (λ e. omega arith) in
    let one : cond (has_node (met ++ k ∷ []) (record { 0 = n })) 0 (suc (length (operands (get_or t.trees n no_tree)))) ≡ cond (has_node met (record { 0 = n })) 0 (suc (length (operands (get_or t.trees n no_tree)))) = ap (λ b. cond b 0 (suc (length (operands (get_or t.trees n no_tree))))) same in
    omega (arith, rest, one)

pub left_more : (t : Formulas) (met : List NodeId) (k : NodeId) (n : ℕ) → k.0 < n → has_node met k ≡ false → work_left t (met ++ k ∷ []) n + suc (length (operands (tree t k))) ≡ work_left t met n
left_more t met k zero lt e = absurd (omega arith)
left_more t met k (suc n) lt e = elim (eqb_tells n k.0) [
  | inl same ↦
      let at : NodeId = record { 0 = n } in
      let own : get_or t.trees n no_tree ≡ tree t k = ap (λ i. get_or t.trees i no_tree) same.1 in
      let number = same.1 in
      let below = left_below t met k n (omega arith) in
      let here : has_node (met ++ k ∷ []) at ≡ true = last-in met k at same.1 in
      let there : has_node met at ≡ false = subst (λ (i : ℕ). has_node met (record { 0 = i }) ≡ false) (sym same.1) e in
      let after = left_one t (met ++ k ∷ []) true n here in
      let before = left_one t met false n there in
      let many : length (operands (get_or t.trees n no_tree)) ≡ length (operands (tree t k)) = ap (λ u. length (operands u)) own in
      omega (arith, below, after, before, many)
  | inr apart ↦
      let at : NodeId = record { 0 = n } in
      let below = left_more t met k n (let a = apart.1 in omega arith) e in
      let same : has_node (met ++ k ∷ []) at ≡ has_node met at = apart-in met k at (λ i. apart.1 i) in
      let after = left_one t (met ++ k ∷ []) (has_node met at) n same in
      let before = left_one t met (has_node met at) n refl in
      omega (arith, below, after, before)
]

-- ---- whether a node was met

pub not_false : (b : Bool) → not b ≡ false → b ≡ true
not_false true e = refl
not_false false e = absurd cc

pub met-more : (met new : List NodeId) (k : NodeId) → has_node met k ≡ false → new ≡ with_node met k → new ≡ met ++ k ∷ []
met-more met new k e is = is ∙ ap (λ b. if b then met else met ++ k ∷ []) e

pub met-same : (met new : List NodeId) (k : NodeId) → has_node met k ≡ true → new ≡ with_node met k → new ≡ met
met-same met new k e is = is ∙ ap (λ b. if b then met else met ++ k ∷ []) e
