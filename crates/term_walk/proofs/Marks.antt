-- Marks that go down to operands, and how many there are in the end.
use Rattle.std.proofs.Common.{◌≡◌, ℕ, zero, suc, ◌+◌, ◌<◌, ◌≤◌, ◌⊎◌, inl, inr, Bool, true, false, cond, ◌||◌, ◌==◌, List, [], ◌∷◌, length, get_or, All, take, set, is_some, Option, Some, None, refl, ap, sym, ◌∙◌, subst, arith}
use Rattle.std.proofs.lemmas.List.{get_or-map, length-map, get_or_default, get_or-set_same, get_or-set_other, get_or_past}
use Rattle.std.proofs.lemmas.Bool.Decides.{eqb_tells}
use Rattle.smt_terms.specs.declared.ids.NodeId.{NodeId}
use Rattle.smt_terms.specs.Groups.{has_term}
use Rattle.smt_terms.specs.Term.{Term}
use Rattle.smt_terms.proofs.Tests.{either_true, left_true, right_true, true_or_false, both_true}
use Rattle.smt_terms.specs.Rank.{sort_of, is_regular, IsWellSorted}
use Rattle.smt_terms.specs.Sorts.{Sort}
use Rattle.term_table.specs.Formulas.{Formulas, no_tree, tree_in, tree, trees_at, operands, IsNode, AreNodes, IsTable}
use Rattle.term_walk.specs.Marks.{is_marked, has_number, marked_below, HasMark, AreMarkedFrom}
use Rattle.term_walk.specs.Subterms.{subterms, all_subterms}
use Rattle.term_walk.proofs.Below.{all-down, all-below, itself, one-of}
use Rattle.term_walk.proofs.Once.{once-all, marked-once}

-- ---- numbers of a list

number_eq : (i j : ℕ) → (i == j) ≡ true → i ≡ j
number_eq i j e = elim (eqb_tells i j) [ inl same ↦ same.1 | inr apart ↦ absurd (let f = apart.0 in cc) ]

eq_number : (i : ℕ) → (i == i) ≡ true
eq_number i = elim (eqb_tells i i) [ inl same ↦ same.0 | inr apart ↦ absurd (apart.1 refl) ]

pub place-of_number : (ks : List NodeId) (i : ℕ) (d : NodeId) → has_number ks i ≡ true → (j : ℕ) × (j < length ks) × ((get_or ks j d).0 ≡ i)
place-of_number [] i d h = absurd cc
place-of_number (k ∷ ks) i d h = elim (either_true (k.0 == i) (has_number ks i) h) [
  | inl e ↦ (zero, omega arith, number_eq k.0 i e)
  | inr e ↦ let r = place-of_number ks i d e in (suc r.0, omega arith, r.2)
]

pub number-at : (ks : List NodeId) (j : ℕ) (d : NodeId) → j < length ks → has_number ks (get_or ks j d).0 ≡ true
number-at [] j d lt = absurd (omega arith)
number-at (k ∷ ks) zero d lt = left_true (k.0 == k.0) (has_number ks k.0) (eq_number k.0)
number-at (k ∷ ks) (suc j) d lt = let i = (get_or ks j d).0 in right_true (k.0 == i) (has_number ks i) (number-at ks j d (omega arith))

-- one number more
pub number-take : (ks : List NodeId) (j i : ℕ) (d : NodeId) → j < length ks → has_number (take (suc j) ks) i ≡ (has_number (take j ks) i || (get_or ks j d).0 == i)
number-take [] j i d lt = absurd (omega arith)
number-take (k ∷ ks) zero i d lt = or_none (k.0 == i)
  where
    or_none : (b : Bool) → (b || false) ≡ b
    or_none true = refl
    or_none false = refl
number-take (k ∷ ks) (suc j) i d lt =
    ap (λ b. k.0 == i || b) (number-take ks j i d (omega arith)) ∙ or_grouped (k.0 == i) (has_number (take j ks) i) ((get_or ks j d).0 == i)
  where
    or_grouped : (a b c : Bool) → (a || (b || c)) ≡ ((a || b) || c)
    or_grouped true b c = refl
    or_grouped false b c = refl

-- ---- the operands of a marked node gain marks

module _ (t : Formulas) (roots : List NodeId) (ms : List Bool) (k : NodeId) (from : AreMarkedFrom t roots (suc k.0) ms) where
  pub unmarked-node : is_marked ms k.0 ≡ false → AreMarkedFrom t roots k.0 ms
  unmarked-node e = record {
    within = from.within;
    begun = from.begun;
    closed = λ j le m. elim (eqb_tells j.0 k.0) [
      | inl same ↦ absurd (let f : is_marked ms j.0 ≡ false = ap (is_marked ms) same.1 ∙ e in cc)
      | inr apart ↦ from.closed j (let a = apart.1 in omega arith) m
    ];
  }

  module _ (new : List Bool) (kids : List NodeId) (node : IsNode t k) (marked : is_marked ms k.0 ≡ true) (terms : trees_at t kids ≡ operands (tree t k)) (below : All (λ j. j.0 < k.0) kids) (gain : (i : ℕ) → is_marked new i ≡ (is_marked ms i || has_number kids i)) where
    stays : (i : ℕ) → is_marked ms i ≡ true → is_marked new i ≡ true
    stays i e = gain i ∙ left_true (is_marked ms i) (has_number kids i) e

    has_stayed : (u : Term) → HasMark t ms u → HasMark t new u
    has_stayed u h = record { id = h.id; node = h.node; term = h.term; marked = stays h.id.0 h.marked }

    kid_term : (j : ℕ) (d : NodeId) → j < length kids → tree t (get_or kids j d) ≡ get_or (operands (tree t k)) j no_tree
    kid_term j d lt = sym (get_or-map (tree_in t.trees) kids j d no_tree lt) ∙ ap (λ us. get_or us j no_tree) terms

    count : length kids ≡ length (operands (tree t k))
    count = sym (length-map kids (tree_in t.trees)) ∙ ap length terms

    gained : (j : NodeId) → has_number kids j.0 ≡ true → has_term (all_subterms (trees_at t roots)) (tree t j) ≡ true
    gained j h =
        let r = place-of_number kids j.0 j h in
        let c = count in
        let term : tree t j ≡ get_or (operands (tree t k)) r.0 no_tree = ap (λ n. get_or t.trees n no_tree) (sym r.2) ∙ kid_term r.0 j r.1 in
        subst (λ (u : Term). has_term (all_subterms (trees_at t roots)) u ≡ true) (sym term)
        (all-down (trees_at t roots) (tree t k) r.0 (from.within k marked) (omega (arith, c, r.1)))

    pub marked-node : AreMarkedFrom t roots k.0 new
    marked-node = record {
      within = λ j m. elim (either_true (is_marked ms j.0) (has_number kids j.0) (sym (gain j.0) ∙ m)) [
        | inl e ↦ from.within j e
        | inr e ↦ gained j e
      ];
      begun = λ i d lt. stays (get_or roots i d).0 (from.begun i d lt);
      closed = λ j le m. elim (eqb_tells j.0 k.0) [
        | inl same ↦ λ i d lt.
            let own : tree t j ≡ tree t k = ap (λ n. get_or t.trees n no_tree) same.1 in
            let many : length (operands (tree t j)) ≡ length (operands (tree t k)) = ap (λ u. length (operands u)) own in
            let c = count in
            let inside : i < length kids = omega (arith, many, c, lt) in
            let kid = get_or kids i k in
            let le = below i k inside in
            record {
              id = kid;
              node = omega arith;
              term = kid_term i k inside ∙ ap (λ u. get_or (operands u) i no_tree) (sym own) ∙ get_or_default (operands (tree t j)) i no_tree d lt;
              marked = gain kid.0 ∙ right_true (is_marked ms kid.0) (has_number kids kid.0) (number-at kids i k inside);
            }
        | inr apart ↦ elim (either_true (is_marked ms j.0) (has_number kids j.0) (sym (gain j.0) ∙ m)) [
          | inl e ↦ λ i d lt. has_stayed (get_or (operands (tree t j)) i d) (from.closed j (let a = apart.1 in omega arith) e i d lt)
          | inr e ↦ let r = place-of_number kids j.0 j e in let lt = below r.0 j r.1 in absurd (let same = r.2 in omega arith)
        ]
      ];
    }

-- ---- the roots

pub marked-roots : (t : Formulas) (roots : List NodeId) (n : ℕ) (old new : List Bool) → AreNodes t roots → ((i : ℕ) → is_marked old i ≡ false) → ((i : ℕ) → is_marked new i ≡ (is_marked old i || has_number roots i)) → All (λ k. k.0 < n) roots → AreMarkedFrom t roots n new
marked-roots t roots n old new nodes none gain below = record {
  within = λ k m.
      let r = place-of_number roots k.0 k (only k.0 m) in
      let same : get_or (trees_at t roots) r.0 no_tree ≡ tree t k = get_or-map (tree_in t.trees) roots r.0 k no_tree r.1 ∙ ap (λ i. get_or t.trees i no_tree) r.2 in
      let count = length-map roots (tree_in t.trees) in
      one-of (trees_at t roots) r.0 (omega (arith, count, r.1)) (tree t k)
      (subst (λ (u : Term). has_term (subterms u) (tree t k) ≡ true) (sym same) (itself (tree t k)));
  begun = λ i d lt. gain (get_or roots i d).0 ∙ right_true (is_marked old (get_or roots i d).0) (has_number roots (get_or roots i d).0) (number-at roots i d lt);
  closed = λ k le m.
      let r = place-of_number roots k.0 k (only k.0 m) in
      let lt = below r.0 k r.1 in
      absurd (let same = r.2 in omega arith);
}
  where
    only : (i : ℕ) → is_marked new i ≡ true → has_number roots i ≡ true
    only i m = elim (either_true (is_marked old i) (has_number roots i) (sym (gain i) ∙ m)) [
      | inl e ↦ absurd (let f = none i in cc)
      | inr e ↦ e
    ]

-- ---- one mark more

pub mark-one : (ms old : List Bool) (ids : List NodeId) (j : ℕ) (d : NodeId) → j < length ids → (get_or ids j d).0 < length ms → ((i : ℕ) → is_marked ms i ≡ (is_marked old i || has_number (take j ids) i)) → (i : ℕ) → is_marked (set ms (get_or ids j d).0 true) i ≡ (is_marked old i || has_number (take (j + 1) ids) i)
mark-one ms old ids j d lt within before i = by (true_or_false ((get_or ids j d).0 == i))
  where
    one_more : j + 1 ≡ suc j
    one_more = omega arith

    after : has_number (take (j + 1) ids) i ≡ (has_number (take j ids) i || (get_or ids j d).0 == i)
    after = ap (λ n. has_number (take n ids) i) one_more ∙ number-take ids j i d lt

    or_false_right : (a b c : Bool) → c ≡ false → (a || b) ≡ (a || (b || c))
    or_false_right true b c e = refl
    or_false_right false true c e = refl
    or_false_right false false c e = sym e

    by : (((get_or ids j d).0 == i) ≡ true) ⊎ (((get_or ids j d).0 == i) ≡ false) → is_marked (set ms (get_or ids j d).0 true) i ≡ (is_marked old i || has_number (take (j + 1) ids) i)
    by (inl e) =
        let same : (get_or ids j d).0 ≡ i = number_eq (get_or ids j d).0 i e in
        let here : is_marked (set ms (get_or ids j d).0 true) i ≡ true = subst (λ (n : ℕ). is_marked (set ms (get_or ids j d).0 true) n ≡ true) same (get_or-set_same ms (get_or ids j d).0 true false within) in
        here ∙ sym (right_true (is_marked old i) (has_number (take (j + 1) ids) i) (after ∙ right_true (has_number (take j ids) i) ((get_or ids j d).0 == i) e))
    by (inr e) =
        get_or-set_other ms (get_or ids j d).0 i true false (λ back. let same : (get_or ids j d).0 ≡ i = sym back in (let f : ((get_or ids j d).0 == i) ≡ true = subst (λ (n : ℕ). (n == i) ≡ true) (sym same) (eq_number i) in cc))
        ∙ before i
        ∙ or_false_right (is_marked old i) (has_number (take j ids) i) ((get_or ids j d).0 == i) e
        ∙ ap (λ b. is_marked old i || b) (sym after)

-- ---- in the end

module _ (t : Formulas) (roots : List NodeId) (ms : List Bool) (from : AreMarkedFrom t roots 0 ms) (nodes : AreNodes t roots) where
  root_marks : All (HasMark t ms) (trees_at t roots)
  root_marks i d lt =
      let count = length-map roots (tree_in t.trees) in
      let within : i < length roots = omega (arith, count, lt) in
      let k = get_or roots i (record { 0 = 0 }) in
      record {
        id = k;
        node = nodes i (record { 0 = 0 }) within;
        term = sym (get_or-map (tree_in t.trees) roots i (record { 0 = 0 }) d within);
        marked = from.begun i (record { 0 = 0 }) within;
      }

  pub each-marked : (u : Term) → has_term (all_subterms (trees_at t roots)) u ≡ true → HasMark t ms u
  each-marked u h =
      all-below (HasMark t ms) (λ v m. subst (λ (w : Term). All (HasMark t ms) (operands w)) m.term (from.closed m.id (omega arith) m.marked)) (trees_at t roots) root_marks u h

  module _ (table : IsTable t) where
    exact : (i : ℕ) → i < length t.trees → is_marked ms i ≡ has_term (all_subterms (trees_at t roots)) (get_or t.trees i no_tree)
    exact i lt = by (true_or_false (is_marked ms i)) (true_or_false (has_term (all_subterms (trees_at t roots)) (get_or t.trees i no_tree)))
      where
        by : (is_marked ms i ≡ true) ⊎ (is_marked ms i ≡ false) → (has_term (all_subterms (trees_at t roots)) (get_or t.trees i no_tree) ≡ true) ⊎ (has_term (all_subterms (trees_at t roots)) (get_or t.trees i no_tree) ≡ false) → is_marked ms i ≡ has_term (all_subterms (trees_at t roots)) (get_or t.trees i no_tree)
        by (inl e) other = e ∙ sym (from.within (record { 0 = i }) e)
        by (inr e) (inr f) = e ∙ sym f
        by (inr e) (inl f) =
            let m = each-marked (get_or t.trees i no_tree) f in
            let same : m.id.0 ≡ i = table.one_tree m.id.0 i m.node lt m.term in
            let marked : is_marked ms i ≡ true = ap (is_marked ms) (sym same) ∙ m.marked in
            absurd cc

    has_sort : (u : Term) → IsWellSorted u → (s : Sort) × (sort_of u ≡ Some s)
    has_sort u h = some (sort_of u) (both_true (is_some (sort_of u)) (is_regular u) h).0
      where
        some : (o : Option Sort) → is_some o ≡ true → (s : Sort) × (o ≡ Some s)
        some (Some s) e = (s, refl)
        some None e = absurd cc

    none_beyond : (n : ℕ) → length ms ≤ n → marked_below ms n ≡ marked_below ms (length ms)
    none_beyond zero le = let z : length ms ≡ 0 = omega arith in ap (marked_below ms) (sym z)
    none_beyond (suc n) le = elim (eqb_tells (length ms) (suc n)) [
      | inl same ↦ ap (marked_below ms) (sym same.1)
      | inr apart ↦
          let out : is_marked ms n ≡ false = get_or_past ms n false (let a = apart.1 in omega arith) in
          let rest = none_beyond n (let a = apart.1 in omega arith) in
          let last : cond {A = ℕ} (is_marked ms n) 1 0 ≡ 0 = ap (λ b. cond {A = ℕ} b 1 0) out in
          omega (arith, rest, last)
    ]

    pub count-marked : length ms ≤ length t.trees → marked_below ms (length ms) ≡ length (all_subterms (trees_at t roots))
    count-marked le =
        sym (none_beyond (length t.trees) le)
        ∙ marked-once t.trees ms (length t.trees) (all_subterms (trees_at t roots)) (once-all (trees_at t roots) sorts) table.one_tree exact
        (λ u h. let m = each-marked u h in (m.id.0, m.node, m.term))
      where
        sorts : (i : ℕ) → i < length (trees_at t roots) → (s : Sort) × (sort_of (get_or (trees_at t roots) i no_tree) ≡ Some s)
        sorts i lt =
            let count = length-map roots (tree_in t.trees) in
            let within : i < length roots = omega (arith, count, lt) in
            let k = get_or roots i (record { 0 = 0 }) in
            let node : k.0 < length t.trees = nodes i (record { 0 = 0 }) within in
            let found = has_sort (tree t k) (table.sorted k.0 node) in
            (found.0, ap sort_of (get_or-map (tree_in t.trees) roots i (record { 0 = 0 }) no_tree within) ∙ found.1)
