-- The clauses of a name, from those that are put for its connective.
use Rattle.std.proofs.Common.{◌≡◌, ℕ, ◌<◌, ◌≤◌, false, List, [], ◌∷◌, map, length, get_or, All, refl, ap, sym, ◌∙◌, subst, arith}
use Rattle.std.proofs.lemmas.List.{get_or-map, length-map}
use Rattle.std.proofs.lemmas.Simd.{map-map}
use Rattle.smt_terms.specs.declared.ids.NodeId.{NodeId}
use Rattle.smt_terms.specs.Connectives.{truth_term, any_of, either, nth}
use Rattle.smt_terms.specs.Term.{Term}
use Rattle.term_table.specs.Formulas.{Formulas, tree_in, trees_at}
use Rattle.term_walk.specs.Walking.{GrowsTo}
use Rattle.normal_forms.specs.declared.connective.Connective.{Connective}
use Rattle.normal_forms.specs.Nodes.{IsFormula}
use Rattle.normal_forms.specs.Shape.{kind_seen}
use Rattle.cnf_polarity.specs.Cnf.{complement, triple, differ_if, distinct_if, positive_clauses, negative_clauses}
use Rattle.cnf_polarity.specs.Putting.{Puts}
use Rattle.cnf_polarity.proofs.PutFormulas.{formula-trees, puts-after, IsFormulaOf}

-- ---- the literals of operands

pub literal-at : (t : Formulas) (ls : List NodeId) (i : ℕ) (d : NodeId) → All (IsFormula t) ls → i < length ls → IsFormulaOf t (get_or ls i d) (nth (trees_at t ls) i)
literal-at t ls i d all lt = record { formula = all i d lt; term = sym (get_or-map (tree_in t.trees) ls i d (truth_term false) lt) }

-- ---- `distinct`, by the number of its operands

distinct_if-more : (n : Term) (us : List Term) → 2 < length us → distinct_if n us ≡ complement n ∷ []
distinct_if-more n (k ∷ l ∷ m ∷ us) lt = refl
distinct_if-more n [] lt = absurd (omega arith)
distinct_if-more n (k ∷ []) lt = absurd (omega arith)
distinct_if-more n (k ∷ l ∷ []) lt = absurd (omega arith)

distinct_if-two : (n : Term) (us : List Term) → length us ≤ 2 → distinct_if n us ≡ differ_if n (nth us 0) (nth us 1)
distinct_if-two n (k ∷ l ∷ m ∷ us) le = absurd (omega arith)
distinct_if-two n [] le = refl
distinct_if-two n (k ∷ []) le = refl
distinct_if-two n (k ∷ l ∷ []) le = refl

module _ (t : Formulas) (ls : List NodeId) where
  number-seen : length (trees_at t ls) ≡ length ls
  number-seen = length-map ls (tree_in t.trees)

  pub of-more : (n : Term) → 2 < length ls → distinct_if n (trees_at t ls) ≡ complement n ∷ []
  of-more n lt = let e = number-seen in distinct_if-more n (trees_at t ls) (omega (arith, e))

  pub of-two : (n : Term) → length ls ≤ 2 → distinct_if n (trees_at t ls) ≡ differ_if n (nth (trees_at t ls) 0) (nth (trees_at t ls) 1)
  of-two n le = let e = number-seen in distinct_if-two n (trees_at t ls) (omega (arith, e))

-- ---- what was put, as the clauses of the connective

module _ (t : Formulas) (before : List NodeId) (n : Term) (us : List Term) (c k : Connective) (seen : c ≡ k) where
  pub positive-from : (new : Formulas) (after : List NodeId) → Puts t new before after (positive_clauses (kind_seen k) n us) → Puts t new before after (positive_clauses (kind_seen c) n us)
  positive-from new after p = subst (λ (ws : List Term). Puts t new before after ws) (sym (ap (λ j. positive_clauses (kind_seen j) n us) seen)) p

  pub negative-from : (new : Formulas) (after : List NodeId) → Puts t new before after (negative_clauses (kind_seen k) n us) → Puts t new before after (negative_clauses (kind_seen c) n us)
  negative-from new after p = subst (λ (ws : List Term). Puts t new before after ws) (sym (ap (λ j. negative_clauses (kind_seen j) n us) seen)) p

  -- over a table that had gained
  module _ (u : Formulas) (grows : GrowsTo t u) (all : All (IsFormula t) before) where
    later : (new : Formulas) (after : List NodeId) (vs ws : List Term) → vs ≡ ws → Puts u new before after vs → Puts t new before after ws
    later new after vs ws same p = subst (λ (xs : List Term). Puts t new before after xs) same (puts-after t u new before after vs grows all p)

    pub positive-put : (new : Formulas) (after : List NodeId) (vs : List Term) → vs ≡ positive_clauses (kind_seen k) n us → Puts u new before after vs → Puts t new before after (positive_clauses (kind_seen c) n us)
    positive-put new after vs same p = positive-from new after (later new after vs (positive_clauses (kind_seen k) n us) same p)

    pub negative-put : (new : Formulas) (after : List NodeId) (vs : List Term) → vs ≡ negative_clauses (kind_seen k) n us → Puts u new before after vs → Puts t new before after (negative_clauses (kind_seen c) n us)
    negative-put new after vs same p = negative-from new after (later new after vs (negative_clauses (kind_seen k) n us) same p)

-- ---- rows of clauses

pub each-seen : (t u : Formulas) (ls : List NodeId) (x n : Term) → GrowsTo t u → All (IsFormula t) ls → x ≡ n → map (either x) (trees_at u ls) ≡ map (either n) (trees_at t ls)
each-seen t u ls x n grows all is = let stay = formula-trees t u grows ls all in λ i. map (either (is i)) (stay i)

pub any-seen : (t u : Formulas) (ls : List NodeId) (x n : Term) → GrowsTo t u → All (IsFormula t) ls → x ≡ n → any_of (x ∷ trees_at u ls) ∷ [] ≡ any_of (n ∷ trees_at t ls) ∷ []
any-seen t u ls x n grows all is = let stay = formula-trees t u grows ls all in λ i. any_of (is i ∷ stay i) ∷ []

-- ---- two clauses

abbrev pub differ_pair : Term → Term → Term → List Term
differ_pair l a b = triple l a b ∷ triple l (complement a) (complement b) ∷ []

abbrev pub agree_pair : Term → Term → Term → List Term
agree_pair l a b = triple l (complement a) b ∷ triple l a (complement b) ∷ []

abbrev pub choose_pair : Term → Term → Term → Term → List Term
choose_pair l c a b = triple l (complement c) a ∷ triple l c b ∷ []

pub same-of-three : (f : Term → Term → Term → List Term) (x y z n v w : Term) → x ≡ n → y ≡ v → z ≡ w → f x y z ≡ f n v w
same-of-three f x y z n v w p q r = λ i. f (p i) (q i) (r i)

pub same-of-four : (f : Term → Term → Term → Term → List Term) (x y z o n v w m : Term) → x ≡ n → y ≡ v → z ≡ w → o ≡ m → f x y z o ≡ f n v w m
same-of-four f x y z o n v w m p q r s = λ i. f (p i) (q i) (r i) (s i)

-- ---- clauses of complements, which are nodes of a table that had gained

pub any-complements : (t u : Formulas) (ls ks : List NodeId) (x n : Term) → x ≡ n → trees_at u ks ≡ map complement (trees_at t ls) → any_of (x ∷ trees_at u ks) ∷ [] ≡ any_of (n ∷ map complement (trees_at t ls)) ∷ []
any-complements t u ls ks x n is are = λ i. any_of (is i ∷ are i) ∷ []

pub each-complements : (t u : Formulas) (ls ks : List NodeId) (x n : Term) → x ≡ n → trees_at u ks ≡ map complement (trees_at t ls) → map (either x) (trees_at u ks) ≡ map (λ l. either n (complement l)) (trees_at t ls)
each-complements t u ls ks x n is are = (λ i. map (either (is i)) (are i)) ∙ map-map (either n) complement (trees_at t ls)
