-- What equal operands say of two live applications of one function.
use Rattle.std.proofs.Common.{◌≡◌, ℕ, zero, suc, ◌+◌, ◌<◌, ◌≤◌, ◌==◌, true, false, List, [], ◌∷◌, ◌++◌, length, map, take, get_or, All, Some, refl, ap, sym, ◌∙◌, subst, arith}
use Rattle.std.proofs.lemmas.Bool.Decides.{Decides-eqb}
use Rattle.std.proofs.lemmas.List.{get_or-map, length-map, map-append, take_all}
use Rattle.std.proofs.lemmas.List.Elements.{All-push}
use Rattle.smt_terms.specs.declared.ids.NodeId.{NodeId}
use Rattle.smt_terms.specs.Connectives.{equal, implies, all_of}
use Rattle.smt_terms.specs.Rank.{sort_of, sorts_of, IsWellSorted}
use Rattle.smt_terms.specs.Sorts.{Sort, Symbol}
use Rattle.smt_terms.specs.Term.{symbol, Term, over, Terms, none, ◌⨾◌, list, terms}
use Rattle.smt_terms.proofs.Ranked.{rank-takes}
use Rattle.smt_terms.proofs.Sorted.{applied, sorted}
use Rattle.smt_terms.proofs.StoredTerms.{fine_term}
use Rattle.term_table.specs.Formulas.{Formulas, no_tree, tree, tree_in, trees_at, symbol_at, operands, IsNode, AreNodes, IsTable}
use Rattle.term_walk.specs.Walking.{GrowsTo}
use Rattle.term_subst.proofs.Growing.{tree-grows, trees-grow, nodes-grow}
use Rattle.normal_forms.specs.Nodes.{IsFormula, formula_stays}
use Rattle.quantifier_forms.specs.Rebuilding.{AreLike}
use Rattle.ackermann.specs.Ackermann.{all_equal}
use Rattle.ackermann.specs.declared.uses.LiveUse.{LiveUse}
use Rattle.ackermann.specs.LiveUses.{IsUseIn, equal_each, said}

-- ---- equations of operands

equal-next : (ts ss : List Term) (i : ℕ) (d : Term) → i < length ts → i < length ss → equal_each (take (suc i) ts) (take (suc i) ss) ≡ equal_each (take i ts) (take i ss) ++ equal (get_or ts i d) (get_or ss i d) ∷ []
equal-next [] ss i d lt le = absurd (omega arith)
equal-next (t ∷ ts) [] i d lt le = absurd (omega arith)
equal-next (t ∷ ts) (s ∷ ss) zero d lt le = refl
equal-next (t ∷ ts) (s ∷ ss) (suc i) d lt le = ap (λ es. equal t s ∷ es) (equal-next ts ss i d (omega arith) (omega arith))

equal-more : (ts ss : List Term) (i : ℕ) (d : Term) → i < length ts → i < length ss → equal_each (take (i + 1) ts) (take (i + 1) ss) ≡ equal_each (take i ts) (take i ss) ++ equal (get_or ts i d) (get_or ss i d) ∷ []
equal-more ts ss i d lt le =
    let next : i + 1 ≡ suc i = omega arith in
    ap (λ n. equal_each (take n ts) (take n ss)) next ∙ equal-next ts ss i d lt le

sorts-length : (ts ss : List Term) → map sort_of ts ≡ map sort_of ss → length ts ≡ length ss
sorts-length ts ss same = sym (length-map ts sort_of) ∙ ap length same ∙ length-map ss sort_of

module _ (t0 : Formulas) (first second : List NodeId) (sorts : map sort_of (trees_at t0 first) ≡ map sort_of (trees_at t0 second)) where
  pub same-length : length second ≡ length first
  same-length =
      let n = length-map first (tree_in t0.trees) in
      let m = length-map second (tree_in t0.trees) in
      let e = sorts-length (trees_at t0 first) (trees_at t0 second) sorts in
      omega (arith, n, m, e)

  module _ (t1 : Formulas) (grows : GrowsTo t0 t1) (nodes : AreNodes t0 first) (others : AreNodes t0 second) (i : ℕ) (d : NodeId) (lt : i < length first) where
    within : i < length second
    within = let e = same-length in omega arith

    at-first : tree t1 (get_or first i d) ≡ get_or (trees_at t0 first) i no_tree
    at-first = tree-grows t0 t1 grows (get_or first i d) (nodes i d lt) ∙ sym (get_or-map (tree_in t0.trees) first i d no_tree lt)

    at-second : tree t1 (get_or second i d) ≡ get_or (trees_at t0 second) i no_tree
    at-second = tree-grows t0 t1 grows (get_or second i d) (others i d within) ∙ sym (get_or-map (tree_in t0.trees) second i d no_tree within)

    sort-at : (ts : List Term) → i < length ts → sort_of (get_or ts i no_tree) ≡ get_or (map sort_of ts) i (sort_of no_tree)
    sort-at ts l = sym (get_or-map sort_of ts i no_tree (sort_of no_tree) l)

    pub same-sort : sort_of (tree t1 (get_or first i d)) ≡ sort_of (tree t1 (get_or second i d))
    same-sort =
        let n = length-map first (tree_in t0.trees) in
        let m = length-map second (tree_in t0.trees) in
        let w = within in
        ap sort_of at-first
        ∙ sort-at (trees_at t0 first) (omega (arith, n))
        ∙ ap (λ ss. get_or ss i (sort_of no_tree)) sorts
        ∙ sym (sort-at (trees_at t0 second) (omega (arith, m)))
        ∙ ap sort_of (sym at-second)

    -- t1 to t2: one equation more
    pub equations-more : (t2 : Formulas) (es more : List NodeId) (k : NodeId) → GrowsTo t1 t2 → All (IsFormula t1) es → trees_at t1 es ≡ equal_each (take i (trees_at t0 first)) (take i (trees_at t0 second))
        → more ≡ es ++ k ∷ [] → tree t2 k ≡ equal (tree t1 (get_or first i d)) (tree t1 (get_or second i d)) → trees_at t2 more ≡ equal_each (take (i + 1) (trees_at t0 first)) (take (i + 1) (trees_at t0 second))
    equations-more t2 es more k later formulas so_far put is =
        let n = length-map first (tree_in t0.trees) in
        let m = length-map second (tree_in t0.trees) in
        let w = within in
        let here : AreNodes t1 es = λ j e l. (formulas j e l).node in
        ap (trees_at t2) put
        ∙ map-append (tree_in t2.trees) es (k ∷ [])
        ∙ (λ j. (trees-grow t1 t2 later es here ∙ so_far) j ++ (is ∙ (λ h. equal (at-first h) (at-second h))) j ∷ [])
        ∙ sym (equal-more (trees_at t0 first) (trees_at t0 second) i no_tree (omega (arith, n)) (omega (arith, m)))

  pub equations-all : (i : ℕ) → length first ≤ i → equal_each (take i (trees_at t0 first)) (take i (trees_at t0 second)) ≡ equal_each (trees_at t0 first) (trees_at t0 second)
  equations-all i le =
      let n = length-map first (tree_in t0.trees) in
      let m = length-map second (tree_in t0.trees) in
      let e = same-length in
      (λ j. equal_each (take_all i (trees_at t0 first) (omega (arith, n)) j) (take_all i (trees_at t0 second) (omega (arith, m, e)) j))

pub formulas-more : (t1 t2 : Formulas) (es more : List NodeId) (k : NodeId) → GrowsTo t1 t2 → All (IsFormula t1) es → more ≡ es ++ k ∷ [] → IsFormula t2 k → All (IsFormula t2) more
formulas-more t1 t2 es more k grows formulas put formula =
    subst (All (IsFormula t2)) (sym put) (All-push (IsFormula t2) es k (λ i d lt. formula_stays t1 t2 (get_or es i d) grows (formulas i d lt)) formula)

equal-length : (ts ss : List Term) → length ts ≡ length ss → length (equal_each ts ss) ≡ length ts
equal-length [] ss e = refl
equal-length (t ∷ ts) [] e = absurd (omega (arith, e))
equal-length (t ∷ ts) (s ∷ ss) e = ap suc (equal-length ts ss (omega (arith, e)))

module _ (t0 t1 : Formulas) (first second es : List NodeId) (sorts : map sort_of (trees_at t0 first) ≡ map sort_of (trees_at t0 second)) (are : trees_at t1 es ≡ equal_each (trees_at t0 first) (trees_at t0 second)) where
  pub as-many : length es ≡ length first
  as-many =
      sym (length-map es (tree_in t1.trees)) ∙ ap length are ∙ equal-length (trees_at t0 first) (trees_at t0 second) (sorts-length (trees_at t0 first) (trees_at t0 second) sorts) ∙ length-map first (tree_in t0.trees)

  pub single-equation : length es ≡ 1 → (d : NodeId) → tree t1 (get_or es 0 d) ≡ all_equal (equal_each (trees_at t0 first) (trees_at t0 second))
  single-equation one d = by es one ∙ ap all_equal are
    where
      by : (ks : List NodeId) → length ks ≡ 1 → tree t1 (get_or ks 0 d) ≡ all_equal (trees_at t1 ks)
      by [] e = absurd (omega (arith, e))
      by (k ∷ []) e = refl
      by (k ∷ j ∷ ks) e = absurd (omega (arith, e))

  pub several-equations : 2 ≤ length es → all_of (trees_at t1 es) ≡ all_equal (equal_each (trees_at t0 first) (trees_at t0 second))
  several-equations some = by es some ∙ ap all_equal are
    where
      by : (ks : List NodeId) → 2 ≤ length ks → all_of (trees_at t1 ks) ≡ all_equal (trees_at t1 ks)
      by [] e = absurd (omega arith)
      by (k ∷ []) e = absurd (omega arith)
      by (k ∷ j ∷ ks) e = refl

-- ---- the operands of one function have the same sorts

sorts-map : (ts : Terms) (ss : List Sort) → sorts_of ts ≡ Some ss → map sort_of (list ts) ≡ map Some ss
sorts-map none ss has = let empty : [] ≡ ss = cc in ap (map Some) empty
sorts-map (t ⨾ ts) ss has =
    let parts = sorted t ts ss has in
    (λ i. parts.first i ∷ sorts-map ts parts.sorts parts.others i) ∙ ap (map Some) (sym parts.all)

pub applied-sorts : (f : Symbol) (us : List Term) → IsWellSorted (over (symbol f) us) → (map sort_of us ≡ map Some f.args) × (sort_of (over (symbol f) us) ≡ Some f.result)
applied-sorts f us fine =
    let it = fine_term (over (symbol f) us) fine in
    let parts = applied (symbol f) (terms us) it.sort it.has in
    let takes = rank-takes (symbol f) parts.sorts it.sort parts.rank in
    (ap (map sort_of) (sym (list-terms us)) ∙ sorts-map (terms us) parts.sorts parts.operands ∙ ap (map Some) takes.0, it.has ∙ ap Some takes.1)
  where
    list-terms : (vs : List Term) → list (terms vs) ≡ vs
    list-terms [] = refl
    list-terms (v ∷ vs) = ap (λ xs. v ∷ xs) (list-terms vs)

pub alike-sorts : (ts us : List Term) → AreLike ts us → map sort_of us ≡ map sort_of ts
alike-sorts [] [] like = refl
alike-sorts [] (u ∷ us) like = absurd (let n = like.count in omega (arith, n))
alike-sorts (t ∷ ts) [] like = absurd (let n = like.count in omega (arith, n))
alike-sorts (t ∷ ts) (u ∷ us) like =
    let first = (like.each 0 (omega arith)).sort in
    let n = like.count in
    let rest = alike-sorts ts us (record { count = omega (arith, n); each = λ i lt. like.each (suc i) (omega arith) }) in
    λ i. first i ∷ rest i

module _ (t : Formulas) (table : IsTable t) (u : LiveUse) (use_in : IsUseIn t u) where
  fine : IsWellSorted (over (symbol (symbol_at t u.function)) (operands (tree t u.node)))
  fine = subst IsWellSorted use_in.term (table.sorted u.node.0 use_in.is_node)

  pub result-sorts : map sort_of (trees_at t u.operands.items) ≡ map Some (symbol_at t u.function).args
  result-sorts = alike-sorts (operands (tree t u.node)) (trees_at t u.operands.items) use_in.alike ∙ (applied-sorts (symbol_at t u.function) (operands (tree t u.node)) fine).0

  pub constant-sort : sort_of (tree t u.constant) ≡ Some (symbol_at t u.function).result
  constant-sort = use_in.like.sort ∙ ap sort_of use_in.term ∙ (applied-sorts (symbol_at t u.function) (operands (tree t u.node)) fine).1

  pub some-results : 0 < length u.operands.items
  some-results =
      let n = length-map u.operands.items (tree_in t.trees) in
      let m = use_in.alike.count in
      let some = use_in.some in
      omega (arith, n, m)

module _ (t : Formulas) (table : IsTable t) (u v : LiveUse) (first : IsUseIn t u) (second : IsUseIn t v) (same : u.function.0 ≡ v.function.0) where
  pub operands-alike : map sort_of (trees_at t u.operands.items) ≡ map sort_of (trees_at t v.operands.items)
  operands-alike = result-sorts t table u first ∙ (λ i. map Some (symbol_at t (record { 0 = same i })).args) ∙ sym (result-sorts t table v second)

  pub constants-alike : sort_of (tree t u.constant) ≡ sort_of (tree t v.constant)
  constants-alike = constant-sort t table u first ∙ (λ i. Some (symbol_at t (record { 0 = same i })).result) ∙ sym (constant-sort t table v second)

-- ---- under a table that gained

pub said-grows : (old new : Formulas) (u v : LiveUse) → GrowsTo old new → IsUseIn old u → IsUseIn old v → said new u v ≡ said old u v
said-grows old new u v grows first second =
    λ i. implies (all_equal (equal_each (trees-grow old new grows u.operands.items first.are_results i) (trees-grow old new grows v.operands.items second.are_results i)))
    (equal (tree-grows old new grows u.constant first.is_constant i) (tree-grows old new grows v.constant second.is_constant i))

-- ---- all of some formulas

pub single-all : (t : Formulas) (ks : List NodeId) (d : NodeId) → length ks ≡ 1 → tree t (get_or ks 0 d) ≡ all_equal (trees_at t ks)
single-all t [] d e = absurd (omega (arith, e))
single-all t (k ∷ []) d e = refl
single-all t (k ∷ j ∷ ks) d e = absurd (omega (arith, e))

pub several-all : (t : Formulas) (ks : List NodeId) → 2 ≤ length ks → all_of (trees_at t ks) ≡ all_equal (trees_at t ks)
several-all t [] some = absurd (omega arith)
several-all t (k ∷ []) some = absurd (omega arith)
several-all t (k ∷ j ∷ ks) some = refl

pub one-told : (n : ℕ) → (n == 1) ≡ true → n ≡ 1
one-told n e = (Decides-eqb n 1).0 e

pub several-told : (n : ℕ) → (n == 1) ≡ false → 0 < n → 2 ≤ n
several-told zero e some = absurd (omega arith)
several-told (suc zero) e some = absurd cc
several-told (suc (suc n)) e some = omega arith

-- ---- one assertion more

pub pushed-terms : (old new : Formulas) (ks more : List NodeId) (k : NodeId) (u : Term) → GrowsTo old new → AreNodes old ks → more ≡ ks ++ k ∷ [] → tree new k ≡ u → trees_at new more ≡ trees_at old ks ++ u ∷ []
pushed-terms old new ks more k u grows nodes put is =
    ap (trees_at new) put
    ∙ map-append (tree_in new.trees) ks (k ∷ [])
    ∙ (λ i. trees-grow old new grows ks nodes i ++ is i ∷ [])

pub pushed-nodes : (old new : Formulas) (ks more : List NodeId) (k : NodeId) → GrowsTo old new → AreNodes old ks → more ≡ ks ++ k ∷ [] → IsNode new k → AreNodes new more
pushed-nodes old new ks more k grows nodes put node = subst (AreNodes new) (sym put) (All-push (IsNode new) ks k (nodes-grow old new grows ks nodes) node)
