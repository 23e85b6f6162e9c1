-- Assertions that say what the constants of `ite`s are, over nodes.
use Rattle.std.proofs.Common.{◌≡◌, ℕ, ◌+◌, ◌<◌, true, false, List, [], ◌∷◌, ◌++◌, append_assoc, append-nil, length, get_or, take, All, Some, refl, ap, sym, ◌∙◌, subst, arith}
use Rattle.std.specs.Prelude.{is_some}
use Rattle.std.specs.List.{flat_map}
use Rattle.std.proofs.lemmas.Grind.{flat_map-append}
use Rattle.std.proofs.lemmas.List.{map-append, get_or-map, length-map, take_more}
use Rattle.smt_terms.specs.declared.ids.NodeId.{NodeId}
use Rattle.smt_terms.specs.declared.ids.SymId.{SymId}
use Rattle.smt_terms.specs.Connectives.{kind_of, negated, implies, equal}
use Rattle.smt_terms.specs.Groups.{Named, with_constants}
use Rattle.smt_terms.specs.Rank.{sort_of, is_regular, IsWellSorted}
use Rattle.smt_terms.specs.Shapes.{is_ite, is_atom_kind}
use Rattle.smt_terms.specs.Sorts.{Sort, bool, Symbol}
use Rattle.smt_terms.specs.Term.{Term, apply, quantified, list, constant}
use Rattle.smt_terms.proofs.Keeping.{the_sort}
use Rattle.smt_terms.proofs.Tests.{both_true}
use Rattle.term_table.specs.Formulas.{Formulas, no_tree, tree, tree_in, trees_at, symbol_at, operands, IsNode, AreNodes, IsTable}
use Rattle.term_walk.specs.Walking.{GrowsTo}
use Rattle.term_subst.proofs.Growing.{tree-grows, node-grows, trees-grow}
use Rattle.normal_forms.specs.Nodes.{IsFormula}
use Rattle.term_walk.specs.Binders.{is_quantified}
use Rattle.quantifier_forms.specs.Memos.{Results, known_in}
use Rattle.quantifier_forms.proofs.Sweeps.{kids-for}
use Rattle.term_groups.specs.declared.constants.Constants.{Constants}
use Rattle.term_groups.specs.Replacing.{IsReplaced, AreOperandsReplaced, IsDone, IsFit, AreOperandsFit}
use Rattle.term_groups.specs.Seen.{named_at}
use Rattle.term_groups.proofs.ReplacedNodes.{replaced-fits, operands-fit, at-pair, of-pair, kids-fit, done-stays}
use Rattle.ite_free.specs.Ite.{defining}
use Rattle.ite_free.specs.Removing.{is_choice, AreConstants}
use Rattle.ite_free.proofs.IteBuilt.{AreBranches, branches}
use Rattle.ite_free.proofs.DrawnConstants.{ites-become}

-- ---- one assertion more

pub pushed-terms : (old new : Formulas) (ks more : List NodeId) (k : NodeId) (u : Term) → GrowsTo old new → AreNodes old ks → more ≡ ks ++ k ∷ [] → tree new k ≡ u → trees_at new more ≡ trees_at old ks ++ u ∷ []
pushed-terms old new ks more k u grows nodes put is =
    ap (trees_at new) put
    ∙ map-append (tree_in new.trees) ks (k ∷ [])
    ∙ (λ i. trees-grow old new grows ks nodes i ++ is i ∷ [])

-- ---- the operands of an `ite`

-- a condition, and two terms of the sort of the whole
pub record IsIte (u : Term) : Type 0 where
  pub condition : Term
  pub first : Term
  pub second : Term
  pub sort : Sort
  pub has : sort_of u ≡ Some sort
  pub plain : is_quantified u ≡ false
  pub operands_are : operands u ≡ condition ∷ first ∷ second ∷ []
  pub condition_sort : sort_of condition ≡ Some bool
  pub first_sort : sort_of first ≡ Some sort
  pub second_sort : sort_of second ≡ Some sort
  pub defines : (ns : Named) (v : Symbol) → defining ns v u
      ≡ implies (with_constants ns condition) (equal (constant v) (with_constants ns first)) ∷ implies (negated (with_constants ns condition)) (equal (constant v) (with_constants ns second)) ∷ []

pub is-ite : (u : Term) → IsWellSorted u → is_choice u ≡ true → IsIte u
is-ite (quantified q xs body) fine choice = absurd cc
is-ite (apply h ts) fine choice =
    let found = the_sort (sort_of (apply h ts)) (both_true (is_some (sort_of (apply h ts))) (is_regular (apply h ts)) fine).0 in
    let b : AreBranches ts found.0 = branches h ts found.0 (both_true (is_ite h) (is_atom_kind (kind_of h ts)) choice).0 found.1 in
    record {
      condition = b.condition;
      first = b.first;
      second = b.second;
      sort = found.0;
      has = found.1;
      plain = refl;
      operands_are = ap list b.operands;
      condition_sort = b.condition_sort;
      first_sort = b.first_sort;
      second_sort = b.second_sort;
      defines = λ ns v. ap (λ us. defining ns v (apply h us)) b.operands;
    }

-- k is the result of an `ite`, c, a and b those of its operands: assertions can be made of them
pub record AreBranchesFit (t : Formulas) (k c a b : NodeId) : Type 0 where
  pub condition : IsFormula t c
  pub constant : IsNode t k
  pub first : IsNode t a
  pub first_sort : sort_of (tree t k) ≡ sort_of (tree t a)
  pub second : IsNode t b
  pub second_sort : sort_of (tree t k) ≡ sort_of (tree t b)

abbrev first_node : NodeId
first_node = record { 0 = 0 }

module _ (t : Formulas) (table : IsTable t) (ite : NodeId) (kids : List NodeId) (node : IsNode t ite) (choice : is_choice (tree t ite) ≡ true) (terms : trees_at t kids ≡ operands (tree t ite)) where
  abbrev it : IsIte (tree t ite)
  it = is-ite (tree t ite) (table.sorted ite.0 node) choice

  same : trees_at t kids ≡ it.condition ∷ it.first ∷ it.second ∷ []
  same = terms ∙ it.operands_are

  pub three-kids : length kids ≡ 3
  three-kids = sym (length-map kids (tree_in t.trees)) ∙ ap length same

  kid-tree : (i : ℕ) → i < 3 → tree t (get_or kids i first_node) ≡ get_or (it.condition ∷ it.first ∷ it.second ∷ []) i no_tree
  kid-tree i lt =
      let n = three-kids in
      sym (get_or-map (tree_in t.trees) kids i first_node no_tree (omega (arith, n))) ∙ ap (λ us. get_or us i no_tree) same

  module _ (m : Results) (k c a b : NodeId) (below : All (λ j. j.0 < ite.0) kids) (k_is : k ≡ known_in m 0 ite) (c_is : c ≡ known_in m 0 (get_or kids 0 first_node)) (a_is : a ≡ known_in m 0 (get_or kids 1 first_node)) (b_is : b ≡ known_in m 0 (get_or kids 2 first_node)) where
    pub branches-fit : IsFit t m ite → AreOperandsFit t m ite → AreBranchesFit t k c a b
    branches-fit itself fit =
        let n = three-kids in
        let each = kids-fit t m ite kids it.plain fit terms below in
        let one : IsFit t m (get_or kids 0 first_node) = each 0 first_node (omega (arith, n)) in
        let two : IsFit t m (get_or kids 1 first_node) = each 1 first_node (omega (arith, n)) in
        let three : IsFit t m (get_or kids 2 first_node) = each 2 first_node (omega (arith, n)) in
        let own : sort_of (tree t k) ≡ Some it.sort = ap (λ j. sort_of (tree t j)) k_is ∙ itself.like.sort ∙ it.has in
        record {
          condition = record { node = subst (IsNode t) (sym c_is) one.result; sort = ap (λ j. sort_of (tree t j)) c_is ∙ one.like.sort ∙ ap sort_of (kid-tree 0 (omega arith)) ∙ it.condition_sort };
          constant = subst (IsNode t) (sym k_is) itself.result;
          first = subst (IsNode t) (sym a_is) two.result;
          first_sort = own ∙ sym (ap (λ j. sort_of (tree t j)) a_is ∙ two.like.sort ∙ ap sort_of (kid-tree 1 (omega arith)) ∙ it.first_sort);
          second = subst (IsNode t) (sym b_is) three.result;
          second_sort = own ∙ sym (ap (λ j. sort_of (tree t j)) b_is ∙ three.like.sort ∙ ap sort_of (kid-tree 2 (omega arith)) ∙ it.second_sort);
        }

    -- what the assertions are
    pub assertions-define : (ns : Named) (v : Symbol) → tree t (known_in m 0 ite) ≡ constant v → AreOperandsReplaced t ns m ite
        → implies (tree t c) (equal (tree t k) (tree t a)) ∷ implies (negated (tree t c)) (equal (tree t k) (tree t b)) ∷ [] ≡ defining ns v (tree t ite)
    assertions-define ns v is are =
        let n = three-kids in
        let each = kids-for t m 0 ite kids (IsReplaced t ns) (are it.plain) terms below in
        let own : tree t k ≡ constant v = ap (tree t) k_is ∙ is in
        let one : tree t c ≡ with_constants ns it.condition = ap (tree t) c_is ∙ (each 0 first_node (omega (arith, n))).term ∙ ap (with_constants ns) (kid-tree 0 (omega arith)) in
        let two : tree t a ≡ with_constants ns it.first = ap (tree t) a_is ∙ (each 1 first_node (omega (arith, n))).term ∙ ap (with_constants ns) (kid-tree 1 (omega arith)) in
        let three : tree t b ≡ with_constants ns it.second = ap (tree t) b_is ∙ (each 2 first_node (omega (arith, n))).term ∙ ap (with_constants ns) (kid-tree 2 (omega arith)) in
        (λ i. implies (one i) (equal (own i) (two i)) ∷ implies (negated (one i)) (equal (own i) (three i)) ∷ []) ∙ sym (it.defines ns v)

-- ---- the two assertions of an `ite`

-- t0 to t1: the first; t1 to t2: the condition is negated; t2 to t3: the second
module _ (t0 t1 t2 t3 : Formulas) (first : GrowsTo t0 t1) (then : GrowsTo t1 t2) (c k a b o : NodeId) (condition : IsNode t0 c) (constant_node : IsNode t0 k) (second_node : IsNode t0 b) (as0 as1 as3 : List NodeId) where
  pub both-assertions : AreNodes t1 as1 → trees_at t1 as1 ≡ trees_at t0 as0 ++ implies (tree t0 c) (equal (tree t0 k) (tree t0 a)) ∷ [] → tree t2 o ≡ negated (tree t1 c)
      → trees_at t3 as3 ≡ trees_at t2 as1 ++ implies (tree t2 o) (equal (tree t2 k) (tree t2 b)) ∷ []
      → trees_at t3 as3 ≡ trees_at t0 as0 ++ (implies (tree t0 c) (equal (tree t0 k) (tree t0 a)) ∷ implies (negated (tree t0 c)) (equal (tree t0 k) (tree t0 b)) ∷ [])
  both-assertions nodes one negation two =
      let later : (j : NodeId) → IsNode t0 j → tree t2 j ≡ tree t0 j = λ j node. tree-grows t1 t2 then j (node-grows t0 t1 first j node) ∙ tree-grows t0 t1 first j node in
      two
      ∙ (λ i. (trees-grow t1 t2 then as1 nodes ∙ one) i ++ implies ((negation ∙ ap negated (tree-grows t0 t1 first c condition)) i) (equal (later k constant_node i) (later b second_node i)) ∷ [])
      ∙ append_assoc (trees_at t0 as0) (implies (tree t0 c) (equal (tree t0 k) (tree t0 a)) ∷ []) (implies (negated (tree t0 c)) (equal (tree t0 k) (tree t0 b)) ∷ [])

-- ---- the assertions of one `ite` after the other

flat_map-more : {X : Type 0} (f : X → List Term) (xs : List X) (i : ℕ) (d : X) → i < length xs → flat_map f (take (i + 1) xs) ≡ flat_map f (take i xs) ++ f (get_or xs i d)
flat_map-more f xs i d lt =
    ap (flat_map f) (take_more xs i d lt)
    ∙ flat_map-append f (take i xs) (get_or xs i d ∷ [])
    ∙ ap (λ us. flat_map f (take i xs) ++ us) (append-nil (f (get_or xs i d)))

-- p: a constant with its `ite`, at the place i
module _ (t0 t1 : Formulas) (grows : GrowsTo t0 t1) (m : Results) (c : Constants) (are : AreConstants t0 c) (done : All (λ (p : SymId × NodeId). IsDone t0 (named_at t0 c.symbols) m p.1) c.symbols) (i : ℕ) (p : SymId × NodeId) (lt : i < length c.symbols) (at : get_or c.symbols i p ≡ p) where
  here : IsDone t0 (named_at t0 c.symbols) m p.1
  here = subst (λ (q : SymId × NodeId). IsDone t0 (named_at t0 c.symbols) m q.1) at (done i p lt)

  now : IsDone t1 (named_at t0 c.symbols) m p.1
  now = done-stays t0 t1 (named_at t0 c.symbols) m p.1 grows here

  stays : tree t1 p.1 ≡ tree t0 p.1
  stays = tree-grows t0 t1 grows p.1 here.itself.node

  choice : is_choice (tree t0 p.1) ≡ true
  choice = of-pair t0 c.symbols i p lt at (λ n. is_choice n.1 ≡ true) are.each

  pub choice-now : is_choice (tree t1 p.1) ≡ true
  choice-now = ap is_choice stays ∙ choice

  pub fit-now : IsFit t1 m p.1
  fit-now = replaced-fits t1 (named_at t0 c.symbols) m p.1 now.itself

  pub operands-fit_now : AreOperandsFit t1 m p.1
  operands-fit_now = operands-fit t1 (named_at t0 c.symbols) m p.1 now.operands

  pub operands-replaced_now : AreOperandsReplaced t1 (named_at t0 c.symbols) m p.1
  operands-replaced_now = now.operands

  pub constant-now : tree t1 (known_in m 0 p.1) ≡ constant (symbol_at t0 p.0)
  constant-now =
      now.itself.term
      ∙ ap (with_constants (named_at t0 c.symbols)) stays
      ∙ of-pair t0 c.symbols i p lt at (λ n. with_constants (named_at t0 c.symbols) n.1 ≡ constant n.0) (ites-become t0 c are)

  -- t1 to t2: the assertions of this one are put behind
  pub definitions-more : (t2 : Formulas) (as1 as2 : List NodeId) → trees_at t1 as1 ≡ flat_map (λ n. defining (named_at t0 c.symbols) n.0 n.1) (take i (named_at t0 c.symbols))
      → trees_at t2 as2 ≡ trees_at t1 as1 ++ defining (named_at t0 c.symbols) (symbol_at t0 p.0) (tree t1 p.1)
      → trees_at t2 as2 ≡ flat_map (λ n. defining (named_at t0 c.symbols) n.0 n.1) (take (i + 1) (named_at t0 c.symbols))
  definitions-more t2 as1 as2 some put =
      let ns : Named = named_at t0 c.symbols in
      let f : Symbol × Term → List Term = λ n. defining ns n.0 n.1 in
      let d : Symbol × Term = (symbol_at t0 p.0, tree t0 p.1) in
      let n : length ns ≡ length c.symbols = length-map c.symbols (λ (q : SymId × NodeId). (symbol_at t0 q.0, tree t0 q.1)) in
      put
      ∙ (λ j. some j ++ defining ns (symbol_at t0 p.0) (stays j))
      ∙ ap (λ q. flat_map f (take i ns) ++ f q) (sym (at-pair t0 c.symbols i p lt at d))
      ∙ sym (flat_map-more f ns i d (omega (arith, n)))
