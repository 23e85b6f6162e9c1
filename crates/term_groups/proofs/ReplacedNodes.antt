-- Nodes with constants in place of the terms below them that have some.
use Rattle.std.proofs.Common.{◌≡◌, ℕ, ◌+◌, ◌<◌, inl, inr, Bool, true, false, List, map, length, get_or, take, All, Option, Some, None, is_some, unwrap_or, refl, ap, sym, ◌∙◌, subst, arith}
use Rattle.std.proofs.lemmas.Bool.Decides.{eqb_tells}
use Rattle.std.proofs.lemmas.List.{get_or-map, length-map}
use Rattle.std.proofs.lemmas.List.Elements.{All-weaker, All-more}
use Rattle.smt_terms.specs.declared.ids.NodeId.{NodeId}
use Rattle.smt_terms.specs.declared.ids.SymId.{SymId}
use Rattle.smt_terms.specs.Groups.{Named, has_term, constant_for, constant_or, with_constants, with_constants_each}
use Rattle.smt_terms.specs.Rank.{sort_of}
use Rattle.smt_terms.specs.Sorts.{Symbol}
use Rattle.smt_terms.specs.Term.{Term, apply, quantified, Terms, none, ◌⨾◌, list, terms, constant}
use Rattle.term_table.specs.Formulas.{Formulas, no_tree, no_symbol, tree, tree_in, trees_at, symbol_at, operands, IsNode, IsSymbol}
use Rattle.term_walk.specs.Walking.{GrowsTo}
use Rattle.term_walk.specs.Binders.{is_quantified}
use Rattle.quantifier_forms.specs.Memos.{Results, result_in, known_in, Sets}
use Rattle.quantifier_forms.specs.Rebuilding.{with_operands, is_number, IsLike}
use Rattle.quantifier_forms.proofs.Sweeps.{tree-stays, node-stays, kids-for, known-map}
use Rattle.quantifier_forms.proofs.Memos.{sets-each}
use Rattle.term_groups.specs.declared.constants.Constants.{Constants}
use Rattle.term_groups.specs.Seen.{named_at}
use Rattle.term_groups.specs.Replacing.{AreConstantsFor, IsReplaced, AreReplaced, AreOperandsReplaced, IsDone, IsFit, AreOperandsFit}

-- ---- the same nodes under another table

pub replaced-stays : (old new : Formulas) (ns : Named) (k r : NodeId) → GrowsTo old new → IsReplaced old ns k r → IsReplaced new ns k r
replaced-stays old new ns k r grows h =
    let from = tree-stays old new k grows h.node in
    let image = tree-stays old new r grows h.result in
    record {
      node = node-stays old new k grows h.node;
      result = node-stays old new r grows h.result;
      term = image ∙ h.term ∙ ap (with_constants ns) (sym from);
      like = record { sort = ap sort_of image ∙ h.like.sort ∙ ap sort_of (sym from); number = ap is_number image ∙ h.like.number ∙ ap is_number (sym from) };
    }

pub all-stay : (old new : Formulas) (ns : Named) (m : Results) → GrowsTo old new → AreReplaced old ns m → AreReplaced new ns m
all-stay old new ns m grows are k r e = replaced-stays old new ns k r grows (are k r e)

-- ---- results may take the places of their nodes

pub replaced-fits : (t : Formulas) (ns : Named) (m : Results) (k : NodeId) → IsReplaced t ns k (known_in m 0 k) → IsFit t m k
replaced-fits t ns m k h = record { result = h.result; like = h.like }

pub operands-fit : (t : Formulas) (ns : Named) (m : Results) (id : NodeId) → AreOperandsReplaced t ns m id → AreOperandsFit t m id
operands-fit t ns m id are plain k below e = replaced-fits t ns m k (are plain k below e)

pub known-replaced : (t : Formulas) (ns : Named) (m : Results) (k : NodeId) → AreReplaced t ns m → is_some (result_in m 0 k) ≡ true → IsReplaced t ns k (known_in m 0 k)
known-replaced t ns m k are e = by (result_in m 0 k) refl
  where
    by : (o : Option NodeId) → result_in m 0 k ≡ o → IsReplaced t ns k (known_in m 0 k)
    by (Some r) f = subst (λ (x : NodeId). IsReplaced t ns k x) (sym (ap (λ q. unwrap_or q k) f)) (are k r f)
    by None f = let no : false ≡ true = ap is_some (sym f) ∙ e in absurd cc

-- ---- one node

each-map : (ns : Named) (ts : Terms) → terms (map (with_constants ns) (list ts)) ≡ with_constants_each ns ts
each-map ns none = refl
each-map ns (t ⨾ ts) = ap (λ us. with_constants ns t ⨾ us) (each-map ns ts)

-- a term without a constant is put together again
pub rebuilt-constants : (ns : Named) (u : Term) → is_quantified u ≡ false → constant_for ns u ≡ None → with_constants ns u ≡ with_operands u (map (with_constants ns) (operands u))
rebuilt-constants ns (apply h ts) plain e = ap (λ o. constant_or o (apply h (with_constants_each ns ts))) e ∙ ap (apply h) (sym (each-map ns ts))
rebuilt-constants ns (quantified q xs body) plain e = absurd cc

-- one with a constant becomes that
pub found-constant : (ns : Named) (u : Term) (f : Symbol) → is_quantified u ≡ false → constant_for ns u ≡ Some f → with_constants ns u ≡ constant f
found-constant ns (apply h ts) f plain e = ap (λ o. constant_or o (apply h (with_constants_each ns ts))) e
found-constant ns (quantified q xs body) f plain e = absurd cc

pub rebuilt-replaced : (t new : Formulas) (ns : Named) (m : Results) (id r : NodeId) (ks : List NodeId) → GrowsTo t new → IsNode t id → is_quantified (tree t id) ≡ false → constant_for ns (tree t id) ≡ None
    → AreOperandsReplaced t ns m id → trees_at t ks ≡ operands (tree t id) → All (λ k. k.0 < id.0) ks → IsNode new r → tree new r ≡ with_operands (tree t id) (trees_at t (map (known_in m 0) ks)) → IsLike (tree t id) (tree new r) → IsReplaced new ns id r
rebuilt-replaced t new ns m id r ks grows node plain none_there ready same below result made like =
    let each = kids-for t m 0 id ks (IsReplaced t ns) (ready plain) same below in
    let stays = tree-stays t new id grows node in
    record {
      node = node-stays t new id grows node;
      result = result;
      term =
          made
          ∙ ap (with_operands (tree t id)) (known-map t m 0 ks (with_constants ns) (λ i d lt. (each i d lt).term) ∙ ap (map (with_constants ns)) same)
          ∙ sym (rebuilt-constants ns (tree t id) plain none_there)
          ∙ ap (with_constants ns) (sym stays);
      like = record { sort = like.sort ∙ ap sort_of (sym stays); number = like.number ∙ ap is_number (sym stays) };
    }

-- ---- one result more

pub sets-replaced : (old new : Formulas) (ns : Named) (m0 m1 : Results) (k r : NodeId) → GrowsTo old new → AreReplaced old ns m0 → IsReplaced new ns k r → Sets m0 m1 0 k r → AreReplaced new ns m1
sets-replaced old new ns m0 m1 k r grows are one sets = sets-each m0 m1 0 k r (IsReplaced new ns) sets (all-stay old new ns m0 grows are) one

-- ---- the constant of a term

module _ (t : Formulas) (ps : List (SymId × NodeId)) (i : ℕ) (p : SymId × NodeId) (lt : i < length ps) (at : get_or ps i p ≡ p) where
  abbrev named : SymId × NodeId → Symbol × Term
  named q = (symbol_at t q.0, tree t q.1)

  pub at-pair : (d : Symbol × Term) → get_or (named_at t ps) i d ≡ (symbol_at t p.0, tree t p.1)
  at-pair d = get_or-map named ps i p d lt ∙ ap named at

  pub of-pair : (P : Symbol × Term → Type 0) → All P (named_at t ps) → P (symbol_at t p.0, tree t p.1)
  of-pair P all =
      let d : Symbol × Term = (no_symbol, no_tree) in
      let n = length-map ps named in
      subst P (at-pair d) (all i d (omega (arith, n)))

-- the own nodes of constants
pub constant-at : (t : Formulas) (c : Constants) → trees_at t c.nodes ≡ map (λ n. constant n.0) (named_at t c.symbols) → (i : ℕ) (p : SymId × NodeId) (r : NodeId) → i < length c.symbols → i < length c.nodes
    → get_or c.symbols i p ≡ p → get_or c.nodes i r ≡ r → tree t r ≡ constant (symbol_at t p.0)
constant-at t c terms i p r lt within at here =
    let ns : Named = named_at t c.symbols in
    let d : Symbol × Term = (no_symbol, no_tree) in
    let n : length ns ≡ length c.symbols = length-map c.symbols (λ q. (symbol_at t q.0, tree t q.1)) in
    ap (tree t) (sym here)
    ∙ sym (get_or-map (tree_in t.trees) c.nodes i r no_tree within)
    ∙ ap (λ us. get_or us i no_tree) terms
    ∙ get_or-map (λ (q : Symbol × Term). constant q.0) ns i d no_tree (omega (arith, n))
    ∙ ap (λ (q : Symbol × Term). constant q.0) (at-pair t c.symbols i p lt at d)

pub as-many : (t : Formulas) (c : Constants) → trees_at t c.nodes ≡ map (λ n. constant n.0) (named_at t c.symbols) → length c.nodes ≡ length c.symbols
as-many t c terms =
    sym (length-map c.nodes (tree_in t.trees))
    ∙ ap length terms
    ∙ length-map (named_at t c.symbols) (λ (n : Symbol × Term). constant n.0)
    ∙ length-map c.symbols (λ (q : SymId × NodeId). let n : Symbol × Term = (symbol_at t q.0, tree t q.1) in n)

pub constant-replaced : (t : Formulas) (wanted : Term → Bool) (c : Constants) → AreConstantsFor t wanted c → (ns : Named) → All (λ n. with_constants ns n.1 ≡ constant n.0) (named_at t c.symbols)
    → (i : ℕ) (p : SymId × NodeId) (r : NodeId) → i < length c.symbols → i < length c.nodes → get_or c.symbols i p ≡ p → get_or c.nodes i r ≡ r → IsReplaced t ns p.1 r
constant-replaced t wanted c are ns own i p r lt within at here =
    let pair : IsSymbol t p.0 × IsNode t p.1 = subst (λ (q : SymId × NodeId). IsSymbol t q.0 × IsNode t q.1) at (are.pairs i p lt) in
    let constant_is : tree t r ≡ constant (symbol_at t p.0) = constant-at t c are.terms i p r lt within at here in
    let like : IsLike (tree t p.1) (constant (symbol_at t p.0)) = of-pair t c.symbols i p lt at (λ n. IsLike n.1 (constant n.0)) are.like in
    record {
      node = pair.1;
      result = subst (IsNode t) here (are.nodes i r within);
      term = constant_is ∙ sym (of-pair t c.symbols i p lt at (λ n. with_constants ns n.1 ≡ constant n.0) own);
      like = record { sort = ap sort_of constant_is ∙ like.sort; number = ap is_number constant_is ∙ like.number };
    }

-- ---- results that stay

pub sets-stay : (m0 m1 : Results) (k r : NodeId) → Sets m0 m1 0 k r → (j : NodeId) → is_some (result_in m0 0 j) ≡ true → is_some (result_in m1 0 j) ≡ true
sets-stay m0 m1 k r sets j e = elim (eqb_tells j.0 k.0) [
  | inl same ↦ ap is_some (sets.here j same.1)
  | inr apart ↦ ap is_some (sets.others 0 j (λ _ same. apart.1 same)) ∙ e
]

pub kept-more : (m0 m1 : Results) (ps : List (SymId × NodeId)) (i : ℕ) (p : SymId × NodeId) (r : NodeId) → i < length ps → get_or ps i p ≡ p → Sets m0 m1 0 p.1 r
    → All (λ (q : SymId × NodeId). is_some (result_in m0 0 q.1) ≡ true) (take i ps) → All (λ (q : SymId × NodeId). is_some (result_in m1 0 q.1) ≡ true) (take (i + 1) ps)
kept-more m0 m1 ps i p r lt at sets all =
    All-more (λ (q : SymId × NodeId). is_some (result_in m1 0 q.1) ≡ true) ps i p lt
    (All-weaker (λ (q : SymId × NodeId). is_some (result_in m0 0 q.1) ≡ true) (λ (q : SymId × NodeId). is_some (result_in m1 0 q.1) ≡ true) (λ q e. sets-stay m0 m1 p.1 r sets q.1 e) (take i ps) all)
    (ap is_some (sets.here (get_or ps i p).1 (ap (λ (q : SymId × NodeId). q.1.0) at)))

-- ---- the operands of a node

pub kids-fit : (t : Formulas) (m : Results) (id : NodeId) (ks : List NodeId) → is_quantified (tree t id) ≡ false → AreOperandsFit t m id → trees_at t ks ≡ operands (tree t id) → All (λ k. k.0 < id.0) ks
    → (i : ℕ) (d : NodeId) → i < length ks → IsFit t m (get_or ks i d)
kids-fit t m id ks plain fit same below = kids-for t m 0 id ks (λ k _. IsFit t m k) (fit plain) same below

pub no-result : (o : Option NodeId) → is_some o ≡ false → o ≡ None
no-result (Some r) e = absurd cc
no-result None e = refl

-- ---- a node that is done

pub done-stays : (old new : Formulas) (ns : Named) (m : Results) (id : NodeId) → GrowsTo old new → IsDone old ns m id → IsDone new ns m id
done-stays old new ns m id grows h =
    let stays : tree new id ≡ tree old id = tree-stays old new id grows h.itself.node in
    record {
      itself = replaced-stays old new ns id (known_in m 0 id) grows h.itself;
      operands = λ plain k below there.
          let node_there : IsNode old id = h.itself.node in
          let node : IsNode old k = omega arith in
          let kid_stays : tree new k ≡ tree old k = tree-stays old new k grows node in
          replaced-stays old new ns k (known_in m 0 k) grows (h.operands (ap is_quantified (sym stays) ∙ plain) k below ((λ i. has_term (operands (sym stays i)) (sym kid_stays i)) ∙ there));
    }

-- ---- terms with constants of their own

pub own-become : (ns ms : Named) → All (λ n. is_quantified n.1 ≡ false) ms → All (λ n. constant_for ns n.1 ≡ Some n.0) ms → All (λ n. with_constants ns n.1 ≡ constant n.0) ms
own-become ns ms plain own k d lt = found-constant ns (get_or ms k d).1 (get_or ms k d).0 (plain k d lt) (own k d lt)
