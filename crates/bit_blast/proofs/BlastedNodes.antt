-- The group of formulas over bits, as nodes: the constants that are drawn, and what becomes of the roots.
use Rattle.std.proofs.Common.{◌≡◌, ℕ, suc, ◌<◌, true, List, [], ◌∷◌, ◌++◌, length, get_or, map, All, unwrap_or, refl, ap, sym, ◌∙◌, subst, arith}
use Rattle.std.specs.List.{flat_map}
use Rattle.std.proofs.lemmas.List.{get_or-map, length-map}
use Rattle.std.proofs.lemmas.List.Elements.{All-head, All-tail, All-map}
use Rattle.smt_terms.specs.declared.ids.NodeId.{NodeId}
use Rattle.smt_terms.specs.Fresh.{Supply}
use Rattle.smt_terms.specs.Groups.{Named, has_term, constant_or, draw_each}
use Rattle.smt_terms.specs.Rank.{sort_of, IsWellSorted}
use Rattle.smt_terms.specs.Sorts.{bool, Symbol}
use Rattle.smt_terms.specs.Term.{Term, constant}
use Rattle.smt_terms.proofs.StoredTerms.{fine_term}
use Rattle.normal_forms.specs.Nodes.{IsFormula}
use Rattle.quantifier_forms.proofs.Stands.{term-among}
use Rattle.term_groups.specs.declared.constants.Constants.{Constants}
use Rattle.term_groups.specs.Grouping.{terms_of}
use Rattle.term_groups.specs.Seen.{named_at, ArePairs, IsGroup}
use Rattle.term_groups.proofs.Draws.{draws-for_each}
use Rattle.term_groups.proofs.NodesDrawn.{pairs-grow, named-grow}
use Rattle.term_table.specs.Formulas.{Formulas, no_tree, no_symbol, tree, tree_in, trees_at, IsNode, AreNodes, IsTable}
use Rattle.term_walk.specs.FreeLists.{has_node}
use Rattle.term_walk.specs.Walking.{GrowsTo}
use Rattle.term_walk.proofs.Visits.{table-grows}
use Rattle.term_subst.proofs.Growing.{tree-grows, trees-grow}
use Rattle.bit_blast.specs.Blasted.{is_bits, bits_of_constant, bit_constant, vector_constants, drawn_bits, term_gates, bits, formula, blasted}
use Rattle.bit_blast.specs.Circuits.{only_bit}
use Rattle.bit_blast.specs.KeptBits.{Lists, HasBits}
use Rattle.bit_blast.specs.Subterms.{constant_bits, IsVector, AreDrawn, AreSubterms, AreKept, is_kept, HasFirst, first_bit}
use Rattle.bit_blast.proofs.BitConstants.{flag_constant, constant_sort, drawn_are_flags}
use Rattle.bit_blast.proofs.BitWidths.{bits_fit}
use Rattle.bit_blast.proofs.BitsOfConstants.{bits-different}
use Rattle.bit_blast.proofs.DrawnBits.{AreDifferent, FindsItself, finds-itself}
use Rattle.bit_blast.proofs.SettledNodes.{has-bits}
use Rattle.bit_blast.proofs.OrderedNodes.{All-among}
use Rattle.bit_blast.proofs.VectorNodes.{vector-grows}

-- ---- each constant is the one that stands for its bit

own-constants : (ns ds : Named) → All (FindsItself ns) ds → map (λ n. constant n.0) ds ≡ map (bit_constant ns) (terms_of ds)
own-constants ns [] finds = refl
own-constants ns (d ∷ ds) finds =
    let first = All-head (FindsItself ns) d ds finds in
    let rest = own-constants ns ds (All-tail (FindsItself ns) d ds finds) in
    λ i. constant_or (sym first i) d.1 ∷ rest i

constants-for : (ts : List Term) (s : Supply) → AreDifferent ts → map (λ n. constant n.0) (draw_each ts s).symbols ≡ map (bit_constant (draw_each ts s).symbols) ts
constants-for ts s different =
    own-constants (draw_each ts s).symbols (draw_each ts s).symbols (finds-itself ts s different)
    ∙ ap (map (bit_constant (draw_each ts s).symbols)) (draws-for_each ts s)

flat-constants : (fs : List Symbol) → flat_map constant_bits (map constant fs) ≡ flat_map bits_of_constant fs
flat-constants [] = refl
flat-constants (f ∷ fs) = ap (λ us. bits_of_constant f ++ us) (flat-constants fs)

-- t0: the table with the constants of bit vectors; t1: that with their bits; t2: that with what is drawn for these
module _ (t0 t1 t2 : Formulas) (roots : List Term) (vectors wanted : List NodeId) (c : Constants) (s : Supply) (first : GrowsTo t0 t1) (then : GrowsTo t1 t2)
    (are : All (IsVector t0) vectors) (terms : trees_at t0 vectors ≡ map constant (vector_constants roots)) (wanted_are : trees_at t1 wanted ≡ flat_map constant_bits (trees_at t0 vectors)) where
  all-wanted : trees_at t1 wanted ≡ flat_map bits_of_constant (vector_constants roots)
  all-wanted = wanted_are ∙ ap (flat_map constant_bits) terms ∙ flat-constants (vector_constants roots)

  pub names-left : (left : Supply) → left ≡ (draw_each (trees_at t1 wanted) s).names → left ≡ (blasted roots s).names
  names-left left draws = draws ∙ ap (λ ts. (draw_each ts s).names) all-wanted

  module _ (nodes : AreNodes t2 c.nodes) (symbols : named_at t2 c.symbols ≡ (draw_each (trees_at t1 wanted) s).symbols) (drawn : trees_at t2 c.nodes ≡ map (λ n. constant n.0) (draw_each (trees_at t1 wanted) s).symbols) where
    pub names-are : named_at t2 c.symbols ≡ (drawn_bits roots s).symbols
    names-are = symbols ∙ ap (λ ts. (draw_each ts s).symbols) all-wanted

    constants-are : trees_at t2 c.nodes ≡ map (λ n. constant n.0) (drawn_bits roots s).symbols
    constants-are = drawn ∙ ap (λ ts. map (λ n. constant n.0) (draw_each ts s).symbols) all-wanted

    constants-formulas : All (IsFormula t2) c.nodes
    constants-formulas i d lt =
        let ds = (drawn_bits roots s).symbols in
        let e : Symbol × Term = (no_symbol, no_tree) in
        let a = length-map c.nodes (tree_in t2.trees) in
        let b = ap length constants-are in
        let l = length-map ds (λ n. constant n.0) in
        let within : i < length ds = omega (arith, a, b, l) in
        let is : tree t2 (get_or c.nodes i d) ≡ constant (get_or ds i e).0 =
        sym (get_or-map (tree_in t2.trees) c.nodes i d no_tree lt) ∙ ap (λ us. get_or us i no_tree) constants-are ∙ get_or-map (λ (n : Symbol × Term). constant n.0) ds i e no_tree within in
        record { node = nodes i d lt; sort = ap sort_of is ∙ constant_sort (get_or ds i e).0 bool (flag_constant (get_or ds i e).0 (drawn_are_flags roots s i e within)) }

    vectors-stay : flat_map constant_bits (trees_at t2 vectors) ≡ flat_map bits_of_constant (vector_constants roots)
    vectors-stay =
        ap (flat_map constant_bits) (trees-grow t0 t2 (table-grows t0 t1 t2 first then) vectors (λ i d lt. (are i d lt).node) ∙ terms)
        ∙ flat-constants (vector_constants roots)

    pub are-drawn : AreDrawn t2 vectors c
    are-drawn = record {
      constants = λ i d lt. vector-grows t0 t2 (get_or vectors i d) (table-grows t0 t1 t2 first then) (are i d lt);
      formulas = constants-formulas;
      terms =
          constants-are
          ∙ constants-for (flat_map bits_of_constant (vector_constants roots)) s (bits-different roots)
          ∙ (λ i. map (bit_constant (sym names-are i)) (sym vectors-stay i));
    }

-- ---- what becomes of the roots

first-term : (t : Formulas) (us : List Term) (js : List NodeId) (d : NodeId) → 0 < length js → trees_at t js ≡ us → tree t (get_or js 0 d) ≡ only_bit term_gates us
first-term t us [] d some same = absurd (omega arith)
first-term t us (j ∷ js) d some same = ap (only_bit term_gates) same

-- t0: the table with the roots; t: that with the bits of all that stands below them
module _ (t0 t : Formulas) (table : IsTable t0) (grows : GrowsTo t0 t) (ks roots : List NodeId) (nodes : AreNodes t0 roots) (fine : All (λ u. is_bits u ≡ true) (trees_at t0 roots)) (order : AreSubterms t0 (trees_at t0 roots) ks)
    (ns : Named) (ls : Lists) (kept : AreKept t ns ls) (done : All (λ k. is_kept ls k ≡ true) ks) where
  module _ (i : ℕ) (d : NodeId) (lt : i < length roots) where
    abbrev root : NodeId
    root = get_or roots i d

    within : i < length (trees_at t0 roots)
    within = let n = length-map roots (tree_in t0.trees) in omega (arith, n)

    at : get_or (trees_at t0 roots) i no_tree ≡ tree t0 root
    at = get_or-map (tree_in t0.trees) roots i d no_tree lt

    there : has_node ks root ≡ true
    there = sym (term-among t0 table root (nodes i d lt) ks order.order.nodes) ∙ ap (has_term (trees_at t0 ks)) (sym at) ∙ order.among i no_tree within

    root-bits : HasBits t ns ls root
    root-bits = has-bits t ns ls root kept (All-among (λ k. is_kept ls k ≡ true) ks root done there)

    stays : tree t root ≡ tree t0 root
    stays = tree-grows t0 t grows root (nodes i d lt)

    root-some : 0 < length root-bits.nodes
    root-some =
        let sorted : IsWellSorted (tree t0 root) = table.sorted root.0 (nodes i d lt) in
        let f = fine_term (tree t0 root) sorted in
        let fit = (bits_fit ns (tree t0 root) f.sort sorted f.has (ap is_bits (sym at) ∙ fine i no_tree within)).2 in
        let n = length-map root-bits.nodes (tree_in t.trees) in
        let m = ap length (root-bits.bits.terms ∙ ap (bits ns) stays) in
        omega (arith, fit, n, m)

    first-is : first_bit ls root ≡ get_or root-bits.nodes 0 root
    first-is = ap (λ o. get_or (unwrap_or o []) 0 root) root-bits.found

    root-formula : tree t (first_bit ls root) ≡ formula ns (tree t0 root)
    root-formula = ap (tree t) first-is ∙ first-term t (bits ns (tree t0 root)) root-bits.nodes root root-some (root-bits.bits.terms ∙ ap (bits ns) stays)

    root-node : IsNode t (first_bit ls root)
    root-node = subst (IsNode t) (sym first-is) (root-bits.bits.formulas 0 root root-some).node

  pub roots-first : All (HasFirst ls) roots
  roots-first i d lt = record { nodes = (root-bits i d lt).nodes; found = (root-bits i d lt).found; some = root-some i d lt }

  pub roots-nodes : AreNodes t (map (first_bit ls) roots)
  roots-nodes = All-map (IsNode t) (first_bit ls) roots root-node

  pub roots-formulas : trees_at t (map (first_bit ls) roots) ≡ map (formula ns) (trees_at t0 roots)
  roots-formulas = each roots root-formula
    where
      each : (js : List NodeId) → ((i : ℕ) (d : NodeId) → i < length js → tree t (first_bit ls (get_or js i d)) ≡ formula ns (tree t0 (get_or js i d))) → trees_at t (map (first_bit ls) js) ≡ map (formula ns) (trees_at t0 js)
      each [] told = refl
      each (j ∷ js) told =
          let first = told 0 j (omega arith) in
          let rest = each js (λ i d lt. told (suc i) d (omega arith)) in
          λ i. first i ∷ rest i

-- ---- the group

pub blasted-group : (t2 t : Formulas) (c : Constants) (roots : List Term) (s : Supply) (asserts fs : List NodeId) → GrowsTo t2 t → ArePairs t2 c.symbols → named_at t2 c.symbols ≡ (drawn_bits roots s).symbols
    → asserts ≡ fs → AreNodes t fs → trees_at t fs ≡ map (formula (named_at t2 c.symbols)) roots → IsGroup t (record { symbols = c.symbols; asserts = asserts }) (blasted roots s).group
blasted-group t2 t c roots s asserts fs grows pairs names same nodes formulas = record {
  pairs = pairs-grow t2 t grows c.symbols pairs;
  nodes = subst (AreNodes t) (sym same) nodes;
  symbols = named-grow t2 t grows c.symbols pairs ∙ names;
  asserts = ap (trees_at t) same ∙ formulas ∙ ap (λ ns. map (formula ns) roots) names;
}
