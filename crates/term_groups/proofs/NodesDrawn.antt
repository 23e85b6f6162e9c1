-- Constants that are drawn for the terms of nodes, one after the other.
use Rattle.std.proofs.Common.{◌≡◌, ℕ, ◌+◌, ◌<◌, ◌≤◌, List, [], ◌∷◌, ◌++◌, map, length, get_or, take, Option, Some, None, unwrap_or, refl, ap, sym, subst, ◌∙◌}
use Rattle.std.proofs.lemmas.List.{map-append, take_more}
use Rattle.std.proofs.lemmas.List.Elements.{All-nil, All-head, All-tail, All-push, All-weaker}
use Rattle.smt_terms.specs.declared.ids.NodeId.{NodeId}
use Rattle.smt_terms.specs.declared.ids.SymId.{SymId}
use Rattle.smt_terms.specs.declared.op.Op.TheVariants.{Sym}
use Rattle.smt_terms.specs.Fresh.{Supply, after_draw, fresh_constant}
use Rattle.smt_terms.specs.Groups.{draw_each}
use Rattle.smt_terms.specs.Rank.{sort_of, width, most_bits}
use Rattle.smt_terms.specs.Sorts.{Sort, bool}
use Rattle.smt_terms.specs.Term.{constant}
use Rattle.term_table.specs.Formulas.{Formulas, no_symbol, kind, term_over, tree, tree_in, trees_at, symbol_at, IsNode, AreNodes, IsSymbol, Makes}
use Rattle.term_walk.specs.Walking.{GrowsTo}
use Rattle.term_subst.proofs.Growing.{tree-grows, node-grows, symbol-grows, is_symbol-grows, nodes-grow, trees-grow}
use Rattle.term_subst.proofs.MapsAt.{sort-narrow}
use Rattle.term_subst.proofs.Renamed.{makes-constant}
use Rattle.term_groups.specs.DrawnNodes.{IsDrawnFor}
use Rattle.term_groups.specs.Seen.{named_at, ArePairs}
use Rattle.term_groups.proofs.Draws.{draws-more, draws-more_names}

-- ---- one constant

sort-or : (o : Option Sort) (to : Sort) → o ≡ Some to → to ≡ unwrap_or o bool
sort-or None to e = absurd cc
sort-or (Some r) to e = cc

-- to: the sort of the node's term; mid: the table with the new symbol
module _ (old mid : Formulas) (id : NodeId) (to : Sort) (f : SymId) (s : Supply) (has : sort_of (tree old id) ≡ Some to) (found : symbol_at mid f ≡ fresh_constant to s) (within : IsSymbol mid f) where
  pub drawn-makes : Makes mid (Sym f) []
  drawn-makes = makes-constant mid f within (ap (λ g. g.args) found) (subst (λ r. width r ≤ most_bits) (ap (λ g. g.result) (sym found)) (sort-narrow (tree old id) to has))

  pub is-drawn : (new : Formulas) (k : NodeId) (left : Supply) → new.symbols ≡ mid.symbols → IsNode new k → tree new k ≡ term_over mid (Sym f) [] → left ≡ after_draw s → IsDrawnFor old new id f k s left
  unfolding kind
  is-drawn new k left same node term draws =
      let kept : symbol_at new f ≡ symbol_at mid f = ap (λ fs. get_or fs f.0 no_symbol) same in
      record {
        within = subst (λ fs. f.0 < length fs) (sym same) within;
        symbol = kept ∙ found ∙ ap (λ r. fresh_constant r s) (sort-or (sort_of (tree old id)) to has);
        node = node;
        term = term ∙ ap constant (sym kept);
        names = draws;
      }

-- ---- growth

abbrev IsPairAt : Formulas → SymId × NodeId → Type 0
IsPairAt t p = IsSymbol t p.0 × IsNode t p.1

pub pairs-grow : (old new : Formulas) → GrowsTo old new → (ps : List (SymId × NodeId)) → ArePairs old ps → ArePairs new ps
pairs-grow old new grows ps pairs =
    All-weaker (IsPairAt old) (IsPairAt new) (λ p is. (is_symbol-grows old new grows p.0 is.0, node-grows old new grows p.1 is.1)) ps pairs

pub named-grow : (old new : Formulas) → GrowsTo old new → (ps : List (SymId × NodeId)) → ArePairs old ps → named_at new ps ≡ named_at old ps
named-grow old new grows [] pairs = refl
named-grow old new grows (p ∷ ps) pairs =
    let is : IsPairAt old p = All-head (IsPairAt old) p ps pairs in
    let first = symbol-grows old new grows p.0 is.0 in
    let second = tree-grows old new grows p.1 is.1 in
    let rest = named-grow old new grows ps (All-tail (IsPairAt old) p ps pairs) in
    λ i. (first i, second i) ∷ rest i

-- ---- one after the other

-- the constants of the first n of these nodes are drawn
pub record AreDrawnFor (old new : Formulas) (ids : List NodeId) (n : ℕ) (ps : List (SymId × NodeId)) (ks : List NodeId) (s left : Supply) : Type 0 where
  pub pairs : ArePairs new ps
  pub nodes : AreNodes new ks
  pub symbols : named_at new ps ≡ (draw_each (trees_at old (take n ids)) s).symbols
  pub terms : trees_at new ks ≡ map (λ p. constant p.0) (draw_each (trees_at old (take n ids)) s).symbols
  pub names : left ≡ (draw_each (trees_at old (take n ids)) s).names

pub drawn-none : (t : Formulas) (ids : List NodeId) (ps : List (SymId × NodeId)) (ks : List NodeId) (s : Supply) → ps ≡ [] → ks ≡ [] → AreDrawnFor t t ids 0 ps ks s s
drawn-none t ids ps ks s none empty =
    subst (λ qs. AreDrawnFor t t ids 0 qs ks s s) (sym none)
    (subst (λ js. AreDrawnFor t t ids 0 [] js s s) (sym empty) (record { pairs = All-nil (IsPairAt t); nodes = All-nil (IsNode t); symbols = refl; terms = refl; names = refl }))

module _ (old mid new : Formulas) (ids : List NodeId) (n : ℕ) (d : NodeId) (f : SymId) (k : NodeId) (ps more : List (SymId × NodeId)) (ks longer : List NodeId) (s left rest : Supply)
    (first : GrowsTo old mid) (then : GrowsTo mid new) (nodes : AreNodes old ids) (lt : n < length ids) (some : AreDrawnFor old mid ids n ps ks s left)
    (drawn : IsDrawnFor mid new (get_or ids n d) f k left rest) (put : more ≡ ps ++ (f, get_or ids n d) ∷ []) (pushed : longer ≡ ks ++ k ∷ []) where
  is-node : IsNode old (get_or ids n d)
  is-node = nodes n d lt

  middle : tree mid (get_or ids n d) ≡ tree old (get_or ids n d)
  middle = tree-grows old mid first (get_or ids n d) is-node

  after : tree new (get_or ids n d) ≡ tree old (get_or ids n d)
  after = tree-grows mid new then (get_or ids n d) (node-grows old mid first (get_or ids n d) is-node) ∙ middle

  one-more : trees_at old (take (n + 1) ids) ≡ trees_at old (take n ids) ++ tree old (get_or ids n d) ∷ []
  one-more = ap (trees_at old) (take_more ids n d lt) ∙ map-append (tree_in old.trees) (take n ids) (get_or ids n d ∷ [])

  symbol-is : symbol_at new f ≡ fresh_constant (unwrap_or (sort_of (tree old (get_or ids n d))) bool) (draw_each (trees_at old (take n ids)) s).names
  symbol-is = drawn.symbol ∙ (λ i. fresh_constant (unwrap_or (sort_of (middle i)) bool) (some.names i))

  drawn-symbols : (draw_each (trees_at old (take (n + 1) ids)) s).symbols
      ≡ (draw_each (trees_at old (take n ids)) s).symbols ++ (fresh_constant (unwrap_or (sort_of (tree old (get_or ids n d))) bool) (draw_each (trees_at old (take n ids)) s).names, tree old (get_or ids n d)) ∷ []
  drawn-symbols = ap (λ ts. (draw_each ts s).symbols) one-more ∙ draws-more (trees_at old (take n ids)) (tree old (get_or ids n d) ∷ []) s

  symbols-are : named_at new more ≡ (draw_each (trees_at old (take (n + 1) ids)) s).symbols
  symbols-are =
      ap (named_at new) put ∙ map-append (λ p. (symbol_at new p.0, tree new p.1)) ps ((f, get_or ids n d) ∷ [])
      ∙ (λ i. (named-grow mid new then ps some.pairs ∙ some.symbols) i ++ (symbol-is i, after i) ∷ [])
      ∙ sym drawn-symbols

  terms-are : trees_at new longer ≡ map (λ p. constant p.0) (draw_each (trees_at old (take (n + 1) ids)) s).symbols
  terms-are =
      ap (trees_at new) pushed ∙ map-append (tree_in new.trees) ks (k ∷ [])
      ∙ (λ i. (trees-grow mid new then ks some.nodes ∙ some.terms) i ++ (drawn.term ∙ ap constant symbol-is) i ∷ [])
      ∙ sym (map-append (λ p. constant p.0) (draw_each (trees_at old (take n ids)) s).symbols
      ((fresh_constant (unwrap_or (sort_of (tree old (get_or ids n d))) bool) (draw_each (trees_at old (take n ids)) s).names, tree old (get_or ids n d)) ∷ []))
      ∙ ap (map (λ p. constant p.0)) (sym drawn-symbols)

  pub drawn-more : AreDrawnFor old new ids (n + 1) more longer s rest
  drawn-more = record {
    pairs =
        subst (ArePairs new) (sym put)
        (All-push (IsPairAt new) ps (f, get_or ids n d) (pairs-grow mid new then ps some.pairs) (drawn.within, node-grows mid new then (get_or ids n d) (node-grows old mid first (get_or ids n d) is-node)));
    nodes = subst (AreNodes new) (sym pushed) (All-push (IsNode new) ks k (nodes-grow mid new then ks some.nodes) drawn.node);
    symbols = symbols-are;
    terms = terms-are;
    names = drawn.names ∙ ap after_draw some.names ∙ sym (ap (λ ts. (draw_each ts s).names) one-more ∙ draws-more_names (trees_at old (take n ids)) (tree old (get_or ids n d) ∷ []) s);
  }
