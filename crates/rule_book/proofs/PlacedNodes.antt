-- Places collected from the first operand to the last, and their cells.
use Rattle.std.proofs.Common.{◌≡◌, ℕ, zero, suc, ◌+◌, ◌<◌, ◌≤◌, take, drop, List, [], ◌∷◌, ◌++◌, map, length, get_or, All, Option, append-nil, append_assoc, refl, ap, sym, ◌∙◌, subst, arith}
use Rattle.std.proofs.lemmas.List.{map-append, map_more, at_drop_more, at_drop_all}
use Rattle.std.proofs.lemmas.List.Elements.{All-append}
use Rattle.smt_terms.specs.declared.ids.NodeId.{NodeId}
use Rattle.smt_terms.specs.declared.op.Op.{Op}
use Rattle.smt_terms.specs.Term.{Term}
use Rattle.term_table.specs.Formulas.{Formulas, tree_in, tree, trees_at, IsNode}
use Rattle.rule_book.specs.declared.viewing.PlacedNode.{PlacedNode}
use Rattle.rule_book.specs.Placed.{place_seen, shown_at, placed, AreAt}
use Rattle.rule_book.specs.declared.views.Cell.{Cell}
use Rattle.rule_book.specs.Seen.{cell_seen}
use Rattle.rule_book.specs.View.{Place, places_below, all_below, places, holes_of, cell_of}

module _ (t : Formulas) where
  pub none-placed : AreAt t [] []
  none-placed = record { nodes = λ i d lt. absurd (omega arith); places = refl }

  pub placed-as : (us vs : List Place) (ps : List PlacedNode) → us ≡ vs → AreAt t us ps → AreAt t vs ps
  placed-as us vs ps same at = subst (λ ws. AreAt t ws ps) same at

  one-placed : (p : PlacedNode) → IsNode t p.node → All (λ (q : PlacedNode). IsNode t q.node) (p ∷ [])
  one-placed p node zero d lt = node
  one-placed p node (suc i) d lt = absurd (omega arith)

  put-one : (us : List Place) (ps : List PlacedNode) (p : PlacedNode) → IsNode t p.node → AreAt t us ps → AreAt t (us ++ place_seen t p ∷ []) (ps ++ p ∷ [])
  put-one us ps p node at = record {
    nodes = All-append (λ (q : PlacedNode). IsNode t q.node) ps (p ∷ []) at.nodes (one-placed p node);
    places = map-append (place_seen t) ps (p ∷ []) ∙ ap (λ vs. vs ++ place_seen t p ∷ []) at.places;
  }

  -- ---- operands, one after the other

  placed-more : (up : ℕ) (ks : List NodeId) (i : ℕ) (d : NodeId) → i < length ks → placed up (trees_at t (take (i + 1) ks)) ≡ placed up (trees_at t (take i ks)) ++ record { up = up; shown = shown_at up (tree t (get_or ks i d)); term = tree t (get_or ks i d) } ∷ []
  placed-more up ks i d lt =
      ap (placed up) (map_more (tree_in t.trees) ks i d lt)
      ∙ map-append (λ u. record { up = up; shown = shown_at up u; term = u }) (trees_at t (take i ks)) (tree t (get_or ks i d) ∷ [])

  pub place-step : (up : ℕ) (ks : List NodeId) (i : ℕ) (d : NodeId) (shown : Option Op) (us : List Place) (ps : List PlacedNode) → i < length ks → IsNode t (get_or ks i d) → shown ≡ shown_at up (tree t (get_or ks i d)) → AreAt t (us ++ placed up (trees_at t (take i ks))) ps → AreAt t (us ++ placed up (trees_at t (take (i + 1) ks))) (ps ++ record { up = up; shown = shown; node = get_or ks i d } ∷ [])
  place-step up ks i d shown us ps lt node is at =
      let k = get_or ks i d in
      let before = placed up (trees_at t (take i ks)) in
      placed-as _ _ _
      (ap (λ s. (us ++ before) ++ record { up = up; shown = s; term = tree t k } ∷ []) is
      ∙ append_assoc us before (record { up = up; shown = shown_at up (tree t k); term = tree t k } ∷ [])
      ∙ ap (λ vs. us ++ vs) (sym (placed-more up ks i d lt)))
      (put-one (us ++ before) ps (record { up = up; shown = shown; node = k }) node at)

  -- ---- what stands below the operands, one after the other

  pub below-step : (ks : List NodeId) (k : ℕ) (d : NodeId) (vs : List Place) (ps : List PlacedNode) → k < length ks → AreAt t (vs ++ places_below k (tree t (get_or ks k d))) ps → vs ++ all_below k (trees_at t (drop k ks)) ≡ places (trees_at t ks) → (ws : List Place) × AreAt t ws ps × (ws ++ all_below (k + 1) (trees_at t (drop (k + 1) ks)) ≡ places (trees_at t ks))
  below-step ks k d vs ps lt at left =
      let here = places_below k (tree t (get_or ks k d)) in
      let on : suc k ≡ k + 1 = omega arith in (
        vs ++ here,
        at,
        append_assoc vs here (all_below (k + 1) (trees_at t (drop (k + 1) ks)))
            ∙ ap (λ n. vs ++ (here ++ all_below n (trees_at t (drop (k + 1) ks)))) (sym on)
            ∙ ap (λ ws. vs ++ ws) (sym (at_drop_more (λ js. all_below k (trees_at t js)) ks k d lt))
            ∙ left,
      )

  pub below-end : (ks : List NodeId) (k : ℕ) (vs : List Place) (ps : List PlacedNode) → length ks ≤ k → AreAt t vs ps → vs ++ all_below k (trees_at t (drop k ks)) ≡ places (trees_at t ks) → AreAt t (places (trees_at t ks)) ps
  below-end ks k vs ps le at left =
      placed-as vs (places (trees_at t ks)) ps (sym (append-nil vs) ∙ ap (λ ws. vs ++ ws) (sym (at_drop_all (λ js. all_below k (trees_at t js)) ks k le)) ∙ left) at

  -- ---- the cells of the places

  pub cells-told : (ks : List NodeId) (us : List Term) (ps qs rs : List PlacedNode) (hs gs : List NodeId) (cells : List Cell) → trees_at t ks ≡ us → AreAt t (places (trees_at t ks)) ps → qs ≡ ps → trees_at t hs ≡ holes_of (map (place_seen t) qs) → gs ≡ hs → rs ≡ ps → map (cell_seen t.sorts) cells ≡ map (cell_of (trees_at t gs)) (map (place_seen t) rs) → map (cell_seen t.sorts) cells ≡ map (cell_of (holes_of (places us))) (places us)
  cells-told ks us ps qs rs hs gs cells are at first holes same second told =
      let seen : map (place_seen t) ps ≡ places us = at.places ∙ ap places are in
      let terms : trees_at t gs ≡ holes_of (places us) = ap (trees_at t) same ∙ holes ∙ ap holes_of (ap (map (place_seen t)) first ∙ seen) in
      let behind : map (place_seen t) rs ≡ places us = ap (map (place_seen t)) second ∙ seen in
      told ∙ (λ i. map (cell_of (terms i)) (behind i))

  pub holes-told : (ks : List NodeId) (us : List Term) (ps qs : List PlacedNode) (hs : List NodeId) → trees_at t ks ≡ us → AreAt t (places (trees_at t ks)) ps → qs ≡ ps → trees_at t hs ≡ holes_of (map (place_seen t) qs) → trees_at t hs ≡ holes_of (places us)
  holes-told ks us ps qs hs are at first holes = holes ∙ ap holes_of (ap (map (place_seen t)) first ∙ at.places ∙ ap places are)
