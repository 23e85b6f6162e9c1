-- The constants that were drawn for the bits of constants, as their bits.
use Rattle.std.proofs.Common.{◌≡◌, ℕ, zero, suc, ◌+◌, ◌-◌, ◌<◌, ◌≤◌, List, [], ◌∷◌, ◌++◌, append-nil, length, get_or, take, drop, map, All, refl, ap, sym, ◌∙◌, subst, arith, length-append, drop-cons}
use Rattle.std.specs.List.{flat_map}
use Rattle.std.proofs.lemmas.Grind.{flat_map-append}
use Rattle.std.proofs.lemmas.List.{map-append, length-map, take-append-drop, take_more, take-map, drop-map, take_at, drop_at}
use Rattle.std.proofs.lemmas.List.Elements.{All-take, All-drop}
use Rattle.smt_terms.specs.declared.ids.NodeId.{NodeId}
use Rattle.smt_terms.specs.Groups.{Named}
use Rattle.smt_terms.specs.Sorts.{Symbol}
use Rattle.smt_terms.specs.Term.{Term}
use Rattle.normal_forms.specs.Nodes.{IsFormula}
use Rattle.term_groups.specs.declared.constants.Constants.{Constants}
use Rattle.term_groups.specs.Seen.{named_at}
use Rattle.term_table.specs.Formulas.{Formulas, tree, tree_in, trees_at, IsTable}
use Rattle.bit_blast.specs.Blasted.{bits_from, width_of, is_vector, bit_constant, symbol_bits, bits}
use Rattle.bit_blast.specs.Subterms.{symbol_in, constant_bits, IsVector, AreDrawn, IsKeptFor}
use Rattle.bit_blast.proofs.VectorNodes.{vector-result, symbol-term}

length-bits_from : (f : Symbol) (i n : ℕ) → length (bits_from f i n) ≡ n
length-bits_from f i zero = refl
length-bits_from f i (suc n) = ap suc (length-bits_from f (suc i) n)

module _ (t : Formulas) (table : IsTable t) (vectors : List NodeId) (c : Constants) (drawn : AreDrawn t vectors c) (i : ℕ) (d : NodeId) (lt : i < length vectors) where
  abbrev here : NodeId
  here = get_or vectors i d

  abbrev wide : ℕ
  wide = width_of (symbol_in (tree t here)).result

  abbrev earlier : List Term
  earlier = flat_map constant_bits (trees_at t (take i vectors))

  abbrev own : List Term
  own = constant_bits (tree t here)

  abbrev later : List Term
  later = flat_map constant_bits (trees_at t (drop (suc i) vectors))

  pub one-more : flat_map constant_bits (trees_at t (take (i + 1) vectors)) ≡ earlier ++ own
  one-more =
      ap (λ (ks : List NodeId). flat_map constant_bits (trees_at t ks)) (take_more vectors i d lt)
      ∙ ap (flat_map constant_bits) (map-append (tree_in t.trees) (take i vectors) (here ∷ []))
      ∙ flat_map-append constant_bits (trees_at t (take i vectors)) (tree t here ∷ [])
      ∙ ap (λ us. earlier ++ us) (append-nil own)

  own-length : length own ≡ wide
  own-length = length-bits_from (symbol_in (tree t here)) 0 wide

  pub more-length : length (flat_map constant_bits (trees_at t (take (i + 1) vectors))) ≡ length earlier + wide
  more-length = ap length one-more ∙ length-append earlier own ∙ ap (λ n. length earlier + n) own-length

  all-bits : flat_map constant_bits (trees_at t vectors) ≡ earlier ++ (own ++ later)
  all-bits =
      ap (λ (ks : List NodeId). flat_map constant_bits (trees_at t ks)) (sym (take-append-drop i vectors) ∙ ap (λ (ks : List NodeId). take i vectors ++ ks) (drop-cons vectors i d lt))
      ∙ ap (flat_map constant_bits) (map-append (tree_in t.trees) (take i vectors) (here ∷ drop (suc i) vectors))
      ∙ flat_map-append constant_bits (trees_at t (take i vectors)) (tree t here ∷ trees_at t (drop (suc i) vectors))

  pub within : length earlier + wide ≤ length c.nodes
  within =
      let a = length-map c.nodes (tree_in t.trees) in
      let b = ap length drawn.terms in
      let e = length-map (flat_map constant_bits (trees_at t vectors)) (bit_constant (named_at t c.symbols)) in
      let f = ap length all-bits in
      let g = length-append earlier (own ++ later) in
      let h = length-append own later in
      let l = own-length in
      omega (arith, a, b, e, f, g, h, l)

  -- the nodes of this constant's bits are those behind the earlier ones
  taken : trees_at t (take wide (drop (length earlier) c.nodes)) ≡ map (bit_constant (named_at t c.symbols)) own
  taken =
      let bit = bit_constant (named_at t c.symbols) in
      sym (take-map (tree_in t.trees) wide (drop (length earlier) c.nodes))
      ∙ ap (take wide) (sym (drop-map (tree_in t.trees) (length earlier) c.nodes) ∙ ap (drop (length earlier)) (drawn.terms ∙ ap (map bit) all-bits ∙ map-append bit earlier (own ++ later))
      ∙ drop_at (map bit earlier) (map bit (own ++ later)) (length earlier) (length-map earlier bit)
      ∙ map-append bit own later)
      ∙ take_at (map bit own) (map bit later) wide (length-map own bit ∙ own-length)

  own-bits : (ns : Named) → map (bit_constant ns) own ≡ bits ns (tree t here)
  own-bits ns =
      let v : IsVector t here = drawn.constants i d lt in
      let f = symbol_in (tree t here) in
      let result = vector-result f (ap (λ u. is_vector (symbol_in u)) v.term ∙ v.vector) in
      ap (symbol_bits ns f) (sym result) ∙ ap (bits ns) (sym (symbol-term t table here v))

  pub vector-kept : (start end : ℕ) (js : List NodeId) → start ≡ length earlier → end ≡ start + wide → js ≡ take (end - start) (drop start c.nodes) → IsKeptFor t (named_at t c.symbols) here js
  vector-kept start end js from to are =
      let number : end - start ≡ wide = omega arith in
      let same : js ≡ take wide (drop (length earlier) c.nodes) = are ∙ (λ k. take (number k) (drop (from k) c.nodes)) in
      record {
        node = (drawn.constants i d lt).node;
        bits = record {
          formulas = subst (All (IsFormula t)) (sym same) (All-take (IsFormula t) wide (drop (length earlier) c.nodes) (All-drop (IsFormula t) (length earlier) c.nodes drawn.formulas));
          terms = ap (trees_at t) same ∙ taken ∙ own-bits (named_at t c.symbols);
        };
      }
