-- The loop of products: after each bit of the second factor the rest of the products gives the same sum.
use Rattle.std.proofs.Common.{◌≡◌, ℕ, ◌+◌, ◌<◌, false, List, [], ◌∷◌, map, length, get_or, drop, replicate, All, refl, ap, sym, ◌∙◌, subst, add-one}
use Rattle.std.proofs.lemmas.List.{length-replicate, length-map}
use Rattle.std.proofs.lemmas.List.Elements.{All-replicate}
use Rattle.smt_terms.specs.declared.ids.NodeId.{NodeId}
use Rattle.smt_terms.specs.Term.{Term}
use Rattle.term_table.specs.Formulas.{Formulas, tree, tree_in, trees_at}
use Rattle.term_walk.specs.Walking.{GrowsTo}
use Rattle.normal_forms.specs.Nodes.{IsFormula, formula_stays}
use Rattle.bit_blast.specs.declared.shifts.Way.TheVariants.{Up}
use Rattle.bit_blast.specs.BitNodes.{AreBits}
use Rattle.bit_blast.specs.Blasted.{term_gates}
use Rattle.bit_blast.specs.Circuits.{constant, both, each, up, sum, with_products}
use Rattle.bit_blast.specs.VectorLoops.{OnlyGains, IsFalse, AreProducts}
use Rattle.bit_blast.proofs.BitsOverTables.{only-gains-both, tree-kept, formulas-kept, trees-kept, bits-count, trees-count, bit-first}
use Rattle.bit_blast.proofs.CircuitLengths.{length-sum}
use Rattle.bit_blast.proofs.MovedBits.{all-moved, length-moved, map-moved, map-replicate}

-- one bit beside each bit of a row
beside : {A : Type 0} (f : A → A → A) (a : A) (us : List A) → each f (replicate (length us) a) us ≡ map (f a) us
beside f a [] = refl
beside f a (u ∷ us) = ap (λ vs. f a u ∷ vs) (beside f a us)

pub row-terms : (t : Formulas) (bit : NodeId) (row bits : List NodeId) → bits ≡ replicate (length row) bit → each (both term_gates) (trees_at t bits) (trees_at t row) ≡ map (both term_gates (tree t bit)) (trees_at t row)
row-terms t bit row bits is =
    let count : length row ≡ length (trees_at t row) = sym (trees-count t row) in
    let terms : trees_at t bits ≡ replicate (length (trees_at t row)) (tree t bit)
    = ap (trees_at t) is ∙ map-replicate (tree_in t.trees) (length row) bit ∙ ap (λ n. replicate n (tree t bit)) count in
    ap (λ us. each (both term_gates) us (trees_at t row)) terms ∙ beside (both term_gates) (tree t bit) (trees_at t row)

false-kept : (old new : Formulas) (k : NodeId) → GrowsTo old new → IsFalse old k → IsFalse new k
false-kept old new k grows is = record { formula = formula_stays old new k grows is.formula; term = tree-kept old new grows k is.formula ∙ is.term }

pub products-none : (old now : Formulas) (none : NodeId) (a b total : List NodeId) → OnlyGains old now → IsFalse now none → total ≡ replicate (length a) none → AreProducts old now none a b 0 total
products-none old now none a b total gains is_false is =
    let count : length a ≡ length (trees_at old a) = sym (trees-count old a) in
    let terms : trees_at now total ≡ replicate (length (trees_at old a)) (constant term_gates false)
    = ap (trees_at now) is ∙ map-replicate (tree_in now.trees) (length a) none ∙ (λ i. replicate (count i) (is_false.term i)) in
    record {
      gains = gains;
      incoming = is_false;
      formulas = subst (λ (ks : List NodeId). All (IsFormula now) ks) (sym is) (All-replicate (IsFormula now) (length a) none is_false.formula);
      width = ap length is ∙ length-replicate (length a) none;
      terms = ap (with_products term_gates 0 (trees_at old a) (trees_at old b)) terms;
    }

module _ (old now : Formulas) (none : NodeId) (a b : List NodeId) (k : ℕ) (total : List NodeId) (left : All (IsFormula old) a) (right : All (IsFormula old) b) (products : AreProducts old now none a b k total) where
  module _ (moved : List NodeId) (is : moved ≡ up none k a) where
    pub row-formulas : All (IsFormula now) moved
    row-formulas =
        subst (λ (ks : List NodeId). All (IsFormula now) ks) (sym is) (all-moved (IsFormula now) Up none k a products.incoming.formula (formulas-kept old now products.gains.grows a left))

    row-width : length moved ≡ length a
    row-width = ap length is ∙ length-moved Up none k a

    row-trees : trees_at now moved ≡ up (constant term_gates false) k (trees_at old a)
    row-trees =
        let same = trees-kept old now products.gains.grows a left in
        ap (trees_at now) is ∙ map-moved (tree_in now.trees) Up none k a ∙ (λ i. up (products.incoming.term i) k (same i))

    pub row-count : (mid : Formulas) (d : NodeId) (row : List NodeId) → AreBits mid row (map (both term_gates (tree now (get_or b k d))) (trees_at now moved)) → length row ≡ length a
    row-count mid d row row_is =
        bits-count row_is
        ∙ length-map (trees_at now moved) (both term_gates (tree now (get_or b k d)))
        ∙ trees-count now moved
        ∙ row-width

    pub products-more : (mid new : Formulas) (d : NodeId) (row next : List NodeId)
        → k < length b
        → OnlyGains now mid
        → AreBits mid row (map (both term_gates (tree now (get_or b k d))) (trees_at now moved))
        → OnlyGains mid new
        → AreBits new next (sum term_gates (trees_at mid total) (trees_at mid row))
        → AreProducts old new none a b (k + 1) next
    products-more mid new d row next lt gains row_is gains_more next_is =
        let us : List Term = trees_at old a in
        let u : Term = tree old (get_or b k d) in
        let total_terms : List Term = trees_at now total in
        let row_terms : List Term = map (both term_gates u) (up (constant term_gates false) k us) in
        let bit : tree now (get_or b k d) ≡ u = tree-kept old now products.gains.grows (get_or b k d) (right k d lt) in
        let row_same : trees_at mid row ≡ row_terms = row_is.terms ∙ (λ i. map (both term_gates (bit i)) (row-trees i)) in
        let total_same : trees_at mid total ≡ total_terms = trees-kept now mid gains.grows total products.formulas in
        let next_terms : trees_at new next ≡ sum term_gates total_terms row_terms = next_is.terms ∙ (λ i. sum term_gates (total_same i) (row_same i)) in
        let step : with_products term_gates (k + 1) us (drop (k + 1) (trees_at old b)) (sum term_gates total_terms row_terms) ≡ with_products term_gates k us (drop k (trees_at old b)) total_terms
        = ap (λ j. with_products term_gates j us (drop j (trees_at old b)) (sum term_gates total_terms row_terms)) (add-one k)
        ∙ ap (λ vs. with_products term_gates k us vs total_terms) (sym (bit-first old b k d lt)) in
        let total_count : length (trees_at mid total) ≡ length a = trees-count mid total ∙ products.width in
        let row_count : length (trees_at mid row) ≡ length a = trees-count mid row ∙ row-count mid d row row_is in
        record {
          gains = only-gains-both old mid new (only-gains-both old now mid products.gains gains) gains_more;
          incoming = false-kept mid new none gains_more.grows (false-kept now mid none gains.grows products.incoming);
          formulas = next_is.formulas;
          width = bits-count next_is ∙ length-sum term_gates (trees_at mid total) (trees_at mid row) (total_count ∙ sym row_count) ∙ total_count;
          terms = ap (with_products term_gates (k + 1) us (drop (k + 1) (trees_at old b))) next_terms ∙ step ∙ products.terms;
        }
