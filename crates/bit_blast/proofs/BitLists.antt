-- Bits that are made one after the other, as the table gains.
use Rattle.std.proofs.Common.{◌≡◌, ℕ, zero, suc, List, [], ◌∷◌, ◌++◌, map, length, replicate, get_or, All, refl, ap, sym, ◌∙◌, subst, arith, append_assoc}
use Rattle.std.proofs.lemmas.List.{append-nil, map-append}
use Rattle.std.proofs.lemmas.List.Elements.{All-head, All-tail, All-push}
use Rattle.smt_terms.specs.declared.ids.NodeId.{NodeId}
use Rattle.smt_terms.specs.Term.{Term}
use Rattle.term_table.specs.Formulas.{Formulas, no_tree, tree, tree_in, trees_at}
use Rattle.term_walk.specs.Walking.{GrowsTo}
use Rattle.term_walk.proofs.Visits.{grows-self, table-grows}
use Rattle.normal_forms.specs.Nodes.{IsFormula, formula_stays}
use Rattle.bit_blast.specs.BitNodes.{AreBits}
use Rattle.bit_blast.specs.BitLoops.{GainsNodes, IsBit, AreVectors, AreFirst, MakesMap, MakesEach, MakesSum}
use Rattle.bit_blast.specs.Blasted.{term_gates}
use Rattle.bit_blast.specs.Circuits.{differ, each, carry, add}

-- ---- a table that gains

pub gains-self : (t : Formulas) → GainsNodes t t
gains-self t = record {
  grows = record { trees = grows-self t.trees; symbols = grows-self t.symbols; sorts = grows-self t.sorts };
  symbols = refl;
  sorts = refl;
}

pub gains-on : (s t u : Formulas) → GainsNodes s t → GainsNodes t u → GainsNodes s u
gains-on s t u g h = record { grows = table-grows s t u g.grows h.grows; symbols = h.symbols ∙ g.symbols; sorts = h.sorts ∙ g.sorts }

pub formulas-stay : (old new : Formulas) (ks : List NodeId) → GrowsTo old new → All (IsFormula old) ks → All (IsFormula new) ks
formulas-stay old new ks grows formulas i d lt = formula_stays old new (get_or ks i d) grows (formulas i d lt)

pub tree-stays : (old new : Formulas) (k : NodeId) → GrowsTo old new → IsFormula old k → tree new k ≡ tree old k
tree-stays old new k grows formula = grows.trees.same k.0 no_tree formula.node

pub trees-stay : (old new : Formulas) (ks : List NodeId) → GrowsTo old new → All (IsFormula old) ks → trees_at new ks ≡ trees_at old ks
trees-stay old new [] grows formulas = refl
trees-stay old new (k ∷ ks) grows formulas =
    let first : tree new k ≡ tree old k = tree-stays old new k grows (All-head (IsFormula old) k ks formulas) in
    let rest = trees-stay old new ks grows (All-tail (IsFormula old) k ks formulas) in
    λ i. first i ∷ rest i

pub trees-repeated : (t : Formulas) (k : NodeId) (n : ℕ) → trees_at t (replicate n k) ≡ replicate n (tree t k)
trees-repeated t k zero = refl
trees-repeated t k (suc n) = ap (λ us. tree t k ∷ us) (trees-repeated t k n)

-- ---- one bit more

pub first-none : (t : Formulas) (ks : List NodeId) (all : List Term) → ks ≡ [] → AreFirst t ks all all
first-none t ks all none =
    let begun : AreFirst t [] all all = record { formulas = λ i d lt. absurd (omega arith); terms = refl } in
    subst (λ (js : List NodeId). AreFirst t js all all) (sym none) begun

pub first-push : (old new : Formulas) (ks more : List NodeId) (k : NodeId) (u : Term) (before left all : List Term) → GrowsTo old new → AreFirst old ks before all → before ≡ u ∷ left → IsFormula new k → tree new k ≡ u → more ≡ ks ++ k ∷ [] → AreFirst new more left all
first-push old new ks more k u before left all grows begun next formula term is = record {
  formulas = subst (λ (js : List NodeId). All (IsFormula new) js) (sym is) (All-push (IsFormula new) ks k (formulas-stay old new ks grows begun.formulas) formula);
  terms =
      ap (λ js. trees_at new js ++ left) is
      ∙ ap (λ us. us ++ left) (map-append (tree_in new.trees) ks (k ∷ []))
      ∙ (λ i. (trees-stay old new ks grows begun.formulas i ++ term i ∷ []) ++ left)
      ∙ append_assoc (trees_at old ks) (u ∷ []) left
      ∙ ap (λ us. trees_at old ks ++ us) (sym next)
      ∙ begun.terms;
}

pub first-all : (t : Formulas) (ks : List NodeId) (left all : List Term) → left ≡ [] → AreFirst t ks left all → AreBits t ks all
first-all t ks left all none begun = record {
  formulas = begun.formulas;
  terms = sym (append-nil (trees_at t ks)) ∙ ap (λ us. trees_at t ks ++ us) (sym none) ∙ begun.terms;
}

-- ---- what a turn takes

is-kept : (old t : Formulas) (k : NodeId) → GrowsTo old t → IsFormula old k → IsBit t k (tree old k)
is-kept old t k grows formula = record { formula = formula_stays old t k grows formula; term = tree-stays old t k grows formula }

-- the two bits of a turn, and what is left
pub record AreNext (old t : Formulas) (k j : NodeId) (ks js : List NodeId) : Type 0 where
  pub first : IsBit t k (tree old k)
  pub second : IsBit t j (tree old j)
  pub rest : AreVectors old ks js

next-vectors : (old t : Formulas) (k j : NodeId) (ks js : List NodeId) → GrowsTo old t → AreVectors old (k ∷ ks) (j ∷ js) → AreNext old t k j ks js
next-vectors old t k j ks js grows left = record {
  first = is-kept old t k grows (All-head (IsFormula old) k ks left.first);
  second = is-kept old t j grows (All-head (IsFormula old) j js left.second);
  rest =
      let same = left.same in
      record { first = All-tail (IsFormula old) k ks left.first; second = All-tail (IsFormula old) j js left.second; same = omega arith };
}

pub are-next : (old t : Formulas) (k j : NodeId) (ks js before others : List NodeId) → GrowsTo old t → AreVectors old before others → before ≡ k ∷ ks → others ≡ j ∷ js → AreNext old t k j ks js
are-next old t k j ks js before others grows left first second =
    next-vectors old t k j ks js grows (subst (λ (xs : List NodeId). AreVectors old (k ∷ ks) xs) second (subst (λ (xs : List NodeId). AreVectors old xs others) first left))

pub vectors-start : (t : Formulas) (a b ks js : List NodeId) → ks ≡ a → js ≡ b → All (IsFormula t) a → All (IsFormula t) b → length a ≡ length b → AreVectors t ks js
vectors-start t a b ks js first second firsts seconds same =
    let start : AreVectors t a b = record { first = firsts; second = seconds; same = same } in
    subst (λ (xs : List NodeId). AreVectors t xs js) (sym first) (subst (λ (xs : List NodeId). AreVectors t a xs) (sym second) start)

-- ---- bits of a vector

module _ (f : Term → Term) where
  pub map-start : (t : Formulas) (a made : List NodeId) → All (IsFormula t) a → made ≡ [] → MakesMap f t t a made (map f (trees_at t a))
  map-start t a made formulas none = record { gains = gains-self t; left = formulas; bits = first-none t made (map f (trees_at t a)) none }

  pub map-turn : (old t new : Formulas) (k r : NodeId) (ks before made more : List NodeId) (all : List Term) → MakesMap f old t before made all → before ≡ k ∷ ks → GainsNodes t new → IsFormula new r → tree new r ≡ f (tree t k) → more ≡ made ++ r ∷ [] → MakesMap f old new ks more all
  map-turn old t new k r ks before made more all so_far next gains formula term is =
      let left : All (IsFormula old) (k ∷ ks) = subst (λ (xs : List NodeId). All (IsFormula old) xs) next so_far.left in
      let same : tree t k ≡ tree old k = tree-stays old t k so_far.gains.grows (All-head (IsFormula old) k ks left) in
      record {
        gains = gains-on old t new so_far.gains gains;
        left = All-tail (IsFormula old) k ks left;
        bits =
            first-push t new made more r (f (tree old k)) (map f (trees_at old before)) (map f (trees_at old ks)) all gains.grows so_far.bits
            (ap (λ (xs : List NodeId). map f (trees_at old xs)) next)
            formula
            (term ∙ ap f same)
            is;
      }

  pub map-end : (old t : Formulas) (ks made : List NodeId) (all : List Term) → MakesMap f old t ks made all → ks ≡ [] → AreBits t made all
  map-end old t ks made all so_far none =
      first-all t made (map f (trees_at old ks)) all (ap (λ (xs : List NodeId). map f (trees_at old xs)) none) so_far.bits

-- ---- bits of two vectors

module _ (f : Term → Term → Term) where
  pub each-start : (t : Formulas) (a b ks js made : List NodeId) → ks ≡ a → js ≡ b → All (IsFormula t) a → All (IsFormula t) b → length a ≡ length b → made ≡ [] → MakesEach f t t ks js made (each f (trees_at t a) (trees_at t b))
  each-start t a b ks js made first second firsts seconds same none = record {
    gains = gains-self t;
    left = vectors-start t a b ks js first second firsts seconds same;
    bits =
        subst (λ (us : List Term). AreFirst t made (each f (trees_at t ks) (trees_at t js)) us)
        (λ i. each f (trees_at t (first i)) (trees_at t (second i)))
        (first-none t made (each f (trees_at t ks) (trees_at t js)) none);
  }

  pub each-turn : (old t new : Formulas) (k j r : NodeId) (ks js before others made more : List NodeId) (all : List Term) → MakesEach f old t before others made all → before ≡ k ∷ ks → others ≡ j ∷ js → GainsNodes t new → IsFormula new r → tree new r ≡ f (tree t k) (tree t j) → more ≡ made ++ r ∷ [] → MakesEach f old new ks js more all
  each-turn old t new k j r ks js before others made more all so_far first second gains formula term is =
      let next = are-next old t k j ks js before others so_far.gains.grows so_far.left first second in
      record {
        gains = gains-on old t new so_far.gains gains;
        left = next.rest;
        bits =
            first-push t new made more r (f (tree old k) (tree old j)) (each f (trees_at old before) (trees_at old others)) (each f (trees_at old ks) (trees_at old js)) all gains.grows so_far.bits
            (λ i. each f (trees_at old (first i)) (trees_at old (second i)))
            formula
            (term ∙ (λ i. f (next.first.term i) (next.second.term i)))
            is;
      }

  pub each-end : (old t : Formulas) (ks js made : List NodeId) (all : List Term) → MakesEach f old t ks js made all → ks ≡ [] → AreBits t made all
  each-end old t ks js made all so_far none =
      first-all t made (each f (trees_at old ks) (trees_at old js)) all (ap (λ (xs : List NodeId). each f (trees_at old xs) (trees_at old js)) none) so_far.bits

-- ---- bits of a sum

pub sum-start : (t : Formulas) (a b ks js made : List NodeId) (c : NodeId) → ks ≡ a → js ≡ b → All (IsFormula t) a → All (IsFormula t) b → length a ≡ length b → IsFormula t c → made ≡ [] → MakesSum t t ks js made c (add term_gates (trees_at t a) (trees_at t b) (tree t c))
sum-start t a b ks js made c first second firsts seconds same formula none = record {
  gains = gains-self t;
  left = vectors-start t a b ks js first second firsts seconds same;
  carry = formula;
  bits =
      subst (λ (us : List Term). AreFirst t made (add term_gates (trees_at t ks) (trees_at t js) (tree t c)) us)
      (λ i. add term_gates (trees_at t (first i)) (trees_at t (second i)) (tree t c))
      (first-none t made (add term_gates (trees_at t ks) (trees_at t js) (tree t c)) none);
}

pub sum-turn : (old t new : Formulas) (k j r c d : NodeId) (ks js before others made more : List NodeId) (all : List Term) → MakesSum old t before others made c all → before ≡ k ∷ ks → others ≡ j ∷ js → GainsNodes t new
    → IsBit new r (differ term_gates (differ term_gates (tree t k) (tree t j)) (tree t c)) → IsBit new d (carry term_gates (tree t k) (tree t j) (tree t c)) → more ≡ made ++ r ∷ [] → MakesSum old new ks js more d all
sum-turn old t new k j r c d ks js before others made more all so_far first second gains bit carried is =
    let next = are-next old t k j ks js before others so_far.gains.grows so_far.left first second in
    let u = differ term_gates (differ term_gates (tree old k) (tree old j)) (tree t c) in
    let next_carry : tree new d ≡ carry term_gates (tree old k) (tree old j) (tree t c) = carried.term ∙ (λ i. carry term_gates (next.first.term i) (next.second.term i) (tree t c)) in
    record {
      gains = gains-on old t new so_far.gains gains;
      left = next.rest;
      carry = carried.formula;
      bits =
          first-push t new made more r u (add term_gates (trees_at old before) (trees_at old others) (tree t c)) (add term_gates (trees_at old ks) (trees_at old js) (tree new d)) all gains.grows so_far.bits
          ((λ i. add term_gates (trees_at old (first i)) (trees_at old (second i)) (tree t c)) ∙ ap (λ v. u ∷ add term_gates (trees_at old ks) (trees_at old js) v) (sym next_carry))
          bit.formula
          (bit.term ∙ (λ i. differ term_gates (differ term_gates (next.first.term i) (next.second.term i)) (tree t c)))
          is;
    }

pub sum-end : (old t : Formulas) (ks js made : List NodeId) (c : NodeId) (all : List Term) → MakesSum old t ks js made c all → ks ≡ [] → AreBits t made all
sum-end old t ks js made c all so_far none =
    first-all t made (add term_gates (trees_at old ks) (trees_at old js) (tree t c)) all (ap (λ (xs : List NodeId). add term_gates (trees_at old xs) (trees_at old js) (tree t c)) none) so_far.bits
