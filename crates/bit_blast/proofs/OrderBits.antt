-- Bits of comparisons, as the table gains.
use Rattle.std.proofs.Common.{◌≡◌, suc, ◌-◌, ◌<◌, ◌≤◌, List, [], ◌∷◌, ◌++◌, map, length, All, Some, refl, ap, sym, ◌∙◌, subst, arith, append_assoc}
use Rattle.std.specs.Borrow.{Bor}
use Rattle.std.specs.List.{slice_get}
use Rattle.std.proofs.lemmas.List.{length-map, map-append}
use Rattle.std.proofs.lemmas.List.Elements.{All-head, All-tail, All-push, All-pop}
use Rattle.smt_terms.specs.declared.ids.NodeId.{NodeId}
use Rattle.smt_terms.specs.Term.{Term}
use Rattle.term_table.specs.Formulas.{Formulas, tree, tree_in, trees_at}
use Rattle.term_walk.specs.Walking.{GrowsTo}
use Rattle.normal_forms.specs.Nodes.{IsFormula}
use Rattle.bit_blast.specs.BitNodes.{AreBits}
use Rattle.bit_blast.specs.BitLoops.{GainsNodes, AreFirst, MakesLess, differ_in, apart_in, MakesUnequal, MakesApart}
use Rattle.bit_blast.specs.Blasted.{term_gates}
use Rattle.bit_blast.specs.Circuits.{inverse, each, top, equal, less_from, with_top_turned}
use Rattle.bit_blast.proofs.BitLists.{gains-self, gains-on, formulas-stay, trees-stay, first-none, first-push, first-all, are-next, vectors-start}

-- ---- the highest bit

pub top-last : (t : Formulas) (ks : List NodeId) (k : NodeId) → slice_get ks (length ks - 1) ≡ Some k → tree t k ≡ top term_gates (trees_at t ks)
top-last t [] k e = absurd cc
top-last t (j ∷ []) k e = let same : j ≡ k = cc in ap (tree t) (sym same)
top-last t (j ∷ i ∷ ks) k e =
    let here : length (j ∷ i ∷ ks) - 1 ≡ suc (length ks) = omega arith in
    let there : length ks ≡ length (i ∷ ks) - 1 = omega arith in
    top-last t (i ∷ ks) k (ap (slice_get (i ∷ ks)) (sym there) ∙ ap (slice_get (j ∷ i ∷ ks)) (sym here) ∙ e)

top-turned : (us : List Term) (u : Term) → with_top_turned term_gates (us ++ u ∷ []) ≡ us ++ inverse term_gates u ∷ []
top-turned [] u = refl
top-turned (v ∷ []) u = refl
top-turned (v ∷ w ∷ us) u = ap (λ ws. v ∷ ws) (top-turned (w ∷ us) u)

pub turned-bits : (old new : Formulas) (a lower more : List NodeId) (k r : NodeId) → GrowsTo old new → All (IsFormula old) a → a ≡ lower ++ k ∷ [] → IsFormula new r → tree new r ≡ inverse term_gates (tree old k) → more ≡ lower ++ r ∷ [] → AreBits new more (with_top_turned term_gates (trees_at old a))
turned-bits old new a lower more k r grows formulas is formula term now =
    let below : All (IsFormula old) lower = (All-pop (IsFormula old) a lower (Some k) is formulas).0 in
    record {
      formulas = subst (λ (xs : List NodeId). All (IsFormula new) xs) (sym now) (All-push (IsFormula new) lower r (formulas-stay old new lower grows below) formula);
      terms =
          ap (trees_at new) now
          ∙ map-append (tree_in new.trees) lower (r ∷ [])
          ∙ (λ i. trees-stay old new lower grows below i ++ term i ∷ [])
          ∙ sym (top-turned (trees_at old lower) (tree old k))
          ∙ ap (with_top_turned term_gates) (sym (map-append (tree_in old.trees) lower (k ∷ [])) ∙ ap (trees_at old) (sym is));
    }

length-turned : (us : List Term) → length (with_top_turned term_gates us) ≡ length us
length-turned [] = refl
length-turned (u ∷ []) = refl
length-turned (u ∷ v ∷ us) = ap suc (length-turned (v ∷ us))

pub turned-count : (old new : Formulas) (a bits ks : List NodeId) → AreBits new bits (with_top_turned term_gates (trees_at old a)) → ks ≡ bits → length ks ≡ length a
turned-count old new a bits ks turned is =
    ap length is ∙ sym (length-map bits (tree_in new.trees)) ∙ ap length turned.terms ∙ length-turned (trees_at old a) ∙ length-map a (tree_in old.trees)

-- ---- whether two vectors are equal

length-each : (f : Term → Term → Term) (us vs : List Term) → length us ≡ length vs → length (each f us vs) ≡ length us
length-each f [] vs same = refl
length-each f (u ∷ us) [] same = absurd (omega arith)
length-each f (u ∷ us) (v ∷ vs) same = ap suc (length-each f us vs (omega arith))

pub some-bits : (f : Term → Term → Term) (old new : Formulas) (a b bits ks : List NodeId) → AreBits new bits (each f (trees_at old a) (trees_at old b)) → length a ≡ length b → 0 < length a → ks ≡ bits → 0 < length ks
some-bits f old new a b bits ks made same some is =
    let firsts = length-map a (tree_in old.trees) in
    let seconds = length-map b (tree_in old.trees) in
    let number = length-each f (trees_at old a) (trees_at old b) (omega (arith, firsts, seconds, same)) in
    let count : length bits ≡ length (each f (trees_at old a) (trees_at old b)) = sym (length-map bits (tree_in new.trees)) ∙ ap length made.terms in
    omega (arith, ap length is, firsts, number, count, some)

-- ---- the lesser number

pub less-start : (old t : Formulas) (a b ks js : List NodeId) (l : NodeId) (u : Term) → ks ≡ a → js ≡ b → GainsNodes old t → All (IsFormula old) a → All (IsFormula old) b → length a ≡ length b → IsFormula t l → tree t l ≡ u → MakesLess old t ks js l (less_from term_gates (trees_at old a) (trees_at old b) u)
less-start old t a b ks js l u first second gains firsts seconds same formula term = record {
  gains = gains;
  left = vectors-start old a b ks js first second firsts seconds same;
  formula = formula;
  term = λ i. less_from term_gates (trees_at old (first i)) (trees_at old (second i)) (term i);
}

pub less-turn : (old t new : Formulas) (k j l m : NodeId) (ks js before others : List NodeId) (u : Term) → MakesLess old t before others l u → before ≡ k ∷ ks → others ≡ j ∷ js → GainsNodes t new → IsFormula new m → tree new m ≡ less_from term_gates (tree t k ∷ []) (tree t j ∷ []) (tree t l) → MakesLess old new ks js m u
less-turn old t new k j l m ks js before others u so_far first second gains formula term =
    let next = are-next old t k j ks js before others so_far.gains.grows so_far.left first second in
    record {
      gains = gains-on old t new so_far.gains gains;
      left = next.rest;
      formula = formula;
      term =
          ap (less_from term_gates (trees_at old ks) (trees_at old js)) (term ∙ (λ i. less_from term_gates (next.first.term i ∷ []) (next.second.term i ∷ []) (tree t l)))
          ∙ (λ i. less_from term_gates (trees_at old (sym first i)) (trees_at old (sym second i)) (tree t l))
          ∙ so_far.term;
    }

pub less-end : (old t : Formulas) (ks js : List NodeId) (l : NodeId) (u : Term) → MakesLess old t ks js l u → ks ≡ [] → tree t l ≡ u
less-end old t ks js l u so_far none = (λ i. less_from term_gates (trees_at old (sym none i)) (trees_at old js) (tree t l)) ∙ so_far.term

-- ---- vectors of which no two are equal

module _ (old t mid new : Formulas) (a : List NodeId) (x : Bor (List NodeId)) (before xs : List (Bor (List NodeId))) (s r : NodeId) (made more : List NodeId) (all : List Term) (so_far : MakesUnequal old t a before made all) (next : before ≡ x ∷ xs) where
  pub unequal-turn : All (IsFormula old) a → All (IsFormula old) x.now → GainsNodes t mid → tree mid s ≡ equal term_gates (trees_at t a) (trees_at t x.now) → GainsNodes mid new → IsFormula new r → tree new r ≡ inverse term_gates (tree mid s) → more ≡ made ++ r ∷ [] → MakesUnequal old new a xs more all
  unequal-turn firsts seconds gains same gains_on formula term is =
      let grows = so_far.gains.grows in
      let on = gains-on t mid new gains gains_on in
      record {
        gains = gains-on old t new so_far.gains on;
        bits =
            first-push t new made more r (differ_in old a x) (map (differ_in old a) before) (map (differ_in old a) xs) all on.grows so_far.bits
            (ap (map (differ_in old a)) next)
            formula
            (term ∙ ap (inverse term_gates) (same ∙ (λ i. equal term_gates (trees-stay old t a grows firsts i) (trees-stay old t x.now grows seconds i))))
            is;
      }

pub unequal-end : (old t : Formulas) (a : List NodeId) (left : List (Bor (List NodeId))) (made : List NodeId) (all : List Term) → MakesUnequal old t a left made all → left ≡ [] → AreBits t made all
unequal-end old t a left made all so_far none = first-all t made (map (differ_in old a) left) all (ap (map (differ_in old a)) none) so_far.bits

-- several bits more
first-more : (old new : Formulas) (ks more : List NodeId) (us before left all : List Term) → AreFirst old ks before all → before ≡ us ++ left → AreBits new more (trees_at old ks ++ us) → AreFirst new more left all
first-more old new ks more us before left all begun next made = record {
  formulas = made.formulas;
  terms =
      ap (λ vs. vs ++ left) made.terms
      ∙ append_assoc (trees_at old ks) us left
      ∙ ap (λ vs. trees_at old ks ++ vs) (sym next)
      ∙ begun.terms;
}

unequal-stay : (old t : Formulas) (x : Bor (List NodeId)) (xs : List (Bor (List NodeId))) → GrowsTo old t → All (IsFormula old) x.now → All (λ y. All (IsFormula old) y.now) xs
    → map (differ_in t x.now) xs ≡ map (λ us. inverse term_gates (equal term_gates (trees_at old x.now) us)) (map (λ y. trees_at old y.now) xs)
unequal-stay old t x [] grows firsts others = refl
unequal-stay old t x (y ∷ xs) grows firsts others =
    let seconds : All (IsFormula old) y.now = All-head (λ (z : Bor (List NodeId)). All (IsFormula old) z.now) y xs others in
    let rest = unequal-stay old t x xs grows firsts (All-tail (λ (z : Bor (List NodeId)). All (IsFormula old) z.now) y xs others) in
    λ i. inverse term_gates (equal term_gates (trees-stay old t x.now grows firsts i) (trees-stay old t y.now grows seconds i)) ∷ rest i

pub apart-start : (t : Formulas) (xs : List (Bor (List NodeId))) (made : List NodeId) → made ≡ [] → MakesApart t t xs made (apart_in t xs)
apart-start t xs made none = record { gains = gains-self t; bits = first-none t made (apart_in t xs) none }

pub apart-turn : (old t new : Formulas) (x : Bor (List NodeId)) (before xs others : List (Bor (List NodeId))) (made more : List NodeId) (all : List Term) → MakesApart old t before made all → before ≡ x ∷ xs → others ≡ xs → All (λ y. All (IsFormula old) y.now) before → GainsNodes t new → AreBits new more (trees_at t made ++ map (differ_in t x.now) others) → MakesApart old new xs more all
apart-turn old t new x before xs others made more all so_far next is formulas gains bits =
    let here : All (λ y. All (IsFormula old) y.now) (x ∷ xs) = subst (λ (ys : List (Bor (List NodeId))). All (λ y. All (IsFormula old) y.now) ys) next formulas in
    let firsts : All (IsFormula old) x.now = All-head (λ (z : Bor (List NodeId)). All (IsFormula old) z.now) x xs here in
    let same = unequal-stay old t x xs so_far.gains.grows firsts (All-tail (λ (z : Bor (List NodeId)). All (IsFormula old) z.now) x xs here) in
    record {
      gains = gains-on old t new so_far.gains gains;
      bits =
          first-more t new made more (map (differ_in t x.now) others) (apart_in old before) (apart_in old xs) all so_far.bits
          (ap (apart_in old) next ∙ ap (λ us. us ++ apart_in old xs) (sym same ∙ ap (map (differ_in t x.now)) (sym is)))
          bits;
    }

pub apart-end : (old t : Formulas) (left : List (Bor (List NodeId))) (made : List NodeId) (all : List Term) → MakesApart old t left made all → left ≡ [] → AreBits t made all
apart-end old t left made all so_far none = first-all t made (apart_in old left) all (ap (apart_in old) none) so_far.bits

some-apart : (t : Formulas) (xs : List (Bor (List NodeId))) → 2 ≤ length xs → 0 < length (apart_in t xs)
some-apart t [] le = absurd (omega arith)
some-apart t (x ∷ []) le = absurd (omega arith)
some-apart t (x ∷ y ∷ xs) le = omega arith

pub apart-some : (old t : Formulas) (xs : List (Bor (List NodeId))) (made ks : List NodeId) → AreBits t made (apart_in old xs) → 2 ≤ length xs → ks ≡ made → 0 < length ks
apart-some old t xs made ks bits several is =
    let some = some-apart old xs several in
    let count : length made ≡ length (apart_in old xs) = sym (length-map made (tree_in t.trees)) ∙ ap length bits.terms in
    omega (arith, ap length is, count, some)
