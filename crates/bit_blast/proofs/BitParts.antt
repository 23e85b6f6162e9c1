-- Parts of vectors, and bits above vectors.
use Rattle.std.proofs.Common.{◌≡◌, ℕ, zero, suc, ◌+◌, ◌-◌, ◌<◌, ◌%◌, ◌/◌, ◌==◌, Bool, true, false, cond, List, [], ◌∷◌, ◌++◌, map, replicate, take, drop, get_or, All, refl, ap, sym, ◌∙◌, subst, append_assoc, arith}
use Rattle.std.proofs.lemmas.Bool.Decides.{Decides-eqb}
use Rattle.std.proofs.lemmas.List.{map-append, take-map, drop-map}
use Rattle.std.proofs.lemmas.List.Elements.{All-append, All-replicate, All-map, All-take, All-drop}
use Rattle.smt_terms.specs.declared.ids.NodeId.{NodeId}
use Rattle.smt_terms.specs.Term.{Term}
use Rattle.smt_terms.specs.BitVectors.{nat2bv}
use Rattle.term_table.specs.Formulas.{Formulas, tree, tree_in, trees_at}
use Rattle.term_walk.specs.Walking.{GrowsTo}
use Rattle.normal_forms.specs.Nodes.{IsFormula}
use Rattle.bit_blast.specs.BitNodes.{AreBits}
use Rattle.bit_blast.specs.Blasted.{term_gates}
use Rattle.bit_blast.specs.Circuits.{constant}
use Rattle.bit_blast.proofs.GainedBits.{formulas_stay, trees_stay}

pub part-bits : (t : Formulas) (us ks : List NodeId) (n m : ℕ) → All (IsFormula t) us → ks ≡ take n (drop m us) → AreBits t ks (take n (drop m (trees_at t us)))
part-bits t us ks n m formulas is = record {
  formulas = subst (λ (js : List NodeId). All (IsFormula t) js) (sym is) (All-take (IsFormula t) n (drop m us) (All-drop (IsFormula t) m us formulas));
  terms = ap (trees_at t) is ∙ sym (take-map (tree_in t.trees) n (drop m us)) ∙ ap (take n) (sym (drop-map (tree_in t.trees) m us));
}

pub turned-bits : (t : Formulas) (us ks : List NodeId) (n m : ℕ) → All (IsFormula t) us → m ≡ n → ks ≡ drop n us ++ take n us → AreBits t ks (drop m (trees_at t us) ++ take m (trees_at t us))
turned-bits t us ks n m formulas same is = record {
  formulas =
      subst (λ (js : List NodeId). All (IsFormula t) js) (sym is)
      (All-append (IsFormula t) (drop n us) (take n us) (All-drop (IsFormula t) n us formulas) (All-take (IsFormula t) n us formulas));
  terms =
      ap (trees_at t) is
      ∙ map-append (tree_in t.trees) (drop n us) (take n us)
      ∙ (λ i. sym (drop-map (tree_in t.trees) n us) i ++ sym (take-map (tree_in t.trees) n us) i)
      ∙ ap (λ k. drop k (trees_at t us) ++ take k (trees_at t us)) (sym same);
}

map-replicate : {X Y : Type 0} (f : X → Y) (n : ℕ) (x : X) → map f (replicate n x) ≡ replicate n (f x)
map-replicate f zero x = refl
map-replicate f (suc n) x = ap (λ ys. f x ∷ ys) (map-replicate f n x)

pub extended-bits : (old new : Formulas) (us ks : List NodeId) (k : NodeId) (t : Term) (n : ℕ) → GrowsTo old new → All (IsFormula old) us → IsFormula new k → tree new k ≡ t → ks ≡ us ++ replicate n k
    → AreBits new ks (trees_at old us ++ replicate n t)
extended-bits old new us ks k t n grows formulas formula term is = record {
  formulas =
      subst (λ (js : List NodeId). All (IsFormula new) js) (sym is)
      (All-append (IsFormula new) us (replicate n k) (formulas_stay old new us grows formulas) (All-replicate (IsFormula new) n k formula));
  terms =
      ap (trees_at new) is
      ∙ map-append (tree_in new.trees) us (replicate n k)
      ∙ (λ i. trees_stay old new us grows formulas i ++ map-replicate (tree_in new.trees) n k i)
      ∙ ap (λ u. trees_at old us ++ replicate n u) term;
}

-- ---- the bits of a number, with a node for 0 and one for 1

abbrev pub digit : {X : Type 0} → X → X → Bool → X
digit zero_bit one_bit b = cond b one_bit zero_bit

pub digit-one : {X : Type 0} (z o x : X) (n : ℕ) → n ≡ 1 → x ≡ o → x ≡ digit z o (n == 1)
digit-one z o x n is e = e ∙ ap (digit z o) (sym ((Decides-eqb n 1).1 is))

pub digit-zero : {X : Type 0} (z o x : X) (n : ℕ) → (n ≡ 1 → ⊥) → x ≡ z → x ≡ digit z o (n == 1)
digit-zero z o x n differs e = by (n == 1) refl
  where
    by : (b : Bool) → (n == 1) ≡ b → x ≡ digit z o b
    by true h = absurd (differs ((Decides-eqb n 1).0 h))
    by false h = e

-- one bit more
pub digits-push : {X : Type 0} (z o x : X) (made new : List X) (all : List X) (width i rest : ℕ) → i < width
    → made ++ map (digit z o) (nat2bv (width - i) rest) ≡ all → x ≡ digit z o (rest % 2 == 1) → new ≡ made ++ x ∷ []
    → new ++ map (digit z o) (nat2bv (width - (i + 1)) (rest / 2)) ≡ all
digits-push z o x made new all width i rest below so_far is pushed =
    let one_less : width - i ≡ suc (width - (i + 1)) = omega arith in
    let left = map (digit z o) (nat2bv (width - (i + 1)) (rest / 2)) in
    ap (λ ks. ks ++ left) pushed
    ∙ append_assoc made (x ∷ []) left
    ∙ ap (λ k. made ++ k ∷ left) is
    ∙ ap (λ n. made ++ map (digit z o) (nat2bv n rest)) (sym one_less)
    ∙ so_far

module _ (t : Formulas) (z o : NodeId) (zero_formula : IsFormula t z) (zero_term : tree t z ≡ constant term_gates false) (one_formula : IsFormula t o) (one_term : tree t o ≡ constant term_gates true) where
  digit-formula : (b : Bool) → IsFormula t (digit z o b)
  digit-formula true = one_formula
  digit-formula false = zero_formula

  digit-term : (b : Bool) → tree t (digit z o b) ≡ constant term_gates b
  digit-term true = one_term
  digit-term false = zero_term

  pub digit-bits : (bs : List Bool) (ks : List NodeId) → ks ≡ map (digit z o) bs → AreBits t ks (map (constant term_gates) bs)
  digit-bits bs ks is = record {
    formulas = subst (λ (js : List NodeId). All (IsFormula t) js) (sym is) (All-map (IsFormula t) (digit z o) bs (λ i d lt. digit-formula (get_or bs i d)));
    terms = ap (trees_at t) is ∙ each bs;
  }
    where
      each : (bs : List Bool) → trees_at t (map (digit z o) bs) ≡ map (constant term_gates) bs
      each [] = refl
      each (b ∷ bs) = λ i. digit-term b i ∷ each bs i
