-- What is read of the operands' bits.
use Rattle.std.proofs.Common.{◌≡◌, ℕ, ◌<◌, List, [], ◌∷◌, map, length, get_or, All, refl, ap, sym, ◌∙◌, subst, arith}
use Rattle.std.proofs.lemmas.List.{length-map, get_or-map}
use Rattle.std.proofs.lemmas.List.Elements.{All-head, All-tail, All-cons, All-get_or, All-map}
use Rattle.smt_terms.specs.declared.ids.NodeId.{NodeId}
use Rattle.smt_terms.specs.Sorts.{Sort}
use Rattle.smt_terms.specs.Term.{Term}
use Rattle.term_table.specs.Formulas.{Formulas, tree, trees_at}
use Rattle.normal_forms.specs.Nodes.{IsFormula}
use Rattle.bit_blast.specs.BitNodes.{AreBits}
use Rattle.bit_blast.specs.Blasted.{term_gates}
use Rattle.bit_blast.specs.Circuits.{only_bit}
use Rattle.bit_blast.specs.KeptBits.{Lists}
use Rattle.bit_blast.specs.OperandBits.{nodes_of, no_node, first_of, HasNodes, operand_bits, widths}

-- a vector of one bit
pub alone-bits : (t : Formulas) (ks : List NodeId) (k : NodeId) (u : Term) → IsFormula t k → tree t k ≡ u → ks ≡ k ∷ [] → AreBits t ks (u ∷ [])
alone-bits t ks k u formula term is = record {
  formulas = subst (λ (js : List NodeId). All (IsFormula t) js) (sym is) (All-cons (IsFormula t) k [] formula (λ i d lt. absurd (omega arith)));
  terms = ap (trees_at t) is ∙ ap (λ v. v ∷ []) term;
}

-- sorts that don't depend on the elements
pub constant-map : {X Y : Type 0} (f : X → Y) (s : Sort) (xs : List X) → map (λ _. s) (map f xs) ≡ map (λ _. s) xs
constant-map f s [] = refl
constant-map f s (x ∷ xs) = ap (λ ss. s ∷ ss) (constant-map f s xs)

-- the operands' numbers of bits
module _ (ls : Lists) where
  pub number : (ks : List NodeId) (ws : List ℕ) → widths ls ks ≡ ws → length ks ≡ length ws
  number ks ws e = sym (length-map ks (λ k. length (nodes_of ls k))) ∙ ap length e

  pub width-at : (ks : List NodeId) (ws : List ℕ) (i : ℕ) (us : List NodeId) → widths ls ks ≡ ws → i < length ks → us ≡ nodes_of ls (get_or ks i no_node) → length us ≡ get_or ws i 0
  width-at ks ws i us e within is = ap length is ∙ sym (get_or-map (λ k. length (nodes_of ls k)) ks i no_node 0 within) ∙ ap (λ vs. get_or vs i 0) e

pub only-first : (t : Formulas) (us : List NodeId) (d : NodeId) → 0 < length us → tree t (get_or us 0 d) ≡ only_bit term_gates (trees_at t us)
only-first t [] d some = absurd (omega arith)
only-first t (u ∷ us) d some = refl

module _ (t : Formulas) (ls : Lists) where
  pub operand-formulas : (ks : List NodeId) (us : List NodeId) (i : ℕ) → All (HasNodes t ls) ks → i < length ks → us ≡ nodes_of ls (get_or ks i no_node) → All (IsFormula t) us
  operand-formulas ks us i has within is =
      subst (λ (js : List NodeId). All (IsFormula t) js) (sym is) (All-get_or (HasNodes t ls) ks i no_node within has).formulas

  pub first-formula : (k : NodeId) → HasNodes t ls k → IsFormula t (first_of ls k)
  first-formula k has = has.formulas 0 no_node has.some

  pub first-formulas : (ks : List NodeId) → All (HasNodes t ls) ks → All (IsFormula t) (map (first_of ls) ks)
  first-formulas ks has = All-map (IsFormula t) (first_of ls) ks (λ i d lt. first-formula (get_or ks i d) (has i d lt))

  pub first-terms : (ks : List NodeId) → All (HasNodes t ls) ks → trees_at t (map (first_of ls) ks) ≡ map (only_bit term_gates) (operand_bits t ls ks)
  first-terms [] has = refl
  first-terms (k ∷ ks) has =
      let first = only-first t (nodes_of ls k) no_node (All-head (HasNodes t ls) k ks has).some in
      let rest = first-terms ks (All-tail (HasNodes t ls) k ks has) in
      λ i. first i ∷ rest i

  -- one operand, and two, and three
  pub one-operand : (ks us : List NodeId) → length ks ≡ 1 → us ≡ nodes_of ls (get_or ks 0 no_node) → operand_bits t ls ks ≡ trees_at t us ∷ []
  one-operand [] us number is = absurd (omega arith)
  one-operand (k ∷ []) us number is = ap (λ vs. trees_at t vs ∷ []) (sym is)
  one-operand (k ∷ j ∷ ks) us number is = absurd (omega arith)

  pub two-operands : (ks us vs : List NodeId) → length ks ≡ 2 → us ≡ nodes_of ls (get_or ks 0 no_node) → vs ≡ nodes_of ls (get_or ks 1 no_node) → operand_bits t ls ks ≡ trees_at t us ∷ trees_at t vs ∷ []
  two-operands [] us vs number first second = absurd (omega arith)
  two-operands (k ∷ []) us vs number first second = absurd (omega arith)
  two-operands (k ∷ j ∷ []) us vs number first second = λ i. trees_at t (sym first i) ∷ trees_at t (sym second i) ∷ []
  two-operands (k ∷ j ∷ h ∷ ks) us vs number first second = absurd (omega arith)

  pub three-operands : (ks us vs ws : List NodeId) → length ks ≡ 3 → us ≡ nodes_of ls (get_or ks 0 no_node) → vs ≡ nodes_of ls (get_or ks 1 no_node) → ws ≡ nodes_of ls (get_or ks 2 no_node)
      → operand_bits t ls ks ≡ trees_at t us ∷ trees_at t vs ∷ trees_at t ws ∷ []
  three-operands [] us vs ws number first second third = absurd (omega arith)
  three-operands (k ∷ []) us vs ws number first second third = absurd (omega arith)
  three-operands (k ∷ j ∷ []) us vs ws number first second third = absurd (omega arith)
  three-operands (k ∷ j ∷ h ∷ []) us vs ws number first second third = λ i. trees_at t (sym first i) ∷ trees_at t (sym second i) ∷ trees_at t (sym third i) ∷ []
  three-operands (k ∷ j ∷ h ∷ g ∷ ks) us vs ws number first second third = absurd (omega arith)
