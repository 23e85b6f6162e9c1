-- The steps of a division, and their loop: from the highest bit of the dividend on, the bits so far are those of a division of
-- the higher bits.
use Rattle.std.proofs.Common.{◌≡◌, ℕ, suc, false, List, [], ◌∷◌, ◌++◌, length, get_or, take, drop, reverse, replicate, All, ap, sym, ◌∙◌, subst, arith, length-append, length-take-le}
use Rattle.std.proofs.lemmas.List.{map-append, take-map, reverse-append, drop_all}
use Rattle.std.proofs.lemmas.List.Elements.{All-nil, All-cons, All-push, All-take, All-replicate}
use Rattle.smt_terms.specs.declared.ids.NodeId.{NodeId}
use Rattle.smt_terms.specs.Connectives.{negated}
use Rattle.smt_terms.specs.Term.{Term}
use Rattle.term_table.specs.Formulas.{Formulas, tree, tree_in, trees_at}
use Rattle.term_walk.specs.Walking.{GrowsTo}
use Rattle.normal_forms.specs.Nodes.{IsFormula, formula_stays}
use Rattle.bit_blast.specs.declared.division.Step.{Step}
use Rattle.bit_blast.specs.BitNodes.{AreBits}
use Rattle.bit_blast.specs.Blasted.{term_gates}
use Rattle.bit_blast.specs.Circuits.{constant, inverse, chosen, difference, less, Division, division, next_division}
use Rattle.bit_blast.specs.DivisionSteps.{IsStep}
use Rattle.bit_blast.specs.VectorLoops.{OnlyGains, IsFalse, AreQuotients}
use Rattle.bit_blast.proofs.BitsOverTables.{only-gains-both, tree-kept, formulas-kept, trees-kept, bits-kept, bits-count, trees-count, bit-first}
use Rattle.bit_blast.proofs.CircuitLengths.{length-rest}
use Rattle.bit_blast.proofs.MovedBits.{map-replicate}

-- ---- a step

module _ (t₀ t₁ t₂ t₃ t₄ : Formulas) (divisor left : List NodeId) (formulas : All (IsFormula t₀) divisor) (left_formulas : All (IsFormula t₀) left) where
  pub step-made : (is_less bit : NodeId) (taken : List NodeId) (next : Step)
      → GrowsTo t₀ t₁ → GrowsTo t₁ t₂ → GrowsTo t₂ t₃ → GrowsTo t₃ t₄
      → tree t₁ is_less ≡ less term_gates (trees_at t₀ left) (trees_at t₀ divisor)
      → IsFormula t₂ bit → tree t₂ bit ≡ negated (tree t₁ is_less)
      → trees_at t₃ taken ≡ difference term_gates (trees_at t₂ left) (trees_at t₂ divisor)
      → next.bit ≡ bit
      → AreBits t₄ next.rest.items (chosen term_gates (tree t₃ bit) (trees_at t₃ taken) (trees_at t₃ left))
      → IsStep t₄ next (trees_at t₀ divisor) (trees_at t₀ left)
  step-made is_less bit taken next g₁ g₂ g₃ g₄ less_is bit_formula bit_is taken_is is rest =
      let d : List Term = trees_at t₀ divisor in
      let s : List Term = trees_at t₀ left in
      let left₁ = formulas-kept t₀ t₁ g₁ left left_formulas in
      let left₂ = formulas-kept t₁ t₂ g₂ left left₁ in
      let s₂ : trees_at t₂ left ≡ s = trees-kept t₁ t₂ g₂ left left₁ ∙ trees-kept t₀ t₁ g₁ left left_formulas in
      let d₂ : trees_at t₂ divisor ≡ d = trees-kept t₁ t₂ g₂ divisor (formulas-kept t₀ t₁ g₁ divisor formulas) ∙ trees-kept t₀ t₁ g₁ divisor formulas in
      let s₃ : trees_at t₃ left ≡ s = trees-kept t₂ t₃ g₃ left left₂ ∙ s₂ in
      let fits : tree t₂ bit ≡ inverse term_gates (less term_gates s d) = bit_is ∙ ap negated less_is in
      let fits₃ : tree t₃ bit ≡ inverse term_gates (less term_gates s d) = tree-kept t₂ t₃ g₃ bit bit_formula ∙ fits in
      let formula₃ = formula_stays t₂ t₃ bit g₃ bit_formula in
      let taken_same : trees_at t₃ taken ≡ difference term_gates s d = taken_is ∙ (λ i. difference term_gates (s₂ i) (d₂ i)) in
      record {
        formula = subst (λ (k : NodeId). IsFormula t₄ k) (sym is) (formula_stays t₃ t₄ bit g₄ formula₃);
        bit = ap (tree t₄) is ∙ tree-kept t₃ t₄ g₄ bit formula₃ ∙ fits₃;
        rest = record { formulas = rest.formulas; terms = rest.terms ∙ (λ i. chosen term_gates (fits₃ i) (taken_same i) (s₃ i)) };
      }

-- ---- the loop

pub quotients-none : (old now : Formulas) (none : NodeId) (a b divisor bits rest : List NodeId) → All (IsFormula old) b → OnlyGains old now → IsFalse now none
    → divisor ≡ b ++ none ∷ [] → bits ≡ [] → rest ≡ replicate (length divisor) none → AreQuotients old now a b (length a) divisor bits rest
quotients-none old now none a b divisor bits rest formulas gains is_false divisor_is bits_are rest_is =
    let us : List Term = trees_at old a in
    let vs : List Term = trees_at old b in
    let count = trees-count old a in
    let done : drop (length a) us ≡ [] = drop_all (length a) us (omega arith) in
    let start = ap (λ ws. division term_gates ws vs) (sym done) in
    let same : trees_at now b ≡ vs = trees-kept old now gains.grows b formulas in
    let width : length divisor ≡ suc (length vs) = ap length divisor_is ∙ length-append b (none ∷ []) ∙ omega (arith, trees-count old b) in
    record {
      gains = gains;
      within = omega arith;
      divisor_is = record {
        formulas = subst (λ (ks : List NodeId). All (IsFormula now) ks) (sym divisor_is) (All-push (IsFormula now) b none (formulas-kept old now gains.grows b formulas) is_false.formula);
        terms = ap (trees_at now) divisor_is ∙ map-append (tree_in now.trees) b (none ∷ []) ∙ (λ i. same i ++ is_false.term i ∷ []);
      };
      quotient = record {
        formulas = subst (λ (ks : List NodeId). All (IsFormula now) (reverse ks)) (sym bits_are) (All-nil (IsFormula now));
        terms = ap (λ ks. trees_at now (reverse ks)) bits_are ∙ (λ i. (start i).quotient);
      };
      rest = record {
        formulas = subst (λ (ks : List NodeId). All (IsFormula now) ks) (sym rest_is) (All-replicate (IsFormula now) (length divisor) none is_false.formula);
        terms = ap (trees_at now) rest_is ∙ map-replicate (tree_in now.trees) (length divisor) none ∙ (λ i. replicate (width i) (is_false.term i)) ∙ (λ i. (start i).rest);
      };
    }

module _ (old now : Formulas) (a b : List NodeId) (k : ℕ) (divisor bits rest : List NodeId) (formulas : All (IsFormula old) a) (quotients : AreQuotients old now a b k divisor bits rest) where
  pub rest-count : length rest ≡ suc (length b)
  rest-count = bits-count quotients.rest ∙ length-rest term_gates (drop k (trees_at old a)) (trees_at old b) ∙ ap suc (trees-count old b)

  pub divisor-count : length divisor ≡ suc (length b)
  divisor-count = bits-count quotients.divisor_is ∙ length-append (trees_at old b) (constant term_gates false ∷ []) ∙ omega (arith, trees-count old b)

  module _ (i : ℕ) (left : List NodeId) (d : NodeId) (place : k ≡ suc i) (left_is : left ≡ get_or a i d ∷ take (length b) rest) where
    pub left-count : length left ≡ suc (length b)
    left-count = let count = rest-count in ap length left_is ∙ ap suc (length-take-le (length b) rest (omega arith))

    pub left-formulas : All (IsFormula now) left
    left-formulas =
        let within = quotients.within in
        let first : IsFormula now (get_or a i d) = formula_stays old now (get_or a i d) quotients.gains.grows (formulas i d (omega arith)) in
        subst (λ (ks : List NodeId). All (IsFormula now) ks) (sym left_is) (All-cons (IsFormula now) (get_or a i d) (take (length b) rest) first (All-take (IsFormula now) (length b) rest quotients.rest.formulas))

    left-terms : trees_at now left ≡ tree old (get_or a i d) ∷ take (length (trees_at old b)) (division term_gates (drop k (trees_at old a)) (trees_at old b)).rest
    left-terms =
        let within = quotients.within in
        let first : tree now (get_or a i d) ≡ tree old (get_or a i d) = tree-kept old now quotients.gains.grows (get_or a i d) (formulas i d (omega arith)) in
        let width : length b ≡ length (trees_at old b) = sym (trees-count old b) in
        ap (trees_at now) left_is ∙ (λ j. first j ∷ sym (take-map (tree_in now.trees) (length b) rest) j) ∙ (λ j. tree old (get_or a i d) ∷ take (width j) (quotients.rest.terms j))

    pub quotients-more : (new : Formulas) (next : Step) (more : List NodeId) → OnlyGains now new → IsStep new next (trees_at now divisor) (trees_at now left) → more ≡ bits ++ next.bit ∷ [] → AreQuotients old new a b i divisor more next.rest.items
    quotients-more new next more gains step more_are =
        let within = quotients.within in
        let us : List Term = trees_at old a in
        let vs : List Term = trees_at old b in
        let u : Term = tree old (get_or a i d) in
        let above : Division Term = division term_gates (drop k us) vs in
        let divided : List Term = vs ++ constant term_gates false ∷ [] in
        let s : List Term = u ∷ take (length vs) above.rest in
        let s_is : trees_at now left ≡ s = left-terms in
        let d_is : trees_at now divisor ≡ divided = quotients.divisor_is.terms in
        let bit : tree new next.bit ≡ inverse term_gates (less term_gates s divided) = step.bit ∙ (λ j. inverse term_gates (less term_gates (s_is j) (d_is j))) in
        let kept = bits-kept gains.grows quotients.quotient in
        let turned : reverse more ≡ next.bit ∷ reverse bits = ap reverse more_are ∙ reverse-append bits (next.bit ∷ []) in
        let whole : next_division term_gates divided s above ≡ division term_gates (drop i us) vs =
        ap (λ j. next_division term_gates divided (u ∷ take (length vs) (division term_gates (drop j us) vs).rest) (division term_gates (drop j us) vs)) place
        ∙ ap (λ ws. division term_gates ws vs) (sym (bit-first old a i d (omega arith))) in
        record {
          gains = only-gains-both old now new quotients.gains gains;
          within = omega arith;
          divisor_is = bits-kept gains.grows quotients.divisor_is;
          quotient = record {
            formulas = subst (λ (ks : List NodeId). All (IsFormula new) ks) (sym turned) (All-cons (IsFormula new) next.bit (reverse bits) step.formula kept.formulas);
            terms = ap (trees_at new) turned ∙ (λ j. bit j ∷ kept.terms j) ∙ ap (λ (v : Division Term). v.quotient) whole;
          };
          rest = record {
            formulas = step.rest.formulas;
            terms = step.rest.terms ∙ (λ j. chosen term_gates (inverse term_gates (less term_gates (s_is j) (d_is j))) (difference term_gates (s_is j) (d_is j)) (s_is j)) ∙ ap (λ (v : Division Term). v.rest) whole;
          };
        }
