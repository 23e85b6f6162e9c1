-- The loop of shifts: after each bit of the distance the rest of the shifts gives the same.
use Rattle.std.proofs.Common.{◌≡◌, ℕ, ◌+◌, ◌-◌, ◌*◌, ◌^◌, ◌<◌, min, List, length, get_or, drop, All, ap, sym, ◌∙◌, subst, arith, add-one}
use Rattle.std.proofs.Math.Nat.{pow-suc}
use Rattle.smt_terms.specs.declared.ids.NodeId.{NodeId}
use Rattle.smt_terms.specs.Term.{Term}
use Rattle.term_table.specs.Formulas.{Formulas, tree, tree_in, trees_at}
use Rattle.normal_forms.specs.Nodes.{IsFormula, formula_stays}
use Rattle.bit_blast.specs.declared.shifts.Way.{Way}
use Rattle.bit_blast.specs.BitNodes.{AreBits}
use Rattle.bit_blast.specs.Blasted.{term_gates}
use Rattle.bit_blast.specs.Circuits.{shifted, chosen}
use Rattle.bit_blast.specs.ShiftWays.{moved}
use Rattle.bit_blast.specs.VectorLoops.{OnlyGains, AreShifted}
use Rattle.bit_blast.proofs.BitsOverTables.{only-gains-both, tree-kept, bits-count, trees-count, bit-first}
use Rattle.bit_blast.proofs.CircuitLengths.{length-chosen}
use Rattle.bit_blast.proofs.MovedBits.{all-moved, length-moved, moved-alike, map-moved}

-- twice as far, and no further than a number can be
near-doubled : (d k w n : ℕ) → min d w ≡ min (2 ^ k) w → w < 2 ^ 64 → n ≡ min (d * 2) (2 ^ 64 - 1) → min n w ≡ min (2 ^ (k + 1)) w
near-doubled d k w n near small is = rw add-one (rw pow-suc (omega arith))

module _ (old now : Formulas) (way : Way) (bit : NodeId) (a b : List NodeId) (k distance : ℕ) (bits : List NodeId) (formula : IsFormula old bit) (formulas : All (IsFormula old) b) (shifts : AreShifted old now way bit a b k distance bits) where
  pub far-formulas : (far : List NodeId) → far ≡ moved way bit distance bits → All (IsFormula now) far
  far-formulas far is = subst (λ (ks : List NodeId). All (IsFormula now) ks) (sym is) (all-moved (IsFormula now) way bit distance bits (formula_stays old now bit shifts.gains.grows formula) shifts.formulas)

  pub far-width : (far : List NodeId) → far ≡ moved way bit distance bits → length far ≡ length bits
  far-width far is = ap length is ∙ length-moved way bit distance bits

  far-terms : (far : List NodeId) → far ≡ moved way bit distance bits → trees_at now far ≡ moved way (tree old bit) (2 ^ k) (trees_at now bits)
  far-terms far is =
      let us : List Term = trees_at now bits in
      let width : length us ≡ length a = trees-count now bits ∙ shifts.width in
      let near = shifts.near in
      ap (trees_at now) is
      ∙ map-moved (tree_in now.trees) way bit distance bits
      ∙ ap (λ u. moved way u distance us) (tree-kept old now shifts.gains.grows bit formula)
      ∙ moved-alike way (tree old bit) distance (2 ^ k) us (ap (min distance) width ∙ near ∙ ap (min (2 ^ k)) (sym width))

  pub shifted-more : (new : Formulas) (far next : List NodeId) (n : ℕ) (d : NodeId)
      → k < length b
      → far ≡ moved way bit distance bits
      → OnlyGains now new
      → AreBits new next (chosen term_gates (tree now (get_or b k d)) (trees_at now far) (trees_at now bits))
      → length a < 2 ^ 64
      → n ≡ min (distance * 2) (2 ^ 64 - 1)
      → AreShifted old new way bit a b (k + 1) n next
  shifted-more new far next n d lt is gains are small doubled =
      let move : ℕ → List Term → List Term = moved way (tree old bit) in
      let us : List Term = trees_at now bits in
      let u : Term = tree old (get_or b k d) in
      let chosen_bits : List Term = chosen term_gates u (move (2 ^ k) us) us in
      let first : tree now (get_or b k d) ≡ u = tree-kept old now shifts.gains.grows (get_or b k d) (formulas k d lt) in
      let next_terms : trees_at new next ≡ chosen_bits = are.terms ∙ (λ i. chosen term_gates (first i) (far-terms far is i) us) in
      let step : shifted term_gates move (k + 1) (drop (k + 1) (trees_at old b)) chosen_bits ≡ shifted term_gates move k (drop k (trees_at old b)) us
      = ap (λ j. shifted term_gates move j (drop j (trees_at old b)) chosen_bits) (add-one k) ∙ ap (λ vs. shifted term_gates move k vs us) (sym (bit-first old b k d lt)) in
      let same : length (trees_at now far) ≡ length us = trees-count now far ∙ far-width far is ∙ sym (trees-count now bits) in
      let count = bits-count are in
      record {
        gains = only-gains-both old now new shifts.gains gains;
        formulas = are.formulas;
        width = count ∙ length-chosen term_gates (tree now (get_or b k d)) (trees_at now far) us same ∙ trees-count now far ∙ far-width far is ∙ shifts.width;
        near = near-doubled distance k (length a) n shifts.near small doubled;
        terms = ap (shifted term_gates move (k + 1) (drop (k + 1) (trees_at old b))) next_terms ∙ step ∙ shifts.terms;
      }
