-- The circuit of `distinct` over bit vectors tells whether no two of them are equal.
use Rattle.std.proofs.Common.{◌≡◌, ℕ, Bool, true, false, not, ◌&&◌, ◌||◌, List, [], ◌∷◌, ◌++◌, map, length, All, refl, sym, ◌∙◌}
use Rattle.std.specs.List.{list_any, list_all}
use Rattle.std.proofs.lemmas.List.Elements.{All-head, All-tail}
use Rattle.smt_terms.specs.BitVectors.{BitVector, bits_eq}
use Rattle.bit_blast.specs.Circuits.{inverse, equal, apart}
use Rattle.bit_blast.proofs.TruthGates.{truth_gates}
use Rattle.bit_blast.proofs.CircuitStatements.{none_equal, DistinctionsAreRight}
use Rattle.bit_blast.proofs.OrderNumbers.{equal-bits, joined_all}

all_append : (us vs : BitVector) → list_all (λ a. a) (us ++ vs) ≡ (list_all (λ a. a) us && list_all (λ a. a) vs)
all_append [] vs = refl
all_append (true ∷ us) vs = all_append us vs
all_append (false ∷ us) vs = refl

-- that u differs from each of these is that it is equal to none
differs : (n : ℕ) (u : BitVector) (us : List BitVector) → length u ≡ n → All (λ v. length v ≡ n) us → list_all (λ a. a) (map (λ v. inverse truth_gates (equal truth_gates u v)) us) ≡ not (list_any (bits_eq u) us)
differs n u [] e widths = refl
differs n u (v ∷ us) e widths =
    let width : length u ≡ length v = e ∙ sym (All-head (λ w. length w ≡ n) v us widths) in
    (λ i. not (equal-bits u v width i) && differs n u us e (All-tail (λ w. length w ≡ n) v us widths) i)
    ∙ neither (bits_eq u v) (list_any (bits_eq u) us)
  where
    neither : (a b : Bool) → (not a && not b) ≡ not (a || b)
    neither true b = refl
    neither false b = refl

all_differ : (n : ℕ) (us : List BitVector) → All (λ v. length v ≡ n) us → list_all (λ a. a) (apart truth_gates us) ≡ none_equal us
all_differ n [] widths = refl
all_differ n (u ∷ us) widths =
    let here : length u ≡ n = All-head (λ w. length w ≡ n) u us widths in
    let behind : All (λ v. length v ≡ n) us = All-tail (λ w. length w ≡ n) u us widths in
    all_append (map (λ v. inverse truth_gates (equal truth_gates u v)) us) (apart truth_gates us)
    ∙ (λ i. differs n u us here behind i && all_differ n us behind i)

pub distinctions : DistinctionsAreRight
distinctions n us some widths two = joined_all (apart truth_gates us) ∙ all_differ n us widths
