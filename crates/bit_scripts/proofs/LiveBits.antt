-- The new constants of a check stand for the bits of constants of bit vectors that are live at it.
use Rattle.std.proofs.Common.{◌≡◌, refl, Bool, true, false, List, [], ◌∷◌, filter, cond, All, IsTrue}
use Rattle.std.specs.Prelude.{flat_map}
use Rattle.std.proofs.lemmas.List.Elements.{All-nil, All-cons}
use Rattle.smt_terms.specs.Equal.{symbol_eq}
use Rattle.smt_terms.specs.Free.{is_among, free_of}
use Rattle.smt_terms.specs.Sorts.{Symbol}
use Rattle.smt_terms.specs.Term.{terms}
use Rattle.smt_terms.proofs.Equal.{symbol_itself}
use Rattle.smt_terms.proofs.Tests.{left_true, right_true}
use Rattle.term_groups.proofs.Draws.{draws-for_each}
use Rattle.script_read.specs.Commands.{signature}
use Rattle.bit_blast.specs.Blasted.{is_vector, bits_of_constant, vector_constants}
use Rattle.bit_scripts.specs.Bits.{AreBitsOf}
use Rattle.bit_scripts.specs.Laws.{BlastedBitsAreLive}
use Rattle.models.specs.LiveRoots.{roots}
use Rattle.bit_scripts.proofs.BlastableRoots.{roots_fit}

-- what passes a test passes it, and was there before
kept_so : (P : Symbol → Type 0) (fs : List Symbol) → ((f : Symbol) → is_among fs f ≡ true → is_vector f ≡ true → P f) → All P (filter is_vector fs)
kept_so P [] holds = All-nil P
kept_so P (f ∷ fs) holds = by (is_vector f) refl (kept_so P fs (λ g among vector. holds g (right_true (symbol_eq f g) (is_among fs g) among) vector))
  where
    by : (b : Bool) → is_vector f ≡ b → All P (filter is_vector fs) → All P (cond b (f ∷ filter is_vector fs) (filter is_vector fs))
    by true vector rest = All-cons P f (filter is_vector fs) (holds f (left_true (symbol_eq f f) (is_among fs f) (symbol_itself f)) vector) rest
    by false vector rest = rest

pub bits_live : BlastedBitsAreLive
bits_live cs k s prints names accepted =
    let fit = roots_fit cs k s prints names accepted in
    record {
      vectors = vector_constants (roots cs k);
      among = kept_so (λ f. IsTrue (is_among (signature cs k).symbols f)) (free_of (terms (roots cs k))) (λ f among vector. fit.live f among);
      bit_vectors = kept_so (λ f. is_vector f ≡ true) (free_of (terms (roots cs k))) (λ f among vector. vector);
      terms = draws-for_each (flat_map bits_of_constant (vector_constants (roots cs k))) s;
    }
