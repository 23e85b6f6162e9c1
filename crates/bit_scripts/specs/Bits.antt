-- New constants that stand for the bits of constants of bit vectors, those of one after those of another.
use Rattle.std.specs.Prelude.{◌≡◌, true, List, flat_map, All, IsTrue}
use Rattle.smt_terms.specs.Free.{is_among}
use Rattle.smt_terms.specs.Groups.{Named}
use Rattle.smt_terms.specs.Sorts.{Symbol}
use Rattle.term_groups.specs.Grouping.{terms_of}
use Rattle.bit_blast.specs.Blasted.{bits_of_constant, is_vector}

-- each bit of some of these constants of bit vectors has one, the lowest first
pub record AreBitsOf (symbols : List Symbol) (ns : Named) : Type 0 where
  pub vectors : List Symbol
  pub among : All (λ f. IsTrue (is_among symbols f)) vectors
  pub bit_vectors : All (λ f. is_vector f ≡ true) vectors
  pub terms : terms_of ns ≡ flat_map bits_of_constant vectors
