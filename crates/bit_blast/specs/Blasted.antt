-- Formulas over bit vectors as formulas over truth values: each constant of a bit vector is as many new constants as it has bits,
-- and each operator is its circuit. SMT-LIB 2.6, theories Core and FixedSizeBitVectors and logic QF_BV.
use Rattle.std.specs.Prelude.{ℕ, zero, suc, Bool, true, false, ◌&&◌, List, [], ◌∷◌, map, flat_map, filter, Option, Some, unwrap_or}
use Rattle.smt_terms.specs.declared.op.Op.TheVariants.{Extract}
use Rattle.smt_terms.specs.Sorts.{Sort, bool, bit_vector, Symbol}
use Rattle.smt_terms.specs.Term.{Head, op, symbol, const_array, Term, apply, quantified, Terms, none, ◌⨾◌, terms, over, constant}
use Rattle.smt_terms.specs.Constants.{bits_term}
use Rattle.smt_terms.specs.Connectives.{equal}
use Rattle.smt_terms.specs.Free.{free_of}
use Rattle.smt_terms.specs.Fresh.{Supply}
use Rattle.smt_terms.specs.Groups.{Named, Grouped, Drawn, constant_for, constant_or, draw_each}
use Rattle.smt_terms.specs.Rank.{sort_of, sorts_of}
use Rattle.bit_blast.specs.Circuits.{Gates, circuit, only_bit}

-- ---- formulas of bits

abbrev pub is_bits_sort : Option Sort → Bool
is_bits_sort (Some bool) = true
is_bits_sort (Some (bit_vector width)) = true
is_bits_sort _ = false

abbrev pub is_bits_head : Head → Bool
is_bits_head (symbol f) = has_no_arguments f.args
  where
    has_no_arguments : List Sort → Bool
    has_no_arguments [] = true
    has_no_arguments (_ ∷ _) = false
is_bits_head _ = true

abbrev mutual
  -- all subterms are truth values or bit vectors; no symbol has arguments, and nothing is quantified
  pub is_bits : Term → Bool
  is_bits (apply h ts) = (is_bits_head h && is_bits_sort (sort_of (apply h ts))) && are_bits ts
  is_bits (quantified q xs body) = false

  pub are_bits : Terms → Bool
  are_bits none = true
  are_bits (t ⨾ ts) = is_bits t && are_bits ts

-- ---- the bits of a constant

-- bit i of the constant f, as a formula
abbrev pub bit_of : Symbol → ℕ → Term
bit_of f i = equal (apply (op (Extract i i)) (constant f ⨾ none)) (bits_term 1 1)

-- those from number i on, so many
abbrev pub bits_from : Symbol → ℕ → ℕ → List Term
bits_from f i zero = []
bits_from f i (suc n) = bit_of f i ∷ bits_from f (suc i) n

abbrev pub width_of : Sort → ℕ
width_of (bit_vector width) = width
width_of _ = 0

abbrev pub bits_of_constant : Symbol → List Term
bits_of_constant f = bits_from f 0 (width_of f.result)

abbrev pub is_vector : Symbol → Bool
is_vector f = is_vector_sort f.result
  where
    is_vector_sort : Sort → Bool
    is_vector_sort (bit_vector width) = true
    is_vector_sort _ = false

-- ---- a term's bits, the lowest first; of a truth value a formula

abbrev pub term_gates : Gates Term
term_gates o ts = over (op o) ts

-- the new constant for a bit
abbrev pub bit_constant : Named → Term → Term
bit_constant ns u = constant_or (constant_for ns u) u

abbrev pub symbol_bits : Named → Symbol → Sort → List Term
symbol_bits ns f (bit_vector width) = map (bit_constant ns) (bits_from f 0 width)
symbol_bits ns f _ = constant f ∷ []

abbrev mutual
  pub bits : Named → Term → List Term
  bits ns (apply (op o) ts) = circuit term_gates o (unwrap_or (sorts_of ts) []) (bits_each ns ts)
  bits ns (apply (symbol f) ts) = symbol_bits ns f f.result
  bits ns (apply (const_array s) ts) = []
  bits ns (quantified q xs body) = []

  pub bits_each : Named → Terms → List (List Term)
  bits_each ns none = []
  bits_each ns (t ⨾ ts) = bits ns t ∷ bits_each ns ts

abbrev pub formula : Named → Term → Term
formula ns t = only_bit term_gates (bits ns t)

-- ---- the group

-- the constants of bit vectors, in order of first occurrence
abbrev pub vector_constants : List Term → List Symbol
vector_constants roots = filter is_vector (free_of (terms roots))

abbrev pub drawn_bits : List Term → Supply → Drawn
drawn_bits roots s = draw_each (flat_map bits_of_constant (vector_constants roots)) s

-- a new constant for each bit of these, and a formula for each root
abbrev pub blasted : List Term → Supply → Grouped
blasted roots s = record {
  group = record { symbols = (drawn_bits roots s).symbols; asserts = map (formula (drawn_bits roots s).symbols) roots };
  names = (drawn_bits roots s).names;
}
