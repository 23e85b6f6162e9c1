-- The term of a value: a constant, or stores over a constant array, SMT-LIB 2.6, theories Core, Ints, FixedSizeBitVectors and
-- ArraysEx. The elements of a free sort have none.
use Rattle.std.specs.Prelude.{Option, Some, None}
use Rattle.smt_terms.specs.declared.op.Op.TheVariants.{Store}
use Rattle.smt_terms.specs.Sorts.{Sort, bool, int, bit_vector, array, free_sort}
use Rattle.smt_terms.specs.Term.{op, const_array, Term, apply, none, ◌⨾◌}
use Rattle.smt_terms.specs.Constants.{constant_term}
use Rattle.smt_terms.specs.Values.{Value, Pairs, no_pairs, pair, default_of, pairs_of}

abbrev pub stored : Option Term → Option Term → Option Term → Option Term
stored (Some a) (Some k) (Some v) = Some (apply (op Store) (a ⨾ k ⨾ v ⨾ none))
stored _ _ _ = None

abbrev pub filled : Sort → Option Term → Option Term
filled s (Some d) = Some (apply (const_array s) (d ⨾ none))
filled s None = None

-- the pairs stored one after the other, the first of them innermost
abbrev pub stores : (Value → Option Term) → (Value → Option Term) → Option Term → Pairs → Option Term
stores key_term result_term a no_pairs = a
stores key_term result_term a (pair k v ps) = stores key_term result_term (stored a (key_term k) (result_term v)) ps

-- the term of a value of this sort, none where the value holds an element of a free sort or a whole number outside the range
abbrev pub value_term : Sort → Value → Option Term
value_term bool v = constant_term v
value_term int v = constant_term v
value_term (bit_vector width) v = constant_term v
value_term (free_sort s) v = None
value_term (array i e) v = stores (value_term i) (value_term e) (filled (array i e) (value_term e (default_of v))) (pairs_of v)
