-- Worked rows of free symbols and of numerals and fresh names.
use Rattle.std.specs.Prelude.{◌≡◌, [], ◌∷◌, ◌^◌, codes, refl}
use Rattle.smt_terms.specs.declared.op.Op.TheVariants.{And, Xor, Equal}
use Rattle.smt_terms.specs.Sorts.{bool, bit_vector, Symbol}
use Rattle.smt_terms.specs.Term.{universal, existential, op, symbol, apply, quantified, none, ◌⨾◌, constant}
use Rattle.smt_terms.specs.Free.{free}
use Rattle.smt_terms.specs.Numeral.{numeral}
use Rattle.smt_terms.specs.Fresh.{Supply, next_name, after_draw}

abbrev a : Symbol
a = record { name = codes "a"; args = []; result = bool }

abbrev b : Symbol
b = record { name = codes "b"; args = []; result = bool }

-- another constant that is called a
abbrev wide_a : Symbol
wide_a = record { name = codes "a"; args = []; result = bit_vector 8 }

abbrev f : Symbol
f = record { name = codes "f"; args = bool ∷ []; result = bool }

-- (and b (f a) b)
in_order : free (apply (op And) (constant b ⨾ apply (symbol f) (constant a ⨾ none) ⨾ constant b ⨾ none)) ≡ (b ∷ f ∷ a ∷ [])
in_order = refl

-- (forall ((a Bool)) (and a b)): a is bound
bound : free (quantified universal (record { name = codes "a"; sort = bool } ∷ []) (apply (op And) (constant a ⨾ constant b ⨾ none))) ≡ (b ∷ [])
bound = refl

-- a quantifier over the truth value a leaves the bit vector a free
other_sort : free (quantified existential (record { name = codes "a"; sort = bool } ∷ []) (apply (op Equal) (constant wide_a ⨾ constant wide_a ⨾ none))) ≡ (wide_a ∷ [])
other_sort = refl

-- (forall ((x Bool)) (exists ((FV0 Bool)) (xor FV0 x))) has no free symbol
closed : free (quantified universal (record { name = codes "x"; sort = bool } ∷ []) (quantified existential (record { name = codes "FV0"; sort = bool } ∷ []) (apply (op Xor) (constant (record { name = codes "FV0"; args = []; result = bool }) ⨾ constant (record { name = codes "x"; args = []; result = bool }) ⨾ none)))) ≡ []
closed = refl

zero_digit : numeral 0 ≡ codes "0"
zero_digit = refl

two_digits : numeral 10 ≡ codes "10"
two_digits = refl

-- more digits than a machine word has
long_numeral : numeral (2 ^ 127) ≡ codes "170141183460469231731687303715884105728"
long_numeral = refl

abbrev taken : Supply
taken = record { taken = codes "FV0" ∷ codes "a" ∷ codes "FV2" ∷ []; number = 0 }

first_name : next_name taken ≡ codes "FV1"
first_name = refl

-- FV2 is skipped
second_name : next_name (after_draw taken) ≡ codes "FV3"
second_name = refl

third_name : next_name (after_draw (after_draw taken)) ≡ codes "FV4"
third_name = refl

none_taken : next_name (record { taken = []; number = 0 }) ≡ codes "FV0"
none_taken = refl
