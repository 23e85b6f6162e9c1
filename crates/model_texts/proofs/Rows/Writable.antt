-- Worked rows: over which signatures models can be written, and which values can be read again.
use Rattle.std.specs.Prelude.{◌≡◌, true, false, [], ◌∷◌, codes, pos, negsuc, refl}
use Rattle.smt_terms.specs.Sorts.{bool, int, bit_vector, array, free_sort}
use Rattle.smt_terms.specs.Values.{truth, whole, element, table, no_pairs, pair}
use Rattle.model_texts.specs.Laws.{is_writable_signature, is_readable}
use Rattle.model_texts.proofs.Rows.Given.{constant_named, function_named, symbols_alone}

-- no names of sorts and symbols are among them that can't stand between bars, and sorts are those of the profile
names : is_writable_signature (record { sorts = codes "U" ∷ codes "a b" ∷ []; symbols = constant_named (codes "x y") (free_sort (codes "U")) ∷ function_named (codes "true") (array int bool ∷ []) (bit_vector 128) ∷ [] }) ≡ true
names = refl

bar_in_sort : is_writable_signature (record { sorts = codes "a|b" ∷ []; symbols = [] }) ≡ false
bar_in_sort = refl

backslash_in_symbol : is_writable_signature (symbols_alone (constant_named (codes "a\\b") int ∷ [])) ≡ false
backslash_in_symbol = refl

bar_in_argument : is_writable_signature (symbols_alone (function_named (codes "f") (array int (free_sort (codes "a|b")) ∷ []) int ∷ [])) ≡ false
bar_in_argument = refl

too_wide : is_writable_signature (symbols_alone (constant_named (codes "x") (bit_vector 129) ∷ [])) ≡ false
too_wide = refl

array_index : is_writable_signature (symbols_alone (constant_named (codes "x") (array (array int int) int) ∷ [])) ≡ false
array_index = refl

-- one name with two ranks, and the name of a table
same_name : is_writable_signature (symbols_alone (constant_named (codes "f") int ∷ function_named (codes "f") (int ∷ []) int ∷ [])) ≡ false
same_name = refl

table_name : is_writable_signature (symbols_alone (constant_named (codes "@mod0") int ∷ [])) ≡ false
table_name = refl

other_internal_name : is_writable_signature (symbols_alone (constant_named (codes "@div") int ∷ [])) ≡ true
other_internal_name = refl

-- whole numbers from - 2^127 + 1 to 2^127 - 1
great_number : is_readable (table (whole (pos 170141183460469231731687303715884105727)) (pair (truth true) (whole (negsuc 170141183460469231731687303715884105726)) no_pairs)) ≡ true
great_number = refl

greater_number : is_readable (whole (pos 170141183460469231731687303715884105728)) ≡ false
greater_number = refl

number_in_key : is_readable (table (element 0) (pair (whole (negsuc 170141183460469231731687303715884105727)) (element 1) no_pairs)) ≡ false
number_in_key = refl
