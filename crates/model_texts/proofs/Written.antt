-- The forms of a printed model can be written: each of their tokens is one.
use Rattle.std.proofs.Common.{◌≡◌, ℕ, suc, zero, Bool, true, eqb, not, ◌&&◌, List, [], ◌∷◌, ◌++◌, length, map, refl}
use Rattle.std.specs.Prelude.{codes, nat_le}
use Rattle.std.specs.Char.{is_ascii_digit}
use Rattle.std.specs.List.{list_all}
use Rattle.std.proofs.lemmas.Bool.{leb-true}
use Rattle.std.proofs.Math.Dec.{eqb-suc-zero}
use Rattle.smt_lex.specs.Lexicon.{bar, backslash, is_symbol_byte, is_word}
use Rattle.smt_lex.specs.Names.{Name, IsName}
use Rattle.smt_lex.specs.Forms.{Form, forms_of_list}
use Rattle.smt_lex.proofs.Printing.{other_byte}
use Rattle.smt_terms.specs.BitVectors.{bv2nat}
use Rattle.smt_terms.specs.Models.{Row, Graph}
use Rattle.smt_terms.specs.Numeral.{numeral}
use Rattle.smt_terms.specs.Rank.{is_sort, most_bits}
use Rattle.smt_terms.specs.Sorts.{Sort, bool, int, bit_vector, array, free_sort, Symbol}
use Rattle.smt_terms.specs.Values.{Value, Pairs, no_pairs, pair, Sizes, is_true, number, bits_of, element_of, default_of, pairs_of}
use Rattle.smt_terms.proofs.Same.{array_sorts}
use Rattle.smt_terms.proofs.Tests.{both_true, and_true}
use Rattle.script_read.proofs.FormTexts.{IsWritten, AreWritten}
use Rattle.term_table.specs.WrittenForms.{word_form, list_form, constant_array_form, variable_form}
use Rattle.smt_print.proofs.Digits.{numeral_digits}
use Rattle.smt_print.proofs.Writable.{all_weaker, word_written, symbol_written, integer_written, vector_written, truth_written, HasNames, sort_written, variable_written, constant_array_written}
use Rattle.model_texts.specs.Laws.{has_writable_names, is_writable_sort}
use Rattle.model_texts.specs.ModelLines.{element_name, element_form, stores_form, value_form, parameter_name, parameters, equation_forms, condition_form, rows_form, function_form, elements_from, sort_entry}

-- ---- names

plain_digit : (b : ℕ) → is_ascii_digit b ≡ true → (not (eqb b bar) && not (eqb b backslash)) ≡ true
plain_digit b digit = rw (other_byte is_ascii_digit b bar digit refl, other_byte is_ascii_digit b backslash digit refl) refl

symbol_digit : (b : ℕ) → is_ascii_digit b ≡ true → is_symbol_byte b ≡ true
symbol_digit b digit = rw digit refl

all_behind : (test : ℕ → Bool) (xs ys : List ℕ) → list_all test xs ≡ true → list_all test ys ≡ true → list_all test (xs ++ ys) ≡ true
all_behind test [] ys first second = second
all_behind test (x ∷ xs) ys first second =
    let parts = both_true (test x) (list_all test xs) first in
    and_true (test x) (list_all test (xs ++ ys)) parts.0 (all_behind test xs ys parts.1 second)

numeral_plain : (n : ℕ) → IsName (numeral n)
numeral_plain n = all_weaker is_ascii_digit (λ b. not (eqb b bar) && not (eqb b backslash)) plain_digit (numeral n) (numeral_digits n)

element_plain : (s : Name) (i : ℕ) → IsName s → IsName (element_name s i)
element_plain s i plain = all_behind (λ b. not (eqb b bar) && not (eqb b backslash)) s (95 ∷ numeral i) plain (numeral_plain i)

parameter_plain : (i : ℕ) → IsName (parameter_name i)
parameter_plain i = numeral_plain i

parameter_word : (i : ℕ) → is_word (parameter_name i) ≡ true
parameter_word i = rw (all_weaker is_ascii_digit is_symbol_byte symbol_digit (numeral i) (numeral_digits i), eqb-suc-zero (suc (length (numeral i)))) refl

-- ---- sorts and values

sort_names : (s : Sort) → has_writable_names s ≡ true → HasNames s
sort_names bool has = tt
sort_names int has = tt
sort_names (bit_vector w) has = tt
sort_names (array i e) has = let parts = both_true (has_writable_names i) (has_writable_names e) has in (sort_names i parts.0, sort_names e parts.1)
sort_names (free_sort n) has = has

element_written : (s : Name) (i : ℕ) → IsName s → IsWritten (element_form s i)
element_written s i plain = (word_written (codes "as") refl, (symbol_written (element_name s i) (element_plain s i plain), (symbol_written s plain, tt)))

stores_written : (key value : Value → Form) → ((v : Value) → IsWritten (key v)) → ((v : Value) → IsWritten (value v)) → (ps : Pairs) (f : Form) → IsWritten f → IsWritten (stores_form key value ps f)
stores_written key value keys values no_pairs f is = is
stores_written key value keys values (pair k v ps) f is =
    stores_written key value keys values ps (list_form (word_form (codes "store") ∷ f ∷ key k ∷ value v ∷ [])) (word_written (codes "store") refl, (is, (keys k, (values v, tt))))

value_written : (s : Sort) (v : Value) → is_sort s ≡ true → HasNames s → IsWritten (value_form s v)
value_written bool v sort names = truth_written (is_true v)
value_written int v sort names = integer_written (number v)
value_written (bit_vector w) v sort names = vector_written w (bv2nat (bits_of v)) (leb-true 1 w (both_true (nat_le 1 w) (nat_le w most_bits) sort).0)
value_written (free_sort n) v sort names = element_written n (element_of v) names
value_written (array i e) v sort names =
    let sorts = array_sorts i e sort in
    stores_written (value_form i) (value_form e) (λ k. value_written i k sorts.1 names.0) (λ w. value_written e w sorts.2 names.1) (pairs_of v)
    (list_form (constant_array_form (array i e) ∷ value_form e (default_of v) ∷ []))
    (constant_array_written (array i e) names, (value_written e (default_of v) sorts.2 names.1, tt))

-- ---- functions

record IsWritable (s : Sort) : Type 0 where
  sort : is_sort s ≡ true
  names : HasNames s

writable : (s : Sort) → is_writable_sort s ≡ true → IsWritable s
writable s is = let parts = both_true (is_sort s) (has_writable_names s) is in record { sort = parts.0; names = sort_names s parts.1 }

abbrev AllWritable : List Sort → Type 0
AllWritable [] = Unit {0}
AllWritable (s ∷ ss) = IsWritable s × AllWritable ss

all_writable : (ss : List Sort) → list_all is_writable_sort ss ≡ true → AllWritable ss
all_writable [] is = tt
all_writable (s ∷ ss) is = let parts = both_true (is_writable_sort s) (list_all is_writable_sort ss) is in (writable s parts.0, all_writable ss parts.1)

parameters_written : (ss : List Sort) (i : ℕ) → AllWritable ss → AreWritten (forms_of_list (map variable_form (parameters i ss)))
parameters_written [] i all = tt
parameters_written (s ∷ ss) i all = (variable_written (record { name = parameter_name i; sort = s }) (parameter_plain i) all.0.names, parameters_written ss (suc i) all.1)

equations_written : (ss : List Sort) (i : ℕ) (vs : List Value) → AllWritable ss → AreWritten (forms_of_list (equation_forms (parameters i ss) vs))
equations_written [] i vs all = tt
equations_written (s ∷ ss) i [] all = tt
equations_written (s ∷ ss) i (v ∷ vs) all =
    ((word_written (codes "=") refl, (word_written (parameter_name i) (parameter_word i), (value_written s v all.0.sort all.0.names, tt))), equations_written ss (suc i) vs all.1)

condition_written : (fs : List Form) → AreWritten (forms_of_list fs) → IsWritten (condition_form fs)
condition_written [] are = (word_written (codes "and") refl, are)
condition_written (f ∷ []) are = are.0
condition_written (f ∷ (g ∷ fs)) are = (word_written (codes "and") refl, are)

rows_written : (ss : List Sort) (to : Sort) (rows : List Row) (f : Form) → AllWritable ss → IsWritable to → IsWritten f → IsWritten (rows_form (parameters 0 ss) to rows f)
rows_written ss to [] f all result is = is
rows_written ss to (r ∷ rows) f all result is =
    let condition = condition_written (equation_forms (parameters 0 ss) r.keys) (equations_written ss 0 r.keys all) in
    let value = value_written to r.result result.sort result.names in
    (word_written (codes "ite") refl, (condition, (value, (rows_written ss to rows f all result is, tt))))

pub function_written : (f : Symbol) (g : Graph) → IsName f.name → list_all is_writable_sort (f.result ∷ f.args) ≡ true → IsWritten (function_form f g)
function_written f g name sorts =
    let all = all_writable (f.result ∷ f.args) sorts in
    let body = rows_written f.args f.result g.rows (value_form f.result g.otherwise) all.1 all.0 (value_written f.result g.otherwise all.0.sort all.0.names) in
    (word_written (codes "define-fun") refl, (symbol_written f.name name, (parameters_written f.args 0 all.1, (sort_written f.result all.0.names, (body, tt)))))

-- ---- sorts

elements_written : (s : Name) (i n : ℕ) → IsName s → AreWritten (forms_of_list (elements_from s i n))
elements_written s i zero plain = tt
elements_written s i (suc n) plain = (element_written s i plain, elements_written s (suc i) n plain)

pub sort_entry_written : (sizes : Sizes) (s : Name) → IsName s → IsWritten (sort_entry sizes s)
sort_entry_written sizes s plain = (word_written (codes "@sort") refl, (symbol_written s plain, elements_written s 0 (sizes s) plain))
