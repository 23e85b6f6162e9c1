-- The numbers that words write.
use Rattle.std.proofs.Common.{◌≡◌, ◌≤◌, ◌<◌, ◌^◌, ◌==◌, ℕ, ◌&&◌, true, not, nat_le, List, [], ◌∷◌, length, Result, refl, ap, ◌∙◌, arith}
use Rattle.std.specs.List.{list_all}
use Rattle.std.specs.Char.{is_ascii_digit}
use Rattle.std.specs.Result.{result_ok}
use Rattle.std.specs.Str.{all_ascii_digits}
use Rattle.std.specs.Str.Parse.{ParsesUnsigned, digits_value}
use Rattle.std.proofs.lemmas.Bool.Decides.{nat_tests}
use Rattle.std.proofs.lemmas.Str.Parse.{digits_value_short, numerals_by_value, parse_gives, tells_all_ascii_digits}
use Rattle.smt_lex.specs.Lexicon.{is_numeral, is_some_of}
use Rattle.smt_terms.proofs.Tests.{both_true}
use Rattle.smtrw_answers.specs.Words.{Word, number_in}

all_digits : (bs : List ℕ) → all_ascii_digits bs ≡ list_all is_ascii_digit bs
all_digits [] = refl
all_digits (b ∷ bs) = ap (λ t. is_ascii_digit b && t) (all_digits bs)

some_there : (bs : List ℕ) → not (length bs == 0) ≡ true → 0 < length bs
some_there [] e = absurd cc
some_there (b ∷ bs) e = omega arith

pub number_read : {E : Type 0} (w : Word) (r : Result ℕ E) → is_numeral w ≡ true → length w ≤ 18 → ParsesUnsigned 64 10 w r → result_ok r ≡ number_in w
number_read w r numeral few parses =
    let some = both_true (is_some_of is_ascii_digit w) _ numeral in
    let parts = both_true (list_all is_ascii_digit w) (not (length w == 0)) some.0 in
    let digits : all_ascii_digits w ≡ true = all_digits w ∙ parts.0 in
    let own = numerals_by_value (λ ds. all_ascii_digits ds ≡ true) tells_all_ascii_digits in
    let short : digits_value 10 w < 10 ^ 18 = digits_value_short own w 18 digits few in
    let fits : digits_value 10 w < 2 ^ 64 = omega (arith, short) in
    let room : nat_le (length w) 18 ≡ true = grind (arith, nat_tests) in
    ap result_ok (parse_gives own 64 w r parses digits (some_there w parts.1) fits) ∙ rw (numeral, room) refl
