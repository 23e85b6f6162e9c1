-- Worked rows: texts with their tokens, forms and faults, and names.
use Rattle.std.proofs.Common.{◌≡◌, ℕ, List, [], ◌∷◌, ◌++◌, Ok, Err, Some, None, true, false, refl}
use Rattle.std.specs.Prelude.{codes}
use Rattle.smt_lex.specs.Names.{is_reserved, is_theory_name, is_theory_sort, is_reserved_for_declaring, is_reserved_for_let, is_reserved_for_sorts, is_syntax_word, is_command_word, printed_symbol}
use Rattle.smt_lex.specs.Lex.{Token, bad_byte, bad_token, open_text, unbalanced, line_at, name_of, symbol_of}
use Rattle.smt_lex.specs.Forms.{Form, atom, node, none, ◌⨾◌, forms, forms_to_exit}
use Rattle.smt_lex.specs.Forest.{after_at}
use Rattle.smt_lex.specs.declared.items.Item.{Item}
use Rattle.smt_lex.specs.declared.items.Item.TheVariants.{Left, Right, Numeral, Decimal, Hex, Bin, Text, Word, Quoted, Keyword}

abbrev token : Item → ℕ → List ℕ → Token
token item start text = record { item = item; start = start; text = text }

abbrev one : Item → ℕ → List ℕ → Form
one item start text = atom (token item start text)

abbrev word : ℕ → List ℕ → Form
word start text = one Word start text

-- parentheses
list_without_end : forms (codes "(assert a") ≡ Err (unbalanced 9)
list_without_end = refl

end_without_list : forms (codes ")") ≡ Err (unbalanced 0)
end_without_list = refl

second_end_without_list : forms (codes "(a)) (b") ≡ Err (unbalanced 3)
second_end_without_list = refl

lone_left : forms (codes "(") ≡ Err (unbalanced 1)
lone_left = refl

two_lists_without_end : forms (codes "((a) b") ≡ Err (unbalanced 6)
two_lists_without_end = refl

empty_text : forms [] ≡ Ok none
empty_text = refl

nested : forms (codes "(a (b) ())") ≡ Ok (node 0 (word 1 (codes "a") ⨾ node 3 (word 4 (codes "b") ⨾ none) ⨾ node 7 none ⨾ none) ⨾ none)
nested = refl

two_forms : forms (codes "a (b)") ≡ Ok (word 0 (codes "a") ⨾ node 2 (word 3 (codes "b") ⨾ none) ⨾ none)
two_forms = refl

-- numerals and decimals
leading_zero : forms (codes "007") ≡ Err (bad_token 0)
leading_zero = refl

zero_alone : forms (codes "0") ≡ Ok (one Numeral 0 (codes "0") ⨾ none)
zero_alone = refl

numeral : forms (codes " 170 ") ≡ Ok (one Numeral 1 (codes "170") ⨾ none)
numeral = refl

decimal : forms (codes "0.50 1.0") ≡ Ok (one Decimal 0 (codes "0.50") ⨾ one Decimal 5 (codes "1.0") ⨾ none)
decimal = refl

decimal_with_leading_zero : forms (codes "01.5") ≡ Err (bad_token 0)
decimal_with_leading_zero = refl

decimal_without_end : forms (codes "a 1.") ≡ Err (bad_token 2)
decimal_without_end = refl

two_dots : forms (codes "1.2.3") ≡ Err (bad_token 0)
two_dots = refl

digits_and_letters : forms (codes "12ab") ≡ Err (bad_token 0)
digits_and_letters = refl

-- hexadecimal and binary
hexadecimal : forms (codes "#xaF09") ≡ Ok (one Hex 0 (codes "#xaF09") ⨾ none)
hexadecimal = refl

no_hexadecimal : forms (codes "#xg") ≡ Err (bad_token 0)
no_hexadecimal = refl

empty_hexadecimal : forms (codes "(#x)") ≡ Err (bad_token 1)
empty_hexadecimal = refl

upper_case_prefix : forms (codes "#X1") ≡ Err (bad_token 0)
upper_case_prefix = refl

binary : forms (codes "#b0110") ≡ Ok (one Bin 0 (codes "#b0110") ⨾ none)
binary = refl

no_binary : forms (codes "#b012") ≡ Err (bad_token 0)
no_binary = refl

-- keywords and words
keyword : forms (codes ":named") ≡ Ok (one Keyword 0 (codes ":named") ⨾ none)
keyword = refl

lone_colon : forms (codes "(set-info :") ≡ Err (bad_token 10)
lone_colon = refl

keyword_in_word : forms (codes "a:b") ≡ Err (bad_token 0)
keyword_in_word = refl

hash_in_word : forms (codes "a#b1") ≡ Err (bad_token 0)
hash_in_word = refl

marks : forms (codes "~!@$%^&*_-+=<>.?/9") ≡ Ok (word 0 (codes "~!@$%^&*_-+=<>.?/9") ⨾ none)
marks = refl

-- bytes that stand nowhere
bracket : forms (codes "[") ≡ Err (bad_byte 0)
bracket = refl

brace_behind_word : forms (codes "ab{c") ≡ Err (bad_byte 2)
brace_behind_word = refl

bare_backslash : forms (codes "a \\ b") ≡ Err (bad_byte 2)
bare_backslash = refl

past_ascii : forms (97 ∷ 200 ∷ []) ≡ Err (bad_byte 1)
past_ascii = refl

zero_byte : forms (0 ∷ []) ≡ Err (bad_byte 0)
zero_byte = refl

-- comments end at LF or CR; any byte may stand in them
comment_to_line_feed : forms (codes "a;)[\"|" ++ 200 ∷ 10 ∷ codes "b") ≡ Ok (word 0 (codes "a") ⨾ word 8 (codes "b") ⨾ none)
comment_to_line_feed = refl

comment_to_carriage_return : forms (codes ";[" ++ 13 ∷ codes "b") ≡ Ok (word 3 (codes "b") ⨾ none)
comment_to_carriage_return = refl

comment_to_end : forms (codes "a ; )") ≡ Ok (word 0 (codes "a") ⨾ none)
comment_to_end = refl

white_space : forms (9 ∷ 10 ∷ 13 ∷ 32 ∷ []) ≡ Ok none
white_space = refl

other_white_space : forms (12 ∷ []) ≡ Err (bad_byte 0)
other_white_space = refl

-- literals
literal : forms (codes "\"a;(b\"c") ≡ Ok (one Text 0 (codes "\"a;(b\"") ⨾ word 6 (codes "c") ⨾ none)
literal = refl

doubled_quote : forms (codes "\"a\"\"b\" c") ≡ Ok (one Text 0 (codes "\"a\"\"b\"") ⨾ word 7 (codes "c") ⨾ none)
doubled_quote = refl

empty_literal : forms (codes "\"\"") ≡ Ok (one Text 0 (codes "\"\"") ⨾ none)
empty_literal = refl

quote_in_literal : forms (codes "\"\"\"\"") ≡ Ok (one Text 0 (codes "\"\"\"\"") ⨾ none)
quote_in_literal = refl

backslash_in_literal : forms (codes "\"\\\"") ≡ Ok (one Text 0 (codes "\"\\\"") ⨾ none)
backslash_in_literal = refl

open_literal : forms (codes "(echo \"x)") ≡ Err (open_text 6)
open_literal = refl

doubled_quote_at_end : forms (codes "\"abc\"\"") ≡ Err (open_text 0)
doubled_quote_at_end = refl

-- quoted symbols
quoted : forms (codes "|a (;\" b|c") ≡ Ok (one Quoted 0 (codes "|a (;\" b|") ⨾ word 9 (codes "c") ⨾ none)
quoted = refl

empty_name : forms (codes "||") ≡ Ok (one Quoted 0 (codes "||") ⨾ none)
empty_name = refl

open_symbol : forms (codes "a |b") ≡ Err (open_text 2)
open_symbol = refl

backslash_between_bars : forms (codes "|a\\b|") ≡ Err (bad_byte 2)
backslash_between_bars = refl

two_backslashes : forms (codes "|\\a\\|") ≡ Err (bad_byte 1)
two_backslashes = refl

open_symbol_with_backslash : forms (codes "(|a\\b") ≡ Err (open_text 1)
open_symbol_with_backslash = refl

-- the fault at the least place
bracket_in_open_list : forms (codes "( [") ≡ Err (bad_byte 2)
bracket_in_open_list = refl

end_before_bracket : forms (codes ") [") ≡ Err (unbalanced 0)
end_before_bracket = refl

token_before_literal : forms (codes "1a \"") ≡ Err (bad_token 0)
token_before_literal = refl

-- up to the form `(exit)`
exit_before_junk : forms_to_exit (codes "a (exit) [ ) \"") ≡ Ok (word 0 (codes "a") ⨾ node 2 (word 3 (codes "exit") ⨾ none) ⨾ none)
exit_before_junk = refl

exit_at_once : forms_to_exit (codes "(exit)1a") ≡ Ok (node 0 (word 1 (codes "exit") ⨾ none) ⨾ none)
exit_at_once = refl

exit_with_gaps : forms_to_exit (codes "( exit ;[" ++ 10 ∷ codes ") [") ≡ Ok (node 0 (word 2 (codes "exit") ⨾ none) ⨾ none)
exit_with_gaps = refl

nested_exit : forms_to_exit (codes "(a (exit)) [") ≡ Err (bad_byte 11)
nested_exit = refl

exit_behind_nested_exit : forms_to_exit (codes "((exit)) (exit) [") ≡ Ok (node 0 (node 1 (word 2 (codes "exit") ⨾ none) ⨾ none) ⨾ node 9 (word 10 (codes "exit") ⨾ none) ⨾ none)
exit_behind_nested_exit = refl

exit_with_operand : forms_to_exit (codes "(exit 1) ]") ≡ Err (bad_byte 9)
exit_with_operand = refl

exit_between_bars : forms_to_exit (codes "(|exit|) ]") ≡ Err (bad_byte 9)
exit_between_bars = refl

exit_without_parentheses : forms_to_exit (codes "exit ]") ≡ Err (bad_byte 5)
exit_without_parentheses = refl

fault_before_exit : forms_to_exit (codes "] (exit)") ≡ Err (bad_byte 0)
fault_before_exit = refl

end_before_exit : forms_to_exit (codes ")(exit)") ≡ Err (unbalanced 0)
end_before_exit = refl

junk_behind_exit : forms (codes "(exit) [") ≡ Err (bad_byte 7)
junk_behind_exit = refl

no_exit : forms_to_exit (codes "(a)") ≡ forms (codes "(a)")
no_exit = refl

-- lines
line_of_third : line_at (codes "a" ++ 10 ∷ 13 ∷ 10 ∷ codes "b") 4 ≡ 3
line_of_third = refl

line_of_line_feed : line_at (97 ∷ 10 ∷ []) 1 ≡ 1
line_of_line_feed = refl

-- where forms end
after_list : after_at (token Left 0 (codes "(") ∷ token Left 1 (codes "(") ∷ token Word 2 (codes "a") ∷ token Right 3 (codes ")") ∷ token Right 4 (codes ")") ∷ token Word 5 (codes "b") ∷ []) 0 ≡ 5
after_list = refl

after_inner_list : after_at (token Left 0 (codes "(") ∷ token Left 1 (codes "(") ∷ token Word 2 (codes "a") ∷ token Right 3 (codes ")") ∷ token Right 4 (codes ")") ∷ token Word 5 (codes "b") ∷ []) 1 ≡ 4
after_inner_list = refl

-- names of tokens
name_between_bars : name_of (token Quoted 0 (codes "|a b|")) ≡ codes "a b"
name_between_bars = refl

name_of_nothing : name_of (token Quoted 0 (codes "||")) ≡ []
name_of_nothing = refl

name_of_literal : name_of (token Text 0 (codes "\"a\"")) ≡ codes "\"a\""
name_of_literal = refl

word_is_symbol : symbol_of (token Word 0 (codes "abc")) ≡ Some (codes "abc")
unfolding is_syntax_word is_command_word
word_is_symbol = refl

same_symbol : symbol_of (token Quoted 0 (codes "|abc|")) ≡ Some (codes "abc")
same_symbol = refl

reserved_word : symbol_of (token Word 0 (codes "let")) ≡ None
unfolding is_syntax_word is_command_word
reserved_word = refl

reserved_word_between_bars : symbol_of (token Quoted 0 (codes "|let|")) ≡ Some (codes "let")
reserved_word_between_bars = refl

command_is_reserved : is_reserved (codes "check-sat-assuming") ≡ true
unfolding is_syntax_word is_command_word
command_is_reserved = refl

other_word_is_free : is_reserved (codes "check-sats") ≡ false
unfolding is_syntax_word is_command_word
other_word_is_free = refl

-- printed symbols
printed_let : printed_symbol (codes "let") ≡ codes "|let|"
unfolding is_syntax_word is_command_word
printed_let = refl

printed_abc : printed_symbol (codes "abc") ≡ codes "abc"
unfolding is_syntax_word is_command_word
printed_abc = refl

printed_with_space : printed_symbol (codes "a b") ≡ codes "|a b|"
unfolding is_syntax_word is_command_word
printed_with_space = refl

printed_nothing : printed_symbol [] ≡ codes "||"
unfolding is_syntax_word is_command_word
printed_nothing = refl

printed_digits : printed_symbol (codes "1a") ≡ codes "|1a|"
unfolding is_syntax_word is_command_word
printed_digits = refl

printed_keyword : printed_symbol (codes ":a") ≡ codes "|:a|"
unfolding is_syntax_word is_command_word
printed_keyword = refl

printed_theory_name : printed_symbol (codes "bvadd") ≡ codes "bvadd"
unfolding is_syntax_word is_command_word
printed_theory_name = refl

-- names of the theories
theory_names : is_theory_name (codes "bvsmod") ≡ true
unfolding is_theory_name
theory_names = refl

constant_is_theory_name : is_theory_name (codes "bv12") ≡ true
unfolding is_theory_name
constant_is_theory_name = refl

bv_alone : is_theory_name (codes "bv") ≡ false
unfolding is_theory_name
bv_alone = refl

bv_and_letter : is_theory_name (codes "bv1x") ≡ false
unfolding is_theory_name
bv_and_letter = refl

sort_is_no_theory_name : is_theory_name (codes "Int") ≡ false
unfolding is_theory_name
sort_is_no_theory_name = refl

array_is_sort : is_theory_sort (codes "Array") ≡ true
unfolding is_theory_sort
array_is_sort = refl

internal_for_declaring : is_reserved_for_declaring (codes "@x") ≡ true
unfolding is_reserved_for_declaring is_theory_name
internal_for_declaring = refl

dotted_for_declaring : is_reserved_for_declaring (codes ".def_0") ≡ true
unfolding is_reserved_for_declaring is_theory_name
dotted_for_declaring = refl

free_for_declaring : is_reserved_for_declaring (codes "x.@") ≡ false
unfolding is_reserved_for_declaring is_theory_name
free_for_declaring = refl

internal_for_let : is_reserved_for_let (codes ".def_0") ≡ false
unfolding is_reserved_for_let is_theory_name
internal_for_let = refl

theory_for_let : is_reserved_for_let (codes "extract") ≡ true
unfolding is_reserved_for_let is_theory_name
theory_for_let = refl

sort_for_sorts : is_reserved_for_sorts (codes "Real") ≡ true
unfolding is_reserved_for_sorts is_theory_sort
sort_for_sorts = refl

theory_name_for_sorts : is_reserved_for_sorts (codes "and") ≡ false
unfolding is_reserved_for_sorts is_theory_sort
theory_name_for_sorts = refl

sort_for_declaring : is_reserved_for_declaring (codes "Bool") ≡ false
unfolding is_reserved_for_declaring is_theory_name
sort_for_declaring = refl
