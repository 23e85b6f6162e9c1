-- Names: reserved words (SMT-LIB 2.6, section 3.1), the names of the theories, and how symbols are printed.
use Rattle.std.specs.Prelude.{◌≡◌, ℕ, Bool, true, ◌&&◌, ◌||◌, not, List, [], ◌∷◌, ◌++◌, take, drop, codes, bytes_eq, ◌==◌, if◌then◌else◌}
use Rattle.std.specs.List.{list_any, list_all}
use Rattle.std.specs.Char.{is_ascii_digit}
use Rattle.smt_lex.specs.Lexicon.{bar, backslash, starts_as, is_some_of, is_word}

abbrev pub Name : Type 0
Name = List ℕ

abbrev pub is_among : List Name → Name → Bool
is_among names name = list_any (λ other. bytes_eq name other) names

-- the words of the syntax
abbrev pub syntax_words : List Name
syntax_words = codes "BINARY" ∷ codes "DECIMAL" ∷ codes "HEXADECIMAL" ∷ codes "NUMERAL" ∷ codes "STRING" ∷ codes "_" ∷ codes "!" ∷ codes "as" ∷ codes "exists" ∷ codes "forall" ∷ codes "let" ∷ codes "match" ∷ codes "par" ∷ []

-- the names of the commands
abbrev pub command_words : List Name
command_words =
    codes "assert" ∷ codes "check-sat" ∷ codes "check-sat-assuming" ∷ codes "declare-const" ∷ codes "declare-datatype" ∷ codes "declare-datatypes"
    ∷ codes "declare-fun" ∷ codes "declare-sort" ∷ codes "define-fun" ∷ codes "define-fun-rec" ∷ codes "define-funs-rec" ∷ codes "define-sort"
    ∷ codes "echo" ∷ codes "exit" ∷ codes "get-assertions" ∷ codes "get-assignment" ∷ codes "get-info" ∷ codes "get-model" ∷ codes "get-option"
    ∷ codes "get-proof" ∷ codes "get-unsat-assumptions" ∷ codes "get-unsat-core" ∷ codes "get-value" ∷ codes "pop" ∷ codes "push" ∷ codes "reset"
    ∷ codes "reset-assertions" ∷ codes "set-info" ∷ codes "set-logic" ∷ codes "set-option" ∷ []

unfoldable pub is_syntax_word : Name → Bool
is_syntax_word name = is_among syntax_words name

unfoldable pub is_command_word : Name → Bool
is_command_word name = is_among command_words name

abbrev pub is_reserved : Name → Bool
is_reserved name = is_syntax_word name || is_command_word name

-- a name is what can stand between bars
abbrev pub IsName : Name → Type 0
IsName name = list_all (λ b. not (b == bar) && not (b == backslash)) name ≡ true

-- a name that is written without bars
abbrev pub is_simple : Name → Bool
is_simple name = is_word name && not (is_reserved name)

-- a symbol as it is printed: with bars where it would be no symbol without them
abbrev pub printed_symbol : Name → List ℕ
printed_symbol name = if is_simple name then name else bar ∷ name ++ bar ∷ []

-- the names of the theories Core, Ints, Reals_Ints, FixedSizeBitVectors and ArraysEx, but for `bv` and digits
abbrev pub core_names : List Name
core_names = codes "true" ∷ codes "false" ∷ codes "not" ∷ codes "and" ∷ codes "or" ∷ codes "xor" ∷ codes "=>" ∷ codes "=" ∷ codes "distinct" ∷ codes "ite" ∷ []

abbrev pub number_names : List Name
number_names = codes "-" ∷ codes "+" ∷ codes "*" ∷ codes "/" ∷ codes "div" ∷ codes "mod" ∷ codes "abs" ∷ codes "<=" ∷ codes "<" ∷ codes ">=" ∷ codes ">" ∷ codes "divisible" ∷ codes "to_real" ∷ codes "to_int" ∷ codes "is_int" ∷ []

abbrev pub bit_vector_names : List Name
bit_vector_names =
    codes "concat" ∷ codes "extract" ∷ codes "bvnot" ∷ codes "bvneg" ∷ codes "bvand" ∷ codes "bvor" ∷ codes "bvxor" ∷ codes "bvadd" ∷ codes "bvmul"
    ∷ codes "bvnand" ∷ codes "bvnor" ∷ codes "bvxnor" ∷ codes "bvsub" ∷ codes "bvudiv" ∷ codes "bvurem" ∷ codes "bvsdiv" ∷ codes "bvsrem"
    ∷ codes "bvsmod" ∷ codes "bvshl" ∷ codes "bvlshr" ∷ codes "bvashr" ∷ codes "bvcomp" ∷ codes "bvult" ∷ codes "bvule" ∷ codes "bvslt"
    ∷ codes "bvsle" ∷ codes "bvugt" ∷ codes "bvuge" ∷ codes "bvsgt" ∷ codes "bvsge" ∷ codes "repeat" ∷ codes "zero_extend" ∷ codes "sign_extend"
    ∷ codes "rotate_left" ∷ codes "rotate_right" ∷ []

abbrev pub array_names : List Name
array_names = codes "select" ∷ codes "store" ∷ codes "const" ∷ []

-- `bv` and one or more digits: a bit vector constant, as in `(_ bv5 8)`
abbrev pub is_bit_vector_constant : Name → Bool
is_bit_vector_constant name = bytes_eq (take 2 name) (codes "bv") && is_some_of is_ascii_digit (drop 2 name)

unfoldable pub is_theory_name : Name → Bool
is_theory_name name =
    is_among core_names name || is_among number_names name || is_among bit_vector_names name || is_among array_names name || is_bit_vector_constant name

abbrev pub theory_sorts : List Name
theory_sorts = codes "Bool" ∷ codes "Int" ∷ codes "Real" ∷ codes "Array" ∷ codes "BitVec" ∷ []

unfoldable pub is_theory_sort : Name → Bool
is_theory_sort name = is_among theory_sorts name

-- names that begin with `@` or `.` belong to the solvers
abbrev pub is_internal : Name → Bool
is_internal name = starts_as (λ b. b == 64 || b == 46) name

-- no function, constant, variable of a quantifier, parameter or term is given such a name
unfoldable pub is_reserved_for_declaring : Name → Bool
is_reserved_for_declaring name = is_internal name || is_theory_name name

-- no `let` binds such a name
unfoldable pub is_reserved_for_let : Name → Bool
is_reserved_for_let name = is_theory_name name

-- no sort is given such a name
unfoldable pub is_reserved_for_sorts : Name → Bool
is_reserved_for_sorts name = is_internal name || is_theory_sort name
