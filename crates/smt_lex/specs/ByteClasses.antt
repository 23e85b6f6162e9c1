-- The classes of bytes by which a text is cut into tokens.
use Rattle.std.specs.Prelude.{ℕ, ◌==◌, if◌then◌else◌}
use Rattle.std.specs.Char.{is_ascii_digit}
use Rattle.smt_lex.specs.declared.classes.Class.{Class}
use Rattle.smt_lex.specs.declared.classes.Class.TheVariants.{Left, Right, Blank, Letter, Digit, Colon, Hash, Quote, Bar, Semicolon, Other}
use Rattle.smt_lex.specs.Lexicon.{quote, hash, left_parenthesis, right_parenthesis, colon, semicolon, bar, is_blank, is_symbol_byte}

unfoldable pub class_of : ℕ → Class
class_of b =
    if b == left_parenthesis then Left
    else (if b == right_parenthesis then Right
    else (if b == semicolon then Semicolon
    else (if b == quote then Quote
    else (if b == bar then Bar
    else (if is_blank b then Blank
    else (if is_symbol_byte b then (if is_ascii_digit b then Digit else Letter)
    else (if b == colon then Colon
    else (if b == hash then Hash
    else Other))))))))
