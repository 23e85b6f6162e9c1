-- The text of a form from that of its tokens: what stands before a token.
use Rattle.std.specs.Prelude.{ℕ, Bool, not, ◌&&◌, cond, List, [], ◌∷◌, ◌++◌}
use Rattle.smt_lex.specs.Lexicon.{space}
use Rattle.smt_lex.specs.Lex.{Token}
use Rattle.smt_lex.specs.Forms.{is_right}

-- a space behind a form, unless its list ends
abbrev pub spaced_text : Bool → Token → List ℕ
spaced_text behind t = cond (behind && not (is_right t.item)) (space ∷ []) [] ++ t.text
