-- The forms of a text by the numbers of their first tokens.
use Rattle.std.specs.Prelude.{◌≡◌, ℕ, ◌<◌, ◌^◌, min, List, length, Option, Some, None, IsSome, Ok}
use Rattle.smt_lex.specs.Names.{Name}
use Rattle.smt_lex.specs.Lex.{Token, symbol_of}
use Rattle.smt_lex.specs.Forms.{Form, atom, node, Forms, none, ◌⨾◌, tokens_of}
use Rattle.smt_lex.specs.declared.items.Until.TheVariants.{Exit}
use Rattle.smt_lex.specs.Forest.{Source, token_at, rest_at, form_at}
use Rattle.smt_terms.specs.Fresh.{Supply, NeverGives}

-- a text up to its first form `(exit)`, as it was scanned
abbrev pub IsRead : Source → Type 0
IsRead s = tokens_of Exit s.bytes ≡ Ok s.tokens

-- the supply gives no name that stands in the text
abbrev pub SparesText : List Token → Supply → Type 0
SparesText ts supply = (i : ℕ) (n : Name) → i < length ts → symbol_of (token_at ts i) ≡ Some n → NeverGives supply n

abbrev pub form_or : Option Form → Form
form_or (Some f) = f
form_or None = node 0 none

-- a form begins at token i
abbrev pub IsForm : List Token → ℕ → Type 0
IsForm ts i = IsSome (form_at ts i)

-- the form that begins at token i
unfoldable pub form_from : List Token → ℕ → Form
form_from ts i = form_or (form_at ts i)

-- the forms from token i to the end of the list that they stand in
unfoldable pub forms_from : List Token → ℕ → Forms
forms_from ts i = (rest_at ts i).0

-- a list of two forms
abbrev pub pair_in_forms : Forms → Option (Form × Form)
pair_in_forms (f ⨾ g ⨾ none) = Some (f, g)
pair_in_forms _ = None

abbrev pub pair_in : Form → Option (Form × Form)
pair_in (atom t) = None
pair_in (node place fs) = pair_in_forms fs

abbrev pub two_from : List Token → ℕ × ℕ → Form × Form
two_from ts p = (form_from ts p.0, form_from ts p.1)

-- numerals beyond the greatest that is read are all alike
abbrev pub capped : ℕ → ℕ
capped n = min n (2 ^ 127)
