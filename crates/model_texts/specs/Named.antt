-- Forms that are one token of a name, and forms that may be a sort.
use Rattle.std.specs.Prelude.{Bool, false, ◌&&◌, ℕ, List, Option, Some, None}
use Rattle.smt_lex.specs.Lex.{Token, name_of}
use Rattle.smt_lex.specs.Forms.{Form, atom, node, Forms, none, ◌⨾◌}
use Rattle.smt_terms.specs.Equal.{name_eq}
use Rattle.smt_terms.specs.Sorts.{Name}
use Rattle.script_terms.specs.Places.{IsForm, form_from}

abbrev pub is_token : Name → Form → Bool
is_token n (atom t) = name_eq n (name_of t)
is_token n (node place fs) = false

-- three forms that pass these tests
abbrev pub are_three : (Form → Bool) → (Form → Bool) → (Form → Bool) → Forms → Bool
are_three p q r (f ⨾ g ⨾ h ⨾ none) = p f && (q g && r h)
are_three p q r _ = false

abbrev pub is_list_of_three : (Form → Bool) → (Form → Bool) → (Form → Bool) → Form → Bool
is_list_of_three p q r (atom t) = false
is_list_of_three p q r (node place fs) = are_three p q r fs

-- ---- by the numbers of tokens

-- what three tests say of three forms, where there are three
abbrev pub three_pass : List Token → (Form → Bool) → (Form → Bool) → (Form → Bool) → Option (ℕ × ℕ × ℕ) → Bool
three_pass ts p q r None = false
three_pass ts p q r (Some t) = p (form_from ts t.0) && (q (form_from ts t.1) && r (form_from ts t.2))

pub record AreForms (ts : List Token) (t : ℕ × ℕ × ℕ) : Type 0 where
  pub first : IsForm ts t.0
  pub second : IsForm ts t.1
  pub third : IsForm ts t.2
