-- The text of a form: its tokens as they are written, one space between forms and none inside the parentheses' edges.
use Rattle.std.specs.Prelude.{ℕ, List, [], ◌∷◌, ◌++◌}
use Rattle.smt_lex.specs.Lexicon.{left_parenthesis, right_parenthesis, space}
use Rattle.smt_lex.specs.Forms.{Form, atom, node, Forms, none, ◌⨾◌}

abbrev mutual
  pub form_text : Form → List ℕ
  form_text (atom t) = t.text
  form_text (node place fs) = left_parenthesis ∷ (forms_text fs ++ right_parenthesis ∷ [])

  pub forms_text : Forms → List ℕ
  forms_text none = []
  forms_text (f ⨾ fs) = form_text f ++ further_text fs

  pub further_text : Forms → List ℕ
  further_text none = []
  further_text (f ⨾ fs) = space ∷ (form_text f ++ further_text fs)
