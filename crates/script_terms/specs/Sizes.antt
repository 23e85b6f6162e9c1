-- How large forms are.
use Rattle.std.specs.Prelude.{ℕ, ◌+◌}
use Rattle.smt_lex.specs.Forms.{Form, atom, node, Forms, none, ◌⨾◌}

abbrev mutual
  pub form_size : Form → ℕ
  form_size (atom t) = 2
  form_size (node place fs) = 3 + forms_size fs

  pub forms_size : Forms → ℕ
  forms_size none = 0
  forms_size (f ⨾ fs) = form_size f + forms_size fs
