-- A form has the tokens of a form, wherever it stands.
use Rattle.std.proofs.Common.{◌≡◌, ℕ, suc, true, refl}
use Rattle.smt_lex.specs.Lex.{name_of}
use Rattle.smt_lex.specs.Forms.{Form, atom, node, Forms, none, ◌⨾◌}
use Rattle.smt_terms.proofs.Equal.{name_itself}
use Rattle.smt_terms.proofs.Tests.{and_true}
use Rattle.script_read.proofs.FormTexts.{end_of, placed, placed_in, placed_behind}
use Rattle.model_texts.specs.ValueForms.{has_tokens, have_tokens}

mutual
  pub has_placed : (f : Form) (p : ℕ) → has_tokens f (placed p f) ≡ true
  has_placed (atom t) p = name_itself (name_of t)
  has_placed (node q fs) p = have_placed fs (suc p)

  have_placed : (fs : Forms) (p : ℕ) → have_tokens fs (placed_in p fs none) ≡ true
  have_placed none p = refl
  have_placed (f ⨾ fs) p =
      and_true (has_tokens f (placed p f)) (have_tokens fs (placed_behind (end_of p f) fs none)) (has_placed f p) (have_behind fs (end_of p f))

  have_behind : (fs : Forms) (p : ℕ) → have_tokens fs (placed_behind p fs none) ≡ true
  have_behind none p = refl
  have_behind (f ⨾ fs) p =
      and_true (has_tokens f (placed (suc p) f)) (have_tokens fs (placed_behind (end_of (suc p) f) fs none)) (has_placed f (suc p)) (have_behind fs (end_of (suc p) f))
