-- What is known of a form by the number of its first token.
use Rattle.std.specs.Prelude.{◌≡◌, ℕ, suc, ◌<◌, ◌≤◌, List, length, Option, Some, None}
use Rattle.smt_lex.specs.Lex.{Token}
use Rattle.smt_lex.specs.Forms.{atom, node, ◌⨾◌}
use Rattle.smt_lex.specs.Forest.{token_at, after_at}
use Rattle.script_terms.specs.Places.{IsForm, form_from, forms_from}

-- a form begins at token i, and behind it stand the others of its list
pub record BeginsForm (ts : List Token) (i : ℕ) : Type 0 where
  pub form : IsForm ts i
  pub within : i < length ts
  pub forms : forms_from ts i ≡ form_from ts i ⨾ forms_from ts (after_at ts i)
  pub behind : after_at ts i ≤ length ts

-- the form of token i is the list whose forms begin at token j, or a token
abbrev pub IsListAt : List Token → ℕ → Option ℕ → Type 0
IsListAt ts i None = form_from ts i ≡ atom (token_at ts i)
IsListAt ts i (Some j) = (form_from ts i ≡ node (token_at ts i).start (forms_from ts j)) × (j ≡ suc i) × (j ≤ length ts)

-- two forms inside the one of token i
pub record AreTwo (ts : List Token) (i : ℕ) (p : ℕ × ℕ) : Type 0 where
  pub first : IsForm ts p.0
  pub second : IsForm ts p.1
  pub next : p.0 ≡ suc i
  pub inside : i < p.0
  pub order : p.0 < p.1
