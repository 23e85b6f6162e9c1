-- Why a model's text is refused, and where.
use Rattle.std.specs.Prelude.{ℕ, Bool, true, false, Result, Err}
use Rattle.smt_lex.specs.Lex.{Fault}

pub data Cause : Type 0 where
  -- a form that doesn't belong where it stands
  model_form : Cause
  -- another sort than the one that is wanted
  model_sort : Cause
  -- neither a value nor a table
  not_a_table : Cause
  -- a number outside the range, or too great for its width
  model_number : Cause
  -- a second entry for one name
  model_twice : Cause

abbrev pub code_of : Cause → ℕ
code_of model_form = 60
code_of model_sort = 61
code_of not_a_table = 62
code_of model_number = 63
code_of model_twice = 64

-- what is wrong, and the first byte of the form that it is wrong with
pub record Refused : Type 0 where
  pub cause : Cause
  pub place : ℕ

abbrev pub at : {A : Type 0} → Cause → ℕ → Result A Refused
at cause place = Err (record { cause = cause; place = place })

-- refused where the test fails, else what is given
abbrev pub where_so : {A : Type 0} → Bool → Cause → ℕ → Result A Refused → Result A Refused
where_so true cause place otherwise = otherwise
where_so false cause place otherwise = at cause place

-- the same with the line of the byte
pub record Refusal : Type 0 where
  pub cause : Cause
  pub line : ℕ
  pub byte : ℕ

-- why a text gives no model: a fault of its tokens or parentheses, with its line, or a refusal
pub data Unmodelled : Type 0 where
  unread : Fault → ℕ → Unmodelled
  refused : Refusal → Unmodelled
