-- Constants of the theories, as the code reads them from digits. SMT-LIB 2.6, section 3.1.
use Rattle.std.specs.Prelude.{◌≡◌, ℕ, ◌*◌, List, [], length, drop, pos, Option, Some, None, Result, Ok, Err}
use Rattle.std.specs.Str.Parse.{digits_value, IsNumeral}
use Rattle.smt_lex.specs.declared.items.Item.{Item}
use Rattle.smt_lex.specs.declared.items.Item.TheVariants.{Hex, Bin}
use Rattle.smt_terms.specs.declared.op.Op.{Op}
use Rattle.smt_terms.specs.declared.op.Op.TheVariants.{Whole, Bits}
use Rattle.smt_terms.specs.Term.{op, Term, apply, none}
use Rattle.term_table.specs.Formulas.{Formulas, theory, kind, Makes}
use Rattle.script_terms.specs.declared.causes.Cause.{Cause}
use Rattle.script_terms.specs.Refusals.{Refused, at}
use Rattle.script_terms.specs.Parts.{constant_by}
use Rattle.script_terms.specs.Heads.{token_constant, other_atom}

-- an operator of the theories that makes a node of no operands
pub record IsConstantOp (o : Op) : Type 0 where
  pub theory : kind o ≡ theory o
  pub makes : (t : Formulas) → Makes t o []

-- the text of a hexadecimal or binary token has digits
abbrev pub HasDigits : Item → List ℕ → Type 0
HasDigits Hex text = IsNumeral 16 (drop 2 text)
HasDigits Bin text = IsNumeral 2 (drop 2 text)
HasDigits _ text = Unit {0}

-- the answer is the constant, or the cause of the refusal at any place
abbrev pub GivesConstant : (ℕ → Result Term Refused) → Result Op Cause → Type 0
GivesConstant read (Ok o) = (place : ℕ) → read place ≡ Ok (apply (op o) none)
GivesConstant read (Err cause) = (place : ℕ) → read place ≡ at cause place

abbrev pub whole_in : ℕ → List ℕ → Result Term Refused
whole_in place digits = token_constant place (Whole (pos (digits_value 10 digits)))

abbrev pub hexadecimal_in : ℕ → List ℕ → Result Term Refused
hexadecimal_in place digits = token_constant place (Bits (4 * length digits) (digits_value 16 digits))

abbrev pub binary_in : ℕ → List ℕ → Result Term Refused
binary_in place digits = token_constant place (Bits (length digits) (digits_value 2 digits))

abbrev pub constant_or_other : ℕ → Item → Option Op → Result Term Refused
constant_or_other place item (Some o) = token_constant place o
constant_or_other place item None = other_atom place item

-- what a token that is no symbol is read as
abbrev pub constant_in : ℕ → Item → List ℕ → Result Term Refused
constant_in place item text = constant_or_other place item (constant_by item text)
