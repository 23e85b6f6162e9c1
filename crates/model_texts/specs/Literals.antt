-- Constants as a program holds them, and the scalar of the wanted sort that one is.
use Rattle.std.specs.Prelude.{◌≡◌, ℕ, ◌≤◌, ◌^◌, Bool, true, false, ℤ, Option, Some, None, Result, Ok, Err, MatchOption}
use Rattle.smt_terms.specs.Val.{within_range}
use Rattle.smt_terms.specs.Values.{Value}
use Rattle.smt_values.specs.Meaning.{scalar_value, IsScalar}
use Rattle.smt_values.specs.declared.scalar.Scalar.{Scalar}
use Rattle.script_terms.specs.Places.{capped}
use Rattle.model_texts.specs.Refusals.{Refused, at}
use Rattle.model_texts.specs.Replies.{cause_of}
use Rattle.model_texts.specs.ValueForms as forms
use Rattle.model_texts.specs.ValueForms.{truth_literal, whole_literal, vector_literal}
use Rattle.model_texts.specs.declared.faults.Cause.{Cause}
use Rattle.model_texts.specs.declared.literals.Literal.{Literal}
use Rattle.model_texts.specs.declared.literals.Literal.TheVariants.{Truth, Whole, Vector}

-- a whole number in the range, or None for one beyond it
abbrev pub IsWholeLiteral : forms.Literal → Option ℤ → Type 0
IsWholeLiteral l (Some n) = (l ≡ whole_literal n) × (within_range n ≡ true)
IsWholeLiteral l None = (n : ℤ) × (l ≡ whole_literal n) × (within_range n ≡ false)

-- a number of at most 128 bits, or None for a greater one
abbrev pub IsNumberOf : ℕ → Option ℕ → Type 0
IsNumberOf n bits = MatchOption bits (2 ^ 128 ≤ n) (λ b. b ≡ n)

abbrev pub IsLiteral : forms.Literal → Literal → Type 0
IsLiteral l (Truth b) = l ≡ truth_literal b
IsLiteral l (Whole number) = IsWholeLiteral l number
IsLiteral l (Vector width bits) = (w : ℕ) × (n : ℕ) × (l ≡ vector_literal w n) × (width ≡ capped w) × IsNumberOf n bits

abbrev pub MatchLiteral : Option forms.Literal → Option Literal → Type 0
MatchLiteral None None = Unit {0}
MatchLiteral (Some l) (Some c) = IsLiteral l c
MatchLiteral _ _ = ⊥

-- the scalar that is read at any place, or the cause of the refusal there
abbrev pub GivesScalar : (ℕ → Result Value Refused) → Result Scalar Cause → Type 0
GivesScalar read (Ok scalar) = IsScalar scalar × ((place : ℕ) → read place ≡ Ok (scalar_value scalar))
GivesScalar read (Err cause) = (place : ℕ) → read place ≡ at (cause_of cause) place
