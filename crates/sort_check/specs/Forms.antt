-- Written operators as the code holds them, and what the operators that they are made of take.
use Rattle.std.specs.Prelude.{ℕ, ◌^◌, nat_lt, Bool, true, false, ◌&&◌, nat_le, [], ◌∷◌, Option, Some, None}
use Rattle.smt_terms.specs.declared.op.Op.TheVariants.{Extract, ZeroExt, SignExt}
use Rattle.smt_terms.specs.Sorts.{bool}
use Rattle.smt_terms.specs.Equal.{sort_eq}
use Rattle.smt_terms.specs.Rank.{Shape, fixed, several, equation, bitwise_pair, bits_comparison, no_head, shape, width, most_bits}
use Rattle.smt_terms.specs.Written.{Written, plain, over_all, left_associative, right_associative, chainable, chainable_exchanged, exchanged, complemented, subtraction, divisibility, repetition, left_rotation, right_rotation, Indexed, without_index, with_index, with_indices}
use Rattle.sort_check.specs.declared.written.Operator.{Operator}
use Rattle.sort_check.specs.declared.written.Operator.TheVariants.{Plain, OverAll, LeftAssociative, RightAssociative, Chainable, ChainableExchanged, Exchanged, Complemented, Subtraction, Divisibility, Repetition, LeftRotation, RightRotation, ZeroExtension, SignExtension, Extraction}
use Rattle.sort_check.specs.declared.written.Form.{Form}
use Rattle.sort_check.specs.declared.written.Form.TheVariants.{WithoutIndex, Divisible, Repeat, RotateLeft, RotateRight, ZeroExtend, SignExtend, Extract as ExtractForm}

abbrev pub written_seen : Operator → Written
written_seen (Plain o) = plain o
written_seen (OverAll o) = over_all o
written_seen (LeftAssociative o) = left_associative o
written_seen (RightAssociative o) = right_associative o
written_seen (Chainable o) = chainable o
written_seen (ChainableExchanged o) = chainable_exchanged o
written_seen (Exchanged o) = exchanged o
written_seen (Complemented o) = complemented o
written_seen Subtraction = subtraction
written_seen (Divisibility n) = divisibility n
written_seen (Repetition n) = repetition n
written_seen (LeftRotation n) = left_rotation n
written_seen (RightRotation n) = right_rotation n
written_seen (ZeroExtension n) = plain (ZeroExt n)
written_seen (SignExtension n) = plain (SignExt n)
written_seen (Extraction high low) = plain (Extract high low)

abbrev pub form_seen : Form → Indexed
form_seen (WithoutIndex w) = without_index (written_seen w)
form_seen Divisible = with_index divisibility
form_seen Repeat = with_index repetition
form_seen RotateLeft = with_index left_rotation
form_seen RotateRight = with_index right_rotation
form_seen ZeroExtend = with_index (λ i. plain (ZeroExt i))
form_seen SignExtend = with_index (λ i. plain (SignExt i))
form_seen ExtractForm = with_indices (λ high low. plain (Extract high low))

-- how many indices an operator takes
abbrev pub index_count : Indexed → ℕ
index_count (without_index w) = 0
index_count (with_index w) = 1
index_count (with_indices w) = 2

abbrev pub found : Option Form → Option Indexed
found (Some f) = Some (form_seen f)
found None = None

-- ---- the operators that a written operator is made of

-- an operator of the theories
unfoldable pub is_theory : Shape → Bool
is_theory no_head = false
is_theory _ = true

-- operands of one sort, two or more
abbrev pub is_several : Shape → Bool
is_several (several s) = nat_le (width s) most_bits
is_several _ = false

-- two operands of one sort
abbrev pub is_pair : Shape → Bool
is_pair (fixed (s ∷ t ∷ []) r) = sort_eq s t && nat_le (width r) most_bits
is_pair equation = true
is_pair bitwise_pair = true
is_pair (bits_comparison r) = nat_le (width r) most_bits
is_pair _ = false

-- and a result of that sort
abbrev pub is_fold : Shape → Bool
is_fold (fixed (s ∷ t ∷ []) r) = sort_eq s t && (sort_eq s r && nat_le (width r) most_bits)
is_fold bitwise_pair = true
is_fold _ = false

-- and a truth value
abbrev pub is_link : Shape → Bool
is_link (fixed (s ∷ t ∷ []) r) = sort_eq s t && sort_eq r bool
is_link equation = true
is_link (bits_comparison r) = sort_eq r bool
is_link _ = false

abbrev pub is_bitwise_pair : Shape → Bool
is_bitwise_pair bitwise_pair = true
is_bitwise_pair _ = false

-- the operator takes what the written operator gives it, and a number is no greater than a numeral may be
unfoldable pub is_apt : Written → Bool
unfolding shape is_theory
is_apt (plain o) = is_theory (shape o)
is_apt (over_all o) = is_several (shape o)
is_apt (left_associative o) = is_fold (shape o)
is_apt (right_associative o) = is_fold (shape o)
is_apt (chainable o) = is_link (shape o)
is_apt (chainable_exchanged o) = is_link (shape o)
is_apt (exchanged o) = is_link (shape o)
is_apt (complemented o) = is_bitwise_pair (shape o)
is_apt (divisibility n) = nat_lt n (2 ^ 127)
is_apt _ = true

abbrev pub is_apt_at : Indexed → Bool
is_apt_at (without_index w) = is_apt w
is_apt_at _ = true
