-- Operators over constants alone (SMT-LIB 2.6, theories Core, Ints and FixedSizeBitVectors), and lists of operands.
use Rattle.std.specs.Prelude.{ℕ, Bool, false, not, ◌&&◌, ◌||◌, ◌==◌, if◌then◌else◌, List, [], ◌∷◌, length, filter, ℤ, pos, Option, Some, None, option_and_then}
use Rattle.std.specs.List.{list_any}
use Rattle.std.specs.Ordering.{int_eq}
use Rattle.smt_terms.specs.declared.op.Op.{Op}
use Rattle.smt_terms.specs.declared.op.Op.TheVariants.{Div, Mod}
use Rattle.smt_terms.specs.Sorts.{Sort}
use Rattle.smt_terms.specs.Term.{op, Term, apply, none, ◌⨾◌, over}
use Rattle.smt_terms.specs.Equal.{op_eq, term_eq}
use Rattle.smt_terms.specs.BitVectors.{BitVector, bv2nat, bits_eq, ones}
use Rattle.smt_terms.specs.Values.{Value, bits, number}
use Rattle.smt_terms.specs.Operators.{Background, op_value, second_value}
use Rattle.smt_terms.specs.Connectives.{truth_term}
use Rattle.smt_terms.specs.Constants.{whole_term, constant_value, constant_term}

-- ---- which constant a term is

abbrev pub is_truth : Bool → Term → Bool
is_truth b t = term_eq t (truth_term b)

abbrev pub is_whole : ℤ → Term → Bool
is_whole n t = term_eq t (whole_term n)

abbrev pub bits_pass : (BitVector → Bool) → Option Value → Bool
bits_pass test (Some (bits bs)) = test bs
bits_pass test _ = false

-- a bit-vector constant of this number
abbrev pub is_bits : ℕ → Term → Bool
is_bits n t = bits_pass (λ bs. bv2nat bs == n) (constant_value t)

abbrev pub is_ones : Term → Bool
is_ones t = bits_pass (λ bs. bits_eq bs (ones (length bs))) (constant_value t)

-- ---- an operator over constants

abbrev pub with_value : Option Value → Option (List Value) → Option (List Value)
with_value (Some v) (Some vs) = Some (v ∷ vs)
with_value _ _ = None

-- the values of operands that are constants, all of them
abbrev pub constant_values : List Term → Option (List Value)
constant_values [] = Some []
constant_values (t ∷ ts) = with_value (constant_value t) (constant_values ts)

-- what a model chooses plays no part where nothing is divided by zero
abbrev pub any_background : Background
any_background = record { sizes = λ _. 1; div_by_zero = λ n. n; mod_by_zero = λ n. n }

-- whole numbers divided by zero
abbrev pub divides_by_zero : Op → List Value → Bool
divides_by_zero o vs = (op_eq o Div || op_eq o Mod) && int_eq (number (second_value vs)) (pos 0)

abbrev pub folded_values : Op → List Sort → List Value → Option Term
folded_values o ss vs = if divides_by_zero o vs then None else constant_term (op_value any_background o ss vs)

-- the constant of the operator's value at operands of these sorts, where all are constants
abbrev pub folded : Op → List Sort → List Term → Option Term
folded o ss [] = None
folded o ss (t ∷ ts) = option_and_then (folded_values o ss) (constant_values (t ∷ ts))

-- ---- lists of operands

abbrev pub has_term : List Term → Term → Bool
has_term ts t = list_any (term_eq t) ts

-- without later copies
abbrev pub once : List Term → List Term
once [] = []
once (t ∷ ts) = t ∷ filter (λ u. not (term_eq t u)) (once ts)

-- the operator over what is left: nothing is its neutral constant, and one operand is itself
abbrev pub over_left : Op → Term → List Term → Term
over_left o neutral [] = neutral
over_left o neutral (t ∷ []) = t
over_left o neutral (t ∷ u ∷ ts) = over (op o) (t ∷ u ∷ ts)

-- a law for so many operands
abbrev pub one : (Term → Option Term) → List Term → Option Term
one law (t ∷ []) = law t
one law _ = None

abbrev pub two : (Term → Term → Option Term) → List Term → Option Term
two law (s ∷ t ∷ []) = law s t
two law _ = None

abbrev pub three : (Term → Term → Term → Option Term) → List Term → Option Term
three law (s ∷ t ∷ u ∷ []) = law s t u
three law _ = None

abbrev pub where_same : Op → Op → Term → Option Term
where_same o p t = if op_eq o p then Some t else None

-- the operator over itself: the inner operand
abbrev pub twice : Op → Term → Option Term
twice o (apply (op p) (t ⨾ none)) = where_same o p t
twice o _ = None
